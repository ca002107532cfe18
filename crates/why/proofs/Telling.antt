-- What is told of one place, from what was found.
use mathlib.Core.Path.{◌≡◌, refl, sym, ap, ◌∙◌}
use mathlib.Core.Bool.{true, false}
use mathlib.Core.List.{List, [], ◌++◌}
use Prim.Native.Nat.{ℕ, zero, suc, ◌-◌}
use native.Mathlib.Omega.{arith}
use lib.ListN.{length, drop, replicate}
use Rattle.decided.specs.Decided.{decided}
use Rattle.erasure.specs.Restoring.{is_lost}
use Rattle.explain.specs.Telling as found
use Rattle.explain.specs.declared.Told.{Told}
use Rattle.explain.specs.declared.Told.TheVariants.{Received}
use Rattle.lists.specs.Tests.{by_bool}
use Rattle.reasons.proofs.ListedLaws.{listed-received}
use Rattle.reasons.specs.Reasons.{kind_of}
use Rattle.why.specs.Telling.{Tells}

-- zeros behind the front
drop-zeros : (k n : ℕ) → drop {A = ℕ} k (replicate n 0) ≡ replicate (n - k) 0
drop-zeros zero n = let e : n - 0 ≡ n = omega arith in ap (λ v. replicate v 0) (sym e)
drop-zeros (suc k) zero = let e : 0 - suc k ≡ 0 = omega arith in ap (λ v. replicate v 0) (sym e)
drop-zeros (suc k) (suc n) = let e : suc n - suc k ≡ n - k = omega arith in drop-zeros k n ∙ ap (λ v. replicate v 0) (sym e)

module _ (n : ℕ) (cs : List (List ℕ)) (lost : List ℕ) (p : ℕ) where
  -- a received place: nothing is listed
  pub tells-received : is_lost lost p ≡ false → {e : List ℕ} → e ≡ replicate 1024 0 → Tells n cs lost p Received e
  tells-received h {e} z = record { list = []; listed = listed-received n cs lost p h; kind-is = sym (rw (h, kind_of)); length-is = refl; buffer-is = z }

  -- a lost one: what was found
  pub tells-found : is_lost lost p ≡ true → {r : Told} {old e : List ℕ} → old ≡ replicate 1024 0 → found.Tells n cs lost p r old e → Tells n cs lost p r e
  tells-found h z f = record {
    list = f.list;
    listed = f.listed;
    kind-is = f.kind ∙ by_bool (decided lost cs p) (λ d. rw (h, kind_of, d)) (λ d. rw (h, kind_of, d));
    length-is = f.front.count;
    buffer-is = f.front.list ∙ ap (λ l. f.list ++ l) (ap (drop (length f.list)) z ∙ drop-zeros (length f.list) 1024);
  }
