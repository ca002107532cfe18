-- The bound from which the scan for a place in exactly one live check starts.
use mathlib.Core.Path.{◌≡◌, sym, ◌∙◌}
use mathlib.Core.Bool.{Bool, true, false, true≢false, false≢true}
use mathlib.Core.List.{List, [], ◌∷◌, map}
use mathlib.Core.Option.{none, some}
use Prim.Native.Nat.{ℕ, suc, ◌+◌, ◌<◌}
use native.Mathlib.Omega.{arith}
use lib.ListN.{length, get_or, get_or-eq_default}
use lib.Dec.{eqb, ltb}
use borrow.Author.Tests.{eq-eqb, ltb-true, ltb-false}
use Rattle.lists.specs.Tests.{eqb-true, by_bool}
use Rattle.lists.specs.Lists.{highest, has}
use Rattle.lists.specs.ListLaws.{highest-none, highest-upto, highest-over}
use Rattle.rule.specs.Rule.{in_one_only}
use Rattle.live.specs.Live.{Tally, Forgot, Calm, RaisedOver}
use Rattle.live.specs.TallyLaws.{single-is}

-- a place in exactly one live check
abbrev pub one : List ℕ → ℕ → Bool
one c p = eqb (get_or c p 0) 1

not-one : (c : List ℕ) (p : ℕ) → one c p ≡ false → get_or c p 0 ≡ 1 → ⊥
not-one c p h e = true≢false (sym (eq-eqb (get_or c p 0) 1 e) ∙ h)

pub calm-all : (c : List ℕ) (n : ℕ) → n ≡ length c → Calm c n
calm-all c n e = record { most = omega arith; above = λ p l o. let z = get_or-eq_default c 0 {n = p} (omega arith) in omega arith }

pub calm-scan : {c : List ℕ} {top : ℕ} (n : ℕ) → n ≡ length c → Calm c top → highest n (one c) ≡ highest top (one c)
calm-scan {c} {top} n e s = let m = s.most in highest-upto n top (one c) (omega arith) (λ p l. by_bool (one c p) (λ o. absurd (s.above p l (eqb-true (get_or c p 0) 1 o))) (λ o. o))

-- after the scan, nothing above the place found, or nothing at all
pub calm-place : {g : ℕ → List ℕ} {JS c x : List ℕ} (n p : ℕ) → n ≡ length c → Tally g JS c x → p < n → highest n (in_one_only (map g JS)) ≡ some p → Calm c (p + 1)
calm-place {g} {JS} {c} {x} n p e t l h = record {
  most = omega arith;
  above = λ q a o. by_bool (ltb q n)
      (λ k. let b = ltb-true q n k in not-one c q (highest-over n (one c) p q (single-is g JS c x n t ∙ h) (omega arith) b) o)
      (λ k. let b = ltb-false q n k in let z = get_or-eq_default c 0 {n = q} (omega arith) in omega arith);
}

pub calm-none : {g : ℕ → List ℕ} {JS c x : List ℕ} (n : ℕ) → n ≡ length c → Tally g JS c x → highest n (in_one_only (map g JS)) ≡ none → Calm c 0
calm-none {g} {JS} {c} {x} n e t h = record {
  most = omega arith;
  above = λ q a o. by_bool (ltb q n)
      (λ k. not-one c q (highest-none n (one c) (single-is g JS c x n t ∙ h) q (ltb-true q n k)) o)
      (λ k. let b = ltb-false q n k in let z = get_or-eq_default c 0 {n = q} (omega arith) in omega arith);
}

-- a check leaves
has-find : {P : Type 0} (p : ℕ) (l : List ℕ) → has p l ≡ true → ((k : ℕ) → k < length l → get_or l k 0 ≡ p → P) → P
has-find p [] h f = absurd (false≢true h)
has-find p (q ∷ l) h f = by_bool (eqb p q)
    (λ e. f 0 (omega arith) (sym (eqb-true p q e)))
    (λ e. has-find p l (rw e at h) (λ k z o. f (suc k) (omega arith) o))

pub calm-less : {c x d y ps : List ℕ} {j top r : ℕ} → Calm c top → Forgot c x ps j d y → RaisedOver d ps top r → Calm d r
calm-less {c} {x} {d} {y} {ps} {j} {top} {r} s u v =
    let low = v.low in
    record {
      most = v.most;
      above = λ p a o. by_bool (has p ps)
          (λ h. has-find p ps h (λ k z e. let b = v.above k z (rw e o) in omega arith))
          (λ h. s.above p (omega arith) (sym (u.counts.each p ∙ rw h) ∙ o));
    }
