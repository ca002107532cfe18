-- From numbers to the checks of the rule.
use mathlib.Core.Path.{◌≡◌, refl, sym, ap, ap₂, ◌∙◌}
use mathlib.Core.List.{List, map}
use Prim.Native.Nat.{ℕ, ◌+◌, ◌<◌}
use native.Mathlib.Omega.{arith}
use lib.ListN.{length, get_or, take, drop, length-map}
use lib.Seq.{take-append_seam, length-take-le}
use Rattle.lists.specs.Lists.{All, All.nil, All.cons}
use Rattle.table.specs.Accepted.{Accepted, few-checks}
use Rattle.table.specs.Checks.{check}
use Rattle.table.specs.ChecksLaws.{checks-are, check-length}
use Rattle.table.specs.Table.{number, places, size, checks, ones, total}
use Rattle.rule.specs.Buffers.{peeling, solved}
use Rattle.rule.specs.Rule.{kept, peel, solved_of, set_aside_of}
use Rattle.bits.specs.Front.{Front}
use Rattle.keep.specs.Kept.{kept_of}
use Rattle.peel.proofs.KeptNumbers.{kept-numbers}
use Rattle.peel.specs.Choice.{ChoiceOf, weight}
use Rattle.peel.specs.Turn.{Room, Numbers, Peeled}
use Rattle.peel.proofs.KeptLive.{kept-all, kept-few}

pub numbers_of : {t : List ℕ} {m : ℕ} {ids e : List ℕ} {r : ℕ} → Front (kept_of t m) ids e r → Numbers t m e r
numbers_of {t} {m} {ids} {e} {r} k = record {
  count = k.count;
  list = ap₂ (λ (i : ℕ) (l : List ℕ). take i l) k.count k.list ∙ take-append_seam (kept_of t m) (drop (length (kept_of t m)) ids);
}

module _ {t : List ℕ} {m n : ℕ} (ok : Accepted t m n (size t)) where
  kept-are : kept (checks t) ≡ map (check t m) (kept_of t m)
  kept-are = rw ok.number_is (ap kept (checks-are t ok.accepted) ∙ kept-numbers t (number t))

  long_as : (j : ℕ) → j < m → length (check t m j) ≡ get_or t (4 + j) 0
  long_as = rw ok.number_is (check-length t ok.accepted)

  ones-are : {K : List ℕ} → All (λ j. j < m) K → total (map (weight t) K) ≡ ones (map (check t m) K)
  unfolding weight
  ones-are nil = refl
  ones-are (cons {x = j} {l = K} h a) = ap₂ ◌+◌ (sym (long_as j h)) (ones-are a)

  peeling-are : {k : ℕ} → k ≡ length (kept_of t m) → peeling t ≡ peel k n (map (check t m) (kept_of t m))
  peeling-are {k} e = rw ok.places-are (ap₂ (λ (i : ℕ) (l : List (List ℕ)). peel i (places t) l) (ap length kept-are ∙ length-map (kept_of t m) (check t m) ∙ sym e) kept-are)

  pub choice : {k W kt ka : ℕ} {order owns adj : List ℕ} → k ≡ length (kept_of t m) → W ≡ total (map (weight t) (kept_of t m))
      → Peeled (check t m) m n k (kept_of t m) order owns adj kt ka → Room 512 order owns adj
      → ChoiceOf t order owns adj k W kt ka
  choice {k} {W} {kt} {ka} {order} {owns} {adj} e w p r =
      let q = peeling-are e in
      let sm = p.sum in
      let fk = kept-few t m in
      let lo = r.taken in
      let lw = r.places in
      let la = r.put in
      let fm = few-checks _ _ _ _ ok in
      let s : set_aside_of (peeling t) ≡ map (check t m) (take ka adj) = ap set_aside_of q ∙ p.set-aside in
      record {
        chosen = record {
          took = ap solved_of q ∙ p.took ∙ ap (λ (i : ℕ). solved (check t i) order owns kt) ok.number_is;
          set-aside = s ∙ ap (λ (i : ℕ). map (check t i) (take ka adj)) ok.number_is;
          room = (omega arith, (omega arith, omega arith));
          numbers = rw (← ok.number_is) p.low.numbers;
          own = rw (← ok.places-are) p.low.own;
          asides = rw (← ok.number_is) p.low.asides;
        };
        keeps = e ∙ sym (ap length kept-are ∙ length-map (kept_of t m) (check t m));
        with-ones = w ∙ ones-are (kept-all t m) ∙ sym (ap ones kept-are);
        gap = sym (ap length s ∙ length-map (take ka adj) (check t m) ∙ length-take-le ka adj (omega arith));
        sum = sm;
      }
