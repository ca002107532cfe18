-- What a call has that none of 1 to 7 and 14 refuses.
use mathlib.Core.Path.{◌≡◌, refl, sym, ◌∙◌, subst}
use mathlib.Core.List.{List}
use Prim.Native.Nat.{ℕ, ◌*◌, ◌<◌, ◌≤◌}
use native.Mathlib.Omega.{arith}
use lib.ListN.{length}
use Rattle.full.specs.Full.{FittingAll}
use Rattle.table.specs.Accepted.{Accepted, few-checks, words}
use Rattle.table.specs.Table.{places, size, number}
use Rattle.why.specs.Why.{reason_numbers}
use Rattle.why.proofs.WhyLaws.{Fits}

module _ (t : List ℕ) (m n s : ℕ) (k : Accepted t m n s) (b l w : List ℕ) (f : FittingAll t b l w) where
  pub fit-places : length l ≡ n
  fit-places = f.old.map-length ∙ sym k.places-are

  pub fit-rows : m * 16 ≤ length w
  fit-rows = omega (arith, f.room, few-checks t m n s k)

  pub fits_all : (p : ℕ) → p < n → (reason : List ℕ) → length reason ≡ reason_numbers → Fits t b l w p reason
  fits_all p h reason e = record { full = f; room = e; below = subst (λ v. p < v) k.places-are h }

-- from the look before the repair
module _ {t b l w : List ℕ} {p : ℕ} {reason : List ℕ} (f : Fits t b l w p reason) where
  pub passed-table : {m n s : ℕ} → m ≡ number t → n ≡ places t → s ≡ size t → Accepted t m n s
  passed-table em en es = record { accepted = f.full.old.table; number_is = em; places-are = en; size_is = es }

  pub passed_words : 5 ≤ length t
  passed_words = words t 0 (sym f.full.old.table) refl

  pub passed-below : {n : ℕ} → n ≡ places t → p < n
  passed-below en = subst (λ v. p < v) (sym en) f.below
