-- The text that was written stands at the start of its buffer; the refusals that are said.
use mathlib.Core.Path.{◌≡◌, refl, ap, ◌∙◌}
use mathlib.Core.Bool.{true}
use mathlib.Core.List.{List, [], ◌∷◌}
use Prim.Native.Nat.{ℕ, ◌≤◌}
use native.Mathlib.Omega.{arith}
use borrow.Author.Tests.{le-ltb}
use lib.Dec.{ltb}
use lib.ListN.{length, replicate, length-replicate}
use Rattle.lists.specs.Lists.{has}
use Rattle.table.specs.FirstCauseLaws.{quiet, first-refuses}
use Rattle.table.specs.Table.{table_causes}
use Rattle.making.specs.Making.{make_answer_of}
use Rattle.making.specs.MakingLaws.{Stands, made-refusal, made-stands}
use Rattle.std.specs.declared.result.Result.TheVariants.{Ok, Err}
use Rattle.refusals.specs.declared.Refusal.{Refusal}
use Rattle.refusals.specs.Refusals.{number_of}
use Rattle.refusals.proofs.Numbers.{number-some}
use Rattle.alist.specs.AlistLength.{most_alist, alist-most}
use Rattle.alist.specs.AlistText.{alist_text, alist_write_refusal_at, alist_write_refusal, alist_write_answer, alist_write_text_after}

module _ (t buf : List ℕ) where
  pub text-stands : (n : ℕ) (buf' : List ℕ) → make_answer_of (Ok n) ≡ alist_write_answer t buf → buf' ≡ alist_write_text_after t buf → Stands (alist_text t) n buf'
  text-stands n buf' a b = made-stands (alist_write_refusal t buf) (alist_text t) buf buf' n a b

  -- every table's text finds room: 5 is not refused
  pub refusals-said : (r : Refusal) → make_answer_of (Err r) ≡ alist_write_answer t buf → most_alist ≤ length buf → has (number_of r) (1 ∷ 2 ∷ 3 ∷ 4 ∷ []) ≡ true
  unfolding alist_write_refusal_at
  refusals-said r a l =
      let e : number_of r ≡ alist_write_refusal t buf = made-refusal (alist_write_refusal t buf) (alist_text t) (Err r) a in
      ap (λ k. has k (1 ∷ 2 ∷ 3 ∷ 4 ∷ [])) e
      ∙ first-refuses (table_causes t) refl ((ltb (length buf) (length (alist_text t)), 5) ∷ [])
      (λ h. let m = alist-most t (quiet h) in rw (le-ltb (length buf) (length (alist_text t)) (omega arith)))
      (λ z. number-some r (e ∙ z))

-- a buffer of so many bytes
pub long-enough : (n v : ℕ) → most_alist ≤ n → most_alist ≤ length (replicate n v)
long-enough n v h = rw length-replicate h
