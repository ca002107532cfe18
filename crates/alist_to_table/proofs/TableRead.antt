-- The table that was read stands at the start of its buffer, and is accepted; the refusals that are said.
use mathlib.Core.Path.{◌≡◌, refl, sym, ap, ◌∙◌}
use mathlib.Core.Bool.{true, false}
use mathlib.Core.List.{List, [], ◌∷◌}
use Prim.Native.Nat.{ℕ}
use lib.ListN.{length, take}
use Rattle.lists.specs.Lists.{has}
use Rattle.table.specs.FirstCause.{wrong_length}
use Rattle.table.specs.FirstCauseLaws.{first-refuses}
use Rattle.table.specs.Table.{refusal}
use Rattle.making.specs.Making.{make_answer_of, table_words}
use Rattle.making.specs.MakingLaws.{Stands, made-refusal, made-stands}
use Rattle.std.specs.declared.result.Result.TheVariants.{Ok, Err}
use Rattle.refusals.specs.declared.Refusal.{Refusal}
use Rattle.refusals.specs.Refusals.{number_of}
use Rattle.refusals.proofs.Numbers.{number-some}
use Rattle.alist.proofs.Accepted.{read-accepted}
use Rattle.alist.specs.Alist.{alist_read_causes_of, alist_read_refusal_at, alist_read_refusal, alist_read_answer, alist_table, alist_read_table_after}
use Rattle.numbers.specs.Numbers.{numbers_in}

module _ (text : List ℕ) (s : ℕ) (buf buf' : List ℕ) (k : ℕ) (a : make_answer_of (Ok k) ≡ alist_read_answer text s buf)
    (b : buf' ≡ alist_read_table_after text s buf) where
  pub table-stands : Stands (alist_table text s) k buf'
  table-stands = made-stands (alist_read_refusal text s buf) (alist_table text s) buf buf' k a b

  pub table-accepted : refusal (take k buf') ≡ 0
  table-accepted =
      let e : alist_read_refusal text s buf ≡ 0 = sym (made-refusal _ (alist_table text s) (Ok k) a) in
      ap refusal table-stands.is ∙ (read-accepted text s buf e).accepted

-- a table buffer of its length: 5 is not refused
pub refusals-said : (text : List ℕ) (s : ℕ) (buf : List ℕ) (r : Refusal) → make_answer_of (Err r) ≡ alist_read_answer text s buf → length buf ≡ 6661
    → has (number_of r) (12 ∷ 13 ∷ 2 ∷ 3 ∷ []) ≡ true
unfolding alist_read_refusal_at
refusals-said text s buf r a l =
    let o = numbers_in text in
    let e : number_of r ≡ alist_read_refusal text s buf = made-refusal (alist_read_refusal text s buf) (alist_table text s) (Err r) a in
    let w : wrong_length (length buf) table_words ≡ false = rw l in
    let f : has (alist_read_refusal text s buf) (12 ∷ 13 ∷ 2 ∷ 3 ∷ []) ≡ true = first-refuses (take 4 (alist_read_causes_of o s (length buf))) refl ((wrong_length (length buf) table_words, 5) ∷ []) (λ _. rw w) (λ z. number-some r (e ∙ z)) in
    ap (λ k. has k (12 ∷ 13 ∷ 2 ∷ 3 ∷ [])) e ∙ f
