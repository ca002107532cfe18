-- The table that was made stands at the start of its buffer, and is accepted.
use mathlib.Core.Path.{◌≡◌, sym, ap, ◌∙◌}
use mathlib.Core.List.{List}
use Prim.Native.Nat.{ℕ}
use lib.ListN.{take}
use Rattle.table.specs.Table.{refusal}
use Rattle.making.specs.Making.{make_answer_of}
use Rattle.making.specs.MakingLaws.{Stands, made-refusal, made-stands}
use Rattle.std.specs.declared.result.Result.TheVariants.{Ok}
use Rattle.staircase.specs.Staircase.{staircase_refusal, staircase_answer, staircase_table, staircase_table_after}
use Rattle.staircase.specs.StaircaseLaws.{made-accepted, table-written}

module _ (k n ones seed s : ℕ) (buf buf' : List ℕ) (l : ℕ) (a : make_answer_of (Ok l) ≡ staircase_answer k n ones seed s buf)
    (b : buf' ≡ staircase_table_after k n ones seed s buf) where
  abbrev t : List ℕ
  t = staircase_table k n ones seed s

  pub table-stands : Stands t l buf'
  table-stands = made-stands (staircase_refusal k n ones seed s buf) t buf buf' l a b

  pub table-accepted : refusal (take l buf') ≡ 0
  table-accepted =
      let e : staircase_refusal k n ones seed s buf ≡ 0 = sym (made-refusal _ t (Ok l) a) in
      ap refusal (table-stands.is ∙ sym (table-written k n ones seed s buf e)) ∙ (made-accepted k n ones seed s buf e).accepted
