-- What program planlist prints (document 01, "Worked tables"), as bytes: "Program planlist reads a table file from standard
-- input and prints the plan, one blank between words; without information places the second line is "info" alone."
use Rattle.std.specs.Prelude.{true, false, List, ℕ, eqb}
use Rattle.table.specs.Table.{places, size}
use Rattle.planning.specs.Planning.{plan_of, planning_refusal_at, least_plan, work_words}
use Rattle.table_file.specs.Words.{words_of, unfit}
use Rattle.plan_text.specs.PlanText.{plan_text, refused_line}

-- the plan of a table; "It prints "refused" and the number otherwise."
unfoldable pub table_text : List ℕ → List ℕ
table_text t =
    elim (eqb (planning_refusal_at t least_plan work_words) 0) [
      | true ↦ plan_text (places t) (size t) (plan_of t).M (plan_of t).W (plan_of t).g (plan_of t).info (plan_of t).steps
      | false ↦ refused_line (planning_refusal_at t least_plan work_words)
    ]

-- the text of a table's file: "A file of an odd number of bytes, or of more than 13,322, prints refusal 3 before any other."
unfoldable pub listing : List ℕ → List ℕ
listing file = elim (unfit file) [ true ↦ refused_line 3 | false ↦ table_text (words_of file) ]
