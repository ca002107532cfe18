-- The lines that program planlist prints of a plan (document 01, "Worked tables"), as bytes: "one blank between words; without
-- information places the second line is "info" alone."
use Rattle.std.specs.Prelude.{List, [], ◌∷◌, ◌++◌, map, ℕ}
use Rattle.std.proofs.Math.Option.{Option, none, some}
use Rattle.plan.specs.declared.Step.{Step}
use Rattle.plan.specs.declared.Step.TheVariants.{Clear, Add}
use Rattle.plan.specs.Step.{add_steps}
use Rattle.plan.specs.Layout.{plan_places, plan_gap, plan_kept, info_in, steps_of}
use Rattle.numerals.specs.Numerals.{decimal}
use Rattle.text.specs.Lines.{bytes, line}

-- ---- the lines
-- "places 4 size 1 kept 3 ones 9 gap 1"
abbrev pub heading : ℕ → ℕ → ℕ → ℕ → ℕ → List ℕ
heading n s M W g =
    line "places" (decimal n ∷ bytes "size" ∷ decimal s ∷ bytes "kept" ∷ decimal M ∷ bytes "ones" ∷ decimal W ∷ bytes "gap" ∷ decimal g ∷ [])

-- "info 1"
abbrev pub info_line : List ℕ → List ℕ
info_line ps = line "info" (map decimal ps)

-- "clear 3", "add 1 3": ""add a b" adds slot a into b"
abbrev pub step_line : Step → List ℕ
step_line (Clear to) = line "clear" (decimal to ∷ [])
step_line (Add to from) = line "add" (decimal from ∷ decimal to ∷ [])

abbrev pub step_lines : List Step → List ℕ
step_lines [] = []
step_lines (x ∷ xs) = step_line x ++ step_lines xs

-- the line of a plan number, if it is a step
abbrev pub number_text : Option Step → List ℕ
number_text none = []
number_text (some x) = step_line x

-- "adds 9"
abbrev pub adds_line : ℕ → List ℕ
adds_line k = line "adds" (decimal k ∷ [])

abbrev pub refused_line : ℕ → List ℕ
refused_line k = line "refused" (decimal k ∷ [])

-- ---- the text
abbrev pub plan_text : ℕ → ℕ → ℕ → ℕ → ℕ → List ℕ → List Step → List ℕ
plan_text n s M W g info steps = heading n s M W g ++ (info_line info ++ (step_lines steps ++ adds_line (add_steps steps)))

-- of a plan's numbers, for a table with packets of s bytes and with W ones (document 02, C-16: "Planlist prints the table's size as before")
abbrev pub plan_text_of : List ℕ → ℕ → ℕ → List ℕ
plan_text_of w s W = plan_text (plan_places w) s (plan_kept w) W (plan_gap w) (info_in w) (steps_of w)

-- room for every text: 48 bytes of the heading, 5 and 5 for each of 1,024 places, 14 for each step, 11 of the last line (`plan-most`)
abbrev pub most_text : ℕ
most_text = 192000
