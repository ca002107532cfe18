-- What is left of the heading after each of its numbers, and of a plan's text after each of its parts.
use mathlib.Core.Path.{◌≡◌}
use mathlib.Core.List.{List, [], ◌∷◌, ◌++◌}
use Prim.Native.Nat.{ℕ}
use Rattle.plan.specs.Layout.{info_in, steps_of}
use Rattle.plan.specs.Step.{add_steps}
use Rattle.numerals.specs.Numerals.{decimal}
use Rattle.text.specs.Lines.{bytes, words_after_blanks}
use Rattle.plan_text.specs.PlanText.{heading, info_line, step_lines, adds_line}

abbrev pub from_gap : ℕ → List ℕ
from_gap g = words_after_blanks (bytes "gap" ∷ decimal g ∷ [])

abbrev pub from_ones : ℕ → ℕ → List ℕ
from_ones W g = words_after_blanks (bytes "ones" ∷ decimal W ∷ bytes "gap" ∷ decimal g ∷ [])

abbrev pub from_kept : ℕ → ℕ → ℕ → List ℕ
from_kept M W g = words_after_blanks (bytes "kept" ∷ decimal M ∷ bytes "ones" ∷ decimal W ∷ bytes "gap" ∷ decimal g ∷ [])

abbrev pub from_size : ℕ → ℕ → ℕ → ℕ → List ℕ
from_size s M W g = words_after_blanks (bytes "size" ∷ decimal s ∷ bytes "kept" ∷ decimal M ∷ bytes "ones" ∷ decimal W ∷ bytes "gap" ∷ decimal g ∷ [])

abbrev pub from_adds : List ℕ → List ℕ
from_adds w = adds_line (add_steps (steps_of w))

abbrev pub from_steps : List ℕ → List ℕ
from_steps w = step_lines (steps_of w) ++ from_adds w

abbrev pub from_info : List ℕ → List ℕ
from_info w = info_line (info_in w) ++ from_steps w

-- the heading of equal numbers
pub same-heading : {n n' s s' M M' g g' : ℕ} (W : ℕ) → n ≡ n' → s ≡ s' → M ≡ M' → g ≡ g' → heading n s M W g ≡ heading n' s' M' W g'
same-heading W a b c d = rw (a, b, c, d)
