-- One place more, one step more, and a number that is a step.
use mathlib.Core.Path.{◌≡◌, refl, sym, ap, ◌∙◌, subst}
use mathlib.Core.List.{List, [], ◌∷◌, ◌++◌, map}
use mathlib.Core.Option.{Option, none, some}
use Prim.Native.Nat.{ℕ, ◌+◌, ◌<◌, ◌≤◌}
use native.Mathlib.Numerals.{add-one}
use native.Mathlib.Omega.{arith}
use lib.ListN.{length, get_or, drop, drop_of_length-le}
use lib.Seq.{drop-cons}
use Rattle.std.specs.declared.option.Option.{Option as Optional}
use Rattle.std.specs.declared.option.Option.TheVariants.{Some, None}
use Rattle.plan.specs.declared.Step.{Step}
use Rattle.plan.specs.Step.{unpack, unpack_all, decoded_of}
use Rattle.numerals.specs.Numerals.{decimal}
use Rattle.text.specs.Lines.{bytes, words_after_blanks}
use Rattle.text.specs.LinesLaws.{Left}
use Rattle.plan_text.specs.PlanText.{number_text, step_lines}
use Rattle.plan_text.specs.PlanTextLaws.{lines_of}

-- the element at k and those behind it
rest_at : (l : List ℕ) (k : ℕ) → k < length l → drop k l ≡ get_or l k 0 ∷ drop (k + 1) l
rest_at l k h = drop-cons l k 0 h ∙ ap (λ (n : ℕ). get_or l k 0 ∷ drop n l) (sym (add-one k))

module _ {text₀ whole text : List ℕ} {at₀ at : ℕ} where
  pub next_place : (places : List ℕ) (k p : ℕ) → k < length places → p ≡ get_or places k 0
      → Left text₀ at₀ whole text at (words_after_blanks (map decimal (drop k places)))
      → Left text₀ at₀ whole text at (bytes " " ++ decimal p ++ words_after_blanks (map decimal (drop (k + 1) places)))
  next_place places k p h e l = rw e (rw (rest_at places k h) at l)

  pub next-step : (steps : List ℕ) (i : ℕ) → i < length steps → Left text₀ at₀ whole text at (step_lines (unpack_all (drop i steps)))
      → Left text₀ at₀ whole text at (number_text (unpack (get_or steps i 0)) ++ step_lines (unpack_all (drop (i + 1) steps)))
  next-step steps i h l =
      subst (Left text₀ at₀ whole text at) (ap (λ (s : List ℕ). step_lines (unpack_all s)) (rest_at steps i h) ∙ lines_of (get_or steps i 0) (drop (i + 1) steps)) l

  -- behind the last
  pub last-place : (places : List ℕ) (k : ℕ) → length places ≤ k → Left text₀ at₀ whole text at (words_after_blanks (map decimal (drop k places)))
      → Left text₀ at₀ whole text at (bytes "\n")
  last-place places k h l = rw (drop_of_length-le places h) at l

  pub last_step : (steps : List ℕ) (i : ℕ) → length steps ≤ i → Left text₀ at₀ whole text at (step_lines (unpack_all (drop i steps))) → Left text₀ at₀ whole text at []
  last_step steps i h l = rw (drop_of_length-le steps h) at l

-- ---- a number that is a step, or is none
pub is-step : (o : Option Step) (x : Step) → decoded_of o ≡ Some x → o ≡ some x
is-step none x e = absurd (let z : ◌≡◌ {A = ℕ} 0 1 = cc in omega arith)
is-step (some y) x e = let z : y ≡ x = cc in ap some z

pub no_step : (o : Option Step) {d : Optional Step} → d ≡ decoded_of o → d ≡ None → o ≡ none
no_step none e f = refl
no_step (some y) e f = absurd (let z : ◌≡◌ {A = ℕ} 0 1 = cc in omega arith)
