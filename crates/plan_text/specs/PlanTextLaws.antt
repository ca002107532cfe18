-- No plan's text has more than 192,000 bytes.
use Rattle.std.specs.Prelude.{◌≡◌, refl, List, [], ◌∷◌, ◌++◌, map, ℕ, zero, suc, ◌+◌, ◌*◌, ◌/◌, ◌%◌, ◌<◌, ◌≤◌, length, get_or}
use Rattle.std.proofs.Common.{ap, ◌∙◌, arith, length-append}
use Rattle.std.proofs.Math.Option.{Option, none, some}
use Rattle.plan.specs.declared.Step.{Step}
use Rattle.plan.specs.declared.Step.TheVariants.{Clear, Add}
use Rattle.plan.specs.Step.{add_steps, step_of, unpack, unpack_all}
use Rattle.table.specs.Table.{most_places, most_bytes, most_checks, most_ones}
use Rattle.plan.specs.Layout.{most_aside, plan_places, plan_gap, plan_kept, plan_refusal, info_in, steps_in, steps_of}
use Rattle.plan.specs.LayoutLaws.{well, info-length, info-below, steps-in, steps-length}
use Rattle.numerals.specs.NumeralLaws.{decimal-few, decimal-most}
use Rattle.numerals.specs.Numerals.{decimal}
use Rattle.text.specs.Lines.{words_after_blanks}
use Rattle.plan_text.specs.PlanText.{heading, step_lines, number_text, refused_line, plan_text_of, most_text}

-- ---- the longest lines
heading-most : (n s M W g : ℕ) → n ≤ most_places → s ≤ most_bytes → M ≤ most_checks → W ≤ most_ones → g ≤ most_aside → length (heading n s M W g) ≤ 48
heading-most n s M W g a b c d e =
    let n4 = decimal-few 3 n (omega arith) in
    let s4 = decimal-few 3 s (omega arith) in
    let M3 = decimal-few 2 M (omega arith) in
    let W4 = decimal-few 3 W (omega arith) in
    let g2 = decimal-few 1 g (omega arith) in
    simp length-append (omega arith)

places-most : (I : List ℕ) → ((k : ℕ) → k < length I → get_or I k 0 < 10000) → length (words_after_blanks (map decimal I)) ≤ 5 * length I + 1
places-most [] h = omega arith
places-most (p ∷ I) h =
    let d = decimal-few 3 p (h 0 (omega arith)) in
    let r = places-most I (λ k l. h (suc k) (omega arith)) in
    simp length-append (omega arith)

number-most : (kind to from : ℕ) → to < 10000 → from < 10000 → length (number_text (step_of kind to from)) ≤ 14
number-most zero to zero h k = let d = decimal-few 3 to h in simp length-append (omega arith)
number-most zero to (suc from) h k = omega arith
number-most (suc zero) to from h k = let d = decimal-few 3 to h in let e = decimal-few 3 from k in simp length-append (omega arith)
number-most (suc (suc kind)) to from h k = omega arith

pub lines_of : (w : ℕ) (ws : List ℕ) → step_lines (unpack_all (w ∷ ws)) ≡ number_text (unpack w) ++ step_lines (unpack_all ws)
lines_of w ws = go (unpack w) refl
  where
    go : (o : Option Step) → unpack w ≡ o → step_lines (unpack_all (w ∷ ws)) ≡ number_text (unpack w) ++ step_lines (unpack_all ws)
    go none e = rw (e, unpack_all)
    go (some x) e = rw (e, unpack_all)

steps-most : (ws : List ℕ) → length (step_lines (unpack_all ws)) ≤ 14 * length ws
steps-most [] = omega arith
steps-most (w ∷ ws) =
    let n = number-most (w / 16777216) (w / 4096 % 4096) (w % 4096) (omega arith) (omega arith) in
    let r = steps-most ws in
    let l = ap length (lines_of w ws) ∙ length-append (number_text (unpack w)) (step_lines (unpack_all ws)) in
    omega arith

adds-few : (xs : List Step) → add_steps xs ≤ length xs
adds-few [] = omega arith
adds-few (Clear to ∷ xs) = let h = adds-few xs in omega arith
adds-few (Add to from ∷ xs) = let h = adds-few xs in omega arith

-- ---- a well-formed plan
pub plan-most : (w : List ℕ) (s W : ℕ) → plan_refusal w ≡ 0 → s ≤ most_bytes → W ≤ most_ones → length (plan_text_of w s W) ≤ most_text
plan-most w s W h short few =
    let f = well w h in
    let c = f.counts in
    let i = info-length w f in
    let head = heading-most (plan_places w) s (plan_kept w) W (plan_gap w) c.few-places short c.few-kept few c.few-aside in
    let info = places-most (info_in w) (λ k l. let b = info-below w f k (omega arith) in omega (arith, c.few-places)) in
    let steps = steps-most (steps_in w) in
    let n = steps-in w f in
    let a = adds-few (steps_of w) in
    let m = steps-length w f in
    let d = decimal-few 4 (add_steps (steps_of w)) (omega (arith, c.few-steps)) in
    let e : length (plan_text_of w s W) ≡ length (heading (plan_places w) s (plan_kept w) W (plan_gap w))
    + (4 + length (words_after_blanks (map decimal (info_in w))) + (length (step_lines (steps_of w)) + (6 + length (decimal (add_steps (steps_of w)))))) =
    simp length-append (omega arith) in
    omega (arith, c.few-steps, c.few-places, c.info)

pub refused-most : (k : ℕ) → length (refused_line k) ≤ most_text
refused-most k = let d = decimal-most k in simp length-append (omega arith)

pub refused-room : (k : ℕ) (out : List ℕ) → most_text ≤ length out → 0 + length (refused_line k) ≤ length out
refused-room k out h = let m = refused-most k in omega arith
