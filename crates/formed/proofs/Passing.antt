-- The tests of steps, by marks.
use mathlib.Core.Path.{◌≡◌, refl, sym, ap, ap₂, ◌∙◌}
use mathlib.Core.Bool.{Bool, true, false, cond, not, ◌&&◌, and-false}
use mathlib.Core.List.{List, [], ◌∷◌}
use mathlib.Core.Option.{Option, none, some}
use Prim.Native.Nat.{ℕ, suc, ◌+◌, ◌<◌, ◌≤◌}
use native.Mathlib.Numerals.{add-one}
use native.Mathlib.Omega.{arith}
use borrow.Author.Tests.{eq-eqb, ne_eqb, ltb-true, lt-ltb, le-ltb}
use lib.Dec.{eqb, ltb}
use lib.ListN.{length, get_or, drop}
use lib.Seq.{drop-cons}
use Rattle.lists.specs.Lists.{all_pass, has}
use Rattle.lists.specs.Tests.{by_bool}
use Rattle.table.specs.Table.{rising}
use Rattle.std.specs.declared.option.Option.TheVariants.{Some, None}
use Rattle.plan.specs.declared.Step.{Step}
use Rattle.plan.specs.declared.Step.TheVariants.{Clear, Add}
use Rattle.plan.specs.Layout.{good_step, info_in, steps_in, slots, plan_refusal, bad_counts, plan_places, plan_gap, steps_at}
use Rattle.plan.specs.LookOver.{Marks, is_marked, writable, good_step_by}
use Rattle.plan.specs.Step.{unpack, decoded_of}

module _ (k : ℕ) (kept : ℕ → Bool) where
  pub writable-outside : (to : ℕ) → k ≤ to → false ≡ writable k kept to
  writable-outside to h = rw (le-ltb to k h)

  pub writable-inside : (to : ℕ) → to < k → not (kept to) ≡ writable k kept to
  writable-inside to h = rw (lt-ltb to k h)

  -- a source outside
  pub add-outside : (to from : ℕ) → k ≤ from → false ≡ good_step_by k kept (some (Add to from))
  add-outside to from h = rw (le-ltb from k h) (sym (and-false (ltb to k)))

  -- a slot added into itself
  pub add-itself : (to from : ℕ) → to ≡ from → false ≡ good_step_by k kept (some (Add to from))
  add-itself to from h = rw (eq-eqb to from h) (by_bool (ltb to k) (λ e. rw e (sym (and-false (ltb from k)))) (λ e. rw e))

  -- neither
  pub add-good : (to from : ℕ) → from < k → (to ≡ from → ⊥) → writable k kept to ≡ good_step_by k kept (some (Add to from))
  add-good to from h n = rw (lt-ltb from k h, ne_eqb to from n)

  -- decoding decides
  pub good-decoded : (o : Option Step) (x : Step) → decoded_of o ≡ Some x → good_step_by k kept (some x) ≡ good_step_by k kept o
  good-decoded none x h = absurd (let z : ◌≡◌ {A = ℕ} 0 1 = cc in omega arith)
  good-decoded (some y) x h = let e : y ≡ x = cc in rw e

  pub good-invalid : (o : Option Step) → decoded_of o ≡ None → false ≡ good_step_by k kept o
  good-invalid none h = refl
  good-invalid (some y) h = absurd (let z : ◌≡◌ {A = ℕ} 0 1 = cc in omega arith)

-- ---- all numbers
module _ (f : ℕ → Bool) (ws : List ℕ) (i : ℕ) (inside : i < length ws) where
  pub pass-stops : f (get_or ws i 0) ≡ false → all_pass f (drop i ws) ≡ false
  pass-stops h = ap (all_pass f) (drop-cons ws i 0 inside) ∙ ap (λ b. b && all_pass f (drop (suc i) ws)) h

  pub pass_on : f (get_or ws i 0) ≡ true → all_pass f (drop i ws) ≡ all_pass f (drop (i + 1) ws)
  pass_on h = rw (add-one i) (ap (all_pass f) (drop-cons ws i 0 inside) ∙ ap (λ b. b && all_pass f (drop (suc i) ws)) h)

-- ---- marks as the test
mark_of : (b : Bool) → eqb (cond b 1 0) 1 ≡ b
mark_of true = refl
mark_of false = refl

module _ (k : ℕ) (I marks : List ℕ) (long : k ≤ length marks) (m : Marks I marks) where
  same-mark : (p : ℕ) → p < k → is_marked marks p ≡ has p I
  same-mark p h = ap (λ (v : ℕ). eqb v 1) (m.each p (omega arith)) ∙ mark_of (has p I)

  same-writable : (p : ℕ) → writable k (is_marked marks) p ≡ writable k (λ q. has q I) p
  same-writable p = by_bool (ltb p k) (λ e. rw (e, same-mark p (ltb-true p k e))) (λ e. rw e)

  same_good : (o : Option Step) → good_step_by k (is_marked marks) o ≡ good_step k I o
  same_good none = refl
  same_good (some (Clear to)) = same-writable to
  same_good (some (Add to from)) = by_bool (ltb to k) (λ e. rw (e, same-mark to (ltb-true to k e))) (λ e. rw e)

  same-pass : (ws : List ℕ) → all_pass (λ x. good_step_by k (is_marked marks) (unpack x)) ws ≡ all_pass (λ x. good_step k I (unpack x)) ws
  same-pass [] = refl
  same-pass (w ∷ ws) = ap₂ ◌&&◌ (same_good (unpack w)) (same-pass ws)

-- the look-over's pass over a plan's steps
pub same-steps : (w m : List ℕ) (n g at : ℕ) → n ≡ plan_places w → g ≡ plan_gap w → at ≡ steps_at w → slots w ≤ length m → Marks (info_in w) m
    → all_pass (λ x. good_step_by (n + g) (is_marked m) (unpack x)) (drop at w) ≡ all_pass (λ x. good_step (slots w) (info_in w) (unpack x)) (steps_in w)
same-steps w m n g at a b c long marks = rw (a, b, c) (same-pass (slots w) (info_in w) m long marks (steps_in w))

-- ---- the whole
module _ (w : List ℕ) where
  pub refuse-counts : bad_counts w ≡ true → 9 ≡ plan_refusal w
  refuse-counts h = rw h

  module _ (c : bad_counts w ≡ false) where
    pub refuse-places : rising (plan_places w) 0 (info_in w) ≡ false → 9 ≡ plan_refusal w
    refuse-places h = rw (c, h)

    module _ (r : rising (plan_places w) 0 (info_in w) ≡ true) where
      pub refuse-steps : all_pass (λ x. good_step (slots w) (info_in w) (unpack x)) (steps_in w) ≡ false → 9 ≡ plan_refusal w
      refuse-steps h = rw (c, r, h)

      pub refuse-none : all_pass (λ x. good_step (slots w) (info_in w) (unpack x)) (steps_in w) ≡ true → 0 ≡ plan_refusal w
      refuse-none h = rw (c, r, h)
