-- What a well-formed plan gives.
use Rattle.std.specs.Prelude.{◌≡◌, refl, Bool, true, false, not, ◌&&◌, List, [], ◌∷◌, ℕ, zero, suc, ◌+◌, ◌-◌, ◌<◌, ◌≤◌, eqb, ltb, leb, length, get_or, drop}
use Rattle.std.proofs.Common.{sym, ap, ◌∙◌, subst, arith, ltb-true, ltb-false, leb-true, eqb-true, lt-ltb, ne_eqb, length-drop, length-take-le, get_or-drop}
use Rattle.std.proofs.lemmas.Bool.{false≢true, eqb-false, not-true, not-false}
use Rattle.std.proofs.Math.Option.{Option, none, some}
use Rattle.lists.specs.Lists.{all_pass, has}
use Rattle.lists.specs.Tests.{by_bool, or-false-l, or-false-r}
use Rattle.table.specs.TableLaws.{inside-low, inside-high}
use Rattle.table.specs.Table.{most_places, most_checks, outside, rising}
use Rattle.plan.specs.declared.Step.{Step}
use Rattle.plan.specs.declared.Step.TheVariants.{Clear, Add}
use Rattle.plan.specs.Layout.{most_aside, most_steps, head_count, least_numbers, plan_places, plan_gap, plan_kept, info_at, info_count, info_in, step_count, steps_at, steps_in, slots, steps_of, bad_head, bad_limits, bad_lengths, bad_counts, good_step, well_formed, plan_refusal}
use Rattle.plan.specs.Step.{unpack, unpack_all, SlotsBelow}

-- ---- tests
-- the first of two tests holds
pub and_left : (a b : Bool) → (a && b) ≡ true → a ≡ true
and_left true b e = refl
and_left false b e = absurd (false≢true e)

-- and the second
pub and_right : (a b : Bool) → (a && b) ≡ true → b ≡ true
and_right true b e = e
and_right false b e = absurd (false≢true e)

-- ---- the counts
pub record Counted (w : List ℕ) : Type 0 where
  pub first : get_or w 0 0 ≡ head_count
  pub some-places : 1 ≤ plan_places w
  pub few-places : plan_places w ≤ most_places
  pub few-aside : plan_gap w ≤ most_aside
  pub aside-kept : plan_gap w ≤ plan_kept w
  pub kept-places : plan_kept w ≤ plan_places w
  pub few-kept : plan_kept w ≤ most_checks
  pub info : info_count w ≡ plan_places w - plan_kept w
  pub few-steps : step_count w ≤ most_steps
  pub whole : length w ≡ steps_at w + step_count w

-- the limits, of a plan that is within them
pub record InLimits (w : List ℕ) : Type 0 where
  pub some-places : 1 ≤ plan_places w
  pub few-places : plan_places w ≤ most_places
  pub few-aside : plan_gap w ≤ most_aside
  pub aside-kept : plan_gap w ≤ plan_kept w
  pub kept-places : plan_kept w ≤ plan_places w
  pub few-kept : plan_kept w ≤ most_checks

pub in-limits : (w : List ℕ) → bad_limits w ≡ false → InLimits w
in-limits w z =
    let r1 = or-false-r (outside most_places (plan_places w)) _ z in
    let r2 = or-false-r (ltb most_aside (plan_gap w)) _ r1 in
    let r3 = or-false-r (ltb (plan_kept w) (plan_gap w)) _ r2 in
    record {
      some-places = inside-low most_places (plan_places w) (or-false-l (outside most_places (plan_places w)) _ z);
      few-places = inside-high most_places (plan_places w) (or-false-l (outside most_places (plan_places w)) _ z);
      few-aside = ltb-false most_aside (plan_gap w) (or-false-l (ltb most_aside (plan_gap w)) _ r1);
      aside-kept = ltb-false (plan_kept w) (plan_gap w) (or-false-l (ltb (plan_kept w) (plan_gap w)) _ r2);
      kept-places = ltb-false (plan_places w) (plan_kept w) (or-false-l (ltb (plan_places w) (plan_kept w)) _ r3);
      few-kept = ltb-false most_checks (plan_kept w) (or-false-r (ltb (plan_places w) (plan_kept w)) _ r3);
    }

pub counted : (w : List ℕ) → bad_counts w ≡ false → Counted w
counted w h =
    let rest = or-false-r (bad_head w) _ h in
    let l = in-limits w (or-false-l (bad_limits w) (bad_lengths w) rest) in
    let z = or-false-r (bad_limits w) (bad_lengths w) rest in
    let r1 = or-false-r (not (eqb (info_count w) (plan_places w - plan_kept w))) _ z in
    let r2 = or-false-r (ltb (length w) (steps_at w)) _ r1 in
    record {
      first = eqb-true (get_or w 0 0) head_count (not-false (eqb (get_or w 0 0) head_count) (or-false-r (ltb (length w) least_numbers) _ (or-false-l (bad_head w) _ h)));
      some-places = l.some-places;
      few-places = l.few-places;
      few-aside = l.few-aside;
      aside-kept = l.aside-kept;
      kept-places = l.kept-places;
      few-kept = l.few-kept;
      info = eqb-true (info_count w) (plan_places w - plan_kept w) (not-false (eqb (info_count w) (plan_places w - plan_kept w)) (or-false-l _ _ z));
      few-steps = ltb-false most_steps (step_count w) (or-false-l (ltb most_steps (step_count w)) _ r2);
      whole = eqb-true (length w) (steps_at w + step_count w) (not-false (eqb (length w) (steps_at w + step_count w)) (or-false-r (ltb most_steps (step_count w)) _ r2));
    }

-- ---- places in ascending order
-- each from b on and below n
pub rising-at : (n b : ℕ) (I : List ℕ) → rising n b I ≡ true → (k : ℕ) → k < length I → (b ≤ get_or I k 0) × (get_or I k 0 < n)
rising-at n b [] h k l = absurd (omega arith)
rising-at n b (p ∷ I) h zero l =
    let q = and_left (leb b p && ltb p n) (rising n (suc p) I) h in
    (leb-true b p (and_left (leb b p) (ltb p n) q), ltb-true p n (and_right (leb b p) (ltb p n) q))
rising-at n b (p ∷ I) h (suc k) l =
    let q = and_left (leb b p && ltb p n) (rising n (suc p) I) h in
    let low = leb-true b p (and_left (leb b p) (ltb p n) q) in
    let r = rising-at n (suc p) I (and_right (leb b p && ltb p n) (rising n (suc p) I) h) k (omega arith) in
    (omega (arith, r.0), r.1)

-- a later place is higher
pub rising-order : (n b : ℕ) (I : List ℕ) → rising n b I ≡ true → (i k : ℕ) → i < k → k < length I → get_or I i 0 < get_or I k 0
rising-order n b [] h i k l m = absurd (omega arith)
rising-order n b (p ∷ I) h zero zero l m = absurd (omega arith)
rising-order n b (p ∷ I) h (suc i) zero l m = absurd (omega arith)
rising-order n b (p ∷ I) h zero (suc k) l m = (rising-at n (suc p) I (and_right (leb b p && ltb p n) (rising n (suc p) I) h) k (omega arith)).0
rising-order n b (p ∷ I) h (suc i) (suc k) l m = rising-order n (suc p) I (and_right (leb b p && ltb p n) (rising n (suc p) I) h) i k (omega arith) (omega arith)

-- ---- steps
-- a step over k slots that leaves the places of I alone
abbrev pub Leaves : List ℕ → Step → Type 0
Leaves I (Clear to) = has to I ≡ false
Leaves I (Add to from) = has to I ≡ false

abbrev Apart : Step → Type 0
Apart (Clear to) = Unit
Apart (Add to from) = to ≡ from → ⊥

pub record Sound (k : ℕ) (I : List ℕ) (x : Step) : Type 0 where
  pub below : SlotsBelow k x
  pub apart : Apart x
  pub leaves : Leaves I x

pub sound : (k : ℕ) (I : List ℕ) (x : Step) → good_step k I (some x) ≡ true → Sound k I x
sound k I (Clear to) h = record {
  below = ltb-true to k (and_left (ltb to k) (not (has to I)) h);
  apart = tt;
  leaves = not-true (has to I) (and_right (ltb to k) (not (has to I)) h);
}
sound k I (Add to from) h =
    let r = and_right (ltb to k) (ltb from k && (not (eqb to from) && not (has to I))) h in
    let q = and_right (ltb from k) (not (eqb to from) && not (has to I)) r in
    record {
      below = (ltb-true to k (and_left (ltb to k) (ltb from k && (not (eqb to from) && not (has to I))) h), ltb-true from k (and_left (ltb from k) (not (eqb to from) && not (has to I)) r));
      apart = eqb-false to from (not-true (eqb to from) (and_left (not (eqb to from)) (not (has to I)) q));
      leaves = not-true (has to I) (and_right (not (eqb to from)) (not (has to I)) q);
    }

-- and the other way round
pub sound-good : (k : ℕ) (I : List ℕ) (x : Step) → Sound k I x → good_step k I (some x) ≡ true
sound-good k I (Clear to) r = rw (lt-ltb to k r.below, r.leaves)
sound-good k I (Add to from) r = rw (lt-ltb to k r.below.0, lt-ltb from k r.below.1, ne_eqb to from r.apart, r.leaves)

-- its slots can be packed
pub sound-slots : (k : ℕ) (I : List ℕ) (x : Step) → k ≤ 4096 → Sound k I x → SlotsBelow 4096 x
sound-slots k I (Clear to) h r = let b = r.below in omega arith
sound-slots k I (Add to from) h r = let b = r.below in (omega arith, omega arith)

-- a number that is a step gives it
unpack_all-cons : (w : ℕ) (ws : List ℕ) (x : Step) → unpack w ≡ some x → unpack_all (w ∷ ws) ≡ x ∷ unpack_all ws
unpack_all-cons w ws x e = rw (e, unpack_all)

-- numbers that all are such steps
module _ (k : ℕ) (I : List ℕ) where
  abbrev pub all_good : List ℕ → Bool
  all_good ws = all_pass (λ x. good_step k I (unpack x)) ws

  -- a number that passes is a step
  good-some : (o : Option Step) → good_step k I o ≡ true → (x : Step) × (o ≡ some x)
  good-some none h = absurd (false≢true h)
  good-some (some x) h = (x, refl)

  -- one step a number
  unpacks : (w : ℕ) (ws : List ℕ) → good_step k I (unpack w) ≡ true → (x : Step) × ((unpack w ≡ some x) × (unpack_all (w ∷ ws) ≡ x ∷ unpack_all ws))
  unpacks w ws h = let r = good-some (unpack w) h in (r.0, (r.1, unpack_all-cons w ws r.0 r.1))

  unpack_all-length : (ws : List ℕ) → all_good ws ≡ true → length (unpack_all ws) ≡ length ws
  unpack_all-length [] h = refl
  unpack_all-length (w ∷ ws) h =
      ap length (unpacks w ws (and_left (good_step k I (unpack w)) (all_good ws) h)).1.1
      ∙ ap suc (unpack_all-length ws (and_right (good_step k I (unpack w)) (all_good ws) h))

  -- the i-th number is the i-th step
  unpack_all-at : (d : Step) (ws : List ℕ) → all_good ws ≡ true → (i : ℕ) → i < length ws → unpack (get_or ws i 0) ≡ some (get_or (unpack_all ws) i d)
  unpack_all-at d [] h i l = absurd (omega arith)
  unpack_all-at d (w ∷ ws) h zero l =
      let r = unpacks w ws (and_left (good_step k I (unpack w)) (all_good ws) h) in
      r.1.0 ∙ ap (λ (xs : List Step). some (get_or xs 0 d)) (sym r.1.1)
  unpack_all-at d (w ∷ ws) h (suc i) l =
      let r = unpacks w ws (and_left (good_step k I (unpack w)) (all_good ws) h) in
      unpack_all-at d ws (and_right (good_step k I (unpack w)) (all_good ws) h) i (omega arith)
      ∙ ap (λ (xs : List Step). some (get_or xs (suc i) d)) (sym r.1.1)

  good-at : (ws : List ℕ) → all_good ws ≡ true → (i : ℕ) → i < length ws → good_step k I (unpack (get_or ws i 0)) ≡ true
  good-at [] h i l = absurd (omega arith)
  good-at (w ∷ ws) h zero l = and_left (good_step k I (unpack w)) (all_good ws) h
  good-at (w ∷ ws) h (suc i) l = good-at ws (and_right (good_step k I (unpack w)) (all_good ws) h) i (omega arith)

-- ---- the whole plan
pub record Formed (w : List ℕ) : Type 0 where
  pub counts : Counted w
  pub rises : rising (plan_places w) 0 (info_in w) ≡ true
  pub steps : all_good (slots w) (info_in w) (steps_in w) ≡ true

pub formed : (w : List ℕ) → well_formed w ≡ true → Formed w
formed w h =
    let r = and_right (not (bad_counts w)) (rising (plan_places w) 0 (info_in w) && all_good (slots w) (info_in w) (steps_in w)) h in
    record {
      counts = counted w (not-true (bad_counts w) (and_left (not (bad_counts w)) (rising (plan_places w) 0 (info_in w) && all_good (slots w) (info_in w) (steps_in w)) h));
      rises = and_left (rising (plan_places w) 0 (info_in w)) (all_good (slots w) (info_in w) (steps_in w)) r;
      steps = and_right (rising (plan_places w) 0 (info_in w)) (all_good (slots w) (info_in w) (steps_in w)) r;
    }

-- refused with 9 or with nothing
pub not-refused : (w : List ℕ) → plan_refusal w ≡ 0 → well_formed w ≡ true
not-refused w h = by_bool (well_formed w) (λ e. e) (λ e. let z : ◌≡◌ {A = ℕ} 9 0 = rw e at h in absurd (omega arith))

pub well : (w : List ℕ) → plan_refusal w ≡ 0 → Formed w
well w h = formed w (not-refused w h)

-- the steps of a well-formed plan start within it
pub steps_within : (w : List ℕ) → plan_refusal w ≡ 0 → steps_at w ≤ length w
steps_within w h = let c = (well w h).counts in omega arith

pub refused : (w : List ℕ) → (plan_refusal w ≡ 0 → ⊥) → plan_refusal w ≡ 9
refused w h = by_bool (well_formed w) (λ e. absurd (h (rw e))) (λ e. rw e)

-- document 02, C-20: "refusal 9 refuses a plan with g over 20 or more than 12,708 steps"
pub beyond-aside : (w : List ℕ) → most_aside < plan_gap w → plan_refusal w ≡ 9
beyond-aside w h = refused w (λ z. let few = (well w z).counts.few-aside in omega arith)

pub beyond-steps : (w : List ℕ) → most_steps < step_count w → plan_refusal w ≡ 9
beyond-steps w h = refused w (λ z. let few = (well w z).counts.few-steps in omega arith)

-- as many information places as their count says
pub info-long : (w : List ℕ) → info_at + info_count w ≤ length w → length (info_in w) ≡ info_count w
info-long w h = length-take-le (info_count w) (drop info_at w) (let d = length-drop info_at w in omega arith)

module _ (w : List ℕ) (f : Formed w) where
  pub info-length : length (info_in w) ≡ info_count w
  info-length = info-long w (let c = f.counts in omega arith)

  pub steps-in : length (steps_in w) ≡ step_count w
  steps-in = let c = f.counts in let d = length-drop (steps_at w) w in omega arith

  -- every information place is below n
  pub info-below : (k : ℕ) → k < info_count w → get_or (info_in w) k 0 < plan_places w
  info-below k l = (rising-at (plan_places w) 0 (info_in w) f.rises k (let e = info-length in omega arith)).1

  -- one step a number
  pub steps-length : length (steps_of w) ≡ step_count w
  steps-length = unpack_all-length (slots w) (info_in w) (steps_in w) f.steps ∙ steps-in

  pub step-at : (d : Step) (i : ℕ) → i < step_count w → unpack (get_or w (steps_at w + i) 0) ≡ some (get_or (steps_of w) i d)
  step-at d i l =
      ap unpack (sym (get_or-drop (steps_at w) w i 0))
      ∙ unpack_all-at (slots w) (info_in w) d (steps_in w) f.steps i (let e = steps-in in omega arith)

  -- its slots are there and different, and no information place is written
  pub step-sound : (d : Step) (i : ℕ) → i < step_count w → Sound (slots w) (info_in w) (get_or (steps_of w) i d)
  step-sound d i l =
      let b : i < length (steps_in w) = (let e = steps-in in omega arith) in
      sound (slots w) (info_in w) (get_or (steps_of w) i d)
      (subst (λ (o : Option Step). good_step (slots w) (info_in w) o ≡ true) (unpack_all-at (slots w) (info_in w) d (steps_in w) f.steps i b)
      (good-at (slots w) (info_in w) (steps_in w) f.steps i b))
