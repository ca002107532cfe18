-- The tests of the counts, one after the other: what the first that fires, or the last, says of all.
use mathlib.Core.Path.{◌≡◌}
use mathlib.Core.Bool.{true, false, not}
use mathlib.Core.List.{List}
use Prim.Native.Nat.{ℕ, ◌+◌, ◌-◌, ◌<◌, ◌≤◌}
use borrow.Author.Tests.{eq-eqb, ne_eqb, lt-ltb, le-ltb}
use lib.Dec.{eqb}
use lib.ListN.{length, get_or}
use Rattle.table.specs.Table.{most_places, most_checks, outside}
use Rattle.plan.specs.Layout.{most_aside, most_steps, head_count, least_numbers, plan_places, plan_gap, plan_kept, info_count, step_count, steps_at, bad_lengths, bad_limits, bad_counts}

module _ (w : List ℕ) where
  pub lengths-info : (info_count w ≡ plan_places w - plan_kept w → ⊥) → true ≡ bad_lengths w
  lengths-info a = rw (ne_eqb (info_count w) (plan_places w - plan_kept w) a)

  pub lengths_short : info_count w ≡ plan_places w - plan_kept w → length w < steps_at w → true ≡ bad_lengths w
  lengths_short a b = rw (eq-eqb (info_count w) (plan_places w - plan_kept w) a, lt-ltb (length w) (steps_at w) b)

  pub lengths-steps : info_count w ≡ plan_places w - plan_kept w → steps_at w ≤ length w → most_steps < step_count w → true ≡ bad_lengths w
  lengths-steps a b d =
      rw (eq-eqb (info_count w) (plan_places w - plan_kept w) a, le-ltb (length w) (steps_at w) b, lt-ltb most_steps (step_count w) d)

  pub lengths-last : info_count w ≡ plan_places w - plan_kept w → steps_at w ≤ length w → step_count w ≤ most_steps
      → not (eqb (length w) (steps_at w + step_count w)) ≡ bad_lengths w
  lengths-last a b d =
      rw (eq-eqb (info_count w) (plan_places w - plan_kept w) a, le-ltb (length w) (steps_at w) b, le-ltb most_steps (step_count w) d)

  pub limits-places : outside most_places (plan_places w) ≡ true → true ≡ bad_limits w
  limits-places a = rw a

  module _ (a : outside most_places (plan_places w) ≡ false) where
    pub limits-gap : most_aside < plan_gap w → true ≡ bad_limits w
    limits-gap d = rw (a, lt-ltb most_aside (plan_gap w) d)

    module _ (d : plan_gap w ≤ most_aside) where
      pub limits-aside : plan_kept w < plan_gap w → true ≡ bad_limits w
      limits-aside e = rw (a, le-ltb most_aside (plan_gap w) d, lt-ltb (plan_kept w) (plan_gap w) e)

      module _ (e : plan_gap w ≤ plan_kept w) where
        pub limits-kept : plan_places w < plan_kept w → true ≡ bad_limits w
        limits-kept f = rw (a, le-ltb most_aside (plan_gap w) d, le-ltb (plan_kept w) (plan_gap w) e, lt-ltb (plan_places w) (plan_kept w) f)

        module _ (f : plan_kept w ≤ plan_places w) where
          pub limits-checks : most_checks < plan_kept w → true ≡ bad_limits w
          limits-checks h = rw (a, le-ltb most_aside (plan_gap w) d, le-ltb (plan_kept w) (plan_gap w) e, le-ltb (plan_places w) (plan_kept w) f, lt-ltb most_checks (plan_kept w) h)

          pub limits-last : plan_kept w ≤ most_checks → false ≡ bad_limits w
          limits-last h = rw (a, le-ltb most_aside (plan_gap w) d, le-ltb (plan_kept w) (plan_gap w) e, le-ltb (plan_places w) (plan_kept w) f, le-ltb most_checks (plan_kept w) h)

  pub counts-short : length w < least_numbers → true ≡ bad_counts w
  counts-short a = rw (lt-ltb (length w) least_numbers a)

  pub counts-first : least_numbers ≤ length w → (get_or w 0 0 ≡ head_count → ⊥) → true ≡ bad_counts w
  counts-first a b = rw (le-ltb (length w) least_numbers a, ne_eqb (get_or w 0 0) head_count b)

  pub counts-limits : least_numbers ≤ length w → get_or w 0 0 ≡ head_count → bad_limits w ≡ true → true ≡ bad_counts w
  counts-limits a b d = rw (le-ltb (length w) least_numbers a, eq-eqb (get_or w 0 0) head_count b, d)

  pub counts-last : least_numbers ≤ length w → get_or w 0 0 ≡ head_count → bad_limits w ≡ false → bad_lengths w ≡ bad_counts w
  counts-last a b d = rw (le-ltb (length w) least_numbers a, eq-eqb (get_or w 0 0) head_count b, d)
