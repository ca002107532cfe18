-- The scan for the highest place that passes.
use mathlib.Core.Path.{◌≡◌, refl, sym, ap}
use mathlib.Core.Bool.{Bool, true, false}
use Prim.Native.Nat.{ℕ, zero, suc, ◌-◌, ◌<◌}
use native.Mathlib.Omega.{arith}
use Rattle.lists.specs.Lists.{highest}
use Rattle.live.specs.Live.{found}
use Rattle.std.specs.declared.option.Option.TheVariants.{Some, None}

pub scan-hit : (p : ℕ) (f : ℕ → Bool) → 0 < p → f (p - 1) ≡ true → found (highest p f) ≡ Some (p - 1)
unfolding found
scan-hit zero f h e = absurd (omega arith)
scan-hit (suc p) f h e = let q : suc p - 1 ≡ p = omega arith in rw (rw q at e, highest) (ap Some (sym q))

pub scan-miss : (p : ℕ) (f : ℕ → Bool) → 0 < p → f (p - 1) ≡ false → highest p f ≡ highest (p - 1) f
scan-miss zero f h e = absurd (omega arith)
scan-miss (suc p) f h e = let q : suc p - 1 ≡ p = omega arith in rw (q, rw q at e, highest)

pub scan-none : (f : ℕ → Bool) → found (highest 0 f) ≡ None
unfolding found
scan-none f = refl
