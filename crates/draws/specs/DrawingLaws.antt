-- Draws: what is drawn passes and lies below its bound; one draw of `until` at a time.
use Rattle.std.specs.Prelude.{◌≡◌, Bool, true, false, ℕ, zero, suc, ◌*◌, ◌-◌, ◌/◌, ◌<◌}
use Rattle.std.proofs.Common.{sym, ap, ◌∙◌, subst, mod-lt, div-lt_iff_lt-mul, arith}
use Rattle.std.proofs.Math.Option.{Option, none, some}
use Rattle.std.proofs.Math.Nat.{mul-lt-mul_of_pos_left}
use Rattle.lists.specs.Tests.{by_bool}
use Rattle.draws.specs.Draws.{Draws}
use Rattle.draws.specs.Generator.{modulus, next, drawn, Drawn, until}

-- a quotient by what the second factor is below
part-lt : (max x p : ℕ) → 0 < max → x < p → max * x / p < max
part-lt max x p a b = (div-lt_iff_lt-mul {k = p} {x = max * x} {y = max} (omega arith)).1 (mul-lt-mul_of_pos_left b a)

-- a draw lies below its bound
pub drawn-low : (max raw : ℕ) → 0 < max → drawn max (next raw) < max
drawn-low max raw h = part-lt max (next raw) modulus h (mod-lt (16807 * raw) (omega arith))

-- what is drawn passes, and lies below the bound
pub until-gives : (left raw max : ℕ) (f : ℕ → Bool) (d : Drawn) → until left raw max f ≡ some d → (f d.value ≡ true) × (0 < max → d.value < max)
until-gives zero raw max f d e = absurd (nothing e)
  where
    nothing : ◌≡◌ {A = Option Drawn} none (some d) → ⊥
    nothing e = let z : ◌≡◌ {A = ℕ} 0 1 = cc in omega arith
until-gives (suc left) raw max f d e = by_bool (f (drawn max (next raw)))
    (λ t. let v : drawn max (next raw) ≡ d.value = ap Drawn.value (same (rw (t, until) at e)) in
    (ap f (sym v) ∙ t, λ h. subst (λ (x : ℕ). x < max) v (drawn-low max raw h)))
    (λ t. until-gives left (next raw) max f d (rw (t, until) at e))
  where
    same : {a b : Drawn} → some a ≡ some b → a ≡ b
    same e = cc

-- the next value is below the modulus: a raw value fits 31 bits
pub next_low : (raw : ℕ) → next raw < modulus
next_low raw = mod-lt (16807 * raw) (omega arith)

-- a draw that passes ends it ..
pub until-hit : (left raw max : ℕ) (f : ℕ → Bool) → f (drawn max (next raw)) ≡ true
    → until (suc left) raw max f ≡ some (record { value = drawn max (next raw); raw = next raw; left = left })
until-hit left raw max f e = rw (e, until)

-- .. and one that does not leaves the rest to decide
pub until-miss : (left raw max : ℕ) (f : ℕ → Bool) → f (drawn max (next raw)) ≡ false → until (suc left) raw max f ≡ until left (next raw) max f
until-miss left raw max f e = rw (e, until)

-- one draw, as code makes it
pub one-draw : (max raw left x : ℕ) → 0 < max → 0 < left → x ≡ next raw → Draws max raw left (max * x / modulus) x (left - 1)
one-draw max raw left x h l e = record {
  value-is = ap (drawn max) e;
  raw-is = e;
  left_is = omega arith;
  below = part-lt max x modulus h (subst (λ (y : ℕ). y < modulus) (sym e) (next_low raw));
  small = subst (λ (y : ℕ). y < modulus) (sym e) (next_low raw);
}

-- the draws of a code's draw
module _ {max raw left value raw' left' : ℕ} (d : Draws max raw left value raw' left') (f : ℕ → Bool) where
  pub draw-hit : f value ≡ true → until left raw max f ≡ some (record { value = value; raw = raw'; left = left' })
  draw-hit e = rw (d.left_is, d.value-is, d.raw-is) (until-hit left' raw max f (ap f (sym d.value-is) ∙ e))

  pub draw-miss : f value ≡ false → until left raw max f ≡ until left' raw' max f
  draw-miss e = rw (d.left_is, d.raw-is) (until-miss left' raw max f (ap f (sym d.value-is) ∙ e))
