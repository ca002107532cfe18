-- The three ways out of decoding.
use mathlib.Core.Path.{◌≡◌, refl}
use Prim.Native.Nat.{ℕ, zero, suc}
use Rattle.std.specs.declared.option.Option.TheVariants.{Some, None}
use Rattle.plan.specs.declared.Step.TheVariants.{Clear, Add}
use Rattle.plan.specs.Step.{step_of, decoded_of}

pub decoded-add : (k to from : ℕ) → k ≡ 1 → Some (Add to from) ≡ decoded_of (step_of k to from)
decoded-add k to from e = rw e

pub decoded-clear : (k to from : ℕ) → k ≡ 0 → from ≡ 0 → Some (Clear to) ≡ decoded_of (step_of k to from)
decoded-clear k to from e h = rw (e, h)

pub decoded-none : (k to from : ℕ) → (k ≡ 1 → ⊥) → (k ≡ 0 → from ≡ 0 → ⊥) → None ≡ decoded_of (step_of k to from)
decoded-none zero to zero a b = absurd (b refl refl)
decoded-none zero to (suc from) a b = refl
decoded-none (suc zero) to from a b = absurd (a refl)
decoded-none (suc (suc k)) to from a b = refl
