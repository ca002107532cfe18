-- Drawing until a draw passes: one draw of a loop, and what it ends in.
use mathlib.Core.Path.{◌≡◌, refl, sym, ap, ◌∙◌}
use mathlib.Core.Bool.{Bool, true, false}
use Prim.Native.Nat.{ℕ, ◌<◌}
use Rattle.draws.specs.Draws.{Draws}
use Rattle.draws.specs.DrawingLaws.{draw-hit, draw-miss, until-gives}
use Rattle.draws.specs.Generator.{modulus, until}
use Rattle.lots.specs.Grid.{Sought}
use Rattle.std.specs.Prelude.{Some, None}

-- drawing goes on from x, with l draws left
pub record Goes (max raw left : ℕ) (f : ℕ → Bool) (x l : ℕ) : Type 0 where
  pub small : x < modulus
  pub same : until left raw max f ≡ until l x max f

module _ {max raw left : ℕ} {f : ℕ → Bool} where
  pub starts : raw < modulus → Goes max raw left f raw left
  starts h = record { small = h; same = refl }

  -- the draw passes ..
  pub passes : {x l v x' l' : ℕ} → Goes max raw left f x l → Draws max x l v x' l' → f v ≡ true → Sought max raw left f (Some v) x' l'
  passes g d t = record { drawn = sym (g.same ∙ draw-hit d f t); small = d.small; below = d.below }

  -- .. or not
  pub fails : {x l v x' l' : ℕ} → Goes max raw left f x l → Draws max x l v x' l' → f v ≡ false → Goes max raw left f x' l'
  fails g d t = record { small = d.small; same = g.same ∙ draw-miss d f t }

  -- no draws are left
  pub ends : {x l l' : ℕ} → l ≡ 0 → Goes max raw left f x l → Sought max raw left f None x l'
  ends {x} z g = record { drawn = sym (g.same ∙ ap (λ y. until y x max f) z); small = g.small; below = tt }

  -- what was drawn passes
  pub drawn-passes : {v raw' left' : ℕ} → Sought max raw left f (Some v) raw' left' → f v ≡ true
  drawn-passes {v} {raw'} {left'} s = (until-gives left raw max f (record { value = v; raw = raw'; left = left' }) (sym s.drawn)).0
