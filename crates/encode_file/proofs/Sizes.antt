-- The sizes of buffers.
use mathlib.Core.Path.{◌≡◌}
use mathlib.Core.Bool.{false}
use mathlib.Core.List.{List}
use Prim.Native.Nat.{ℕ, ◌*◌, ◌≤◌}
use native.Mathlib.Nat.{mul-le-mul, mul-le-mul_right}
use native.Mathlib.Omega.{arith}
use lib.ListN.{length}
use Rattle.table.specs.Table.{most_bytes, outside}
use Rattle.table.specs.TableLaws.{inside-high}
use Rattle.plan.specs.Layout.{least_numbers, plan_refusal, plan_places, plan_gap, info_count}
use Rattle.plan.specs.LayoutLaws.{Counted, well}

-- of a well-formed plan, at s bytes a packet: information and scratch are no larger than the block
pub record Sizes (w : List ℕ) (s : ℕ) : Type 0 where
  pub long : least_numbers ≤ length w
  pub block : plan_places w * s ≤ 1048576
  pub information : info_count w * s ≤ plan_places w * s
  pub scratch : plan_gap w * s ≤ plan_places w * s

pub sizes : (w : List ℕ) (s : ℕ) → plan_refusal w ≡ 0 → outside most_bytes s ≡ false → Sizes w s
sizes w s h k =
    let c : Counted w = (well w h).counts in
    record {
      long = omega (arith, c.whole);
      block = mul-le-mul c.few-places (inside-high most_bytes s k);
      information = mul-le-mul_right s (omega (arith, c.info));
      scratch = mul-le-mul_right s (omega (arith, c.aside-kept, c.kept-places));
    }
