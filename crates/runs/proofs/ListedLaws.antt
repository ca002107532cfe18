-- A run in buffers of the same length, and one whose sources are listed.
use mathlib.Core.Path.{◌≡◌, ap}
use mathlib.Core.Bool.{Bool}
use mathlib.Core.List.{List}
use Prim.Native.Nat.{ℕ, ◌≤◌}
use native.Mathlib.Omega.{arith}
use lib.ListN.{length, take, length-take}
use Rattle.slots.specs.Runs.{Listed}
use Rattle.slots.specs.Slots.{RunIn, Gathers}

-- in buffers of the same length
pub same-run : {n s b c b' c' to : ℕ} {fs : List ℕ} → b' ≡ b → c' ≡ c → RunIn n s b c to fs → RunIn n s b' c' to fs
same-run e f h = rw (e, f) h

-- ---- a run that is listed
pub listed-room : {fs : List ℕ} {r : ℕ} {l : List ℕ} → Listed fs r l → r ≤ length l
listed-room {fs} {r} {l} h = let e = length-take r l in let g = ap length h.front in omega (arith, h.count)

pub listed-run : {fs : List ℕ} {r : ℕ} {l : List ℕ} {n s b c to : ℕ} → Listed fs r l → RunIn n s b c to fs → RunIn n s b c to (take r l)
listed-run h k = rw h.front k

pub listed-gathers : {fs : List ℕ} {r : ℕ} {l : List ℕ} {n s : ℕ} {fresh : Bool} {to i j : ℕ} {b c b' c' : List ℕ} → Listed fs r l
    → Gathers n s fresh to (take r l) i j b c b' c' → Gathers n s fresh to fs i j b c b' c'
listed-gathers h g = rw h.front at g
