-- The bytes of a run of packets.
use Rattle.std.specs.Prelude.{◌≡◌, ℕ, ◌+◌, ◌*◌, ◌-◌, ◌≤◌}
use Rattle.std.proofs.Common.{ap, mul-le-mul_right, arith}

-- the bytes of packets i to r − 1 of so many
pub run-bytes : (i r count s : ℕ) → i ≤ r → r ≤ count → i * s + (r - i) * s ≤ count * s
run-bytes i r count s h g =
    let d = r - i in
    let e : (i + d) * s ≡ r * s = ap (λ (k : ℕ). k * s) (omega arith) in
    omega (arith, mul-le-mul_right s g)
