-- Where slots lie, and what buffers hold.
use Rattle.std.specs.Prelude.{◌≡◌, List, ℕ, ◌+◌, ◌*◌, ◌-◌, ◌<◌}
use Rattle.std.proofs.Common.{subst, arith}
use Rattle.table.specs.BufferLaws.{place-fits}
use Rattle.slots.specs.Slots.{Holds, SlotIn}

-- a slot among n + g lies where it should
pub slot-in : (n g s b c p : ℕ) → b ≡ n * s → c ≡ g * s → p < n + g → SlotIn n s b c p
slot-in n g s b c p e f h = record {
  below = λ l. omega (arith, place-fits p n s l);
  above = λ l. let k : p - n < g = omega arith in omega (arith, place-fits (p - n) g s k);
}

pub holds_as : {n s : ℕ} {st st' : List (List ℕ)} {b c : List ℕ} → st ≡ st' → Holds n s st b c → Holds n s st' b c
holds_as {n} {s} {st} {st'} {b} {c} e h = subst (λ z. Holds n s z b c) e h
