-- What contradicts: nothing exactly if every check without a lost place sums to zero, and else the lowest that doesn't.
use Rattle.std.specs.Prelude.{◌≡◌, refl, true, List, ℕ, eqb, length, replicate}
use Rattle.std.proofs.Common.{ap}
use Rattle.std.proofs.Math.Option.{Option, none, some}
use Rattle.faults.proofs.FaultLaws.{no-fault, none-fails, fails-none}
use Rattle.faults.specs.Faults.{Fault, no_fault, check_of, byte_of}
use Rattle.lists.specs.ListLaws.{all_map}
use Rattle.lists.specs.Lists.{All}
use Rattle.lists.specs.Tests.{eqb-true}
use Rattle.table.specs.Packets.{packet_sum}
use Rattle.erasure.specs.Restoring.{State, lost_places, none_lost, contradiction, consistent, counts_if}

-- every check without a lost place in state m sums to zero, over the packets w ..
abbrev pub Zeros : ℕ → List (List ℕ) → List (List ℕ) → State → Type 0
Zeros s w cs m = All (λ c. length (lost_places m.map c) ≡ 0 → packet_sum s w c ≡ replicate s 0) cs

-- .. over the state's own
abbrev pub Sums : ℕ → List (List ℕ) → State → Type 0
Sums s cs m = Zeros s m.block cs m

pub sums-of : (s : ℕ) (m : State) (cs : List (List ℕ)) → consistent s cs m ≡ true → Sums s cs m
sums-of s m cs h = all_map (λ c z e. z (ap (λ k. eqb k 0) e)) (none-fails (none_lost m.map) s m.block 0 cs (no-fault (contradiction s cs m) h))

pub of-sums : (s : ℕ) (m : State) {cs : List (List ℕ)} → Sums s cs m → consistent s cs m ≡ true
of-sums s m a = ap no_fault (fails-none (none_lost m.map) s m.block 0 (all_map (λ c z e. z (eqb-true _ 0 e)) a))

-- whether it agrees is told, and what doesn't
pub told : (f : Option Fault) (map : List ℕ) (m : State) → ((counts_if f map m).agrees ≡ no_fault f) × (((counts_if f map m).check ≡ check_of f) × ((counts_if f map m).byte ≡ byte_of f))
told none map m = (refl, (refl, refl))
told (some f) map m = (refl, (refl, refl))
