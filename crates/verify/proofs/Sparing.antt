-- A check that is spared doesn't fail.
use Rattle.std.specs.Prelude.{◌≡◌, ◌⊎◌, Bool, true, false, List, [], ℕ, ◌+◌, ◌<◌, length, get_or, drop}
use mathlib.Core.Logic.{⊎_elim}
use Rattle.faults.proofs.FaultLaws.{fault-zero, fault_past}
use Rattle.faults.specs.Faults.{failing}
use Rattle.lists.specs.Tests.{by_bool}
use Rattle.table.specs.Codewords.{zero_sum}

pub fault-spared : (counts : List ℕ → Bool) (s : ℕ) (b cs : List (List ℕ)) (j : ℕ) → j < length cs → (counts (get_or cs j []) ≡ false) ⊎ (zero_sum s b (get_or cs j []) ≡ true)
    → failing counts s b j (drop j cs) ≡ failing counts s b (j + 1) (drop (j + 1) cs)
fault-spared counts s b cs j h e = by_bool (counts (get_or cs j []))
    (λ y. ⊎_elim (λ n. fault_past counts s b cs j h n) (λ z. fault-zero counts s b cs j h y z) e)
    (λ n. fault_past counts s b cs j h n)
