-- `verify::lowest_failing` meets its contract.
use Rattle.std.specs.Prelude.{◌≡◌, ◌<◌, ℕ, ◌+◌, Bool, List, [], get_or, drop}
use Rattle.table.specs.Checks.{offset}
use Rattle.table.specs.Packets.{packets}
use Rattle.table.specs.Table.{checks}
use Rattle.faults.specs.Faults.{failing}
use Rattle.verify.specs.Verify.{Judges}
use Rattle.verify.proofs.lowest_failing.Given as goal

abbrev pub invariant-loop-j : goal.invariant-loop-j
invariant-loop-j g l =
    let t = l.table.words.now in
    let s = l.table.size in
    let b = packets s l.table.places l.block in
    (l.at ≡ 5 + l.table.checks + offset t l.j)
    × ((counts : List ℕ → Bool) → ((j : ℕ) (r : Bool) → j < l.table.checks → goal.F-post g l.judged j r → Judges s b counts (get_or (checks t) j []) r)
    → failing counts s b 0 (checks t) ≡ failing counts s b l.j (drop l.j (checks t)))
