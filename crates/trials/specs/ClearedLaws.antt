-- A block whose lost places are zero.
use Rattle.std.specs.Prelude.{◌≡◌, List, ℕ}
use Rattle.std.proofs.Common.{ap, ◌∙◌}
use Rattle.table.specs.PacketLaws.{packets-length, packets-sized, packets-of}
use Rattle.table.specs.Packets.{packets}
use Rattle.erasure.proofs.OutcomeLaws.{zero_lost-sized}
use Rattle.erasure.specs.Restoring.{zero_lost}
use Rattle.erasure.proofs.Values.{zero_lost-length}
use Rattle.trials.specs.Cleared.{Cleared}

-- lost places are zero already
pub cleared-packets : (n s : ℕ) (b map : List ℕ) → Cleared n s b map → packets s n b ≡ zero_lost s map (packets s n b)
cleared-packets n s b map c =
    ap (packets s n) c.zero ∙ packets-of s n (zero_lost-length s map (packets s n b) ∙ packets-length s n b) (zero_lost-sized s map (packets-sized s n b c.bytes))
