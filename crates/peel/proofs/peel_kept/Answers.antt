-- `peel::peel_kept` meets its contract.
use Rattle.table.specs.Accepted.{few-places, few-checks}
use Rattle.table.specs.BufferLaws.{part-of-same}
use Rattle.peel.proofs.KeptLive.{zeros-all, zeros-part}
use Rattle.peel.proofs.peel_kept.Goals as goal

pub peel_live-requires : goal.peel_live-requires
peel_live-requires c =
    let p = c.requires in
    let n = c.args.located.now.table.places in
    let w = few-places _ _ _ _ c.args.located.now.table.accepted in record {
      kept = p.kept;
      fresh = record {
        flags = few-checks _ _ _ _ c.args.located.now.table.accepted;
        counts = part-of-same n 1024 0 w;
        named = w;
        none-live = zeros-all 512;
        none-counted = zeros-part 1024 n;
        none_named = zeros-all 1024;
      };
      room = p.room;
    }
