-- `runs::run_part` meets its contract: what the run starts from is added, then its slots, and the sum is put back.
use Rattle.runs.specs.GatherLaws.{gathers-part}
use Rattle.runs.proofs.run_part.Goals as goal

pub returns : goal.returns
returns c =
    let a = c.args in
    let p = c.requires in
    gathers-part a.off a.acc.now _ _ p.zero p.room c.add_base.auto.acc c.add_base.ensures c.add_sources.ensures c.put_part.ensures
