-- `runs::add_run` meets its contract: its steps are decoded with the first piece, or before it.
use Rattle.runs.specs.GatherLaws.{gathers-on}
use Rattle.runs.proofs.ListedLaws.{same-run, listed-run, listed-gathers}
use native.Mathlib.Omega.{arith}
use Rattle.runs.proofs.add_run.Goals as goal

pub run_rest-requires : goal.run_rest-requires
run_rest-requires c = record { slots = listed-run c.collect-count.ensures.list c.requires.run.slots; room = (omega arith, omega arith) }

pub returns-then-s-lt64 : goal.returns-then-s-lt64
returns-then-s-lt64 c = let r = c.collect-count.ensures.list in record { list = r; slot = listed-gathers r c.run_rest.ensures }

pub add_rest-requires : goal.add_rest-requires
add_rest-requires c =
    record { slots = same-run c.start_chunk-count.auto.block c.start_chunk-count.auto.scratch (listed-run c.start_chunk-count.ensures.list c.requires.run.slots); room = omega arith }

pub returns : goal.returns
returns c = let r = c.start_chunk-count.ensures in record { list = r.list; slot = gathers-on r.slot (listed-gathers r.list c.add_rest.ensures) }
