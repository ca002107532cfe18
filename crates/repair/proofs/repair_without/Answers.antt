-- `repair::repair_without` meets its contract.
use mathlib.Core.Path.{refl}
use Rattle.repair.proofs.Answering.{answer-without}
use Rattle.repair.proofs.repair_without.Goals as goal

pub returns : goal.returns
returns c = let a = c.args in let p = c.requires in answer-without a.table.now.words.now a.block.now a.map.now a.p p.fits p.agrees _ _ _ c.in_ok-done.ensures _ refl refl
