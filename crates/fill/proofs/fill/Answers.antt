-- `fill` meets its contract.
use Prim.Native.Nat.{ℕ}
use lib.ListN.{length-replicate}
use Rattle.lists.specs.ListLaws.{get_d-zeros}
use Rattle.fill.proofs.fill.Goals as goal

pub fill_by-requires : goal.fill_by-requires
fill_by-requires c = let p = c.requires in (p.0, p.1, length-replicate {A = ℕ} 10240 0, get_d-zeros 10240, p.2, p.3, p.4, p.5, p.6, p.7)
