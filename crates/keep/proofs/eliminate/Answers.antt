-- `keep::eliminate` meets its contract.
use Rattle.std.proofs.Common.{sym, subst, arith}
use Rattle.gf2.specs.Gf2.{Short}
use Rattle.gf2.specs.EchelonLaws.{list-short}
use Rattle.lists.specs.ListLaws.{all-at, all_map}
use Rattle.rows.specs.LeadsLaws.{owners-kept, lowered-as}
use Rattle.keep.proofs.eliminate.Goals as goal

pub load-requires : goal.load-requires
load-requires c = let r = c.requires.room in (omega arith, all_map (λ q z. omega (arith, r.1, z)) c.requires.check)

pub reduce-requires-clause-rows : goal.reduce-requires-clause-rows
reduce-requires-clause-rows c =
    let a = c.args in
    let p = c.requires in
    let d = c.load.ensures in
    record {
      inside = omega arith;
      most = p.room.1;
      places = p.room.2;
      owners = owners-kept p.owners d;
      short = subst (Short a.n) (sym d.here) (list-short a.places.now a.n (λ j z. all-at 0 p.check j z));
    }

pub returns : goal.returns
returns c = lowered-as c.requires.owners c.load.ensures c.reduce.ensures.row
