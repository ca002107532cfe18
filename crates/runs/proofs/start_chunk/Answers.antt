-- `runs::start_chunk` meets its contract: what the run starts from is added to 64 bytes of zeros, then its slots as they are decoded, and the sum is put back.
use Prim.Native.Nat.{ℕ}
use mathlib.Core.Path.{refl}
use lib.ListN.{replicate, length-replicate}
use Rattle.runs.specs.GatherLaws.{gathers-part, gathers-as}
use native.Mathlib.Omega.{arith}
use Rattle.runs.proofs.start_chunk.Goals as goal

pub collect-count-requires : goal.collect-count-requires
collect-count-requires c =
    let p = c.requires in
    record { run = p.run; room = omega (arith, c.add_base.auto.acc, length-replicate {A = ℕ} 64 0); list = p.list }

pub returns : goal.returns
returns c =
    let e = c.collect-count.ensures in
    let long = length-replicate {A = ℕ} 64 0 in record {
      list = e.list;
      slot = gathers-as (omega arith)
          (gathers-part 0 (replicate 64 0) _ _ refl (omega (arith, c.requires.room)) c.add_base.auto.acc c.add_base.ensures e.sum c.put_part.ensures);
    }
