-- `aerials::hear_all` meets its contract.
use Rattle.erasure.specs.Offered.{held}
use Rattle.aerials.specs.Aerials.{packet_of, kind_of, heard_at}
use Rattle.packets.specs.Filling.{Filled}
use Rattle.aerials.proofs.hear_all.Given as goal

abbrev pub invariant-loop-p : goal.invariant-loop-p
invariant-loop-p l =
    Filled l.n l.s (λ k. packet_of l.s (heard_at l.s (held l.block1 l.map1) (held l.block2 l.map2) k)) (λ k. kind_of (heard_at l.s (held l.block1 l.map1) (held l.block2 l.map2) k)) l.initial.block3 l.initial.map3 l.p l.block3 l.map3
