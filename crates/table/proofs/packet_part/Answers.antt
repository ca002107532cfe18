-- `packet_part` meets its contract.
use mathlib.Core.Path.{sym, ap, ◌∙◌}
use Rattle.refusals.proofs.Numbers.{number-some}
use Rattle.table.proofs.Calling.{part-given, part-empty, start-given, start-empty}
use Rattle.table.specs.PacketCallLaws.{packet-room}
use Rattle.table.proofs.packet_part.Goals as goal

pub part-requires : goal.part-requires
part-requires c = packet-room c.args.n c.args.s c.args.place _ (sym c.in-Ok.ensures)

pub returns-in-Ok : goal.returns-in-Ok
returns-in-Ok c = (
  c.part.ensures.0 ∙ part-given c.args.n c.args.s c.args.place c.args.block.now (sym c.in-Ok.ensures),
  c.part.ensures.1 ∙ ap (λ x. (c.args.block.ref_ptr.0, x)) (start-given c.args.n c.args.s c.args.place _ _ (sym c.in-Ok.ensures)),
)

pub returns-in-Err : goal.returns-in-Err
returns-in-Err c = (
  part-empty c.args.n c.args.s c.args.place c.args.block.now (λ z. number-some _ (c.in-Err.ensures ∙ z)),
  ap (λ x. (c.args.block.ref_ptr.0, x)) (start-empty c.args.n c.args.s c.args.place _ _ (λ z. number-some _ (c.in-Err.ensures ∙ z))),
)
