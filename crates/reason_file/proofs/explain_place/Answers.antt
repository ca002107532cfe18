-- `reason_file::explain_place` is safe: the reason's list lies within its buffer.
use Rattle.refusals.proofs.Numbers.{number-some}
use Rattle.reason_file.proofs.Refusing.{refused-some}
use Rattle.reason_file.proofs.Listed.{list-within, list_counts}
use Rattle.reason_file.proofs.explain_place.Goals as goal

pub refuse-requires : goal.refuse-requires
refuse-requires g c = refused-some _ _ _ _ _ _ _ _ _ _ _ c.in-Err.ensures.reason (number-some c.in-Err.refusal)

pub slice_bounds-reason-end : goal.slice_bounds-reason-end
slice_bounds-reason-end g c = rw c.list_length-length.ensures (list-within _ _ _ _ _ _ _ _ _ _ _ c.in-Ok.ensures.reason)

pub slice_bounds-print_reason-end : goal.slice_bounds-print_reason-end
slice_bounds-print_reason-end g c = rw c.list_length-length.ensures (list_counts _ _ _ _ _ _ _ _ _ _ _ c.in-Ok.ensures.reason)
