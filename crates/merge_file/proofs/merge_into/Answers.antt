-- `merge_into` of merge_file: what is refused otherwise.
use Rattle.merge_file.proofs.Refusing.{not-eight, refused-before}
use Rattle.merge_file.proofs.merge_into.Goals as goal

pub refuse-requires : goal.refuse-requires
refuse-requires g c =
    let other = not-eight _ c.in_default.not-Contradiction c.in_default.not-NoCodeword in
    refused-before _ _ _ _ _ c.in-Err.ensures.report other
