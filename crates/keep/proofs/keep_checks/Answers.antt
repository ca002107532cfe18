-- `keep::keep_checks` meets its contract.
use Rattle.lists.specs.ListLaws.{get_d-zeros}
use Rattle.keep.proofs.keep_checks.Goals as goal

pub keep-k-requires-clause-unowned : goal.keep-k-requires-clause-unowned
keep-k-requires-clause-unowned c = get_d-zeros 1024
