-- `read_alist` meets its contract.
use mathlib.Core.Path.{refl}
use Rattle.lists.specs.ListLaws.{get_d-zeros}
use Rattle.tiles.specs.BoardLaws.{words-blank}
use Rattle.alist_read.proofs.read_alist.Goals as goal

pub read_in-requires : goal.read_in-requires
read_in-requires c = (refl, words-blank _ (λ k h. get_d-zeros 16384 k))
