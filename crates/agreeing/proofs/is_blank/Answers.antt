-- `is_blank` meets its contract.
use Rattle.std.proofs.Common.{arith, refl}
use Rattle.std.proofs.lemmas.Bool.{false≢true}
use Rattle.tiles.specs.BoardLaws.{words-blank}
use Rattle.agreeing.proofs.Tile.{blank-word}
use Rattle.agreeing.proofs.is_blank.Goals as goal

pub returns-then-x-ne0 : goal.returns-then-x-ne0
returns-then-x-ne0 c = record { yes = λ f. absurd (false≢true f); no = λ z. absurd (c.if-x-ne0.true (blank-word _ _ (omega arith) (c.type_inv.board c.loop-x.x-index).fits z)) }

pub returns : goal.returns
returns c = record { yes = λ t. words-blank _ (λ k h. c.loop-x.invariant k (omega arith)); no = λ z. refl }
