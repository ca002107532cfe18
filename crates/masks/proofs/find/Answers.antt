-- `masks::find` meets its contract: no mask below i sees the column.
use Rattle.std.proofs.Common.{sym, ◌∙◌, arith}
use Rattle.masks.proofs.Masks.{blind-more}
use Rattle.masks.proofs.find.Goals as goal

pub loop-i-preserved : goal.loop-i-preserved
loop-i-preserved c = blind-more c.args.masks.now c.args.c c.loop-i.i c.loop-i.invariant (sym c.sees.ensures ∙ c.if-sees.false)

pub returns-then-sees-clause-lowest : goal.returns-then-sees-clause-lowest
returns-then-sees-clause-lowest c = record { most = omega arith; sees = λ h. sym c.sees.ensures ∙ c.if-sees.true; blind = c.loop-i.invariant }

pub returns-clause-lowest : goal.returns-clause-lowest
returns-clause-lowest c = record { most = omega arith; sees = λ h. absurd (omega arith); blind = λ k h. c.loop-i.invariant k (omega arith) }
