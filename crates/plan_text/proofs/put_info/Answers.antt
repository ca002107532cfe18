-- `plan_text::put_info` meets its contract: the first word and the places.
use native.Mathlib.Omega.{arith}
use Rattle.text.specs.LinesLaws.{both_words}
use Rattle.plan_text.proofs.put_info.Goals as goal

pub returns : goal.returns
returns c = both_words (omega (arith, c.requires)) c.put-at.ensures c.put_places.ensures
