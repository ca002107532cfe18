-- `marks::over` meets its contract.
use lib.Dec.{ltb}
use mathlib.Core.Path.{◌∙◌}
use Rattle.std.proofs.Common.{rules, tests}
use Rattle.std.proofs.lemmas.Iterator.{YieldsList-from_slice}
use Rattle.std.proofs.lemmas.Iterator.Search.{any_from_yields_List}
use Rattle.marks.proofs.MapLaws.{any_is}
use Rattle.marks.proofs.over.Goals as goal

pub returns : goal.returns
returns c =
    let xs = c.args.map.now in
    any_from_yields_List (ltb c.args.most) _ _ _ c.any.ensures.ran (YieldsList-from_slice xs cc) (λ x b q k. search (rules, tests)) ∙ any_is (ltb c.args.most) xs
