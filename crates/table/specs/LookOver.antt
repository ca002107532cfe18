-- What the look at a table computes on the way.
use Rattle.std.specs.Prelude.{cond, List, ℕ, ltb}
use Rattle.lists.specs.Lists.{any_of}
use Rattle.table.specs.Table.{most_weight, total}

-- the sum of weights; 65,536, which no word of a table is, if one is over the limit
abbrev pub weighed : List ℕ → ℕ
weighed ws = cond (any_of (ltb most_weight) ws) 65536 (total ws)
