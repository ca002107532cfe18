-- `columns::push_all` meets its contract: k solved checks are put in.
use Rattle.std.proofs.Common.{ℕ, List, map}
use Rattle.rule.specs.Rule.{put_in_all}
use Rattle.rule.specs.Buffers.{solved}
use Rattle.table.specs.Checks.{check}
use Rattle.columns.specs.Cols.{Columns}
use Rattle.columns.proofs.push_all.Given as goal

abbrev pub invariant-loop-k : goal.invariant-loop-k
invariant-loop-k l = (E : List ℕ) → Columns E l.initial.col → Columns (map (put_in_all (solved (check l.located.table.words.now l.located.table.checks) l.order l.owns l.k)) E) l.col
