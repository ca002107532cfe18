-- `look_over` meets its contract: the first cause that holds.
use mathlib.Core.Path.{sym, ◌∙◌}
use borrow.Author.Rules.{rules}
use Rattle.table.proofs.Looking.{few-checks, places-room, cause-1, cause-2, cause-3, cause-4, no-cause}
use Rattle.table.proofs.look_over.Goals as goal

pub returns-then-t-lt5 : goal.returns-then-t-lt5
returns-then-t-lt5 c = cause-1 c.args.t.now c.if-t-lt5.true

pub returns-then-beyond_limits : goal.returns-then-beyond_limits
returns-then-beyond_limits c = cause-2 c.args.t.now c.if-t-lt5.false (sym c.beyond_limits.ensures ∙ c.if-beyond_limits.true)

pub bad_lengths-requires : goal.bad_lengths-requires
bad_lengths-requires c = (search rules, few-checks c.args.t.now (sym c.beyond_limits.ensures ∙ c.if-beyond_limits.false))

pub returns-then-bad_lengths : goal.returns-then-bad_lengths
returns-then-bad_lengths c = cause-3 c.args.t.now c.if-t-lt5.false (sym c.beyond_limits.ensures ∙ c.if-beyond_limits.false) (sym c.bad_lengths.ensures ∙ c.if-bad_lengths.true)

pub bad_places-requires : goal.bad_places-requires
bad_places-requires c = places-room c.args.t.now (sym c.bad_lengths.ensures ∙ c.if-bad_lengths.false)

pub returns-then-bad_places : goal.returns-then-bad_places
returns-then-bad_places c =
    cause-4 c.args.t.now c.if-t-lt5.false (sym c.beyond_limits.ensures ∙ c.if-beyond_limits.false) (sym c.bad_lengths.ensures ∙ c.if-bad_lengths.false) (sym c.bad_places.ensures ∙ c.if-bad_places.true)

pub returns : goal.returns
returns c =
    no-cause c.args.t.now c.if-t-lt5.false (sym c.beyond_limits.ensures ∙ c.if-beyond_limits.false) (sym c.bad_lengths.ensures ∙ c.if-bad_lengths.false) (sym c.bad_places.ensures ∙ c.if-bad_places.false)
