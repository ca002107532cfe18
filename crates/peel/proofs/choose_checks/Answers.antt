-- `peel::choose_checks` meets its contract.
use Rattle.std.proofs.Common.{ℕ, ap, ◌∙◌, replicate, arith}
use Rattle.table.specs.Accepted.{few-checks}
use Rattle.freed.specs.Locating.{located}
use Rattle.peel.proofs.Choosing.{numbers_of, choice}
use Rattle.peel.proofs.choose_checks.Goals as goal

pub ones_of-ones-requires : goal.ones_of-ones-requires
ones_of-ones-requires c = numbers_of c.keep_checks-k.ensures.kept

pub peel_kept-c-requires : goal.peel_kept-c-requires
peel_kept-c-requires c =
    let f = few-checks _ _ _ _ c.args.located.now.table.accepted in
    let r = c.requires.room in
    record { kept = numbers_of c.keep_checks-k.ensures.kept; room = record { taken = omega arith; places = omega arith; put = omega arith } }

pub returns : goal.returns
returns c =
    let p = c.requires in
    let r = p.room in
    let d = located c.args.located.now.table.accepted c.args.located.now.starts_at in
    record {
      choice = choice d.table c.keep_checks-k.ensures.kept.count c.ones_of-ones.ensures c.peel_kept-c.ensures (record { taken = omega arith; places = omega arith; put = omega arith });
      work = c.keep_checks-k.ensures.work ∙ ap (λ (k : ℕ). replicate k 0) p.work;
    }
