-- `slots::collect` meets its contract: the sources passed are listed, and their parts added.
use Rattle.std.proofs.Common.{◌<◌, ◌≡◌, refl, sym, ap, ◌∙◌, ◌-◌, [], ◌∷◌, ◌++◌, length, take, ℕ, arith}
use lib.Seq.{take_all}
use Rattle.slots.specs.Runs.{sources_of}
use Rattle.slots.proofs.PartLaws.{parts_none, parts_more, parts-as, take-written}
use Rattle.slots.proofs.StepLaws.{passed_none, passed-end, passed-stop, passed-next}
use Rattle.slots.proofs.collect.Goals as goal

pub loop-count-init : goal.loop-count-init
loop-count-init c =
    let a = c.args in
    record { added = parts_none (omega arith); listed = refl; passed = passed_none a.plan.now a.first a.end a.to }

pub returns-in_default : goal.returns-in_default
returns-in_default c =
    let a = c.args in
    let p = c.requires.run in
    let l = c.loop-count in
    let fs = sources_of a.plan.now a.first a.end a.to in
    let e = passed-stop a.plan.now a.first a.end a.to l.count p.inside l.invariant.passed (omega arith) _ c.in_default.ensures.source (omega arith) in
    let all : take l.count fs ≡ fs = take_all l.count fs (omega arith) in
    record { list = record { count = e; front = l.invariant.listed ∙ all }; sum = parts-as all l.invariant.added }

pub add_part-requires : goal.add_part-requires
add_part-requires c =
    let a = c.args in
    let p = c.requires in
    let l = c.loop-count in
    let e = passed-next a.plan.now a.first a.end a.to l.count p.run.inside l.invariant.passed (omega arith) _ c.in-Some.ensures.source c.in-Some.ensures.slot in
    record { slot = rw (← e.is) (p.run.slots.sources.each l.count e.inside); room = omega arith }

pub loop-count-preserved : goal.loop-count-preserved
loop-count-preserved c =
    let a = c.args in
    let p = c.requires in
    let l = c.loop-count in
    let e = passed-next a.plan.now a.first a.end a.to l.count p.run.inside l.invariant.passed (omega arith) _ c.in-Some.ensures.source c.in-Some.ensures.slot in
    let room : l.count < length l.sources = omega arith in
    record {
      added = parts-as e.taken (parts_more l.auto.acc l.invariant.added c.add_part.ensures);
      listed = take-written l.sources l.count _ room ∙ ap (λ x. x ++ (c.in-Some.from ∷ [])) l.invariant.listed ∙ e.taken;
      passed = e.passed;
    }

pub returns : goal.returns
returns c =
    let a = c.args in
    let p = c.requires.run in
    let l = c.loop-count in
    let fs = sources_of a.plan.now a.first a.end a.to in
    let e = passed-end a.plan.now a.first a.end a.to l.count p.inside l.invariant.passed (omega (arith, p.order)) in
    let all : take l.count fs ≡ fs = take_all l.count fs (omega arith) in
    let n : l.count ≡ a.end - a.first = omega arith in
    record { list = record { count = sym n ∙ e; front = ap (λ (k : ℕ). take k l.sources) (sym n) ∙ l.invariant.listed ∙ all }; sum = parts-as all l.invariant.added }
