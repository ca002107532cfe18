-- `eliminate::take_all` meets its contract: `Takes` holds at each turn.
use Prim.Native.Nat.{◌+◌, ◌-◌, ◌*◌, ◌<◌, ◌≤◌}
use mathlib.Core.Path.{◌≡◌, refl, sym, ap, subst, ◌∙◌}
use mathlib.Core.Bool.{true, false, false≢true}
use native.Mathlib.Omega.{arith}
use lib.ListN.{length}
use Rattle.std.specs.Result.{is_ok}
use Rattle.std.proofs.Common.{rules}
use Rattle.lists.specs.Buffers.{part_length}
use Rattle.table.specs.Accepted.{few-places, light, check-count, places-at, check-is, check-fits, offset-more}
use Rattle.table.specs.SumLaws.{places-low}
use Rattle.table.specs.Table.{checks}
use Rattle.eliminate.specs.Eliminating.{Eliminated}
use Rattle.eliminate.specs.EliminatingLaws.{checks-low}
use Rattle.eliminate.proofs.Turning.{start, owners, still-known, turn-clash, turn-same, turn-miss, turn-hit, same_block, done}
use Rattle.eliminate.proofs.take_all.Goals as goal
use Rattle.eliminate.proofs.take_all.Goals.{in-Some, in_default}

pub loop-i-init : goal.loop-i-init
loop-i-init c = start _ _ _ _ _ _ _ _ c.requires.room.0 c.requires.unowned

pub run-places-requires : goal.run-places-requires
run-places-requires c =
    let l = c.loop-i in
    check-fits _ _ _ _ c.args.table.now.accepted l.i c.loop-i-test.true _ _ l.invariant.here c.from-weight.ensures

pub take_check-requires : goal.take_check-requires
take_check-requires c =
    let l = c.loop-i in
    let p = c.requires in
    let table = c.args.table.now.accepted in
    let less = c.loop-i-test.true in
    let wd = c.from-weight.ensures in
    let v = places-at _ _ _ _ table l.i less _ _ l.invariant.here wd _ refl in
    let is = check-is _ _ _ _ table l.i less _ _ l.invariant.here wd in
    let long = ap length c.run-places.ensures ∙ part_length c.args.table.now.words.now l.at c.from-weight.result v.room in
    let f = l.invariant.few in
    let few = few-places _ _ _ _ table in
    let lw = light _ _ _ _ table l.i less in
    let count = check-count _ _ _ _ table in
    let room = p.room.2 in
    let own = p.room.3 in
    record {
      given = record { below = rw c.run-places.ensures (places-low v); bytes = l.invariant.bytes };
      map = p.room.1;
      rows = (omega arith, few, omega arith, omega arith, owners l.invariant (omega arith));
      known = rw (c.run-places.ensures, is) (still-known l.invariant (omega arith) p.room.0 (checks-low _ _ _ _ table) (omega arith) p.known.zero);
    }

pub returns-in_err-p : goal.returns-in_err-p
returns-in_err-p c =
    let p = c.requires in
    let l = c.loop-i in
    let table = c.args.table.now.accepted in
    let less = c.loop-i-test.true in
    let wd = c.from-weight.ensures in
    let is = check-is _ _ _ _ table l.i less _ _ l.invariant.here wd in
    let low = checks-low _ _ _ _ table in
    let count = check-count _ _ _ _ table in
    let checks-more : l.i < length (checks c.args.table.now.words.now) = omega arith in
    let few = l.invariant.few in
    let room = p.room.2 in
    let rows : l.k * 16 ≤ length l.w = omega arith in
    let d = rw (c.run-places.ensures, is) at c.in_err-p.ensures.row in
    let sm = rw (c.run-places.ensures, is) at c.in_err-p.ensures.sum in
    let hit = sm.clashed refl in
    let own = p.room.3 in
    let long = d.put.len in
    let e : is_ok c.from_residual.result ≡ false = search rules in
    rw e (subst (Eliminated _ _ _ _ _ false _ _) (sym (sm.kept hit.0))
    (done (turn-same l.invariant rows p.room.0 low checks-more d) (omega arith) (omega arith) (few-places _ _ _ _ table) false (λ h. absurd (false≢true h))
    (λ h. turn-clash l.invariant rows p.room.0 low checks-more d hit.0 hit.1)))

pub overflow_add-at-in-loop-i : goal.overflow_add-at-in-loop-i
overflow_add-at-in-loop-i c =
    let l = c.loop-i in
    let r = check-fits _ _ _ _ c.args.table.now.accepted l.i c.loop-i-test.true _ _ l.invariant.here c.from-weight.ensures in
    omega arith

pub loop-i-preserved : goal.loop-i-preserved
loop-i-preserved c =
    let p = c.requires in
    let l = c.loop-i in
    let table = c.args.table.now.accepted in
    let less = c.loop-i-test.true in
    let wd = c.from-weight.ensures in
    let is = check-is _ _ _ _ table l.i less _ _ l.invariant.here wd in
    let low = checks-low _ _ _ _ table in
    let count = check-count _ _ _ _ table in
    let checks-more : l.i < length (checks c.args.table.now.words.now) = omega arith in
    let few = l.invariant.few in
    let room = p.room.2 in
    let rows : l.k * 16 ≤ length l.w = omega arith in
    let d = rw (c.run-places.ensures, is) at c.in_ok-p.ensures.row in
    let sm = rw (c.run-places.ensures, is) at c.in_ok-p.ensures.sum in
    let own = p.room.3 in
    let next = offset-more _ _ l.i _ _ l.invariant.here wd in
    elim c.match-branch-2.branch [
      | in-Some u ↦
          let i : u.in-Some.p + 1 - 1 ≡ u.in-Some.p = omega arith in
          let e = rw u.in-Some.is at d in
          let st = rw u.in-Some.is at sm in
          let most = e.most in
          rw (u.owner-is, u.k-is) (rw i at (turn-hit l.invariant rows p.room.0 low checks-more e (omega arith) (omega arith) (st.stored (omega arith)) _ next))
      | in_default u ↦
          let e = rw u.in_default.is at d in
          let st = rw u.in_default.is at sm in
          rw (u.owner-is, u.k-is) (same_block (st.kept refl) (turn-miss l.invariant rows p.room.0 low checks-more e refl (st.calm refl refl) _ next))
    ]

pub returns : goal.returns
returns c =
    let l = c.loop-i in
    let p = c.requires in
    let table = c.args.table.now.accepted in
    let e : l.i ≡ c.args.table.now.checks = omega arith in
    let few = l.invariant.few in
    let room = p.room.2 in
    let own = p.room.3 in
    done l.invariant (omega arith) (omega arith) (few-places _ _ _ _ table) true (λ h. e ∙ sym (check-count _ _ _ _ table)) (λ h. absurd (false≢true (sym h)))
