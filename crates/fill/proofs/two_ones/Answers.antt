-- `two_ones` meets its contract.
use mathlib.Core.Path.{refl}
use Rattle.fill.specs.Fill.{first_one, second_one}
use Rattle.fill.proofs.Going.{from-here, turn, stop, finish, two_ones}
use Rattle.fill.proofs.two_ones.Goals as goal

pub returns-then-not-first_one : goal.returns-then-not-first_one
returns-then-not-first_one c =
    let a = c.args in
    let d = c.first_one in
    let f = two_ones a.k a.i in
    let g = second_one a.k a.i in
    let t = c.if-not-first_one.true in
    λ m e h s r. stop (f s) f (first_one a.k a.i) g _ _ d.result (λ x. refl) (d.ensures m e h) t (from-here _ f s r) _ _ refl

pub second_one-requires : goal.second_one-requires
second_one-requires c =
    let a = c.args in
    let p = c.requires in
    let d = c.first_one in
    let f = two_ones a.k a.i in
    let g = second_one a.k a.i in
    let t = c.if-not-first_one.false in
    let r = turn (f p.state) f (first_one a.k a.i) g _ _ d.result (λ x. refl)
    (d.ensures p.m p.e p.row) t (from-here _ f p.state p.rep) in
    record { m = p.m; e = p.e; state = r.state; row = p.row; rep = r.holds }

pub returns : goal.returns
returns c =
    let a = c.args in
    let d = c.first_one in
    let q = c.second_one in
    let f = two_ones a.k a.i in
    let g = second_one a.k a.i in
    let t = c.if-not-first_one.false in
    λ m e h s r. finish (f s) g _ _ q.result (q.ensures m e h)
    (turn (f s) f (first_one a.k a.i) g _ _ d.result (λ x. refl) (d.ensures m e h) t (from-here _ f s r))
