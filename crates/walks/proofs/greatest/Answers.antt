-- `greatest` meets its contract.
use mathlib.Core.Path.{◌≡◌, refl, sym, ap, ◌∙◌}
use mathlib.Core.List.{List, [], ◌∷◌, ◌++◌}
use Prim.Native.Nat.{ℕ, max, ◌+◌, ◌<◌}
use native.Mathlib.Omega.{arith}
use lib.ListN.{length, get_or, take}
use Rattle.alist.specs.Alist.{greatest}
use Rattle.walks.specs.WalksLaws.{step-next, step_value, one_more}
use Rattle.walks.proofs.greatest.Goals as goal

-- one number more
greatest-snoc : (l : List ℕ) (x : ℕ) → greatest (l ++ (x ∷ [])) ≡ max (greatest l) x
greatest-snoc [] x = omega arith
greatest-snoc (y ∷ l) x = let h = greatest-snoc l x in omega arith

greatest-next : (l : List ℕ) (i most v r : ℕ) → i < length l → most ≡ greatest (take i l) → v ≡ get_or l i 0 → r ≡ max most v → r ≡ greatest (take (i + 1) l)
greatest-next l i most v r h e f q = q ∙ ap (λ x. max x v) e ∙ sym (ap greatest (one_more l i v h f) ∙ greatest-snoc (take i l) v)

pub loop-i-init : goal.loop-i-init
loop-i-init c = λ l e h. (e, refl)

pub loop-i-preserved : goal.loop-i-preserved
loop-i-preserved c = let s = c.loop-i in
    λ l e h. let v = s.invariant l e h in
    (step-next l s.i c.read-spot.ensures v.0 (omega arith), greatest-next l s.i s.most _ _ (omega arith) v.1 (step_value l s.i c.read-spot.ensures v.0 (omega arith)) c.max-most.ensures)

pub returns : goal.returns
returns c = let s = c.loop-i in let z : s.i ≡ c.args.count = omega arith in λ l e h. (s.invariant l e h).1 ∙ ap (λ k. greatest (take k l)) z
