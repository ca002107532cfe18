-- Laws of weighing: the weights left, and the sum so far, decide.
use Rattle.std.specs.Prelude.{◌≡◌, cond, List, [], ◌∷◌, ℕ, ◌+◌, ◌<◌, ◌≤◌, ltb}
use Rattle.std.proofs.Common.{sym, ap, ◌∙◌, arith, lt-ltb, le-ltb}
use Rattle.lists.specs.Lists.{any_of}
use Rattle.table.specs.LookOver.{weighed}
use Rattle.table.specs.Table.{total}

-- the weighing so far, and the weights left
abbrev pub weighed_on : ℕ → List ℕ → ℕ
weighed_on sum ws = cond (any_of (ltb 64) ws) 65536 (sum + total ws)

pub weigh-start : (ws ws' : List ℕ) → ws' ≡ ws → weighed ws ≡ weighed_on 0 ws'
weigh-start ws ws' h = let e : total ws ≡ 0 + total ws = omega arith in ap (cond (any_of (ltb 64) ws) 65536) e ∙ ap (weighed_on 0) (sym h)

pub weigh-heavy : (sum x w : ℕ) (l ws : List ℕ) → x ≡ w → l ≡ w ∷ ws → 64 < x → ◌≡◌ {A = ℕ} 65536 (weighed_on sum l)
weigh-heavy sum x w l ws e h k = rw (h, lt-ltb 64 w (rw e at k))

pub weigh-light : (sum x w : ℕ) (l ws : List ℕ) → x ≡ w → l ≡ w ∷ ws → x ≤ 64 → weighed_on sum l ≡ weighed_on (sum + x) ws
weigh-light sum x w l ws e h k = let a : sum + (w + total ws) ≡ sum + x + total ws = omega arith in
    rw (h, le-ltb 64 w (rw e at k)) (ap (cond (any_of (ltb 64) ws) 65536) a)

pub weigh-end : (sum : ℕ) (l : List ℕ) → l ≡ [] → sum ≡ weighed_on sum l
weigh-end sum l h = rw h (omega arith)
