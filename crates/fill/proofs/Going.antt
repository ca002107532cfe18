-- Steps one after another: what is done so far, and what is left to do.
use mathlib.Core.Path.{◌≡◌, refl, sym, ap, ◌∙◌, subst}
use mathlib.Core.Bool.{Bool, true, false, true≢false, false≢true}
use mathlib.Core.Option.{Option, none, some}
use Prim.Native.Nat.{ℕ, suc, ◌+◌, ◌-◌, ◌<◌}
use native.Mathlib.Numerals.{add-one}
use native.Mathlib.Omega.{arith}
use Rattle.lists.specs.Tests.{by_opt}
use Rattle.fill.specs.Fill.{State, and_then, one, column, columns, first_one, second_one, extras}
use Rattle.fill.specs.Held.{Ends, Steps}
use Rattle.fill.proofs.Turns.{ends_some, ends-none}

-- a state of which P holds, from which f decides o
pub record Rest (P : State → Type 0) (o : Option State) (f : State → Option State) : Type 0 where
  pub state : State
  pub holds : P state
  pub rest : o ≡ f state

-- from a state on
pub from-here : (P : State → Type 0) (f : State → Option State) (s : State) → P s → Rest P (f s) f
from-here P f s p = record { state = s; holds = p; rest = refl }

-- f is the step g, and then h
module _ (o : Option State) (f g h : State → Option State) (P Q : State → Type 0) (ok : Bool) (open-it : (x : State) → f x ≡ and_then (g x) h) (step : Steps P g ok Q) where
  -- what the step ends in
  ended : (r : Rest P o f) (x : Option State) → g r.state ≡ x → Ends x ok Q
  ended r x e = subst (λ y. Ends y ok Q) e (step r.state r.holds)

  -- a step more
  pub turn : ok ≡ true → Rest P o f → Rest Q o h
  turn t r = by_opt (g r.state)
      (λ x e. record { state = x; holds = (ended r (some x) e).1; rest = r.rest ∙ open-it r.state ∙ ap (λ y. and_then y h) e })
      (λ e. absurd (false≢true (sym (ended r none e) ∙ t)))

  -- no draws left
  pub stop : ok ≡ false → Rest P o f → (R : State → Type 0) (ok' : Bool) → ok' ≡ false → Ends o ok' R
  stop t r R ok' t' = by_opt (g r.state)
      (λ x e. absurd (true≢false (sym (ended r (some x) e).0 ∙ t)))
      (λ e. ends-none o ok' R (r.rest ∙ open-it r.state ∙ ap (λ y. and_then y h) e) t')

-- nothing is left to do
done : (o : Option State) (f : State → Option State) (P : State → Type 0) → ((x : State) → f x ≡ some x) → Rest P o f → Ends o true P
done o f P e r = ends_some o true P r.state (r.rest ∙ e r.state) refl r.holds

-- the last step
pub finish : (o : Option State) (f : State → Option State) (P Q : State → Type 0) (ok : Bool) → Steps P f ok Q → Rest P o f → Ends o ok Q
finish o f P Q ok step r = subst (λ y. Ends y ok Q) (sym r.rest) (step r.state r.holds)

-- less said of the state
pub rest-holds : (o : Option State) (f : State → Option State) (P Q : State → Type 0) → ((x : State) → P x → Q x) → Rest P o f → Rest Q o f
rest-holds o f P Q g r = record { state = r.state; holds = g r.state r.holds; rest = r.rest }

-- ---- the ones of a column: c are left
module _ (e m j c : ℕ) (o : Option State) (P Q : State → Type 0) (ok : Bool) (h : 0 < c) (step : Steps P (one e m j) ok Q) where
  column-open : (x : State) → column e m j c x ≡ and_then (one e m j x) (λ y. column e m j (c - 1) y)
  column-open x = let z : c ≡ suc (c - 1) = omega arith in ap (λ d. column e m j d x) z

  pub column-turn : ok ≡ true → Rest P o (column e m j c) → Rest Q o (column e m j (c - 1))
  column-turn = turn o (column e m j c) (one e m j) (column e m j (c - 1)) P Q ok column-open step

  pub column-stop : ok ≡ false → Rest P o (column e m j c) → (R : State → Type 0) (ok' : Bool) → ok' ≡ false → Ends o ok' R
  column-stop = stop o (column e m j c) (one e m j) (column e m j (c - 1)) P Q ok column-open step

pub column-done : (e m j c : ℕ) (o : Option State) (P : State → Type 0) → c ≡ 0 → Rest P o (column e m j c) → Ends o true P
column-done e m j c o P z = done o (column e m j c) P (λ x. ap (λ d. column e m j d x) z)

-- ---- the columns from j on, below k
module _ (e m ones j k : ℕ) (o : Option State) (P Q : State → Type 0) (ok : Bool) (h : j < k) (step : Steps P (column e m j ones) ok Q) where
  columns-open : (x : State) → columns e m ones j (k - j) x ≡ and_then (column e m j ones x) (λ y. columns e m ones (j + 1) (k - (j + 1)) y)
  columns-open x = let z : k - j ≡ suc (k - (j + 1)) = omega arith in
      ap (λ d. columns e m ones j d x) z ∙ ap (λ i. and_then (column e m j ones x) (λ y. columns e m ones i (k - (j + 1)) y)) (sym (add-one j))

  pub columns-turn : ok ≡ true → Rest P o (columns e m ones j (k - j)) → Rest Q o (columns e m ones (j + 1) (k - (j + 1)))
  columns-turn = turn o (columns e m ones j (k - j)) (column e m j ones) (columns e m ones (j + 1) (k - (j + 1))) P Q ok columns-open step

  pub columns-stop : ok ≡ false → Rest P o (columns e m ones j (k - j)) → (R : State → Type 0) (ok' : Bool) → ok' ≡ false → Ends o ok' R
  columns-stop = stop o (columns e m ones j (k - j)) (column e m j ones) (columns e m ones (j + 1) (k - (j + 1))) P Q ok columns-open step

pub columns-start : (e m ones k : ℕ) (P : State → Type 0) (s : State) → P s → Rest P (columns e m ones 0 k s) (columns e m ones 0 (k - 0))
columns-start e m ones k P s p = let z : k ≡ k - 0 = omega arith in record { state = s; holds = p; rest = ap (λ d. columns e m ones 0 d s) z }

pub columns-done : (e m ones j k : ℕ) (o : Option State) (P : State → Type 0) → j ≡ k → Rest P o (columns e m ones j (k - j)) → Ends o true P
columns-done e m ones j k o P h = let z : k - j ≡ 0 = omega arith in done o (columns e m ones j (k - j)) P (λ x. ap (λ d. columns e m ones j d x) z)

-- ---- the rows from i on, below m
-- both steps of a row
abbrev pub two_ones : ℕ → ℕ → State → Option State
two_ones k i s = and_then (first_one k i s) (λ x. second_one k i x)

module _ (k i m : ℕ) (o : Option State) (P Q : State → Type 0) (ok : Bool) (h : i < m) (step : Steps P (two_ones k i) ok Q) where
  extras-open : (x : State) → extras k i (m - i) x ≡ and_then (two_ones k i x) (λ y. extras k (i + 1) (m - (i + 1)) y)
  extras-open x = let z : m - i ≡ suc (m - (i + 1)) = omega arith in
      ap (λ d. extras k i d x) z ∙ ap (λ j. and_then (two_ones k i x) (λ y. extras k j (m - (i + 1)) y)) (sym (add-one i))

  pub extras-turn : ok ≡ true → Rest P o (extras k i (m - i)) → Rest Q o (extras k (i + 1) (m - (i + 1)))
  extras-turn = turn o (extras k i (m - i)) (two_ones k i) (extras k (i + 1) (m - (i + 1))) P Q ok extras-open step

  pub extras-stop : ok ≡ false → Rest P o (extras k i (m - i)) → (R : State → Type 0) (ok' : Bool) → ok' ≡ false → Ends o ok' R
  extras-stop = stop o (extras k i (m - i)) (two_ones k i) (extras k (i + 1) (m - (i + 1))) P Q ok extras-open step

pub extras-start : (k m : ℕ) (P : State → Type 0) (s : State) → P s → Rest P (extras k 0 m s) (extras k 0 (m - 0))
extras-start k m P s p = let z : m ≡ m - 0 = omega arith in record { state = s; holds = p; rest = ap (λ d. extras k 0 d s) z }

pub extras-done : (k i m : ℕ) (o : Option State) (P : State → Type 0) → i ≡ m → Rest P o (extras k i (m - i)) → Ends o true P
extras-done k i m o P h = let z : m - i ≡ 0 = omega arith in done o (extras k i (m - i)) P (λ x. ap (λ d. extras k i d x) z)
