-- The search for suspects: the rest decides.
use mathlib.Core.Path.{◌≡◌, sym, ap, ap₂, ◌∙◌, subst}
use mathlib.Core.Bool.{Bool, true, false}
use mathlib.Core.List.{List, ◌∷◌}
use mathlib.Core.Option.{none, some}
use Prim.Native.Nat.{ℕ, ◌+◌, ◌-◌, ◌<◌, ◌≤◌}
use native.Mathlib.Omega.{arith}
use Rattle.lists.specs.Lists.{from, filter}
use Rattle.lists.specs.Numbers.{from_next, from-none}
use Rattle.suspects.specs.Blame.{suspect, only_one}
use Rattle.trials.specs.Cleared.{Cleared}
use Rattle.blame.specs.Trying.{Narrow, Next}

module _ (f : ℕ → Bool) (i n p : ℕ) (sofar : filter f (from i (n - i)) ≡ filter f (from p (n - p))) where
  -- a number that doesn't pass, the first that does, and none
  pub step-over : p < n → f p ≡ false → filter f (from i (n - i)) ≡ filter f (from (p + 1) (n - (p + 1)))
  step-over h e = sofar ∙ ap (filter f) (from_next n p h) ∙ rw (e, filter)

  pub stop-at : p < n → f p ≡ true → Next f i n p
  stop-at h e = record {
    most = omega arith;
    none_left = λ z. absurd (omega arith);
    rest = λ l. sofar ∙ ap (filter f) (from_next n p h) ∙ rw (e, filter);
  }

  pub stop-at-end : n ≤ p → Next f i n n
  stop-at-end h = record {
    most = omega arith;
    none_left = λ z. sofar ∙ ap (filter f) (from-none p n h);
    rest = λ l. absurd (omega arith);
  }

-- after a trial that left everything as it was
module _ (t : List ℕ) (n s : ℕ) (b₂ b l₂ l : List ℕ) (eb : b₂ ≡ b) (el : l₂ ≡ l) where
  pub cleared-same : Cleared n s b l → Cleared n s b₂ l₂
  cleared-same = rw (eb, el) (λ x. x)

  pub narrow-same : (small e₂ e : List ℕ) → e₂ ≡ e → Narrow t n s b small e → Narrow t n s b₂ small e₂
  narrow-same small e₂ e ee = rw (eb, ee) (λ x. x)

  pub tried_same : (p : ℕ) (r v : Bool) → r ≡ suspect t b₂ l₂ p → r ≡ v → suspect t b l p ≡ v
  tried_same p r v e h = sym (e ∙ ap₂ (λ x y. suspect t x y p) eb el) ∙ h

  pub next-same : (i q : ℕ) → Next (suspect t b₂ l₂) i n q → Next (suspect t b l) i n q
  next-same i q x = subst (λ z. Next (suspect t z l) i n q) eb (subst (λ z. Next (suspect t b₂ z) i n q) el x)

-- none; one and no other; two
module _ (f : ℕ → Bool) (n : ℕ) where
  all : filter f (from 0 n) ≡ filter f (from 0 (n - 0))
  all = ap (λ (k : ℕ). filter f (from 0 k)) (let e : n ≡ n - 0 = omega arith in e)

  pub none_found : (p : ℕ) → Next f 0 n p → p ≡ n → none ≡ only_one (filter f (from 0 n))
  none_found p a e = sym (ap only_one (all ∙ a.none_left e))

  pub one_found : (p q : ℕ) → Next f 0 n p → p < n → Next f (p + 1) n q → q ≡ n → some p ≡ only_one (filter f (from 0 n))
  one_found p q a h c e = sym (ap only_one (all ∙ a.rest h ∙ ap (λ l. p ∷ l) (c.none_left e)))

  pub two-found : (p q : ℕ) → Next f 0 n p → p < n → Next f (p + 1) n q → q < n → none ≡ only_one (filter f (from 0 n))
  two-found p q a h c l = sym (ap only_one (all ∙ a.rest h ∙ ap (λ r. p ∷ r) (c.rest l)))
