-- Solving by rows that lead places: going up, a place that leads no row takes its start and one that leads a row what that row asks for; every row then has its value.
use Rattle.std.specs.Prelude.{◌≡◌, true, false, cond, eqb}
use Rattle.std.proofs.Common.{sym, ap, ◌∙◌, arith}
use Prim.Native.Nat.{ℕ, zero, suc, ◌<◌, ◌≤◌}
use Rattle.gf2.specs.Gf2.{is_zero, Group2, Lead}
use Rattle.gf2.specs.Group.{cancel-r}
use Rattle.gf2.specs.RowValue.{val, val-ext, val-short}
use Rattle.lists.specs.Tests.{eqb-true, eqb-false, by_bool}

module _ {A : Type 0} (G : Group2 A) where
  open G use {◌⊕◌, o}

  module _ (f : ℕ → ℕ) (v start : ℕ → A) where
    -- what place k takes, by the places below
    abbrev takes : (ℕ → A) → ℕ → A
    takes st k = cond (is_zero (f k)) (start k) (v k ⊕ val G st k (f k))

    -- the places below k settled
    unfoldable pub solve : ℕ → ℕ → A
    solve zero q = start q
    solve (suc k) q = cond (eqb q k) (takes (solve k) k) (solve k q)

    -- a settled place stays
    solve-stays : (k q : ℕ) → q < k → solve k q ≡ takes (solve q) q
    unfolding solve
    solve-stays zero q h = absurd (omega arith)
    solve-stays (suc k) q h = by_bool (eqb q k)
        (λ e. rw e (ap (λ i. takes (solve i) i) (sym (eqb-true q k e))))
        (λ e. let i = eqb-false q k e in rw e (solve-stays k q (omega arith)))

    solve-below : (n k : ℕ) → k ≤ n → (p : ℕ) → p < k → solve n p ≡ solve k p
    solve-below n k l p h = solve-stays n p (omega arith) ∙ sym (solve-stays k p h)

    -- a free place
    pub solve-free : (n p : ℕ) → p < n → is_zero (f p) ≡ true → solve n p ≡ start p
    solve-free n p h z = solve-stays n p h ∙ ap (λ b. cond b (start p) (v p ⊕ val G (solve p) p (f p))) z

    -- a lead: by the places below it
    pub solve-lead : (n p : ℕ) → p < n → is_zero (f p) ≡ false → solve n p ≡ v p ⊕ val G (solve n) p (f p)
    solve-lead n p h z = solve-stays n p h ∙ ap (λ b. cond b (start p) (v p ⊕ val G (solve p) p (f p))) z
        ∙ ap (λ x. v p ⊕ x) (val-ext G (solve p) (solve n) p (f p) (λ q l. sym (solve-below n p (omega arith) q l)))

    -- every row has its value
    pub solve-row : Lead f → (n p : ℕ) → p < n → is_zero (f p) ≡ false → val G (solve n) n (f p) ≡ v p
    solve-row l n p h z = val-short G (solve n) (suc p) n (f p) h (record { above = λ q k. l.low p q k })
        ∙ ap (λ b. cond b (solve n p) o ⊕ val G (solve n) p (f p)) (l.own p z)
        ∙ ap (λ x. x ⊕ val G (solve n) p (f p)) (solve-lead n p h z) ∙ cancel-r G (v p) _

    -- a state whose rows have their values, lead by lead
    pub row-lead : Lead f → (u : ℕ → A) (n p : ℕ) → p < n → is_zero (f p) ≡ false → val G u n (f p) ≡ v p → u p ≡ v p ⊕ val G u p (f p)
    row-lead l u n p h z e = sym (cancel-r G (u p) (val G u p (f p)))
        ∙ ap (λ x. x ⊕ val G u p (f p)) (ap (λ b. cond b (u p) o ⊕ val G u p (f p)) (sym (l.own p z)) ∙ sym (val-short G u (suc p) n (f p) h (record { above = λ q k. l.low p q k })) ∙ e)
