-- The extra ones by rows (step 3): each row has two ones or more.
use Rattle.std.specs.Prelude.{◌≡◌, Bool, true, false, not, [], ℕ, zero, suc, ◌+◌, ◌<◌, ◌≤◌, eqb, length, get_or}
use Rattle.std.proofs.Common.{sym, ap, ◌∙◌, subst, arith, eqb-true}
use Rattle.std.proofs.Math.Option.{some}
use Rattle.std.proofs.lemmas.Bool.{not-true, eqb-false}
use Rattle.lists.specs.ListLaws.{has-empty}
use Rattle.lists.specs.Lists.{has, All}
use Rattle.lists.specs.Tests.{by_opt, by_bool}
use Rattle.draws.specs.DrawingLaws.{until-gives}
use Rattle.draws.specs.Generator.{until}
use Rattle.fill.specs.Fill.{State, and_then, extra, first_one, second_one, extras}
use Rattle.fill.specs.Good.{Good, Grown, grown-self, grown-trans, some_same, none-some, both, put-gives}

module _ (k m entries : ℕ) where
  -- a draw put in row i
  extra-gives : (i : ℕ) (f : ℕ → Bool) (s r : State) → 0 < k → i < m → ((v : ℕ) → f v ≡ true → has v (get_or s.rows i []) ≡ false) → Good k m entries s → extra k i f s ≡ some r
      → Good k m entries r × (Grown s r × (length (get_or r.rows i []) ≡ suc (length (get_or s.rows i []))))
  extra-gives i f s r hk hi free good e = by_opt (until s.left s.raw k f)
      (λ d t. let q = some_same (rw (t, extra) at e) in
      let u = until-gives s.left s.raw k f d t in
      let g = put-gives k m entries s good i d.value hi (u.1 hk) (free d.value u.0) r (ap State.rows (sym q)) (subst (All (λ x. x < m)) (ap State.order q) good.low)
      (ap length (ap State.order (sym q)) ∙ good.whole) (subst (λ (x : ℕ). x ≤ entries) (ap State.used q) good.within) in
      (g.0, (g.1.0, g.1.1.1)))
      (λ t. none-some (rw (t, extra) at e))

  -- an empty row gets one
  first_gives : (i : ℕ) (s r : State) → 0 < k → i < m → Good k m entries s → first_one k i s ≡ some r → Good k m entries r × (Grown s r × (1 ≤ length (get_or r.rows i [])))
  first_gives i s r hk hi good e = by_bool (eqb (length (get_or s.rows i [])) 0)
      (λ t. let z = eqb-true (length (get_or s.rows i [])) 0 t in
      let g = extra-gives i (λ j. true) s r hk hi (λ v u. has-empty (get_or s.rows i []) z v) good (rw (t, first_one) at e) in
      let y = g.1.1 in (g.0, (g.1.0, omega arith)))
      (λ t. let z = eqb-false (length (get_or s.rows i [])) 0 t in
      let q = some_same (rw (t, first_one) at e) in
      subst (λ x. Good k m entries x × (Grown s x × (1 ≤ length (get_or x.rows i [])))) q (good, (grown-self s, omega arith)))

  -- and then two
  second-gives : (i : ℕ) (s r : State) → 0 < k → i < m → 1 ≤ length (get_or s.rows i []) → Good k m entries s → second_one k i s ≡ some r
      → Good k m entries r × (Grown s r × (2 ≤ length (get_or r.rows i [])))
  second-gives i s r hk hi some-there good e = by_bool (eqb (length (get_or s.rows i [])) 1)
      (λ t. let z = eqb-true (length (get_or s.rows i [])) 1 t in
      let g = extra-gives i (λ j. not (has j (get_or s.rows i []))) s r hk hi (λ v u. not-true _ u) good (rw (t, second_one) at e) in
      let y = g.1.1 in (g.0, (g.1.0, omega arith)))
      (λ t. let z = eqb-false (length (get_or s.rows i [])) 1 t in
      let q = some_same (rw (t, second_one) at e) in
      subst (λ x. Good k m entries x × (Grown s x × (2 ≤ length (get_or x.rows i [])))) q (good, (grown-self s, omega arith)))

  -- c rows from i on
  pub extras-give : (i c : ℕ) (s r : State) → 0 < k → i + c ≤ m → Good k m entries s → extras k i c s ≡ some r
      → Good k m entries r × (Grown s r × ((q : ℕ) → i ≤ q → q < i + c → 2 ≤ length (get_or r.rows q [])))
  extras-give i zero s r hk hi good e = let q = some_same e in
      subst (λ x. Good k m entries x × (Grown s x × ((q : ℕ) → i ≤ q → q < i + 0 → 2 ≤ length (get_or x.rows q [])))) q (good, (grown-self s, λ q a b. absurd (omega arith)))
  extras-give i (suc c) s r hk hi good e = both (and_then (first_one k i s) (λ x. second_one k i x)) (λ x. extras k (suc i) c x) e
      (λ t a b. both (first_one k i s) (λ x. second_one k i x) a
      (λ w a1 a2. let f1 = first_gives i s w hk (omega arith) good a1 in
      let f2 = second-gives i w t hk (omega arith) f1.1.1 f1.0 a2 in
      let g = extras-give (suc i) c t r hk (omega arith) f2.0 b in
      let x = f2.1.1 in (
        g.0,
        (
          grown-trans f1.1.0 (grown-trans f2.1.0 g.1.0),
          λ q u v. by_bool (eqb q i)
              (λ p. let z = eqb-true q i p in let y = g.1.0.rows-keep i in rw z (omega arith))
              (λ p. let z = eqb-false q i p in g.1.1 q (lt_of q i u z) (omega arith)),
        ),
      )))
    where
      lt_of : (q j : ℕ) → j ≤ q → (q ≡ j → ⊥) → suc j ≤ q
      lt_of q j u z = omega arith
