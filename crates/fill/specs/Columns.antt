-- The fill by columns (step 2): each round puts a one in its column, so a column gets N1.
use Rattle.std.specs.Prelude.{[], ◌≡◌, Bool, false, ℕ, zero, suc, ◌+◌, ◌-◌, ◌<◌, ◌≤◌, eqb, length, get_or, drop}
use Rattle.std.proofs.Common.{sym, ap, ◌∙◌, subst, arith, eqb-true, length-set}
use Rattle.std.proofs.Math.Option.{some}
use Rattle.std.proofs.lemmas.Bool.{not-true, eqb-false}
use Rattle.lists.specs.Lists.{has, any_of, All, count}
use Rattle.lists.specs.Tests.{by_opt, by_bool}
use Rattle.draws.specs.DrawingLaws.{until-gives}
use Rattle.draws.specs.Generator.{until}
use Rattle.fill.specs.Fill.{State, vacant, by_order, by_row, one, column, columns}
use Rattle.fill.specs.Good.{Good, Grown, grown-self, grown-trans, entry-low, entry_set, some_same, none-some, both, free-there, put-gives}

module _ (k m entries : ℕ) where
  -- what one more in column j gives
  abbrev OneMore : ℕ → State → State → Type 0
  OneMore j s r = Good k m entries r × (Grown s r × (count (has j) r.rows ≡ suc (count (has j) s.rows)))

  -- by the list u
  order-gives : (j : ℕ) (s r : State) → 0 < m → j < k → s.used < entries → Good k m entries s → by_order entries j s ≡ some r → OneMore j s r
  order-gives j s r hm hj room good e = let f : ℕ → Bool = λ v. vacant s.rows j (get_or s.order (s.used + v) 0) in by_opt (until s.left s.raw (entries - s.used) f)
      (λ d t. let q = some_same (rw (t, by_order) at e) in
      let i = get_or s.order (s.used + d.value) 0 in
      let free : has j (get_or s.rows i []) ≡ false = not-true _ (until-gives s.left s.raw (entries - s.used) f d t).0 in
      let g = put-gives k m entries s good i j (entry-low hm good.low (s.used + d.value)) hj free r (ap State.rows (sym q))
      (subst (All (λ x. x < m)) (ap State.order q) (entry_set good.low (s.used + d.value) _ (entry-low hm good.low s.used)))
      (ap length (ap State.order (sym q)) ∙ length-set s.order (s.used + d.value) _ ∙ good.whole) (subst (λ (x : ℕ). x ≤ entries) (ap State.used q) room) in
      (g.0, (g.1.0, g.1.1.0)))
      (λ t. none-some (rw (t, by_order) at e))

  -- by rows
  row_gives : (j : ℕ) (s r : State) → 0 < m → j < k → Good k m entries s → by_row m j s ≡ some r → OneMore j s r
  row_gives j s r hm hj good e = by_opt (until s.left s.raw m (vacant s.rows j))
      (λ d t. let q = some_same (rw (t, by_row) at e) in
      let u = until-gives s.left s.raw m (vacant s.rows j) d t in
      let g = put-gives k m entries s good d.value j (u.1 hm) hj (not-true _ u.0) r (ap State.rows (sym q)) (subst (All (λ x. x < m)) (ap State.order q) good.low)
      (ap length (ap State.order (sym q)) ∙ good.whole) (subst (λ (x : ℕ). x ≤ entries) (ap State.used q) good.within) in
      (g.0, (g.1.0, g.1.1.0)))
      (λ t. none-some (rw (t, by_row) at e))

  -- either way
  one-gives : (j : ℕ) (s r : State) → 0 < m → j < k → Good k m entries s → one entries m j s ≡ some r → OneMore j s r
  one-gives j s r hm hj good e = by_bool (any_of (vacant s.rows j) (drop s.used s.order))
      (λ t. let h = free-there (vacant s.rows j) s.used s.order t in let w = good.whole in order-gives j s r hm hj (omega arith) good (rw (t, one) at e))
      (λ t. row_gives j s r hm hj good (rw (t, one) at e))

  -- c more in column j
  column-gives : (j c : ℕ) (s r : State) → 0 < m → j < k → Good k m entries s → column entries m j c s ≡ some r
      → Good k m entries r × (Grown s r × (count (has j) r.rows ≡ c + count (has j) s.rows))
  column-gives j zero s r hm hj good e = let q = some_same e in
      subst (λ x. Good k m entries x × (Grown s x × (count (has j) x.rows ≡ 0 + count (has j) s.rows))) q (good, (grown-self s, omega arith))
  column-gives j (suc c) s r hm hj good e = both (one entries m j s) (λ x. column entries m j c x) e
      (λ t a b. let f = one-gives j s t hm hj good a in let g = column-gives j c t r hm hj f.0 b in
      let x = f.1.1 in let y = g.1.1 in (g.0, (grown-trans f.1.0 g.1.0, omega arith)))

  -- c columns from j on
  pub columns-give : (ones j c : ℕ) (s r : State) → 0 < m → j + c ≤ k → Good k m entries s → columns entries m ones j c s ≡ some r
      → Good k m entries r × (Grown s r × ((q : ℕ) → j ≤ q → q < j + c → ones ≤ count (has q) r.rows))
  columns-give ones j zero s r hm hj good e = let q = some_same e in
      subst (λ x. Good k m entries x × (Grown s x × ((q : ℕ) → j ≤ q → q < j + 0 → ones ≤ count (has q) x.rows))) q (good, (grown-self s, λ q a b. absurd (omega arith)))
  columns-give ones j (suc c) s r hm hj good e = both (column entries m j ones s) (λ x. columns entries m ones (suc j) c x) e
      (λ t a b. let f = column-gives j ones s t hm (omega arith) good a in let g = columns-give ones (suc j) c t r hm (omega arith) f.0 b in
      let x = f.1.1 in (
        g.0,
        (
          grown-trans f.1.0 g.1.0,
          λ q u v. by_bool (eqb q j)
              (λ w. let z = eqb-true q j w in let y = g.1.0.columns-keep j in rw z (omega arith))
              (λ w. let z = eqb-false q j w in g.1.1 q (lt_of q j u z) (omega arith)),
        ),
      ))
    where
      lt_of : (q j : ℕ) → j ≤ q → (q ≡ j → ⊥) → suc j ≤ q
      lt_of q j u z = omega arith
