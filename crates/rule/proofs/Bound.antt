-- How many add steps a plan has at most.
use Rattle.std.specs.Prelude.{◌≡◌, refl, Bool, List, [], ◌∷◌, ◌++◌, map, ℕ, ◌+◌, ◌-◌, ◌*◌, ◌<◌, ◌≤◌, length}
use Rattle.std.proofs.Common.{sym, ap, ◌∙◌, subst, mul-add, mul-one, arith}
use Rattle.std.proofs.lemmas.List.{length-map}
use Rattle.gf2.specs.Gf2.{xor_group, row_of}
use Rattle.gf2.specs.Independent.{Indep, Indep.free}
use Rattle.lists.specs.ListLaws.{all-rev, length-rev}
use Rattle.lists.specs.Lists.{Distinct, rev, All}
use Rattle.gf2.specs.Span.{span-zero}
use Rattle.table.specs.Table.{ones}
use Rattle.plan.specs.Step.{add_steps}
use Rattle.rule.specs.Choices.{Chooses}
use Rattle.rule.proofs.AllChecksZero.{ts, az, F, tri, peels, ind_k, same, lens}
use Rattle.rule.specs.Count.{count-append, solved_ones, count-solving, count-scratch, count-fitting}
use Rattle.rule.proofs.Info.{tri-has, peels-count}
use Rattle.rule.specs.Peel.{Peels, Peels.stop, Peels.took', Peels.aside', Pulled, Pulled.here, Pulled.there, peels-indep}
use Rattle.rule.specs.Rule.{Solved, row, solving_steps, scratch_steps, fitting_steps, steps_with_gap, plan_by, Plan, plan_steps, fitted_places, inverse, reduced}

-- ---- the ones of the kept checks, however they are ordered
pulled-ones : {x : List ℕ} {L L' : List (List ℕ)} → Pulled x L L' → ones L ≡ length x + ones L'
pulled-ones here = refl
pulled-ones (there u) = let h = pulled-ones u in omega arith

-- ones of the kept checks: those taken and those set aside
pub peels-ones : {L : List (List ℕ)} {ts : List Solved} {az : List (List ℕ)} → Peels L ts az → ones L ≡ solved_ones ts + ones az
peels-ones stop = refl
peels-ones (took' u h o r) = let a = pulled-ones u in let b = peels-ones r in omega arith
peels-ones (aside' u r) = let a = pulled-ones u in let b = peels-ones r in omega arith

-- one more at the end
ones-snoc : (ts : List Solved) (t : Solved) → solved_ones (ts ++ (t ∷ [])) ≡ length t.check + solved_ones ts
ones-snoc [] t = refl
ones-snoc (u ∷ ts) t = let h = ones-snoc ts t in omega arith

-- the order does not matter
ones-rev : (ts : List Solved) → solved_ones (rev ts) ≡ solved_ones ts
ones-rev [] = refl
ones-rev (t ∷ ts) = let h = ones-rev ts in let k = ones-snoc (rev ts) t in omega arith

-- independent rows are not zero, so no such check is empty
some-ones : (az : List (List ℕ)) (R : List ℕ) → Indep xor_group (map row_of az ++ R) → length az ≤ ones az
some-ones [] R i = omega arith
some-ones ([] ∷ az) R (free n i) = absurd (n (span-zero xor_group))
some-ones ((p ∷ c) ∷ az) R (free n i) = let h = some-ones az R i in omega arith

-- g(g + 1)
pub square-more : (x : ℕ) → x * (x + 1) ≡ x * x + x
square-more x = mul-add x x 1 ∙ ap (λ y. x * x + y) (mul-one x)

-- ---- the whole list
pub count-steps : (n : ℕ) (T : List Solved) (z : List (List ℕ)) (F : List ℕ) (inv : ℕ → List Bool)
    → add_steps (steps_with_gap n T z F inv) ≡ add_steps (solving_steps F (rev T)) + (add_steps (scratch_steps n F z) + (add_steps (fitting_steps n inv F) + add_steps (solving_steps [] (rev T))))
count-steps n T z F inv = count-append (solving_steps F (rev T)) _ ∙ ap (λ x. add_steps (solving_steps F (rev T)) + x)
    (count-append (scratch_steps n F z) _ ∙ ap (λ x. add_steps (scratch_steps n F z) + x) (count-append (fitting_steps n inv F) _))

module _ (ch : Chooses) (n : ℕ) (cs : List (List ℕ)) (d : All Distinct cs) (low : All (λ c. All (λ p. p < n) c) cs) where
  -- short names
  abbrev P : Plan
  P = plan_by ch.choice n cs

  abbrev T : List Solved
  T = ts ch n cs d low

  abbrev Z : List (List ℕ)
  Z = az ch n cs d low

  abbrev FF : List ℕ
  FF = F ch n cs d low

  abbrev g : ℕ
  g = P.g

  -- one pass over the solved checks
  pub pass : (X : List ℕ) → add_steps (solving_steps X (rev T)) + length T ≤ solved_ones T
  pass X = let h = count-solving X (all-rev (tri-has (tri ch n cs d low))) in omega (arith, length-rev T, ones-rev T)

  -- no check set aside is empty
  pub asides-some : length Z ≤ ones Z
  asides-some = some-ones Z (map row T) (peels-indep xor_group row_of (peels ch n cs d low) (ind_k ch n cs d low))

  -- fitted places are as many as the checks set aside
  pub fitted-number : length FF ≡ g
  fitted-number = same ch n cs d low ∙ length-map Z _

  -- at most g scratch slots for each of the g fitted places
  pub fitting-most : add_steps (fitting_steps n (inverse (reduced T Z) FF) FF) ≤ g * g
  fitting-most = subst (λ x. add_steps (fitting_steps n (inverse (reduced T Z) FF) FF) ≤ x * g) fitted-number (count-fitting n g (inverse (reduced T Z) FF) (lens ch n cs d low))

  -- the whole list, by whether a check was set aside
  parts : (z : List (List ℕ)) → z ≡ Z → add_steps (plan_steps n T z) + 2 * length T ≤ 2 * solved_ones T + ones Z + g * g
  parts [] e = let h = pass [] in omega arith
  parts (c ∷ z) e = subst (λ y. add_steps (steps_with_gap n T y (fitted_places n T y) (inverse (reduced T y) (fitted_places n T y))) + 2 * length T ≤ 2 * solved_ones T + ones Z + g * g) (sym e)
      (let a = pass FF in let b = pass [] in let c = count-scratch n FF Z in let f = fitting-most in
      let h = count-steps n T Z FF (inverse (reduced T Z) FF) in omega arith)

  -- the additions number at most 2(W - M) + g(g + 1)
  pub adds-most : add_steps P.steps + 2 * P.M ≤ 2 * P.W + g * (g + 1)
  adds-most =
      let a = parts Z refl in
      let b = asides-some in
      let c : P.M ≡ length T + g = peels-count (peels ch n cs d low) in
      let e : P.W ≡ solved_ones T + ones Z = peels-ones (peels ch n cs d low) in
      let f : g * (g + 1) ≡ g * g + g = square-more g in
      omega arith

  -- no kept check is empty
  pub kept-ones : P.M ≤ P.W
  kept-ones =
      let a = pass [] in
      let b = asides-some in
      let c : P.M ≡ length T + g = peels-count (peels ch n cs d low) in
      let e : P.W ≡ solved_ones T + ones Z = peels-ones (peels ch n cs d low) in
      omega arith

  -- and at most 4(W - M) where few checks are set aside
  pub adds-bound : g * (g + 1) ≤ 2 * (P.W - P.M) → add_steps P.steps ≤ 4 * (P.W - P.M)
  adds-bound h = let a = adds-most in let b = kept-ones in omega arith
