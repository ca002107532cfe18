-- Every step of the plan is well-formed: its slots are there, no slot is added into itself, no information place is written.
use Rattle.std.specs.Prelude.{◌≡◌, refl, Bool, true, false, not, List, [], ◌∷◌, ◌++◌, map, ℕ, suc, ◌+◌, ◌<◌, ◌≤◌, eqb, length}
use Rattle.std.proofs.Common.{sym, ap, subst, arith}
use Rattle.lists.specs.Tests.{eqb-false, or-false-l, or-false-r}
use Rattle.lists.specs.Lists.{below, Distinct, rev, has, All, All.nil, All.cons}
use Rattle.lists.specs.ListLaws.{all-rev, all-self, has-low, all_append, has-append-r, all-unmap, has-append-l, all_filter, all-zip, below_of, has-filter, all_map}
use Rattle.plan.specs.declared.Step.TheVariants.{Clear, Add}
use Rattle.plan.specs.LayoutLaws.{Sound}
use Rattle.rule.specs.Choices.{Chooses}
use Rattle.rule.proofs.AllChecksZero.{ts, az, F, tri, low_t, low_a, free-good, lens}
use Rattle.rule.specs.Rule.{Solved, clear_and_add, solving_steps, scratch_steps, fitting_steps, owns, steps_with_gap, fitted_places, inverse, reduced, plan_steps, plan_by, Plan}
use Rattle.rule.specs.ScratchAndFitting.{has_named, named-low}
use Rattle.rule.specs.Solved.{tri-own}
use Rattle.rule.specs.Solving.{own_out}

-- ---- the parts of the list, each for itself
module _ (k : ℕ) (I : List ℕ) where
  -- clearing a slot and adding places other than itself
  sound-fill : (to : ℕ) {c : List ℕ} → to < k → has to I ≡ false → All (λ p. p < k) c → has to c ≡ false → All (Sound k I) (clear_and_add to c)
  sound-fill to h o a e = cons {x = Clear to} (record { below = h; apart = tt; leaves = o }) (go a e)
    where
      go : {c : List ℕ} → All (λ p. p < k) c → has to c ≡ false → All (Sound k I) (map (Add to) c)
      go nil e = nil
      go (cons {x = p} {l = c} l a) e = cons {x = Add to p} (record { below = (h, l); apart = eqb-false to p (or-false-l (eqb to p) (has to c) e); leaves = o }) (go a (or-false-r (eqb to p) (has to c) e))

  -- a pass over the solved checks
  sound-solving : (F : List ℕ) {us : List Solved} → All (λ u. ((u.own < k) × All (λ p. p < k) u.check) × (has u.own I ≡ false)) us → All (Sound k I) (solving_steps F us)
  sound-solving F nil = nil
  sound-solving F (cons {x = u} r a) = all_append (sound-fill u.own r.0.0 r.1 (all_filter _ r.0.1) (own_out u.own u.check F)) (sound-solving F a)

  -- the scratch slots
  sound-scratch : (n i : ℕ) (F : List ℕ) {cs : List (List ℕ)} → n ≤ i → n ≤ k → i + length cs ≤ k → All (λ p. p < n) I → All (λ c. All (λ p. p < n) c) cs → All (Sound k I) (scratch_steps i F cs)
  sound-scratch n i F h w l o nil = nil
  sound-scratch n i F h w l o (cons a b) = all_append
      (sound-fill i (omega arith) (has-low i n h o) (all_filter _ (all_map (λ p q. omega arith) a)) (has-low i n h (all_filter _ a)))
      (sound-scratch n (suc i) F (omega arith) w (omega arith) o b)

  -- the fitted places
  sound-fitting : (n : ℕ) (inv : ℕ → List Bool) {fs : List ℕ} → n ≤ k → All (λ f. ((f < n) × (n + length (inv f) ≤ k)) × (has f I ≡ false)) fs → All (Sound k I) (fitting_steps n inv fs)
  sound-fitting n inv w nil = nil
  sound-fitting n inv w (cons {x = f} r a) = all_append
      (sound-fill f (let q = r.0.0 in omega arith) r.1 (named-low k n (inv f) r.0.1) (has_named f n r.0.0 (inv f)))
      (sound-fitting n inv w a)

-- ---- the plan
module _ (ch : Chooses) (n : ℕ) (cs : List (List ℕ)) (d : All Distinct cs) (low : All (λ c. All (λ p. p < n) c) cs) where
  -- short names
  abbrev P : Plan
  P = plan_by ch.choice n cs

  abbrev T : List Solved
  T = ts ch n cs d low

  abbrev Z : List (List ℕ)
  Z = az ch n cs d low

  abbrev FF : List ℕ
  FF = F ch n cs d low

  abbrev k : ℕ
  k = n + length Z

  abbrev I : List ℕ
  I = P.info

  -- an information place is owned by nobody and not fitted
  info-out : (p : ℕ) → has p (owns T ++ FF) ≡ true → has p I ≡ false
  info-out p h = has-filter (λ q. not (has q (owns T ++ FF))) p (rev (below n)) (ap not h)

  -- information places are below n
  pub info-low : All (λ p. p < n) I
  info-low = all_filter _ (all-rev (below_of n (λ p l. l)))

  -- the solved checks have what a pass asks
  solved-sound : All (λ u. ((u.own < k) × All (λ p. p < k) u.check) × (has u.own I ≡ false)) (rev T)
  solved-sound = all-rev (all_map (λ u r. ((let q = r.0.0 in omega arith, all_map (λ p l. omega arith) r.0.1), info-out u.own (has-append-l u.own (owns T) FF r.1)))
      (all-zip (tri-own (tri ch n cs d low) (low_t ch n cs d low)) (all-unmap (λ t. t.own) T (all-self (owns T)))))

  -- the whole list, by whether a check was set aside
  sound-parts : (z : List (List ℕ)) → z ≡ Z → All (Sound k I) (plan_steps n T z)
  sound-parts [] e = sound-solving k I [] solved-sound
  sound-parts (c ∷ z) e = subst (λ y. All (Sound k I) (steps_with_gap n T y (fitted_places n T y) (inverse (reduced T y) (fitted_places n T y)))) (sym e)
      (all_append (sound-solving k I FF solved-sound)
      (all_append (sound-scratch k I n n FF (omega arith) (omega arith) (omega arith) info-low (low_a ch n cs d low))
      (all_append (sound-fitting k I n (inverse (reduced T Z) FF) (omega arith)
      (all_map (λ f r. ((r.0.0.0, omega (arith, r.0.1)), info-out f (has-append-r f (owns T) FF r.1)))
      (all-zip (all-zip (free-good ch n cs d low) (lens ch n cs d low)) (all-self FF))))
      (sound-solving k I [] solved-sound))))

  -- every step of the plan: slots in range, none added into itself, no information place written
  pub well-formed : All (Sound (n + P.g) P.info) P.steps
  well-formed = sound-parts Z refl
