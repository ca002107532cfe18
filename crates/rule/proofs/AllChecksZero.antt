-- Every check of the table sums to zero after the steps of the rule's plan.
use Rattle.std.specs.Prelude.{◌≡◌, refl, true, false, not, List, [], ◌∷◌, map, ℕ, ◌^◌, ◌<◌, length}
use Rattle.std.proofs.Common.{sym, ap, ◌∙◌, subst, append-nil}
use Rattle.std.proofs.lemmas.Bool.{false≢true}
use Rattle.std.proofs.lemmas.List.{length-map}
use Rattle.gf2.specs.Gf2.{bit, is_zero, column, choose, onto, Group2, xor_group, sum_over, row_of, comb}
use Rattle.gf2.specs.Bit.{bit-hom, bits-zero}
use Rattle.gf2.specs.Columns.{is_zero-sound, comb-lt, fitted-exact, rows_told}
use Rattle.lists.specs.Lists.{below, Distinct, rev, has, All, All.nil}
use Rattle.lists.specs.ListLaws.{all-below, all-rev, all-unrev, all-self, none_has, filter-back, length-rev, distinct-rev, all-unmap, distinct_filter, distinct-below, all-has, below_of, all-zip, map-all, filter-in, all_in, all_map, all_of}
use Rattle.gf2.specs.GreedyLaws.{choose-indep, choose-spans, all-choose, onto-all, onto-indep, distinct-choose}
use Rattle.gf2.specs.Independent.{Indep, Indep.empty}
use Rattle.gf2.specs.Linear.{lin-none}
use Rattle.gf2.specs.MaskLaws.{mask-sums, mask-length}
use Rattle.gf2.specs.RowValue.{val, val-row, val-lin, row_lt}
use Rattle.lists.specs.Tests.{by_bool}
use Rattle.gf2.specs.Span.{is_sum-complete}
use Rattle.gf2.specs.Rank.{Tells, zero-span, Zero}
use Rattle.plan.specs.Run.{run}
use Rattle.rule.specs.AsidesZero.{AfterSteps, after-steps}
use Rattle.rule.specs.Choices.{Chooses}
use Rattle.rule.specs.Inverse.{square-indep, unit-spanned}
use Rattle.rule.specs.Peel.{Peels, peel-peels, peels_all, peels-back, peels-tri, peels-indep, reduced-indep}
use Rattle.rule.specs.Rule.{Solved, put_in_all, peel_by, solved_of, set_aside_of, restricted, owns, steps_with_gap, kept, unowned, reduced, fitted_places, inverse, plan_steps}
use Rattle.rule.specs.Solved.{Tri, put_in_all-clears, put_in_all-lt}
use Rattle.rule.specs.Solving.{tri-ord, solve-other, solve-zero, Zeros}

module _ (ch : Chooses) (n : ℕ) (cs : List (List ℕ)) (distinct : All Distinct cs) (low : All (λ c. All (λ p. p < n) c) cs) where
  -- the checks kept, the solved ones in the order of taking, and those set aside
  abbrev pub K : List (List ℕ)
  K = kept cs

  abbrev pub ts : List Solved
  ts = solved_of (peel_by ch.choice (length K) n K)

  abbrev pub az : List (List ℕ)
  az = set_aside_of (peel_by ch.choice (length K) n K)

  -- the rows of those set aside with the solved ones put in; the fitted places from the highest down, and ascending
  abbrev pub E : List ℕ
  E = reduced ts az

  abbrev pub C : List ℕ
  C = choose xor_group is_zero (column E) [] (unowned n ts)

  abbrev pub F : List ℕ
  F = fitted_places n ts az

  -- what the peeling says of them
  pub peels : Peels K ts az
  peels = peel-peels ch (length K) n K refl

  pub tri : Tri ts
  tri = peels-tri peels (all-choose row_of [] distinct)

  pub low_t : All (λ t. All (λ p. p < n) t.check) ts
  low_t = (peels_all peels (all-choose row_of [] low)).0

  pub low_a : All (λ c. All (λ p. p < n) c) az
  low_a = (peels_all peels (all-choose row_of [] low)).1

  -- the rows are independent
  pub ind_k : Indep xor_group (map row_of K)
  ind_k = subst (Indep xor_group) (append-nil (map row_of K)) (onto-indep row_of [] K (choose-indep xor_group is_zero row_of is_zero-sound refl [] cs empty))

  ind_e : Indep xor_group E
  ind_e = reduced-indep ts az (peels-indep xor_group row_of peels ind_k)

  -- no own place is left in them ..
  pub own-zero : (p : ℕ) → has p (owns ts) ≡ true → All (Zero xor_group (bit p)) E
  own-zero p h = map-all (λ c. put_in_all ts (row_of c)) (all_of (λ c. all-has (λ q. bit q (put_in_all ts (row_of c)) ≡ false) (λ t. t.own) p h (put_in_all-clears tri (row_of c))) az)

  -- .. so that the places that nobody owns tell them apart
  low-E : All (λ e. e < 2 ^ n) E
  low-E = map-all (λ c. put_in_all ts (row_of c)) (all_map (λ c a. put_in_all-lt n low_t (row_of c) (row_lt n a)) low_a)

  pub tells : Tells xor_group bit (unowned n ts) E
  tells = record {
    tell = λ x p a.
        let b = filter-back (λ q. not (has q (owns ts))) (below n) a in
        bits-zero n x (subst (λ y. y < 2 ^ n) p.sums (comb-lt n low-E p.mask))
        (λ i l. by_bool (has i (owns ts)) (λ h. zero-span xor_group (bit-hom i) (own-zero i h) p) (λ h. all-below n b i l (ap not h)));
  }

  -- as many fitted places as checks set aside
  pub same : length F ≡ length E
  same = length-rev C ∙ fitted-exact E (unowned n ts) ind_e tells

  -- and these tell the rows apart as well
  tells_f : Tells xor_group bit F E
  tells_f = record { tell = λ x p a. (rows_told E (unowned n ts) ind_e tells).tell x p (all-unrev C a) }

  -- fitted places are below n, and nobody owns them
  pub free-good : All (λ p. (p < n) × (not (has p (owns ts)) ≡ true)) F
  free-good = all-rev (all-choose (column E) [] (filter-in (λ q. not (has q (owns ts))) (below_of n (λ p l. l))))

  -- without repeats
  pub d_f : Distinct F
  d_f = distinct-rev (distinct-choose (column E) [] (distinct_filter _ (distinct-below n)))

  -- so no own place is fitted
  pub free_f : All (λ t. has t.own F ≡ false) ts
  free_f = all_map (λ t h. by_bool (has t.own F)
      (λ e. absurd (false≢true (sym (ap not h) ∙ all_in (λ q. not (has q (owns ts)) ≡ true) t.own e (all_map (λ f r. r.1) free-good))))
      (λ e. e)) (all-unmap (λ t. t.own) ts (all-self (owns ts)))

  -- the g-by-g matrix can be inverted, and the rule's inverse is one
  pub ind : Indep xor_group (map (restricted F) E)
  ind = square-indep E F d_f ind_e tells_f same

  pub good : All (λ f. comb xor_group (inverse E F f) (map (restricted F) E) ≡ 2 ^ f) F
  good = all_map (λ f h. mask-sums (map (restricted F) E) (2 ^ f) (is_sum-complete xor_group is_zero is_zero-sound refl (map (restricted F) E) (2 ^ f) (unit-spanned E F d_f ind_e tells_f same f h))) (all-self F)

  -- an entry for each check set aside
  pub lens : All (λ f. length (inverse E F f) ≡ length az) F
  lens = all_of (λ f. mask-length (map (restricted F) E) (2 ^ f) ∙ length-map E (restricted F) ∙ length-map az (λ c. put_in_all ts (row_of c))) F

  module _ {A : Type 0} (G : Group2 A) (st : ℕ → A) (zeros : Zeros G st F) where
    abbrev end : ℕ → A
    end = run G st (plan_steps n ts az)

    -- by whether a check was set aside
    steps-zero : (z : List (List ℕ)) → z ≡ az → AfterSteps G n ts z F st (run G st (plan_steps n ts z))
    steps-zero [] e = record {
      solved = all-unrev ts (solve-zero G [] (tri-ord tri) (all_of (λ u. refl) (rev ts)) st (λ f h. absurd (false≢true h)));
      asides = nil;
      others = λ p l h k. solve-other G [] p (all-rev (none_has (λ t. t.own) p ts k)) st;
    }
    steps-zero (c ∷ z) e = subst (λ y. AfterSteps G n ts y F st (run G st (steps_with_gap n ts y (fitted_places n ts y) (inverse (reduced ts y) (fitted_places n ts y))))) (sym e)
        (after-steps G n ts az F (inverse E F) tri low_t low_a (all_map (λ f r. r.0) free-good) d_f free_f ind good lens st zeros)

    kept-zero : All (λ c. sum_over G end c ≡ G.o) K
    kept-zero = let r = steps-zero az refl in peels-back peels r.solved r.asides

    rows-zero : All (λ r. val G end n r ≡ G.o) (onto xor_group is_zero row_of [] K)
    rows-zero = onto-all row_of nil (all_map (λ c r. val-row G end n r.1 ∙ r.0) (all-zip kept-zero (all-choose row_of [] low)))

    -- the other checks are sums of those kept
    pub codeword : All (λ c. sum_over G end c ≡ G.o) cs
    codeword = all_map (λ c r. sym (val-row G end n r.1) ∙ ap (val G end n) (sym r.0.sums) ∙ lin-none xor_group G (val-lin G end n) rows-zero r.0.mask)
        (all-zip (choose-spans xor_group is_zero row_of is_zero-sound refl [] cs) low)
