-- staircase-planned: every check is kept, none set aside, the sources are the information places; whatever the choice of checks to set aside.
use Rattle.std.specs.Prelude.{◌≡◌, refl, Bool, true, false, not, ◌||◌, List, [], ◌∷◌, ◌++◌, ℕ, suc, ◌+◌, eqb, length}
use Rattle.std.proofs.Common.{sym, ap, ap₂, ◌∙◌, append-nil, arith}
use Rattle.lists.specs.ListLaws.{all_map, filter-append, filter-all, filter_none}
use Rattle.lists.specs.Lists.{below, rev, has, filter, minus, from}
use Rattle.lists.specs.Numbers.{from-below, from-add, from_all, from-has, from-not}
use Rattle.gf2.specs.Gf2.{is_zero, column, choose, xor_group}
use Rattle.staircase.specs.Ascending.{stairs-count}
use Rattle.staircase.specs.Stairs.{staircase}
use Rattle.rule.specs.Rule.{Choice, kept, peel_by, Solved, solved_of, set_aside_of, owns, fitted_places, unowned, solving_steps, plan_steps, Plan, plan_by}
use Rattle.theorems.specs.StairsKept.{Sources, all-kept}
use Rattle.theorems.specs.StairsPeeled.{owned_from, stairs-all, none-aside, solved-stairs}

-- their own places
owned-places : (p : ℕ) (cs : List (List ℕ)) → owns (owned_from p cs) ≡ from p (length cs)
unfolding from
owned-places p [] = refl
owned-places p (c ∷ cs) = ap (λ x. p ∷ x) (owned-places (suc p) cs)

-- the owners in reverse own the same places
owns-snoc : (p : ℕ) (ts : List Solved) (t : Solved) → has p (owns (ts ++ (t ∷ []))) ≡ (eqb p t.own || has p (owns ts))
owns-snoc p [] t = refl
owns-snoc p (u ∷ ts) t = ap (λ b. eqb p u.own || b) (owns-snoc p ts t) ∙ swap (eqb p u.own) (eqb p t.own) (has p (owns ts))
  where
    swap : (a b c : Bool) → (a || (b || c)) ≡ (b || (a || c))
    swap true true c = refl
    swap true false c = refl
    swap false true c = refl
    swap false false c = refl

-- so of a whole list in reverse
owns-rev : (p : ℕ) (ts : List Solved) → has p (owns (rev ts)) ≡ has p (owns ts)
owns-rev p [] = refl
owns-rev p (t ∷ ts) = owns-snoc p (rev ts) t ∙ ap (λ b. eqb p t.own || b) (owns-rev p ts)

-- with no check set aside no place is fitted
none-fitted : (n : ℕ) (ts : List Solved) → fitted_places n ts [] ≡ []
none-fitted n ts = ap rev (none-chosen (unowned n ts))
  where
    none-chosen : (ps : List ℕ) → choose xor_group is_zero (column []) [] ps ≡ []
    none-chosen [] = refl
    none-chosen (p ∷ ps) = none-chosen ps

-- what the rule makes of a staircase
pub record Natural (k : ℕ) (cs : List (List ℕ)) (p : Plan) : Type 0 where
  pub all-kept : p.M ≡ length cs
  pub none-aside : p.g ≡ 0
  pub own-places : p.own ≡ from k (length cs)
  pub none-fitted : p.fitted ≡ []
  pub information : p.info ≡ from 0 k
  pub steps : p.steps ≡ solving_steps [] (owned_from k cs)

module _ (choice : Choice) (k : ℕ) (ls : List (List ℕ)) (sources : Sources k ls) where
  -- the checks
  abbrev cs : List (List ℕ)
  cs = staircase k ls

  -- the places
  abbrev n : ℕ
  n = k + length ls

  -- the checks in the order of taking
  abbrev ts : List (List ℕ) → List Solved
  ts K = solved_of (peel_by choice (length K) n K)

  -- those set aside
  abbrev az : List (List ℕ) → List (List ℕ)
  az K = set_aside_of (peel_by choice (length K) n K)

  -- none
  az-none : az cs ≡ []
  az-none = ap (λ x. set_aside_of (peel_by choice x n cs)) (stairs-count k 0 ls) ∙ none-aside choice n (stairs-all k sources) (omega arith)

  -- check i has place k + i
  ts-owned : rev (ts cs) ≡ owned_from k cs
  ts-owned = ap (λ x. rev (solved_of (peel_by choice x n cs))) (stairs-count k 0 ls) ∙ solved-stairs choice n (stairs-all k sources) (omega arith)

  -- who owns a place
  owner : (p : ℕ) → has p (owns (ts cs)) ≡ has p (from k (length ls))
  owner p = sym (owns-rev p (ts cs)) ∙ ap (λ x. has p (owns x)) ts-owned ∙ ap (has p) (owned-places k cs ∙ ap (from k) (stairs-count k 0 ls))

  -- the sources are the places that nobody owns
  info-is : minus (rev (below n)) (owns (ts cs)) ≡ from 0 k
  info-is =
      let f : ℕ → Bool = λ p. not (has p (owns (ts cs))) in
      ap (filter f) (sym (from-below n) ∙ from-add 0 k (length ls)) ∙ filter-append f (from 0 k) (from (0 + k) (length ls))
      ∙ ap₂ ◌++◌
      (filter-all f (all_map (λ p h. let b = h.1 in ap not (owner p ∙ from-not k (length ls) p (omega arith))) (from_all 0 k)))
      (filter_none f (all_map (λ p h. let a = h.0 in let b = h.1 in ap not (owner p ∙ from-has k (length ls) p (omega arith) (omega arith))) (from_all (0 + k) (length ls))))
      ∙ append-nil (from 0 k)

  -- the plan of a staircase
  pub staircase-planned : Natural k cs (plan_by choice n cs)
  staircase-planned =
      let K : kept cs ≡ cs = all-kept k sources in
      let F : fitted_places n (ts cs) (az cs) ≡ [] = ap (fitted_places n (ts cs)) az-none ∙ none-fitted n (ts cs) in
      record {
        all-kept = ap length K;
        none-aside = ap (λ x. length (az x)) K ∙ ap length az-none;
        own-places = ap (λ x. owns (rev (ts x))) K ∙ ap owns ts-owned ∙ owned-places k cs;
        none-fitted = ap (λ x. fitted_places n (ts x) (az x)) K ∙ F;
        information = ap (λ x. minus (rev (below n)) (owns (ts x) ++ fitted_places n (ts x) (az x))) K
            ∙ ap (λ x. minus (rev (below n)) (owns (ts cs) ++ x)) F ∙ ap (minus (rev (below n))) (append-nil (owns (ts cs))) ∙ info-is;
        steps = ap (λ x. plan_steps n (ts x) (az x)) K ∙ ap (plan_steps n (ts cs)) az-none ∙ ap (solving_steps []) ts-owned;
      }
