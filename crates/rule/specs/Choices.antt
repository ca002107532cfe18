-- Choices of the check to set aside: the one fact that the laws of the rule need of them, and that every worth gives it. What a choice by
-- worth takes is "the live check with the most .., lowest number on a tie".
use Rattle.std.specs.Prelude.{◌≡◌, refl, Bool, true, false, List, [], ◌∷◌, ◌++◌, ℕ, suc, ◌<◌, ◌≤◌, max, eqb, length}
use Rattle.std.proofs.Common.{sym, ap, ap₂, ◌∙◌, subst, ⊎_elim, arith, ne_eqb}
use Rattle.std.proofs.lemmas.Bool.{false≢true}
use Rattle.std.proofs.Math.Option.{none}
use Rattle.lists.specs.Lists.{any_of, highest, All, All.nil, All.cons}
use Rattle.lists.specs.ListLaws.{all_map}
use Rattle.lists.specs.Tests.{eqb-true, eqb-false, eqb-self, by_bool, side, or_l, or_r}
use Rattle.rule.specs.Rule.{Choice, first, without, in_one_only, freed, greatest, worth_most, most_freed, peel_by, peel, aside}

-- a choice by which some live check is chosen, wherever there is one
pub record Chooses : Type 0 where
  pub choice : Choice
  pub some-chosen : (c : List ℕ) (live : List (List ℕ)) → any_of (choice (c ∷ live)) (c ∷ live) ≡ true

-- ---- the greatest worth
-- none is worth more
greatest-all : (f : List ℕ → ℕ) (L : List (List ℕ)) → All (λ c. f c ≤ greatest f L) L
greatest-all f [] = nil
greatest-all f (x ∷ L) = cons {x = x} (omega arith) (all_map (λ c h. omega arith) (greatest-all f L))

-- so where all are worth at most a, it is at most a
greatest-most : (f : List ℕ → ℕ) (a : ℕ) {L : List (List ℕ)} → All (λ c. f c ≤ a) L → greatest f L ≤ a
greatest-most f a nil = omega arith
greatest-most f a (cons h hs) = let r = greatest-most f a hs in omega arith

-- some check is worth that much
pub greatest-any : (f : List ℕ → ℕ) (x : List ℕ) (L : List (List ℕ)) → any_of (λ c. eqb (f c) (greatest f (x ∷ L))) (x ∷ L) ≡ true
greatest-any f x [] = or_l _ _ (ap (eqb (f x)) {y = f x} (omega arith) ∙ eqb-self (f x))
greatest-any f x (y ∷ L) = ⊎_elim
    (λ h. let m : max (f x) (greatest f (y ∷ L)) ≡ greatest f (y ∷ L) = omega arith in
    or_r (eqb (f x) (greatest f (x ∷ y ∷ L))) (any_of (λ c. eqb (f c) (greatest f (x ∷ y ∷ L))) (y ∷ L))
    (subst (λ w. any_of (λ c. eqb (f c) w) (y ∷ L) ≡ true) (sym m) (greatest-any f y L)))
    (λ h. or_l (eqb (f x) (greatest f (x ∷ y ∷ L))) (any_of (λ c. eqb (f c) (greatest f (x ∷ y ∷ L))) (y ∷ L))
    (ap (eqb (f x)) {y = f x} (omega arith) ∙ eqb-self (f x)))
    (side (f x) (greatest f (y ∷ L)))

-- so every worth gives a choice
abbrev pub by_worth : (List (List ℕ) → List ℕ → ℕ) → Chooses
by_worth worth = record { choice = worth_most worth; some-chosen = λ c live. greatest-any (worth (c ∷ live)) c live }

-- the rule's (`most_freed`), and document 01's (`heaviest`)
abbrev pub by_rule : Chooses
by_rule = by_worth freed

abbrev pub by_weight : Chooses
by_weight = by_worth (λ live c. length c)

-- ---- what is chosen
-- "the live check with the most .., lowest number on a tie": before it in number order stand checks that are worth less, behind it none that is
-- worth more; rest is the list without it
pub record FirstMost (worth : List ℕ → ℕ) (live : List (List ℕ)) (c : List ℕ) (rest : List (List ℕ)) : Type 0 where
  pub before : List (List ℕ)
  pub after : List (List ℕ)
  pub among : live ≡ before ++ (c ∷ after)
  pub others : rest ≡ before ++ after
  pub less : All (λ d. worth d < worth c) before
  pub no_more : All (λ d. worth d ≤ worth c) after

-- the first that passes, and the others, wherever it stands
pub first-at : (f : List ℕ → Bool) {before : List (List ℕ)} (c : List ℕ) (after : List (List ℕ)) → All (λ d. f d ≡ false) before → f c ≡ true → first f (before ++ (c ∷ after)) ≡ c
first-at f c after nil h = rw (h, first)
first-at f c after (cons e a) h = rw (e, first) (first-at f c after a h)

pub without_at : (f : List ℕ → Bool) {before : List (List ℕ)} (c : List ℕ) (after : List (List ℕ)) → All (λ d. f d ≡ false) before → f c ≡ true → without f (before ++ (c ∷ after)) ≡ before ++ after
without_at f c after nil h = rw (h, without)
without_at f c after (cons {x = d} e a) h = rw (e, without) (ap (λ x. d ∷ x) (without_at f c after a h))

module _ (worth : List ℕ → ℕ) where
  -- among checks that are worth at most w, and of which one is worth w
  takes : (w : ℕ) (L : List (List ℕ)) → any_of (λ c. eqb (worth c) w) L ≡ true → All (λ c. worth c ≤ w) L
      → FirstMost worth L (first (λ c. eqb (worth c) w) L) (without (λ c. eqb (worth c) w) L) × (worth (first (λ c. eqb (worth c) w) L) ≡ w)
  takes w [] h a = absurd (false≢true h)
  takes w (x ∷ L) h (cons l a) = by_bool (eqb (worth x) w)
      (λ e. let q : worth x ≡ w = eqb-true (worth x) w e in
      rw (e, first, without) (record { before = []; after = L; among = refl; others = refl; less = nil; no_more = all_map (λ c k. omega arith) a }, q))
      (λ e. let q : worth x ≡ w → ⊥ = eqb-false (worth x) w e in
      let r = takes w L (rw e at h) a in
      let m = r.1 in
      rw (e, first, without) (
        record {
          before = x ∷ r.0.before;
          after = r.0.after;
          among = ap (λ y. x ∷ y) r.0.among;
          others = ap (λ y. x ∷ y) r.0.others;
          less = cons {x = x} (omega arith) r.0.less;
          no_more = r.0.no_more;
        },
        m,
      ))

  -- the greatest worth is that of such a check
  greatest-there : (c : List ℕ) {before after : List (List ℕ)} → All (λ d. worth d < worth c) before → All (λ d. worth d ≤ worth c) after
      → greatest worth (before ++ (c ∷ after)) ≡ worth c
  greatest-there c nil a = let h = greatest-most worth (worth c) a in omega arith
  greatest-there c (cons l b) a = let h = greatest-there c b a in omega arith

module _ (worth : List (List ℕ) → List ℕ → ℕ) where
  -- a choice by worth takes such a check ..
  pub most-taken : (x : List ℕ) (L : List (List ℕ)) → FirstMost (worth (x ∷ L)) (x ∷ L) (first (worth_most worth (x ∷ L)) (x ∷ L)) (without (worth_most worth (x ∷ L)) (x ∷ L))
  most-taken x L = (takes (worth (x ∷ L)) (greatest (worth (x ∷ L)) (x ∷ L)) (x ∷ L) (greatest-any (worth (x ∷ L)) x L) (greatest-all (worth (x ∷ L)) (x ∷ L))).0

  -- .. and no other: such a check passes, and is the first
  module _ {live : List (List ℕ)} {c : List ℕ} {rest : List (List ℕ)} (r : FirstMost (worth live) live c rest) where
    greatest-is : greatest (worth live) live ≡ worth live c
    greatest-is = ap (greatest (worth live)) r.among ∙ greatest-there (worth live) c r.less r.no_more

    pub most-passes : worth_most worth live c ≡ true
    most-passes = ap (eqb (worth live c)) greatest-is ∙ eqb-self (worth live c)

    lesser : All (λ d. worth_most worth live d ≡ false) r.before
    lesser = all_map (λ d l. ap (eqb (worth live d)) greatest-is ∙ ne_eqb (worth live d) (worth live c) (λ e. omega arith)) r.less

    pub most-first : first (worth_most worth live) live ≡ c
    most-first = ap (first (worth_most worth live)) r.among ∙ first-at (worth_most worth live) c r.after lesser most-passes

    pub most-rest : without (worth_most worth live) live ≡ rest
    most-rest = ap (without (worth_most worth live)) r.among ∙ without_at (worth_most worth live) c r.after lesser most-passes ∙ sym r.others

-- ---- document 02, C-18: "Step 3 now takes the live check with the most places that lie in exactly two live checks, lowest number on a tie."
-- where no place lies in exactly one live check, such a check is set aside and the others stay live
pub record StepThree (k n : ℕ) (live : List (List ℕ)) : Type 0 where
  pub check : List ℕ
  pub rest : List (List ℕ)
  pub most : FirstMost (freed live) live check rest
  pub event : peel (suc k) n live ≡ aside check ∷ peel k n rest

pub step-three : (k n : ℕ) (x : List ℕ) (L : List (List ℕ)) → highest n (in_one_only (x ∷ L)) ≡ none → StepThree k n (x ∷ L)
step-three k n x L e = record {
  check = first (most_freed (x ∷ L)) (x ∷ L);
  rest = without (most_freed (x ∷ L)) (x ∷ L);
  most = most-taken freed x L;
  event = rw (e, peel_by);
}

-- and no other is
pub step-three-only : (k n : ℕ) (live : List (List ℕ)) (c : List ℕ) (rest : List (List ℕ)) → highest n (in_one_only live) ≡ none → FirstMost (freed live) live c rest
    → peel (suc k) n live ≡ aside c ∷ peel k n rest
step-three-only k n live c rest e r = rw (e, peel_by) (ap₂ (λ x y. aside x ∷ peel k n y) (most-first freed r) (most-rest freed r))
