-- The planner's rule (document 01, "The planner's rule" and the steps of "The plan"). A check is the list of its places,
-- ascending; its row is the number with a one at each of its places.
use Rattle.std.specs.Prelude.{Bool, true, false, cond, List, [], ◌∷◌, ◌++◌, map, ℕ, zero, suc, ◌^◌, max, eqb, length}
use Rattle.std.proofs.Math.Option.{none, some}
use Rattle.std.specs.Int.Bits.{bit_xor}
use Rattle.gf2.specs.Gf2.{bit, is_zero, column, choose, xor_group, sum_over, mask_for, row_of}
use Rattle.lists.specs.Lists.{below, count, highest, rev, has, minus}
use Rattle.table.specs.Table.{ones}
use Rattle.plan.specs.declared.Step.{Step}
use Rattle.plan.specs.declared.Step.TheVariants.{Clear, Add}

-- ---- 1. "Go through the checks in number order. Keep one unless it is the sum of some already kept; an empty check is never kept."
-- (the empty sum is a sum, so that an empty check is one; gf2 Masks: the test is_sum tries every subset)
abbrev pub kept : List (List ℕ) → List (List ℕ)
kept cs = choose xor_group is_zero row_of [] cs

-- ---- 2 and 3, over the live checks, in number order
-- the first check that passes, and the list without it
abbrev pub first : (List ℕ → Bool) → List (List ℕ) → List ℕ
first f [] = []
first f (x ∷ l) = elim (f x) [ true ↦ x | false ↦ first f l ]

abbrev pub without : (List ℕ → Bool) → List (List ℕ) → List (List ℕ)
without f [] = []
without f (x ∷ l) = elim (f x) [ true ↦ l | false ↦ x ∷ without f l ]

-- "some place lies in exactly one live check"
abbrev pub in_one_only : List (List ℕ) → ℕ → Bool
in_one_only live p = eqb (count (has p) live) 1

-- "places that lie in exactly two live checks"
abbrev pub in_two_only : List (List ℕ) → ℕ → Bool
in_two_only live p = eqb (count (has p) live) 2

-- a choice of the check to set aside: given the live checks, a test; the first of them that passes is taken
abbrev pub Choice : Type 0
Choice = List (List ℕ) → List ℕ → Bool

-- the most that a check of a list is worth
abbrev pub greatest : (List ℕ → ℕ) → List (List ℕ) → ℕ
greatest worth [] = 0
greatest worth (c ∷ cs) = max (worth c) (greatest worth cs)

-- the choice of a check that is worth most
abbrev pub worth_most : (List (List ℕ) → List ℕ → ℕ) → Choice
worth_most worth live c = eqb (worth live c) (greatest (worth live) live)

-- "the places it would free": how many of its places lie in exactly two live checks
abbrev pub freed : List (List ℕ) → List ℕ → ℕ
freed live c = count (in_two_only live) c

-- document 02, C-18: "Step 3 now takes the live check with the most places that lie in exactly two live checks, lowest number on a
-- tie."
abbrev pub most_freed : Choice
most_freed = worth_most freed

-- document 01, before C-18: "set aside the live check of greatest weight, lowest number on a tie". Stored plans were made by it.
abbrev pub heaviest : Choice
heaviest = worth_most (λ live c. length c)

-- a check that was taken with its own place, or one that was set aside
pub data PeelEvent : Type 0 where
  took : ℕ → List ℕ → PeelEvent
  aside : List ℕ → PeelEvent

-- "take the highest such place: it becomes that check's own place and the check stops being live"; "if no such place exists
-- .. set aside" the live check that is chosen, "lowest number on a tie". After the choice comes the number of live checks.
abbrev pub peel_by : Choice → ℕ → ℕ → List (List ℕ) → List PeelEvent
peel_by choice zero n live = []
peel_by choice (suc k) n live = elim (highest n (in_one_only live)) [
  | some p ↦ took p (first (has p) live) ∷ peel_by choice k n (without (has p) live)
  | none ↦ aside (first (choice live) live) ∷ peel_by choice k n (without (choice live) live)
]

abbrev pub peel : ℕ → ℕ → List (List ℕ) → List PeelEvent
peel = peel_by most_freed

-- a solved check: one with an own place
pub record Solved : Type 0 where
  pub own : ℕ
  pub check : List ℕ

-- in the order in which they were taken
abbrev pub solved_of : List PeelEvent → List Solved
solved_of [] = []
solved_of (took p c ∷ es) = record { own = p; check = c } ∷ solved_of es
solved_of (aside c ∷ es) = solved_of es

-- in the order of setting aside
abbrev pub set_aside_of : List PeelEvent → List (List ℕ)
set_aside_of [] = []
set_aside_of (took p c ∷ es) = set_aside_of es
set_aside_of (aside c ∷ es) = c ∷ set_aside_of es

abbrev pub owns : List Solved → List ℕ
owns ts = map (λ t. t.own) ts

-- ---- 5. "Express each set-aside check through places that nobody owns, by putting in the solved ones."
abbrev pub row : Solved → ℕ
row t = row_of t.check

abbrev pub put_in : Solved → ℕ → ℕ
put_in t e = cond (bit t.own e) (bit_xor (row t) e) e

abbrev pub put_in_all : List Solved → ℕ → ℕ
put_in_all [] e = e
put_in_all (t ∷ ts) e = put_in_all ts (put_in t e)

abbrev pub reduced : List Solved → List (List ℕ) → List ℕ
reduced ts az = map (λ c. put_in_all ts (row_of c)) az

-- the places that nobody owns, from the highest down
abbrev pub unowned : ℕ → List Solved → List ℕ
unowned n ts = minus (below n) (owns ts)

-- "take each whose column of g bits isn't a sum of columns already taken"; ascending
abbrev pub fitted_places : ℕ → List Solved → List (List ℕ) → List ℕ
fitted_places n ts az = rev (choose xor_group is_zero (column (reduced ts az)) [] (unowned n ts))

-- the g-by-g matrix: each row on the fitted places alone
abbrev pub restricted : List ℕ → ℕ → ℕ
restricted F e = sum_over xor_group (λ f. cond (bit f e) (2 ^ f) 0) F

-- the inverse's row of a fitted place: the set-aside rows whose sum, on the fitted places, is that place alone (mask_for R x:
-- which of the rows R sum to x)
abbrev pub inverse : List ℕ → List ℕ → ℕ → List Bool
inverse E F f = mask_for (map (restricted F) E) (2 ^ f)

-- ---- the steps
-- "clear its own place, add its other places ascending"
abbrev pub clear_and_add : ℕ → List ℕ → List Step
clear_and_add to c = Clear to ∷ map (Add to) c

-- the solved checks, without the places F
abbrev pub solving_steps : List ℕ → List Solved → List Step
solving_steps F [] = []
solving_steps F (u ∷ us) = clear_and_add u.own (minus u.check (u.own ∷ F)) ++ solving_steps F us

-- the set-aside checks into the scratch slots from i on, without the fitted places F
abbrev pub scratch_steps : ℕ → List ℕ → List (List ℕ) → List Step
scratch_steps i F [] = []
scratch_steps i F (c ∷ cs) = clear_and_add i (minus c F) ++ scratch_steps (suc i) F cs

-- the slots from i on that a mask names
abbrev pub slots_named : ℕ → List Bool → List ℕ
slots_named i [] = []
slots_named i (true ∷ m) = i ∷ slots_named (suc i) m
slots_named i (false ∷ m) = slots_named (suc i) m

-- "for each fitted place ascending clear it and add the scratch slots that the inverse matrix names, ascending"
abbrev pub fitting_steps : ℕ → (ℕ → List Bool) → List ℕ → List Step
fitting_steps n inv [] = []
fitting_steps n inv (f ∷ fs) = clear_and_add f (slots_named n (inv f)) ++ fitting_steps n inv fs

-- g above 0; ts in the order of taking, so that its reverse is the order of solving (step 4)
abbrev pub steps_with_gap : ℕ → List Solved → List (List ℕ) → List ℕ → (ℕ → List Bool) → List Step
steps_with_gap n ts az F inv = solving_steps F (rev ts) ++ (scratch_steps n F az ++ (fitting_steps n inv F ++ solving_steps [] (rev ts)))

-- "With g = 0: for each solved check, clear its own place, add its other places ascending"
abbrev pub plan_steps : ℕ → List Solved → List (List ℕ) → List Step
plan_steps n ts [] = solving_steps [] (rev ts)
plan_steps n ts (c ∷ cs) = let az = c ∷ cs in let F = fitted_places n ts az in steps_with_gap n ts az F (inverse (reduced ts az) F)

-- ---- the whole rule
-- 4: "Checks with an own place are solved in the reverse of the order in which they were taken", hence rev ts.
-- 6: "The remaining n − M places, ascending, are the information places."
-- M checks kept with W ones, g set aside; own places in the order of solving, fitted places and information places ascending
pub record Plan : Type 0 where
  pub M : ℕ
  pub W : ℕ
  pub g : ℕ
  pub own : List ℕ
  pub fitted : List ℕ
  pub info : List ℕ
  pub steps : List Step

abbrev pub plan_by : Choice → ℕ → List (List ℕ) → Plan
plan_by choice n cs =
    let K = kept cs in
    let es = peel_by choice (length K) n K in
    let ts = solved_of es in
    let az = set_aside_of es in
    let F = fitted_places n ts az in
    record {
      M = length K;
      W = ones K;
      g = length az;
      own = owns (rev ts);
      fitted = F;
      info = minus (rev (below n)) (owns ts ++ F);
      steps = plan_steps n ts az;
    }

abbrev pub plan : ℕ → List (List ℕ) → Plan
plan = plan_by most_freed
