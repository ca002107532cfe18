-- The plan's sections from the buffers: the information places that the marks leave, and the four parts of the steps.
use mathlib.Core.Path.{◌≡◌, refl, sym, ap, ap₂, ◌∙◌}
use mathlib.Core.Bool.{not}
use mathlib.Core.List.{List, [], ◌∷◌, ◌++◌, map, append-nil}
use Prim.Native.Nat.{ℕ, ◌+◌, ◌<◌, ◌≤◌}
use native.Mathlib.Omega.{arith}
use lib.ListN.{length, take, replicate, length-replicate, length-map}
use lib.Seq.{length-take-le}
use Rattle.lists.specs.Lists.{below, rev, has, minus}
use Rattle.lists.specs.ListLaws.{filter-less, length-below, length-rev}
use Rattle.table.specs.Accepted.{few-places}
use Rattle.table.specs.Checks.{check}
use Rattle.table.specs.Table.{most_places, places, number}
use Rattle.plan.specs.declared.Step.{Step}
use Rattle.plan.specs.Step.{pack}
use Rattle.rule.specs.Rule.{Solved, solving_steps, scratch_steps, fitting_steps, plan_steps, fitted_places, inverse, reduced}
use Rattle.emit.specs.Emit.{Room, WroteSteps, marked, marking, solved_in, aside_in, solve_steps, whole_steps, aside_steps, fitting_rows, Numbers, Below, Readable}
use Rattle.emit.specs.MarkLaws.{minus-same, solving-same, scratch-same, none-marked, marked_more, marking-length, below_more}
use Rattle.lists.specs.WroteLaws.{Left, left-all, left_is, left-more, left-done}
use Rattle.emit.specs.PackedLaws.{packed-append, packed-length, left-steps}
use Rattle.compose.specs.Compose.{gap_steps, Phases}
use Rattle.compose.proofs.Fitting.{fitting-is, fitted-low}

-- ---- the information places
pub info-few : (n : ℕ) (X : List ℕ) → length (minus (rev (below n)) X) ≤ n
info-few n X = let a = filter-less (λ p. not (has p X)) (rev (below n)) in let b = length-rev (below n) in let c = length-below n in omega arith

module _ (n : ℕ) (us fs : List ℕ) (taken g : ℕ) (u : Below n us taken) (f : Below n fs g) (h : n ≤ most_places) (m₁ m₂ : List ℕ)
    (e₁ : m₁ ≡ marking (replicate most_places 0) (take g fs)) (e₂ : m₂ ≡ marking m₁ (take taken us)) where
  long₁ : length m₁ ≡ most_places
  long₁ = ap length e₁ ∙ marking-length (replicate most_places 0) (take g fs) ∙ length-replicate {A = ℕ} most_places 0

  pub used-long : length m₂ ≡ most_places
  used-long = ap length e₂ ∙ marking-length m₁ (take taken us) ∙ long₁

  pub info-is : minus (rev (below n)) (marked m₂) ≡ minus (rev (below n)) (take taken us ++ take g fs)
  info-is = minus-same (rev (below n)) (marked m₂) (take taken us ++ take g fs)
      (λ p. ap (λ m. has p (marked m)) e₂ ∙ marked_more m₁ us taken (below_more u (omega (arith, long₁))) (take g fs) first p)
    where
      first : (p : ℕ) → has p (marked m₁) ≡ has p (take g fs)
      first p = ap (λ m. has p (marked m)) e₁ ∙ marked_more (replicate most_places 0) fs g (below_more f (omega (arith, length-replicate {A = ℕ} most_places 0))) [] (none-marked most_places) p
          ∙ ap (has p) (append-nil (take g fs))

-- ---- the steps
module _ {t starts order us : List ℕ} {taken : ℕ} {aside : List ℕ} {g : ℕ} {fs rows : List ℕ} (ph : Phases t starts order us taken aside g fs rows) where
  abbrev T : List Solved
  T = solved_in t order us taken

  abbrev Z : List (List ℕ)
  Z = aside_in t aside g

  abbrev n : ℕ
  n = places t

  -- the numbers of the checks and their own places
  pub solved-checks : Numbers t order taken
  solved-checks = record { room = ph.chosen.room.0; each = ph.chosen.numbers }

  pub own-places : Below n us taken
  own-places = record { room = ph.chosen.room.1.0; each = ph.chosen.own }

  pub set-aside : Numbers t aside g
  set-aside = record { room = ph.chosen.room.1.1; each = ph.chosen.asides }

  pub fitted-below : Below n fs g
  fitted-below = fitted-low ph.fits

  -- the marks of the fitted places
  module _ (skip : List ℕ) (e : skip ≡ marking (replicate most_places 0) (take g fs)) where
    skip-long : length skip ≡ most_places
    skip-long = ap length e ∙ marking-length (replicate most_places 0) (take g fs) ∙ length-replicate {A = ℕ} most_places 0

    skip_is : (p : ℕ) → has p (marked skip) ≡ has p (fitted_places n T Z)
    skip_is p = let h = few-places _ _ _ _ ph.located.table in
        ap (λ m. has p (marked m)) e ∙ marked_more (replicate most_places 0) fs g (below_more fitted-below (omega (arith, length-replicate {A = ℕ} most_places 0))) [] (none-marked most_places) p
        ∙ ap (has p) (append-nil (take g fs) ∙ ph.fits.places)

    -- the steps, and their four parts
    abbrev W : List ℕ
    W = map pack (gap_steps n T Z)

    abbrev A : List Step
    A = solve_steps t order us taken skip

    abbrev B : List Step
    B = aside_steps t aside g skip

    abbrev C : List Step
    C = fitting_rows n g fs rows 0 g

    abbrev D : List Step
    D = whole_steps t order us taken

    gap_is : W ≡ map pack A ++ (map pack B ++ (map pack C ++ map pack D))
    gap_is =
        let F = fitted_places n T Z in
        let inv = inverse (reduced T Z) F in
        let a : solving_steps F (rev T) ≡ solving_steps (marked skip) (rev T) = solving-same F (marked skip) (rev T) (λ p. sym (skip_is p)) in
        let b : scratch_steps n F Z ≡ scratch_steps n (marked skip) Z = scratch-same n F (marked skip) Z (λ p. sym (skip_is p)) in
        let c : fitting_steps n inv F ≡ fitting_rows n g fs rows 0 g =
        ap (fitting_steps n inv) (sym ph.fits.places) ∙ sym (fitting-is n g fs rows inv 0 g (let r = ph.fits.room.0 in omega arith) (λ i l. ph.fits.row-of i (omega arith))) in
        packed-append (solving_steps F (rev T)) _
        ∙ ap₂ (λ x y. map pack x ++ y) a (packed-append (scratch_steps n F Z) _
        ∙ ap₂ (λ x y. map pack x ++ y) b (packed-append (fitting_steps n inv F) _
        ∙ ap (λ x. map pack x ++ map pack (solving_steps [] (rev T))) c))

    -- what is left to write before each part, that the part has room, and that the last completes the steps
    module _ (l : List ℕ) (at : ℕ) (room : Room l at (gap_steps n T Z)) where
      fits : at + length W ≤ length l
      fits = let p = packed-length (gap_steps n T Z) in omega arith

      left-A : Left l at W (map pack A ++ (map pack B ++ (map pack C ++ map pack D))) l at
      left-A = left_is _ (left-all l at W) gap_is

      pub room-A : Room l at A
      room-A = left-steps fits A _ left-A

      module _ {e₁ : List ℕ} {k₁ : ℕ} (a : WroteSteps l at A e₁ k₁) where
        left-B : Left l at W (map pack B ++ (map pack C ++ map pack D)) e₁ k₁
        left-B = left-more fits (map pack A) _ left-A a

        pub room-B : Room e₁ k₁ B
        room-B = left-steps fits B _ left-B

        module _ {e₂ : List ℕ} {k₂ : ℕ} (b : WroteSteps e₁ k₁ B e₂ k₂) where
          left-C : Left l at W (map pack C ++ map pack D) e₂ k₂
          left-C = left-more fits (map pack B) _ left-B b

          pub room-C : Room e₂ k₂ C
          room-C = left-steps fits C _ left-C

          module _ {e₃ : List ℕ} {k₃ : ℕ} (c : WroteSteps e₂ k₂ C e₃ k₃) where
            left-D : Left l at W (map pack D ++ []) e₃ k₃
            left-D = left_is _ (left-more fits (map pack C) (map pack D) left-C c) (sym (append-nil (map pack D)))

            pub room-D : Room e₃ k₃ D
            room-D = left-steps fits D [] left-D

            pub all-parts : {e₄ : List ℕ} {k₄ : ℕ} → WroteSteps e₃ k₃ D e₄ k₄ → WroteSteps l at (gap_steps n T Z) e₄ k₄
            all-parts d = left-done (left-more fits (map pack D) [] left-D d)

    pub readable : Readable t starts skip
    readable = let h = skip-long in record { located = ph.located; all = omega arith }

  -- nothing set aside, or something
  pub steps-none : g ≡ 0 → plan_steps n T Z ≡ solving_steps [] (rev T)
  steps-none e = rw e

  steps-cons : (z : List (List ℕ)) → 0 < length z → plan_steps n T z ≡ gap_steps n T z
  steps-cons [] h = absurd (omega arith)
  steps-cons (c ∷ z) h = refl

  pub aside-length : length Z ≡ g
  aside-length = length-map (take g aside) (check t (number t)) ∙ length-take-le g aside ph.chosen.room.1.1

  pub steps-some : (g ≡ 0 → ⊥) → plan_steps n T Z ≡ gap_steps n T Z
  steps-some h = let l = aside-length in steps-cons Z (omega arith)
