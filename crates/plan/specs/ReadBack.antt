-- A plan's numbers, once written, are read back: the information places, the counts and the steps.
use Rattle.std.specs.Prelude.{◌≡◌, refl, true, List, [], ◌∷◌, ◌++◌, map, ℕ, ◌+◌, ◌≤◌, length, drop}
use Rattle.std.proofs.Common.{sym, ap, ◌∙◌, append_assoc, arith, length-append, take_at, drop_at}
use Rattle.std.proofs.Math.Option.{some}
use Rattle.std.proofs.lemmas.List.{length-map, get_or_at}
use Rattle.lists.specs.Lists.{All, All.nil, All.cons}
use Rattle.plan.specs.declared.Step.{Step}
use Rattle.plan.specs.Layout.{least_numbers, plan_head, info_numbers, step_numbers, plan_numbers, info_at, info_in, step_count, steps_in, good_step}
use Rattle.plan.specs.LayoutLaws.{Sound, sound-good, sound-slots, all_good}
use Rattle.plan.specs.Step.{pack, unpack, unpack_all}
use Rattle.plan.specs.StepLaws.{unpack-pack}

-- ---- the three sections
module _ (n g M : ℕ) (info : List ℕ) (steps : List Step) where
  abbrev numbers : List ℕ
  numbers = plan_numbers n g M info steps

  pub numbers-length : length numbers ≡ least_numbers + length info + length steps
  numbers-length = let a = length-append info (step_numbers steps) in let b = length-map steps pack in omega arith

  pub info-back : info_in numbers ≡ info
  info-back = take_at info (step_numbers steps) (length info) refl

  pub count-back : step_count numbers ≡ length steps
  count-back = get_or_at (plan_head n g M ++ info_numbers info) (length steps) (map pack steps) 0 (info_at + length info) (omega arith)

  pub steps_back : steps_in numbers ≡ map pack steps
  steps_back =
      let head : List ℕ = plan_head n g M ++ (length info ∷ (info ++ (length steps ∷ []))) in
      let long : length head ≡ info_at + 1 + length info = omega (arith, length-append info (length steps ∷ [])) in
      ap (λ l. drop (info_at + 1 + length info) (plan_head n g M ++ (length info ∷ l))) (sym (append_assoc info (length steps ∷ []) (map pack steps)))
      ∙ drop_at head (map pack steps) (info_at + 1 + length info) long

-- ---- sound steps, packed
module _ (k : ℕ) (I : List ℕ) (h : k ≤ 4096) where
  back : (x : Step) → Sound k I x → unpack (pack x) ≡ some x
  back x r = unpack-pack x (sound-slots k I x h r)

  -- are good numbers
  pub packed-good : {xs : List Step} → All (Sound k I) xs → all_good k I (map pack xs) ≡ true
  packed-good nil = refl
  packed-good (cons {x = x} r a) = rw (ap (good_step k I) (back x r) ∙ sound-good k I x r) (packed-good a)

  -- and are read back
  pub packed-back : {xs : List Step} → All (Sound k I) xs → unpack_all (map pack xs) ≡ xs
  packed-back nil = refl
  packed-back (cons {x = x} {l = xs} r a) = rw (back x r, unpack_all) (ap (λ l. x ∷ l) (packed-back a))
