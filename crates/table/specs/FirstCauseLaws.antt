-- Laws of the first cause that holds: which number is answered, and when.
use Rattle.std.specs.Prelude.{◌≡◌, refl, Bool, true, false, not, ◌||◌, ◌&&◌, List, [], ◌∷◌, ◌++◌, ℕ, eqb}
use Rattle.std.proofs.Common.{sym, ap, ◌∙◌, subst, true≢false}
use Rattle.std.proofs.lemmas.Bool.{false≢true}
use Rattle.lists.specs.Lists.{all_differ, has, All.nil, All.cons}
use Rattle.lists.specs.Tests.{eqb-true, eqb-self, by_bool, or_r, or-false-l, or-false-r}
use Rattle.table.specs.FirstCause.{first_cause, NoneHolds, cause_numbers, RefusedBy}

-- each cause has a number of its own, and none has 0
abbrev pub Numbered : List (Bool × ℕ) → Type 0
Numbered cs = all_differ (0 ∷ cause_numbers cs) ≡ true

-- ---- laws
no-left : (a b : Bool) → (not a && b) ≡ true → a ≡ false
no-left true b h = absurd (false≢true h)
no-left false b h = refl

no-right : (a b : Bool) → (not a && b) ≡ true → b ≡ true
no-right true b h = absurd (false≢true h)
no-right false b h = h

-- a number that no cause has is not answered, unless it is 0
unheard : (k : ℕ) (cs : List (Bool × ℕ)) → has k (cause_numbers cs) ≡ false → first_cause cs ≡ k → (k ≡ 0) × NoneHolds cs
unheard k [] h e = (sym e, nil)
unheard k (c ∷ cs) h e =
    by_bool c.0
    (λ t. absurd (true≢false (sym (eqb-self k) ∙ ap (eqb k) (sym (rw t at e)) ∙ or-false-l (eqb k c.1) _ h)))
    (λ f. let r = unheard k cs (or-false-r (eqb k c.1) _ h) (rw f at e) in (r.0, cons f r.1))

-- a number that no cause has isn't k's
apart : (j : ℕ) (before after : List (Bool × ℕ)) (b : Bool) (k : ℕ) → has j (cause_numbers (before ++ ((b, k) ∷ after))) ≡ false → j ≡ k → ⊥
apart j [] after b k h e = true≢false (sym (eqb-self j) ∙ ap (eqb j) e ∙ or-false-l (eqb j k) _ h)
apart j (c ∷ before) after b k h e = apart j before after b k (or-false-r (eqb j c.1) _ h) e

-- what a number tells
told : (before after : List (Bool × ℕ)) (b : Bool) (k : ℕ) → all_differ (cause_numbers (before ++ ((b, k) ∷ after))) ≡ true → (0 ≡ k → ⊥)
    → first_cause (before ++ ((b, k) ∷ after)) ≡ k → NoneHolds before × (b ≡ true)
told [] after true k d z e = (nil, refl)
told [] after false k d z e = absurd (z (sym (unheard k after (no-left (has k (cause_numbers after)) _ d) e).0))
told (c ∷ before) after b k d z e = by_bool c.0
    (λ t. absurd (apart c.1 before after b k (no-left (has c.1 (cause_numbers (before ++ ((b, k) ∷ after)))) _ d) (rw t at e)))
    (λ f. let r = told before after b k (no-right (has c.1 (cause_numbers (before ++ ((b, k) ∷ after)))) _ d) z (rw f at e) in (cons f r.0, r.1))

-- where none of the first causes holds, the rest decides; where one holds, the rest doesn't count
pub rest-decides : {cs : List (Bool × ℕ)} → NoneHolds cs → (ds : List (Bool × ℕ)) → first_cause (cs ++ ds) ≡ first_cause ds
rest-decides nil ds = refl
rest-decides (cons f n) ds = rw f (rest-decides n ds)

pub first-decides : (cs ds : List (Bool × ℕ)) → (first_cause cs ≡ 0 → ⊥) → first_cause (cs ++ ds) ≡ first_cause cs
first-decides [] ds z = absurd (z refl)
first-decides (c ∷ cs) ds z = by_bool c.0 (λ t. rw t) (λ f. rw f (first-decides cs ds (λ e. z (rw f e))))

-- where none holds, nothing is refused
pub quiet : {cs : List (Bool × ℕ)} → NoneHolds cs → first_cause cs ≡ 0
quiet nil = refl
quiet (cons f n) = rw f (quiet n)

-- what is answered is 0 or a cause's number
pub one_of : (cs : List (Bool × ℕ)) → has (first_cause cs) (0 ∷ cause_numbers cs) ≡ true
one_of [] = refl
one_of (c ∷ cs) = by_bool c.0
    (λ t. rw t (rw (eqb-self c.1) (or_r (eqb c.1 0) true refl)))
    (λ f. let e : first_cause (c ∷ cs) ≡ first_cause cs = rw f refl in
    subst (λ (x : ℕ). has x (0 ∷ cause_numbers (c ∷ cs)) ≡ true) (sym e) (among (eqb (first_cause cs) 0) (eqb (first_cause cs) c.1) (has (first_cause cs) (cause_numbers cs)) (one_of cs)))
  where
    among : (a b c : Bool) → (a || c) ≡ true → (a || (b || c)) ≡ true
    among true b c h = refl
    among false b c h = or_r b c h

-- where nothing is refused, none holds
pub none_of : (cs : List (Bool × ℕ)) → has 0 (cause_numbers cs) ≡ false → first_cause cs ≡ 0 → NoneHolds cs
none_of cs h e = (unheard 0 cs h e).1

module _ (cs : List (Bool × ℕ)) (d : Numbered cs) where
  -- the one law of all refusals
  no_zero : has 0 (cause_numbers cs) ≡ false
  no_zero = no-left (has 0 (cause_numbers cs)) _ d

  pub none-holds : first_cause cs ≡ 0 → NoneHolds cs
  none-holds e = none_of cs no_zero e

  pub refused-by : RefusedBy (first_cause cs) cs
  refused-by = record {
    none = (none-holds, quiet);
    each = λ before after b k e. (
      (λ h. told before after b k (subst (λ l. all_differ (cause_numbers l) ≡ true) (sym e) (no-right (has 0 (cause_numbers cs)) _ d))
          (apart 0 before after b k (subst (λ l. has 0 (cause_numbers l) ≡ false) (sym e) no_zero)) (ap first_cause e ∙ h)),
      (λ r. sym (ap first_cause e) ∙ rest-decides r.0 ((b, k) ∷ after) ∙ rw r.1),
    );
    only = one_of cs;
  }

  -- a list in two parts
  pub none-refuses : (ds : List (Bool × ℕ)) → first_cause (cs ++ ds) ≡ 0 → (first_cause cs ≡ 0) × (first_cause ds ≡ 0)
  none-refuses ds e = let z : first_cause cs ≡ 0 = by_bool (eqb (first_cause cs) 0)
      (λ t. eqb-true (first_cause cs) 0 t)
      (λ f. let ne : first_cause cs ≡ 0 → ⊥ = λ z. true≢false (sym (ap (λ k. eqb k 0) z) ∙ f) in sym (first-decides cs ds ne) ∙ e) in
      (z, sym (rest-decides (none-holds z) ds) ∙ e)

  -- where the second refuses nothing, what is refused is refused by the first
  pub first-refuses : (ds : List (Bool × ℕ)) → (NoneHolds cs → first_cause ds ≡ 0) → (first_cause (cs ++ ds) ≡ 0 → ⊥)
      → has (first_cause (cs ++ ds)) (cause_numbers cs) ≡ true
  first-refuses ds q ne = by_bool (eqb (first_cause cs) 0)
      (λ t. let n = none-holds (eqb-true (first_cause cs) 0 t) in absurd (ne (rest-decides n ds ∙ q n)))
      (λ f. let z : first_cause cs ≡ 0 → ⊥ = λ e. true≢false (sym (ap (λ k. eqb k 0) e) ∙ f) in
      ap (λ k. has k (cause_numbers cs)) (first-decides cs ds z) ∙ rw f at (one_of cs))
