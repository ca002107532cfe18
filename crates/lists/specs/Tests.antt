-- Laws of tests: by cases, of equal numbers, of "and", "or" and "exactly one", and of sides.
use Rattle.std.specs.Prelude.{◌≡◌, refl, Bool, true, false, not, ◌||◌, ◌&&◌, ◌≢◌, ◌⊎◌, ℕ, ◌<◌, ◌≤◌, T, eqb, ltb}
use Rattle.std.proofs.Common.{sym, ap, ◌∙◌, subst, true≢false, inl, inr, eqb→eq, arith, ltb-true, ltb-false}
use Rattle.std.proofs.lemmas.Bool.{false≢true}
use Rattle.std.proofs.Math.Dec.{eqb_refl}
use Rattle.std.proofs.Math.Option.{Option, none, some}
use Rattle.lists.specs.Lists.{bxor}

pub by_bool {ℓ} : {P : Type ℓ} (b : Bool) → (b ≡ true → P) → (b ≡ false → P) → P
by_bool true f g = f refl
by_bool false f g = g refl

pub or_l : (b c : Bool) → b ≡ true → (b || c) ≡ true
or_l b c e = rw e

pub or_r : (b c : Bool) → c ≡ true → (b || c) ≡ true
or_r true c e = refl
or_r false c e = e

pub or-false-l : (a b : Bool) → (a || b) ≡ false → a ≡ false
or-false-l true b e = e
or-false-l false b e = refl

pub or-false-r : (a b : Bool) → (a || b) ≡ false → b ≡ false
or-false-r true b e = absurd (true≢false e)
or-false-r false b e = e

pub T_true : (b : Bool) → T b → b ≡ true
T_true true t = refl
T_true false t = absurd t

pub eqb-true : (m n : ℕ) → eqb m n ≡ true → m ≡ n
eqb-true m n e = eqb→eq m n (subst T (sym e) tt)

pub eqb-self : (n : ℕ) → eqb n n ≡ true
eqb-self n = T_true (eqb n n) (eqb_refl n)

pub eqb-false : (m n : ℕ) → eqb m n ≡ false → m ≢ n
eqb-false m n e q = false≢true (sym e ∙ ap (eqb m) (sym q) ∙ T_true (eqb m m) (eqb_refl m))

pub eqb_comm : (m n : ℕ) → eqb m n ≡ eqb n m
eqb_comm m n = by_bool (eqb m n)
    (λ e. e ∙ sym (ap (eqb n) (eqb-true m n e) ∙ eqb-self n))
    (λ e. by_bool (eqb n m) (λ f. absurd (eqb-false m n e (sym (eqb-true n m f)))) (λ f. e ∙ sym f))

pub eqb-lt : (a b : ℕ) → a < b → eqb a b ≡ false
eqb-lt a b h = by_bool (eqb a b) (λ e. let k = eqb-true a b e in absurd (omega arith)) (λ e. e)

pub eqb-gt : (a b : ℕ) → b < a → eqb a b ≡ false
eqb-gt a b h = eqb_comm a b ∙ eqb-lt b a h

pub or_assoc : (a b c : Bool) → ((a || b) || c) ≡ (a || (b || c))
or_assoc true b c = refl
or_assoc false b c = refl

pub or_comm : (a b : Bool) → (a || b) ≡ (b || a)
or_comm true true = refl
or_comm true false = refl
or_comm false true = refl
or_comm false false = refl

-- the first two of three exchanged
pub or-exchange : (a b c : Bool) → (a || (b || c)) ≡ (b || (a || c))
or-exchange true true c = refl
or-exchange true false c = refl
or-exchange false b c = refl

pub and_assoc : (a b c : Bool) → ((a && b) && c) ≡ (a && (b && c))
and_assoc true b c = refl
and_assoc false b c = refl

-- the first two of three exchanged
pub and-exchange : (a b c : Bool) → (a && (b && c)) ≡ (b && (a && c))
and-exchange true true c = refl
and-exchange true false c = refl
and-exchange false true c = refl
and-exchange false false c = refl

-- two tests that imply each other
pub both_ways : (a b : Bool) → (a ≡ true → b ≡ true) → (b ≡ true → a ≡ true) → a ≡ b
both_ways true b h k = sym (h refl)
both_ways false true h k = k refl
both_ways false false h k = refl

-- the second of two fails
pub and-false : (a b : Bool) → b ≡ false → (a && b) ≡ false
and-false true b e = e
and-false false b e = refl

pub not_same : (a b : Bool) → not a ≡ not b → a ≡ b
not_same true true e = refl
not_same true false e = sym e
not_same false true e = sym e
not_same false false e = refl

-- both tests pass: the first, and the second
pub and_l : (a b : Bool) → (a && b) ≡ true → a ≡ true
and_l true b e = refl
and_l false b e = absurd (false≢true e)

pub and_r : (a b : Bool) → (a && b) ≡ true → b ≡ true
and_r true b e = e
and_r false b e = absurd (false≢true e)

-- both pass; neither does
pub and_both : (a b : Bool) → a ≡ true → b ≡ true → (a && b) ≡ true
and_both a b e f = rw e f

pub or-neither : (a b : Bool) → a ≡ false → b ≡ false → (a || b) ≡ false
or-neither a b e f = rw e f

pub by_opt : {A P : Type 0} (x : Option A) → ((a : A) → x ≡ some a → P) → (x ≡ none → P) → P
by_opt (some a) f g = f a refl
by_opt none f g = g refl

pub bxor-assoc : (a b c : Bool) → bxor (bxor a b) c ≡ bxor a (bxor b c)
bxor-assoc true true true = refl
bxor-assoc true true false = refl
bxor-assoc true false c = refl
bxor-assoc false b c = refl

pub bxor-comm : (a b : Bool) → bxor a b ≡ bxor b a
bxor-comm true true = refl
bxor-comm true false = refl
bxor-comm false true = refl
bxor-comm false false = refl

pub bxor-self : (a : Bool) → bxor a a ≡ false
bxor-self true = refl
bxor-self false = refl

-- not exactly one: alike
pub bxor-none : (a b : Bool) → bxor a b ≡ false → a ≡ b
bxor-none true true e = refl
bxor-none true false e = e
bxor-none false b e = sym e

-- one number is below the other or not
pub side : (m n : ℕ) → (m < n) ⊎ (n ≤ m)
side m n = go (ltb m n) refl where
  go : (t : Bool) → ltb m n ≡ t → (m < n) ⊎ (n ≤ m)
  go true h = inl (ltb-true m n h)
  go false h = inr (ltb-false m n h)
