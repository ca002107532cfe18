-- What the greedy choice comes to: independent rows of which every row is a sum; and what it keeps: what holds of all members, being without repeats, rows that are independent in their own order.
use Rattle.std.specs.Prelude.{◌≡◌, refl, Bool, true, false, ◌||◌, List, [], ◌∷◌, ◌++◌, map, ◌+◌, ℕ, length, eqb}
use Rattle.std.proofs.Common.{sym, ◌∙◌, ap₂, arith}
use Rattle.std.proofs.lemmas.Bool.{false≢true}
use Rattle.gf2.specs.Gf2.{Group2, is_sum, choose, onto, is_zero, xor_group}
use Rattle.gf2.specs.Independent.{Indep, Indep.free}
use Rattle.gf2.specs.IndependentOrder.{indep-pull}
use Rattle.gf2.specs.Span.{Span, span_head, Within, Within.more, within-self, span-within, is_sum-sound, is_sum-complete}
use Rattle.lists.specs.Lists.{All, All.nil, All.cons, Distinct, Distinct.dnil, Distinct.dnew, has}
use Rattle.lists.specs.Tests.{by_bool, or-false-l, or-false-r}

module _ {A : Type 0} (G : Group2 A) (is_zero : A → Bool) {X : Type 0} (f : X → A) where
  pub onto-length : (K : List A) (xs : List X) → length (onto G is_zero f K xs) ≡ length K + length xs
  onto-length K [] = omega arith
  onto-length K (x ∷ xs) = let h = onto-length (f x ∷ K) xs in omega arith

  pub onto-in : (K : List A) (xs : List X) → Within G (onto G is_zero f K xs) K
  onto-in K [] = within-self G K
  onto-in K (x ∷ xs) = tl (onto-in (f x ∷ K) xs)
    where
      tl : {S : List A} → Within G S (f x ∷ K) → Within G S K
      tl (more p w) = w

  pub onto_has : (K : List A) (xs : List X) → All (λ x. Span G (onto G is_zero f K xs) (f x)) xs
  onto_has K [] = nil
  onto_has K (x ∷ xs) = cons (hd (onto-in (f x ∷ K) xs)) (onto_has (f x ∷ K) xs)
    where
      hd : {S : List A} → Within G S (f x ∷ K) → Span G S (f x)
      hd (more p w) = p

  module _ (is_zero-sound : (x : A) → is_zero x ≡ true → x ≡ G.o) (is_zero-o : is_zero G.o ≡ true) where
    pub choose-indep : (K : List A) (xs : List X) → Indep G K → Indep G (onto G is_zero f K (choose G is_zero f K xs))
    choose-indep K [] i = i
    choose-indep K (x ∷ xs) i = by_bool (is_sum G is_zero K (f x))
        (λ e. rw (e, choose) (choose-indep K xs i))
        (λ e. rw (e, choose) (choose-indep (f x ∷ K) xs (free (λ p. false≢true (sym e ∙ is_sum-complete G is_zero is_zero-sound is_zero-o K (f x) p)) i)))

    pub choose-spans : (K : List A) (xs : List X) → All (λ x. Span G (onto G is_zero f K (choose G is_zero f K xs)) (f x)) xs
    choose-spans K [] = nil
    choose-spans K (x ∷ xs) = by_bool (is_sum G is_zero K (f x))
        (λ e. rw (e, choose) (cons (span-within G (onto-in K (choose G is_zero f K xs)) (is_sum-sound G is_zero is_zero-sound is_zero-o K (f x) e)) (choose-spans K xs)))
        (λ e. rw (e, choose) (cons (span-within G (onto-in (f x ∷ K) (choose G is_zero f (f x ∷ K) xs)) (span_head G)) (choose-spans (f x ∷ K) xs)))

-- what holds of all holds of the chosen
pub all-choose : {X : Type 0} {P : X → Type 0} (f : X → ℕ) (K : List ℕ) {xs : List X} → All P xs → All P (choose xor_group is_zero f K xs)
all-choose f K nil = nil
all-choose f K (cons {x = x} {l = xs} p a) = by_bool (is_sum xor_group is_zero K (f x))
    (λ e. rw (e, choose) (all-choose f K a))
    (λ e. rw (e, choose) (cons p (all-choose f (f x ∷ K) a)))

-- nothing is chosen that is not there
has-choose : (f : ℕ → ℕ) (K : List ℕ) (p : ℕ) (xs : List ℕ) → has p xs ≡ false → has p (choose xor_group is_zero f K xs) ≡ false
has-choose f K p [] h = refl
has-choose f K p (x ∷ xs) h = by_bool (is_sum xor_group is_zero K (f x))
    (λ e. rw (e, choose) (has-choose f K p xs (or-false-r (eqb p x) (has p xs) h)))
    (λ e. rw (e, choose) (ap₂ ◌||◌ (or-false-l (eqb p x) (has p xs) h) (has-choose f (f x ∷ K) p xs (or-false-r (eqb p x) (has p xs) h))))

-- without repeats
pub distinct-choose : (f : ℕ → ℕ) (K : List ℕ) {xs : List ℕ} → Distinct xs → Distinct (choose xor_group is_zero f K xs)
distinct-choose f K dnil = dnil
distinct-choose f K (dnew {x = x} {l = xs} h d) = by_bool (is_sum xor_group is_zero K (f x))
    (λ e. rw (e, choose) (distinct-choose f K d))
    (λ e. rw (e, choose) (dnew (has-choose f (f x ∷ K) x xs h) (distinct-choose f (f x ∷ K) d)))

-- the rows of the chosen, in their own order
pub onto-indep : {X : Type 0} (f : X → ℕ) (R : List ℕ) (xs : List X) → Indep xor_group (onto xor_group is_zero f R xs) → Indep xor_group (map f xs ++ R)
onto-indep f R [] i = i
onto-indep f R (x ∷ xs) i = indep-pull (map f xs) R (f x) (onto-indep f (f x ∷ R) xs i)

-- what holds of each row
pub onto-all : {X : Type 0} {Q : ℕ → Type 0} (f : X → ℕ) {K : List ℕ} {xs : List X} → All Q K → All (λ x. Q (f x)) xs → All Q (onto xor_group is_zero f K xs)
onto-all f a nil = a
onto-all f a (cons h hs) = onto-all f (cons h a) hs
