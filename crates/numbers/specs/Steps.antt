-- The numbers of a text read byte by byte, for loops over it: what each byte does, that it comes to the numbers by words, and that a
-- number of at most six digits is below a million.
use Rattle.std.specs.Prelude.{◌≡◌, refl, true, false, List, [], ◌∷◌, ◌++◌, map, ℕ, zero, suc, ◌+◌, ◌-◌, ◌*◌, ◌^◌, ◌<◌, ◌≤◌, ltb, leb, length}
use Rattle.std.proofs.Common.{sym, ap, ◌∙◌, true≢false, append_assoc, append-nil, pow-suc, arith, lt-ltb, le-ltb, le-leb, ltb-true, ltb-false, ne_eqb, length-append}
use Rattle.std.proofs.Math.Option.{Option, none, some}
use Rattle.std.proofs.Math.Nat.{pow-le-pow_right}
use Rattle.std.proofs.lemmas.Bool.{lt-leb}
use Rattle.lists.specs.Lists.{all_pass}
use Rattle.lists.specs.Tests.{by_bool, and_l, and_r, and-false}
use Rattle.numerals.specs.Numerals.{is_digit, value_after}
use Rattle.numerals.specs.NumeralLaws.{digit-range, value-snoc}
use Rattle.numbers.specs.Numbers.{most_digits, is_gap, ended, words_after, is_short, numbers_in}

-- some numbers in front of those read further on, if these could be read
abbrev pub before : List ℕ → Option (List ℕ) → Option (List ℕ)
before l none = none
before l (some r) = some (l ++ r)

-- the number that ends here: v, if it has digits
abbrev pub ended_number : ℕ → ℕ → List ℕ
ended_number zero v = []
ended_number (suc d) v = v ∷ []

-- the numbers of a text, when d digits of a number were read and have the value v
abbrev pub numbers_from : ℕ → ℕ → List ℕ → Option (List ℕ)
numbers_from d v [] = some (ended_number d v)
numbers_from d v (b ∷ text) = elim (is_digit b) [
  | true ↦ elim (ltb d most_digits) [ true ↦ numbers_from (suc d) (v * 10 + (b - 48)) text | false ↦ none ]
  | false ↦ elim (is_gap b) [ true ↦ before (ended_number d v) (numbers_from 0 0 text) | false ↦ none ]
]

-- nothing in front
pub before-nil : (o : Option (List ℕ)) → before [] o ≡ o
before-nil none = refl
before-nil (some l) = refl

-- one list in front, and another
pub before-both : (k l : List ℕ) (o : Option (List ℕ)) → before k (before l o) ≡ before (k ++ l) o
before-both k l none = refl
before-both k l (some r) = ap some (sym (append_assoc k l r))

-- ---- one byte
-- a gap is no digit
pub gap-no-digit : (b : ℕ) → is_gap b ≡ true → is_digit b ≡ false
gap-no-digit b g = by_bool (is_digit b) (λ e. absurd (true≢false (sym g ∙ no_gap (digit-range b e).0))) (λ e. e)
  where
    no_gap : 48 ≤ b → is_gap b ≡ false
    no_gap h = rw (ne_eqb b 32 (λ q. omega arith), ne_eqb b 10 (λ q. omega arith), ne_eqb b 13 (λ q. omega arith))

-- a digit, when there is room for it
pub digit-step : (d v b : ℕ) (text : List ℕ) → is_digit b ≡ true → d < 6 → numbers_from d v (b ∷ text) ≡ numbers_from (suc d) (v * 10 + (b - 48)) text
digit-step d v b text e h = rw (e, numbers_from, lt-ltb d 6 h)

-- a seventh digit
pub seventh-step : (d v b : ℕ) (text : List ℕ) → is_digit b ≡ true → 6 ≤ d → numbers_from d v (b ∷ text) ≡ none
seventh-step d v b text e h = rw (e, numbers_from, le-ltb d 6 h)

-- a blank, 0a or 0d
pub gap_step : (d v b : ℕ) (text : List ℕ) → is_gap b ≡ true → numbers_from d v (b ∷ text) ≡ before (ended_number d v) (numbers_from 0 0 text)
gap_step d v b text g = rw (gap-no-digit b g, numbers_from, g)

-- anything else
pub other_step : (d v b : ℕ) (text : List ℕ) → is_digit b ≡ false → is_gap b ≡ false → numbers_from d v (b ∷ text) ≡ none
other_step d v b text e g = rw (e, numbers_from, g)

-- ---- by words
-- the numbers of some words
abbrev pub numbers_of : List (List ℕ) → Option (List ℕ)
numbers_of ws = elim (all_pass is_short ws) [ true ↦ some (map (value_after 0) ws) | false ↦ none ]

-- a number in front
short-first : (w : List ℕ) (ws : List (List ℕ)) → is_short w ≡ true → numbers_of (w ∷ ws) ≡ before (value_after 0 w ∷ []) (numbers_of ws)
short-first w ws e = by_bool (all_pass is_short ws) (λ t. rw (e, numbers_of, t, numbers_of)) (λ t. rw (e, numbers_of, t, numbers_of))

-- what is no number in front
bad-first : (w : List ℕ) (ws : List (List ℕ)) → is_short w ≡ false → numbers_of (ended w ++ ws) ≡ none
bad-first [] ws e = absurd (true≢false e)
bad-first (c ∷ w) ws e = rw (e, numbers_of)

-- a word that is no number, however it goes on
bad-word : (w text : List ℕ) → ((x : List ℕ) → is_short (w ++ x) ≡ false) → numbers_of (words_after w text) ≡ none
bad-word w [] h = ap numbers_of (sym (append-nil (ended w))) ∙ bad-first w [] (ap is_short (sym (append-nil w)) ∙ h [])
bad-word w (b ∷ text) h = by_bool (is_gap b)
    (λ g. rw (g, words_after) (bad-first w (words_after [] text) (ap is_short (sym (append-nil w)) ∙ h [])))
    (λ g. rw (g, words_after) (bad-word (w ++ (b ∷ [])) text (λ x. ap is_short (append_assoc w (b ∷ []) x) ∙ h (b ∷ x))))

-- a byte more
digits_more : (w : List ℕ) (b : ℕ) → all_pass is_digit w ≡ true → is_digit b ≡ true → all_pass is_digit (w ++ (b ∷ [])) ≡ true
digits_more [] b h e = rw e
digits_more (c ∷ w) b h e = rw (and_l (is_digit c) (all_pass is_digit w) h) (digits_more w b (and_r (is_digit c) (all_pass is_digit w) h) e)

digits-broken : (w : List ℕ) (b : ℕ) (x : List ℕ) → is_digit b ≡ false → all_pass is_digit ((w ++ (b ∷ [])) ++ x) ≡ false
digits-broken [] b x e = rw e
digits-broken (c ∷ w) b x e = by_bool (is_digit c) (λ t. rw t (digits-broken w b x e)) (λ t. rw t)

length_more : (w : List ℕ) (b : ℕ) → length (w ++ (b ∷ [])) ≡ suc (length w)
length_more w b = simp length-append (omega arith)

-- after the digits w of a word the next byte does the same by words and by steps
module _ (b : ℕ) (text : List ℕ) where
  gap_word : (w : List ℕ) → all_pass is_digit w ≡ true → length w ≤ 6 → is_gap b ≡ true → numbers_of (words_after [] text) ≡ numbers_from 0 0 text
      → numbers_of (words_after w (b ∷ text)) ≡ numbers_from (length w) (value_after 0 w) (b ∷ text)
  gap_word [] h l g r = rw (g, words_after) r ∙ sym (gap_step 0 0 b text g ∙ before-nil (numbers_from 0 0 text))
  gap_word (c ∷ w) h l g r =
      let s : is_short (c ∷ w) ≡ true = rw (h, le-leb (length (c ∷ w)) 6 l) in
      rw (g, words_after) (short-first (c ∷ w) (words_after [] text) s ∙ ap (before (value_after 0 (c ∷ w) ∷ [])) r)
      ∙ sym (gap_step (length (c ∷ w)) (value_after 0 (c ∷ w)) b text g)

  module _ (w : List ℕ) (g : is_gap b ≡ false) where
    digit-word : is_digit b ≡ true → length w < 6
        → numbers_of (words_after (w ++ (b ∷ [])) text) ≡ numbers_from (length (w ++ (b ∷ []))) (value_after 0 (w ++ (b ∷ []))) text
        → numbers_of (words_after w (b ∷ text)) ≡ numbers_from (length w) (value_after 0 w) (b ∷ text)
    digit-word e k r =
        rw (g, words_after) r
        ∙ ap (λ d. numbers_from d (value_after 0 (w ++ (b ∷ []))) text) (length_more w b) ∙ ap (λ v. numbers_from (suc (length w)) v text) (value-snoc 0 w b)
        ∙ sym (digit-step (length w) (value_after 0 w) b text e k)

    seventh-word : is_digit b ≡ true → 6 ≤ length w → numbers_of (words_after w (b ∷ text)) ≡ numbers_from (length w) (value_after 0 w) (b ∷ text)
    seventh-word e k = rw (g, words_after) (bad-word (w ++ (b ∷ [])) text long) ∙ sym (seventh-step (length w) (value_after 0 w) b text e k)
      where
        long : (x : List ℕ) → is_short ((w ++ (b ∷ [])) ++ x) ≡ false
        long x =
            let n : 6 < length ((w ++ (b ∷ [])) ++ x) = simp length-append (omega arith) in
            and-false (all_pass is_digit ((w ++ (b ∷ [])) ++ x)) (leb (length ((w ++ (b ∷ [])) ++ x)) 6) (lt-leb (length ((w ++ (b ∷ [])) ++ x)) 6 n)

    other_word : is_digit b ≡ false → numbers_of (words_after w (b ∷ text)) ≡ numbers_from (length w) (value_after 0 w) (b ∷ text)
    other_word e = rw (g, words_after) (bad-word (w ++ (b ∷ [])) text (λ x. rw (digits-broken w b x e))) ∙ sym (other_step (length w) (value_after 0 w) b text e g)

words-by-steps : (w text : List ℕ) → all_pass is_digit w ≡ true → length w ≤ 6 → numbers_of (words_after w text) ≡ numbers_from (length w) (value_after 0 w) text
words-by-steps [] [] h l = refl
words-by-steps (c ∷ w) [] h l = short-first (c ∷ w) [] (rw (h, le-leb (length (c ∷ w)) 6 l))
words-by-steps w (b ∷ text) h l = by_bool (is_gap b)
    (λ g. gap_word b text w h l g (words-by-steps [] text refl (omega arith)))
    (λ g. by_bool (is_digit b)
    (λ e. by_bool (ltb (length w) 6)
    (λ t. let k = ltb-true (length w) 6 t in
    let n = length_more w b in
    digit-word b text w g e k (words-by-steps (w ++ (b ∷ [])) text (digits_more w b h e) (omega arith)))
    (λ t. seventh-word b text w g e (ltb-false (length w) 6 t)))
    (λ e. other_word b text w g e))

-- the numbers by words are those by steps
pub numbers-by-steps : (text : List ℕ) → numbers_in text ≡ numbers_from 0 0 text
unfolding numbers_in
numbers-by-steps text = words-by-steps [] text refl (omega arith)

-- ---- digits and what they come to
-- one digit more
pub value_low : (d v b : ℕ) → is_digit b ≡ true → v < 10 ^ d → v * 10 + (b - 48) < 10 ^ suc d
value_low d v b e l =
    let x = digit-range b e in
    let p = pow-suc 10 d in
    omega arith

-- at most six digits
pub few-low : (d v : ℕ) → d ≤ 6 → v < 10 ^ d → v < 1000000
few-low d v h l = let p : 10 ^ d ≤ 10 ^ 6 = pow-le-pow_right (omega arith) h in omega arith
