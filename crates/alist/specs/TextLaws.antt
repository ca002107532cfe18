-- Numbers that are written are read back: words, lines, texts.
use Rattle.std.specs.Prelude.{◌≡◌, refl, true, false, List, [], ◌∷◌, ◌++◌, map, ℕ, ◌<◌, ◌≤◌, leb, length}
use Rattle.std.proofs.Common.{sym, ap, ap₂, ◌∙◌, append_assoc, append-nil, arith, le-leb, leb-true}
use Rattle.std.proofs.lemmas.List.{map-append}
use Rattle.std.proofs.Math.Option.{some}
use Rattle.lists.specs.ListLaws.{all_append, all_map, all_pass_lem, map-all}
use Rattle.lists.specs.Lists.{All, All.nil, All.cons, all_pass}
use Rattle.lists.specs.Tests.{and_both, and_l, by_bool, eqb-gt}
use Rattle.making.specs.Written.{flat}
use Rattle.numerals.specs.NumeralLaws.{decimal-digits, decimal-few, decimal-some, decimal-value}
use Rattle.numerals.specs.Numerals.{is_digit, value_after, decimal}
use Rattle.numbers.specs.Numbers.{is_gap, ended, words_after, words_in, is_short, numbers_in}
use Rattle.alist.specs.AlistText.{number_line, number_lines}

-- ---- words
-- a text is cut at each blank, 0a and 0d, whichever it is
words-after : (w a b : List ℕ) (gap : ℕ) → is_gap gap ≡ true → words_after w (a ++ (gap ∷ b)) ≡ words_after w a ++ words_in b
words-after w [] b gap g = rw (g, words_after)
words-after w (c ∷ a) b gap g = by_bool (is_gap c)
    (λ e. rw (e, words_after) (ap (λ r. ended w ++ r) (words-after [] a b gap g) ∙ sym (append_assoc (ended w) (words_after [] a) (words_in b))))
    (λ e. rw (e, words_after) (words-after (w ++ (c ∷ [])) a b gap g))

pub words-cut : (a b : List ℕ) (gap : ℕ) → is_gap gap ≡ true → words_in (a ++ (gap ∷ b)) ≡ words_in a ++ words_in b
words-cut a b gap g = words-after [] a b gap g

-- one word
one_word : (w : List ℕ) {a : List ℕ} → All (λ b. is_gap b ≡ false) a → words_after w a ≡ ended (w ++ a)
one_word w nil = ap ended (sym (append-nil w))
one_word w (cons {x = b} {l = a} h r) = rw (h, words_after) (one_word (w ++ (b ∷ [])) r ∙ ap ended (append_assoc w (b ∷ []) a))

-- a digit is none of the bytes between
digit-inside : (b : ℕ) → is_digit b ≡ true → is_gap b ≡ false
digit-inside b e =
    let h = leb-true 48 b (and_l (leb 48 b) (leb b 57) e) in
    rw (eqb-gt b 32 (omega arith), eqb-gt b 10 (omega arith), eqb-gt b 13 (omega arith))

-- a number's word
number_word : (x : ℕ) → words_in (decimal x) ≡ decimal x ∷ []
number_word x = one_word [] (all_map digit-inside (decimal-digits x)) ∙ whole (decimal x) (decimal-some x)
  where
    whole : (w : List ℕ) → 1 ≤ length w → ended w ≡ w ∷ []
    whole [] h = absurd (omega arith)
    whole (b ∷ w) h = refl

-- a number, a blank or a line feed, and the rest
number-words : (x : ℕ) (rest : List ℕ) (gap : ℕ) → is_gap gap ≡ true → words_in (decimal x ++ (gap ∷ rest)) ≡ decimal x ∷ words_in rest
number-words x rest gap g = words-cut (decimal x) rest gap g ∙ ap (λ w. w ++ words_in rest) (number_word x)

-- ---- lines
line-words : (l rest : List ℕ) → words_in (number_line l ++ rest) ≡ map decimal l ++ words_in rest
line-words [] rest = refl
line-words (x ∷ []) rest = ap words_in (append_assoc (decimal x) (10 ∷ []) rest) ∙ number-words x rest 10 refl
line-words (x ∷ y ∷ l) rest =
    ap words_in (append_assoc (decimal x) (32 ∷ number_line (y ∷ l)) rest) ∙ number-words x (number_line (y ∷ l) ++ rest) 32 refl
    ∙ ap (λ w. decimal x ∷ w) (line-words (y ∷ l) rest)

text-words : (ls : List (List ℕ)) → words_in (number_lines ls) ≡ map decimal (flat ls)
text-words [] = refl
text-words (l ∷ ls) = line-words l (number_lines ls) ∙ ap (λ w. map decimal l ++ w) (text-words ls) ∙ sym (map-append decimal l (flat ls))

-- ---- numbers
-- a number below a million is short
number_short : (x : ℕ) → x < 1000000 → is_short (decimal x) ≡ true
number_short x h = and_both _ _ (all_pass_lem is_digit (decimal-digits x)) (le-leb (length (decimal x)) 6 (decimal-few 5 x h))

-- and is read as itself
values-back : {l : List ℕ} → All (λ x. x < 1000000) l → map (value_after 0) (map decimal l) ≡ l
values-back nil = refl
values-back (cons {x = x} h a) = ap₂ ◌∷◌ (decimal-value x (omega arith)) (values-back a)

-- of all lines
all-flat : {P : ℕ → Type 0} {ls : List (List ℕ)} → All (All P) ls → All P (flat ls)
all-flat nil = nil
all-flat (cons h a) = all_append h (all-flat a)

-- the numbers of all lines, each below a million
pub text-read : {ls : List (List ℕ)} → All (All (λ x. x < 1000000)) ls → numbers_in (number_lines ls) ≡ some (flat ls)
unfolding numbers_in
text-read {ls} a =
    let small = all-flat a in
    let e : all_pass is_short (words_in (number_lines ls)) ≡ true = ap (all_pass is_short) (text-words ls) ∙ all_pass_lem is_short (map-all decimal (all_map number_short small)) in
    rw (e, numbers_in) (ap some (ap (map (value_after 0)) (text-words ls) ∙ values-back small))
