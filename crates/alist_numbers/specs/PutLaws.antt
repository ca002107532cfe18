-- Laws of bytes that are put, of digits, and of numbers on a line.
use Rattle.std.specs.Prelude.{◌≡◌, refl, true, false, List, [], ◌∷◌, ◌++◌, map, ℕ, zero, suc, ◌+◌, ◌-◌, ◌*◌, ◌/◌, ◌%◌, ◌^◌, ◌<◌, ◌≤◌, eqb, length, set, take, drop, replicate}
use Rattle.std.proofs.Common.{sym, ap, ap₂, ◌∙◌, subst, append_assoc, append-nil, pow-suc, arith, lt-ltb, le-ltb, eq-eqb, ne_eqb, length-append, length-set, drop_of_length-le, length-take-le, take_all}
use Rattle.std.proofs.lemmas.List.{length-map}
use Rattle.lists.specs.Lists.{Wrote}
use Rattle.lists.specs.Tests.{eqb-self, eqb-gt}
use Rattle.lists.specs.WroteLaws.{wrote_none, wrote_one, wrote-append}
use Rattle.numerals.specs.NumeralLaws.{decimal-some}
use Rattle.numerals.specs.Numerals.{digits_within, decimal}
use Rattle.alist.specs.AlistText.{number_line, number_lines, padded}
use Rattle.alist_numbers.specs.Put.{Put, PutBelow, PutNumber, gap, numbers_on}

-- ---- bytes
-- none; some after others; the same
pub put-none : (text : List ℕ) (at : ℕ) → Put text at [] text at
put-none text at = record { ends = omega arith; long = refl; stands = λ h. wrote_none text at }

pub put_both : {at r q : ℕ} {x a y b z : List ℕ} → Put x at a y r → Put y r b z q → Put x at (a ++ b) z q
put_both {at} {r} {q} {x} {a} {y} {b} {z} p n =
    let u = p.ends in
    let v = n.ends in
    let k = p.long in
    record {
      ends = simp length-append (omega arith);
      long = n.long ∙ k;
      stands = λ h. wrote-append (omega arith) (p.stands (omega arith)) (n.stands (omega arith));
    }

pub put_is : {at r : ℕ} {x a b y : List ℕ} → a ≡ b → Put x at a y r → Put x at b y r
put_is {at} {r} {x} {a} {b} {y} e p = subst (λ w. Put x at w y r) e p

-- a byte that is stored, and one that isn't
pub put_in : (text : List ℕ) (at b : ℕ) → at < length text → Put text at (b ∷ []) (set text at b) (at + 1)
put_in text at b h = record { ends = refl; long = length-set text at b; stands = λ k. wrote_one text at b h }

pub put-out : (text : List ℕ) (at b : ℕ) → length text ≤ at → Put text at (b ∷ []) text (at + 1)
put-out text at b h = record { ends = refl; long = refl; stands = λ k. absurd (omega arith) }

-- below a limit, and the same
pub put-below : (text : List ℕ) (limit : ℕ) (w : List ℕ) {front : List ℕ} {r : ℕ} → limit ≤ length text → Put (take limit text) 0 w front r → PutBelow limit text w (front ++ drop limit text) r
put-below text limit w {front} {r} h p =
    let e = p.ends in
    let long : length front ≡ limit = p.long ∙ length-take-le limit text h in
    record {
      ends = omega arith;
      none = λ z. ap₂ (λ f k. f ++ drop k text) (empty front (long ∙ z)) z;
      all = λ z b.
          let whole = take_all limit text (omega arith) in
          let kept = ap (λ x. front ++ x) (drop_of_length-le text {i = limit} (omega arith)) ∙ append-nil front in
          let l = ap length whole in
          subst (λ x. Wrote text 0 w x r) (sym kept) (subst (λ x. Wrote x 0 w front r) whole (p.stands (omega arith)));
    }
  where
    empty : (l : List ℕ) → length l ≡ 0 → l ≡ []
    empty [] k = refl
    empty (x ∷ l) k = absurd (omega arith)

pub below-is : {limit r : ℕ} {x a b y : List ℕ} → a ≡ b → PutBelow limit x a y r → PutBelow limit x b y r
below-is {limit} {r} {x} {a} {b} {y} e p = subst (λ w. PutBelow limit x w y r) e p

-- ---- digits
-- a number of one digit, and a number with a digit more
pub put_first : {at r : ℕ} {text text' : List ℕ} (g x : ℕ) → g ≡ 48 + x → x < 10 → Put text at (g ∷ []) text' r → PutNumber x text at text' r
unfolding digits_within
put_first g x e h p k l = let u = p.ends in
    (put_is (ap (λ d. d ∷ []) e ∙ sym (rw (lt-ltb x 10 h, digits_within) refl)) p, omega arith)

pub put_last : {at r q : ℕ} {text y z : List ℕ} (g x : ℕ) → g ≡ 48 + x % 10 → 10 ≤ x → PutNumber (x / 10) text at y r → Put y r (g ∷ []) z q → PutNumber x text at z q
unfolding digits_within
put_last g x e h p n zero l = absurd (omega arith)
put_last g x e h p n (suc k) l =
    let s : x < 10 ^ suc k * 10 = rw pow-suc at l in
    let d = p k (omega arith) in
    let b = d.1 in
    let u = n.ends in
    (put_is (sym (rw (le-ltb x 10 h, digits_within) refl)) (put_both d.0 (put_is (ap (λ c. c ∷ []) e) n)), omega arith)

-- the same number
pub put_same : {x y at r : ℕ} {text text' : List ℕ} → x ≡ y → PutNumber x text at text' r → PutNumber y text at text' r
put_same {at = at} {r = r} {text = text} {text' = text'} e p = subst (λ v. PutNumber v text at text' r) e p

-- a number below 10,000
pub put-decimal : {at r : ℕ} {text text' : List ℕ} (x : ℕ) → x < 10000 → PutNumber x text at text' r → Put text at (decimal x) text' r × (r ≤ at + 4)
put-decimal x h p = ((p 19 (omega arith)).0, (p 3 (omega arith)).1)

-- ---- numbers on a line
-- one more, as the first or after a blank
pub next-first : {at r : ℕ} {text text' : List ℕ} (start x : ℕ) → at ≡ start → Put text at (decimal x) text' r → Put text at (numbers_on (eqb at start) (x ∷ [])) text' r
next-first {at} start x e p = rw (eq-eqb at start e) (put_is (sym (append-nil (decimal x))) p)

pub next-after : {at r q : ℕ} {text y z : List ℕ} (start x : ℕ) → (at ≡ start → ⊥) → Put text at (32 ∷ []) y r → Put y r (decimal x) z q → Put text at (numbers_on (eqb at start) (x ∷ [])) z q
next-after {at} start x e p n = rw (ne_eqb at start e) (put_both p (put_is (sym (append-nil (decimal x))) n))

-- numbers that aren't the first
on-append : (a b : List ℕ) → numbers_on false (a ++ b) ≡ numbers_on false a ++ numbers_on false b
on-append [] b = refl
on-append (x ∷ a) b = ap (λ l. 32 ∷ l) (ap (λ l. decimal x ++ l) (on-append a b) ∙ sym (append_assoc (decimal x) (numbers_on false a) (numbers_on false b)))

-- further numbers
pub on_both : {at r q : ℕ} {x y z : List ℕ} (start : ℕ) (a b : List ℕ) → start ≤ at
    → Put x at (numbers_on (eqb at start) a) y r → Put y r (numbers_on (eqb r start) b) z q → Put x at (numbers_on (eqb at start) (a ++ b)) z q
on_both {at} {r} start [] b h p n = let e : r ≡ at = p.ends ∙ (let z : at + 0 ≡ at = omega arith in z) in
    put_is (ap (λ k. numbers_on (eqb k start) b) e) (put_both p n)
on_both {at} {r} start (v ∷ a) b h p n =
    let f = gap (eqb at start) in
    let d = decimal v ++ numbers_on false a in
    let l = length-append f d in
    let k = length-append (decimal v) (numbers_on false a) in
    let s = decimal-some v in
    let u = p.ends in
    put_is (append_assoc f d (numbers_on false b) ∙ ap (λ w. f ++ w) (append_assoc (decimal v) (numbers_on false a) (numbers_on false b) ∙ ap (λ w. decimal v ++ w) (sym (on-append a b))))
    (put_both p (put_is (ap (λ w. numbers_on w b) (eqb-gt r start (omega arith))) n))

-- the line's end
line-end : (x : ℕ) (l : List ℕ) → decimal x ++ (numbers_on false l ++ (10 ∷ [])) ≡ number_line (x ∷ l)
line-end x [] = refl
line-end x (y ∷ l) = ap (λ w. decimal x ++ (32 ∷ w)) (append_assoc (decimal y) (numbers_on false l) (10 ∷ []) ∙ line-end y l)

-- a line
pub put-line : {at r q : ℕ} {x y z : List ℕ} (l : List ℕ) → Put x at (numbers_on (eqb at at) l) y r → Put y r (10 ∷ []) z q → Put x at (number_line l) z q
put-line {at} l p n = put_is (ap (λ w. numbers_on w l ++ (10 ∷ [])) (eqb-self at) ∙ whole l) (put_both p n)
  where
    whole : (l : List ℕ) → numbers_on true l ++ (10 ∷ []) ≡ number_line l
    whole [] = refl
    whole (x ∷ l) = append_assoc (decimal x) (numbers_on false l) (10 ∷ []) ∙ line-end x l

-- places, numbered from 1, and zeros behind them
pub put-padded : {at r q s : ℕ} {x y z u : List ℕ} (most k : ℕ) (l : List ℕ) → k ≡ length l → Put x at (numbers_on (eqb at at) (map suc l)) y r
    → Put y r (numbers_on (eqb r at) (replicate (most - k) 0)) z q → Put z q (10 ∷ []) u s → Put x at (number_line (padded most (map suc l))) u s
put-padded {at} most k l e p n m =
    put-line (padded most (map suc l)) (put_is (ap (λ c. numbers_on (eqb at at) (map suc l ++ replicate (most - c) 0)) (e ∙ sym (length-map l suc)))
    (on_both at (map suc l) (replicate (most - k) 0) (omega arith) p n)) m

-- lines in two parts, and one line more
pub lines-append : (a b : List (List ℕ)) → number_lines (a ++ b) ≡ number_lines a ++ number_lines b
lines-append [] b = refl
lines-append (l ∷ a) b = ap (λ w. number_line l ++ w) (lines-append a b) ∙ sym (append_assoc (number_line l) (number_lines a) (number_lines b))

pub lines_more : {at r q : ℕ} {x y z : List ℕ} (l : List ℕ) (ls : List (List ℕ)) → Put x at (number_lines ls) y r → Put y r (number_line l) z q → Put x at (number_lines (ls ++ (l ∷ []))) z q
lines_more l ls p n = put_is (ap (λ w. number_lines ls ++ w) (sym (append-nil (number_line l))) ∙ sym (lines-append ls (l ∷ []))) (put_both p n)

-- ---- a list put part by part: of ws all but rest is put, as R says
pub record Part {X : Type 0} (R : List X → Type 0) (ws rest : List X) : Type 0 where
  pub part : List X
  pub whole : part ++ rest ≡ ws
  pub holds : R part

-- none of them
pub part_none : {X : Type 0} {R : List X → Type 0} {ws rest : List X} → R [] → ws ≡ rest → Part R ws rest
part_none h e = record { part = []; whole = sym e; holds = h }

-- some more
pub part-more : {X : Type 0} {R S : List X → Type 0} {ws rest : List X} (vs more : List X) → Part R ws rest → rest ≡ vs ++ more → ((l : List X) → R l → S (l ++ vs)) → Part S ws more
part-more vs more p e f = record { part = p.part ++ vs; whole = append_assoc p.part vs more ∙ ap (λ l. p.part ++ l) (sym e) ∙ p.whole; holds = f p.part p.holds }

-- all of them
pub part-all : {X : Type 0} {R : List X → Type 0} {ws rest : List X} → Part R ws rest → rest ≡ [] → R ws
part-all {X} {R} p e = subst R (sym (append-nil p.part) ∙ ap (λ l. p.part ++ l) (sym e) ∙ p.whole) p.holds
