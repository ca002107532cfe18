-- Laws of reading a number.
use mathlib.Core.Path.{◌≡◌, refl, sym, ap, ◌∙◌}
use mathlib.Core.Bool.{true, false, true≢false}
use mathlib.Core.List.{List, [], ◌∷◌}
use mathlib.Core.Option.{Option, none, some}
use Prim.Native.Nat.{ℕ, zero, suc, ◌+◌, ◌-◌, ◌*◌, ◌<◌}
use native.Mathlib.Omega.{arith}
use borrow.Author.Tests.{ltb-true, ltb-false}
use lib.Dec.{ltb}
use lib.ListN.{length, get_or, drop, drop_of_length-le}
use Rattle.lists.specs.Tests.{by_bool}
use Rattle.numerals.specs.Numerals.{is_digit}
use Rattle.numbers.specs.Numbers.{is_gap}
use Rattle.numbers.specs.Steps.{before, numbers_from, before-nil, digit-step, seventh-step, gap_step, other_step, numbers-by-steps, few-low}
use Rattle.numbers.specs.Cursor.{Ahead, Skipped, Taken, Reads}
use Rattle.numbers.proofs.Laws.{next-byte}

-- a gap passed
pub gap-on : (text : List ℕ) (i : ℕ) → i < length text → is_gap (get_or text i 0) ≡ true → numbers_from 0 0 (drop i text) ≡ numbers_from 0 0 (drop (i + 1) text)
gap-on text i h g = ap (numbers_from 0 0) (next-byte text i h) ∙ gap_step 0 0 (get_or text i 0) (drop (i + 1) text) g ∙ before-nil (numbers_from 0 0 (drop (i + 1) text))

-- a digit passed
pub digit-on : (text : List ℕ) (d v i : ℕ) → i < length text → d < 6 → is_digit (get_or text i 0) ≡ true → numbers_from d v (drop i text) ≡ numbers_from (d + 1) (v * 10 + (get_or text i 0 - 48)) (drop (i + 1) text)
digit-on text d v i h f e = let z : suc d ≡ d + 1 = omega arith in
    ap (numbers_from d v) (next-byte text i h) ∙ digit-step d v (get_or text i 0) (drop (i + 1) text) e f ∙ ap (λ m. numbers_from m (v * 10 + (get_or text i 0 - 48)) (drop (i + 1) text)) z

-- ---- what is ahead behind the digits
none-some : {l : List ℕ} → none ≡ some l → ⊥
none-some {l} e = let z : ◌≡◌ {A = ℕ} 0 1 = cc in omega arith

-- the numbers behind the first
others-are : (v x : ℕ) (l : List ℕ) (o : Option (List ℕ)) → before (v ∷ []) o ≡ some (x ∷ l) → (v ≡ x) × (o ≡ some l)
others-are v x l none e = absurd (none-some e)
others-are v x l (some r) e = let q : v ∷ r ≡ x ∷ l = cc in (cc, cc)

-- one or more digits, and no digit next
behind : (d v x : ℕ) (l rest : List ℕ) → numbers_from (suc d) v rest ≡ some (x ∷ l) → (suc d < 6 → (b : ℕ) (r : List ℕ) → rest ≡ b ∷ r → is_digit b ≡ false) → (v ≡ x) × (numbers_from 0 0 rest ≡ some l)
behind d v x l [] e h = let q : v ∷ [] ≡ x ∷ l = cc in let u : [] ≡ l = cc in (cc, ap some u)
behind d v x l (b ∷ r) e h = by_bool (is_digit b)
    (λ t. by_bool (ltb (suc d) 6)
    (λ u. absurd (true≢false (sym t ∙ h (ltb-true (suc d) 6 u) b r refl)))
    (λ u. absurd (none-some (sym (seventh-step (suc d) v b r t (ltb-false (suc d) 6 u)) ∙ e))))
    (λ t. by_bool (is_gap b)
    (λ g. let o = others-are v x l (numbers_from 0 0 r) (sym (gap_step (suc d) v b r g) ∙ e) in
    (o.0, gap_step 0 0 b r g ∙ before-nil (numbers_from 0 0 r) ∙ o.1))
    (λ g. absurd (none-some (sym (other_step (suc d) v b r t g) ∙ e))))

-- no digit at all: there is no number, unless a gap is next
nothing-there : (v x : ℕ) (l rest : List ℕ) → numbers_from 0 v rest ≡ some (x ∷ l) → ((b : ℕ) (r : List ℕ) → rest ≡ b ∷ r → (is_digit b ≡ false) × (is_gap b ≡ false)) → ⊥
nothing-there v x l [] e h = let z : ◌≡◌ {A = List ℕ} [] (x ∷ l) = cc in let y : ◌≡◌ {A = ℕ} 0 1 = cc in omega arith
nothing-there v x l (b ∷ r) e h = let u = h b r refl in none-some (sym (other_step 0 v b r u.0 u.1) ∙ e)

-- the byte at r
byte_at : (text : List ℕ) (r b : ℕ) (l : List ℕ) → drop r text ≡ b ∷ l → (r < length text) × (get_or text r 0 ≡ b)
byte_at text r b l e = by_bool (ltb r (length text))
    (λ t. let h = ltb-true r (length text) t in let q : get_or text r 0 ∷ drop (r + 1) text ≡ b ∷ l = sym (next-byte text r h) ∙ e in (h, cc))
    (λ t. let q : ◌≡◌ {A = List ℕ} [] (b ∷ l) = sym (drop_of_length-le text (ltb-false r (length text) t)) ∙ e in absurd (let y : ◌≡◌ {A = ℕ} 0 1 = cc in omega arith))

-- gaps skipped and digits taken: the first number read
both : (text : List ℕ) (at s v r d x : ℕ) (l : List ℕ) → Skipped text at s → (t : Taken text s v r) → t.digits ≡ d → Ahead text at (x ∷ l) → (v ≡ x) × Ahead text r l
both text at s v r zero x l k t q e =
    let m : r ≡ s = (let w = t.moved in omega arith) in
    let n : numbers_from 0 v (drop r text) ≡ some (x ∷ l) = ap (λ z. numbers_from z v (drop r text)) (sym q) ∙ sym t.same ∙ sym k.same ∙ sym (numbers-by-steps (drop at text)) ∙ e in
    absurd (nothing-there v x l (drop r text) n (λ b y z. let u = byte_at text r b y z in
    let h : r < length text = u.0 in
    let g : s < length text = omega arith in
    (ap is_digit (sym u.1) ∙ t.stops h (omega arith), ap is_gap (sym u.1 ∙ ap (λ j. get_or text j 0) m) ∙ k.stops g)))
both text at s v r (suc d) x l k t q e =
    let n : numbers_from (suc d) v (drop r text) ≡ some (x ∷ l) = ap (λ z. numbers_from z v (drop r text)) (sym q) ∙ sym t.same ∙ sym k.same ∙ sym (numbers-by-steps (drop at text)) ∙ e in
    let o = behind d v x l (drop r text) n (λ f b y z. let u = byte_at text r b y z in ap is_digit (sym u.1) ∙ t.stops u.0 (omega arith)) in
    (o.0, numbers-by-steps (drop r text) ∙ o.1)

-- reading
pub reads : {text : List ℕ} {at s v r : ℕ} → Skipped text at s → Taken text s v r → Reads text at v r
reads {text} {at} {s} {v} {r} k t = record {
  small = few-low t.digits v t.few t.low;
  first = λ x l e. (both text at s v r t.digits x l k t refl e).0;
  others = λ x l e. (both text at s v r t.digits x l k t refl e).1;
}
