-- Laws of walks: one number read, one list passed, the lists from one on.
use Rattle.std.specs.Prelude.{◌≡◌, Bool, true, false, List, [], ◌∷◌, ◌++◌, ℕ, zero, suc, ◌+◌, ◌-◌, ◌*◌, ◌<◌, ◌≤◌, length, get_or, take, drop}
use Rattle.std.proofs.Common.{sym, ap, ap₂, ◌∙◌, subst, true≢false, zero-mul, suc-mul, mul-le-mul_right, add-one, arith, length-drop, drop-cons, drop-drop, get_or-drop, get_or-take, length-take-le, take-suc}
use Rattle.std.proofs.Math.Option.{some}
use Rattle.lists.specs.ListLaws.{all-at, all_pass_lem, all_snoc, pass_all}
use Rattle.lists.specs.Lists.{all_pass}
use Rattle.lists.specs.Tests.{by_bool}
use Rattle.numbers.specs.Cursor.{Ahead, Reads}
use Rattle.walks.specs.Walks.{after, list_at, ListsAhead}

-- ---- one number
next-number : (l : List ℕ) (i : ℕ) → i < length l → drop i l ≡ get_or l i 0 ∷ drop (i + 1) l
next-number l i h = rw add-one (drop-cons l i 0 h)

-- what is read is the next number, and the others are ahead
pub step_value : {text : List ℕ} {next v r : ℕ} (l : List ℕ) (i : ℕ) → Reads text next v r → Ahead text next (drop i l) → i < length l → v ≡ get_or l i 0
step_value l i q a h = q.first (get_or l i 0) (drop (i + 1) l) (a ∙ ap some (next-number l i h))

pub step-next : {text : List ℕ} {next v r : ℕ} (l : List ℕ) (i : ℕ) → Reads text next v r → Ahead text next (drop i l) → i < length l → Ahead text r (drop (i + 1) l)
step-next l i q a h = q.others (get_or l i 0) (drop (i + 1) l) (a ∙ ap some (next-number l i h))

-- a number more
pub one_more : (l : List ℕ) (i v : ℕ) → i < length l → v ≡ get_or l i 0 → take (i + 1) l ≡ take i l ++ (v ∷ [])
one_more l i v h e = ap (λ k. take k l) (add-one i) ∙ take-suc l i 0 h ∙ ap (λ x. take i l ++ (x ∷ [])) (sym e)

-- ---- a test of all numbers: it fails where one fails, and goes on where one passes
pub pass-fails : (f : ℕ → Bool) (l : List ℕ) (count i v : ℕ) → count ≤ length l → i < count → v ≡ get_or l i 0 → f v ≡ false → all_pass f (take count l) ≡ false
pass-fails f l count i v few h e n = let z = length-take-le count l few in by_bool (all_pass f (take count l))
    (λ t. absurd (true≢false (sym (all-at 0 (pass_all f (take count l) t) i (omega arith)) ∙ ap f (get_or-take count l i 0 h ∙ sym e) ∙ n)))
    (λ t. t)

pub pass-next : (f : ℕ → Bool) (l : List ℕ) (i v : ℕ) → i < length l → v ≡ get_or l i 0 → all_pass f (take i l) ≡ true → f v ≡ true → all_pass f (take (i + 1) l) ≡ true
pass-next f l i v h e a t = ap (all_pass f) (one_more l i v h e) ∙ all_pass_lem f (all_snoc (pass_all f (take i l) a) t)

-- ---- lists
-- lists behind lists
pub after_more : (i j width : ℕ) (l : List ℕ) → after j width (after i width l) ≡ after (i + j) width l
after_more i zero width l = let z : i ≡ i + 0 = omega arith in ap (λ k. after k width l) z
after_more i (suc j) width l = let z : suc (i + j) ≡ i + suc j = omega arith in ap (drop width) (after_more i j width l) ∙ ap (λ k. after k width l) z

-- ---- lists by products
pub after_is : (i width : ℕ) (l : List ℕ) → after i width l ≡ drop (i * width) l
after_is zero width l = let z : 0 ≡ 0 * width = sym (zero-mul width) in ap (λ k. drop k l) z
after_is (suc i) width l = ap (drop width) (after_is i width l) ∙ drop-drop width (i * width) l ∙ ap (λ k. drop k l) (sym (suc-mul i width))

-- room for count lists, by their numbers
pub room-from : (count width : ℕ) (l : List ℕ) → count * width ≤ length l → (i : ℕ) → i < count → width ≤ length (after i width l)
room-from count width l h i k =
    let e = ap length (after_is i width l) ∙ length-drop (i * width) l in
    let s = suc-mul i width in
    let g : suc i * width ≤ count * width = mul-le-mul_right width k in
    omega arith

pub room-all : (count width : ℕ) (l : List ℕ) → ((i : ℕ) → i < count → width ≤ length (after i width l)) → count * width ≤ length l
room-all zero width l h = let z = zero-mul width in omega arith
room-all (suc i) width l h =
    let e = ap length (after_is i width l) ∙ length-drop (i * width) l in
    let s = suc-mul i width in
    let g = h i (omega arith) in
    let r = room-all i width l (λ j k. h j (omega arith)) in
    omega arith

-- ---- one list, and the lists from one on
-- behind the entries and the padding of list i
pub after_next : (text : List ℕ) (r i width v : ℕ) (l : List ℕ) → v ≤ width → Ahead text r (drop (width - v) (drop v (after i width l))) → Ahead text r (after (i + 1) width l)
after_next text r i width v l h a = let z : v + (width - v) ≡ width = omega arith in
    subst (λ x. Ahead text r x) (drop-drop (width - v) v (after i width l) ∙ ap (λ k. drop k (after i width l)) z ∙ ap (λ k. after k width l) (sym (add-one i))) a

-- list j from list i on
pub list-from : (i j width : ℕ) (ws l : List ℕ) → list_at width (drop i ws) (after i width l) j ≡ list_at width ws l (i + j)
list-from i j width ws l = ap₂ take (get_or-drop i ws j 0) (after_more i j width l)

-- k lists from list i on
pub lists-from : {text : List ℕ} {weights at count width : ℕ} {ws l : List ℕ} {weight next : ℕ} → ListsAhead text weights at count width ws l → (i k : ℕ) → i + k ≤ count
    → Ahead text weight (drop i ws) → Ahead text next (after i width l) → ListsAhead text weight next k width (drop i ws) (after i width l)
lists-from {text} {weights} {at} {count} {width} {ws} {l} g i k h a b = let d = length-drop i ws in let e = g.enough in record {
  weights-ahead = a;
  enough = omega arith;
  lists-ahead = b;
  room = λ j p. subst (λ x. width ≤ length x) (sym (after_more i j width l)) (g.room (i + j) (omega arith));
  within = λ j p. subst (λ x. x ≤ width) (sym (get_or-drop i ws j 0)) (g.within (i + j) (omega arith));
}

-- ---- a walk over lists that stands at list i: its weight is read next
module _ {text : List ℕ} {weights at count width : ℕ} {ws l : List ℕ} (g : ListsAhead text weights at count width ws l) where
  -- the weight, and the entries
  pub weight_is : {weight v r : ℕ} (i : ℕ) → i < count → Reads text weight v r → Ahead text weight (drop i ws) → v ≡ get_or ws i 0
  weight_is i h q a = step_value ws i q a (let e = g.enough in omega arith)

  pub weight-next : {weight v r : ℕ} (i : ℕ) → i < count → Reads text weight v r → Ahead text weight (drop i ws) → Ahead text r (drop (i + 1) ws)
  weight-next i h q a = step-next ws i q a (let e = g.enough in omega arith)

  pub weight-within : (i v : ℕ) → i < count → v ≡ get_or ws i 0 → v ≤ width
  weight-within i v h e = let w = g.within i h in omega arith
