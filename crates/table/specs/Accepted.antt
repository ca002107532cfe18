-- An accepted table as the loops read it: check j is a run of places at its start.
use Rattle.std.specs.Prelude.{◌≡◌, refl, List, [], ◌∷◌, ℕ, ◌+◌, ◌*◌, ◌<◌, ◌≤◌, length, get_or, take, drop}
use Rattle.std.proofs.Common.{sym, ap, ◌∙◌, subst, mul-le-mul, add-one, arith, drop-cons}
use Rattle.table.specs.Checks.{offset, check, Places, Starts, CheckIn}
use Rattle.table.specs.ChecksLaws.{limits, short, offset-all, checks-length, checks-at, check-places, weight-small}
use Rattle.table.specs.SumLaws.{places-in}
use Rattle.table.specs.Table.{places, size, number, ones_count, checks, refusal}

-- an accepted table, with its number of checks, its places and its packet size
pub record Accepted (t : List ℕ) (m n s : ℕ) : Type 0 where
  pub accepted : refusal t ≡ 0
  pub number_is : m ≡ number t
  pub places-are : n ≡ places t
  pub size_is : s ≡ size t

-- and where each check's places start
pub record Located (t : List ℕ) (m n : ℕ) (starts : List ℕ) : Type 0 where
  pub table : Accepted t m n (size t)
  pub starts-at : Starts t m starts

-- what a look at the table and its first words tell
pub looked-over : (t : List ℕ) (r m n s : ℕ) → r ≡ refusal t → r ≡ 0 → m ≡ number t → n ≡ places t → s ≡ size t → Accepted t m n s
looked-over t r m n s look ok em en es = record { accepted = sym look ∙ ok; number_is = em; places-are = en; size_is = es }

pub words : (t : List ℕ) (r : ℕ) → r ≡ refusal t → r ≡ 0 → 5 ≤ length t
words t r look ok = let l = (limits t (sym look ∙ ok)).long in omega arith

module _ (t : List ℕ) (m n s : ℕ) (k : Accepted t m n s) where
  -- for code that reads neither the places nor the packet size
  pub by_number : Accepted t m (places t) (size t)
  by_number = record { accepted = k.accepted; number_is = k.number_is; places-are = refl; size_is = refl }

  pub few-places : n ≤ 1024
  few-places = rw k.places-are (limits t k.accepted).few-places

  pub few_bytes : s ≤ 1024
  few_bytes = rw k.size_is (limits t k.accepted).few_bytes

  -- the bytes of a block
  pub block-small : n * s ≤ 1048576
  block-small = mul-le-mul few-places few_bytes

  -- the words of a table
  pub few_words : length t ≤ 6661
  few_words = short t k.accepted

  pub few-checks : m ≤ 512
  few-checks = rw k.number_is (limits t k.accepted).few-checks

  pub check-count : length (checks t) ≡ m
  check-count = checks-length t k.accepted ∙ sym k.number_is

  pub has-weights : 5 + m ≤ length t
  has-weights = let l = (limits t k.accepted).long in let e = k.number_is in omega arith

  pub light : (j : ℕ) → j < m → get_or t (4 + j) 0 ≤ 64
  light j h = weight-small t k.accepted j (subst (λ x. j < x) k.number_is h)

  -- check j stands at its start a, with weight w, over a map or a block of n places
  module _ (j : ℕ) (h : j < m) (a w : ℕ) (at : a ≡ 5 + m + offset t j) (weight : w ≡ get_or t (4 + j) 0) where
    pub places-at : (l : ℕ) → l ≡ n → Places t a w l
    places-at l e = rw (at, weight, e, k.number_is, k.places-are) (check-places t k.accepted j (subst (λ x. j < x) k.number_is h))

    pub places-wide : (l : ℕ) → n ≤ l → Places t a w l
    places-wide l e = let p = places-at n refl in record { room = p.room; below = λ i u. let v = p.below i u in omega arith; rising = p.rising }

    pub check-is : take w (drop a t) ≡ get_or (checks t) j []
    unfolding check
    check-is = rw (at, weight, k.number_is) (sym (checks-at t k.accepted j (subst (λ x. j < x) k.number_is h)))

    pub check-fits : a + w ≤ length t
    check-fits = (places-at n refl).room

    pub check-in : (b : List ℕ) → length b ≡ n * s → CheckIn t a w b n s
    check-in b e = places-in t a w b n s (places-at n refl) e

  pub each-places : (j : ℕ) → j < m → Places t (5 + m + offset t j) (get_or t (4 + j) 0) n
  each-places j h = places-at j h (5 + m + offset t j) (get_or t (4 + j) 0) refl refl n refl

-- the last check ends where the table does
pub offset-last : (t : List ℕ) (m n s : ℕ) → Accepted t m n s → 5 + m + offset t m ≡ length t
offset-last t m n s k =
    let e = k.number_is in
    let z : offset t m ≡ ones_count t = ap (offset t) e ∙ offset-all t k.accepted in
    let l = (limits t k.accepted).long in
    omega arith

-- the next start
pub offset-more : (t : List ℕ) (m j a w : ℕ) → a ≡ 5 + m + offset t j → w ≡ get_or t (4 + j) 0 → a + w ≡ 5 + m + offset t (j + 1)
unfolding offset
offset-more t m j a w e f = rw (add-one j) (omega arith)

-- check j and those after it
pub drop_more : (cs : List (List ℕ)) (j : ℕ) → j < length cs → drop j cs ≡ get_or cs j [] ∷ drop (j + 1) cs
drop_more cs j h = rw (add-one, drop-cons cs j [])
