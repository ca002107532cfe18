-- The cursors of a text: the lists that lie ahead of them, and the tests of weights and lists.
use mathlib.Core.Path.{◌≡◌, ap}
use mathlib.Core.Bool.{true, false, ◌&&◌}
use mathlib.Core.List.{List}
use Prim.Native.Nat.{ℕ, ◌+◌, ◌*◌, ◌<◌, ◌≤◌}
use native.Mathlib.Nat.{mul-le-mul}
use native.Mathlib.Omega.{arith}
use borrow.Author.Tests.{ne_eqb, eq-eqb}
use lib.Dec.{eqb}
use lib.ListN.{length, get_or, take, drop, length-drop}
use lib.Seq.{get_or-take, length-take-le}
use Rattle.lists.specs.ListLaws.{all-at}
use Rattle.lists.specs.Tests.{and_l, and_r, eqb-true}
use Rattle.numbers.specs.Cursor.{Ahead}
use Rattle.alist.specs.Alist.{greatest, chunks, good_lists, right_most, is_alist}
use Rattle.alist.specs.AlistLaws.{greatest-all}
use Rattle.walks.specs.Walks.{Skips, ListsAhead}
use Rattle.walks.specs.WalksLaws.{room-from}
use Rattle.alist_read.specs.Reading.{whole, sound, Parts}

-- ---- the lists ahead
pub parts_from : {text : List ℕ} {n m a b at rw cl rl : ℕ} {l : List ℕ} → length l ≡ n + m + n * a + m * b → Ahead text at l → Skips text at n rw → Skips text rw m cl → Skips text cl (n * a) rl
    → Parts text n m a b at rw cl rl l
parts_from {text} {n} {m} {a} {b} {at} {rw} {cl} {rl} {l} e h p q r =
    let d = length-drop n l in
    let f = length-drop m (drop n l) in
    let u = p l h (omega arith) in
    let v = q (drop n l) u (omega arith) in
    record { long = e; column-weights = h; row-weights = u; column-lists = v; row-lists = r (drop m (drop n l)) v (omega arith) }

-- no weight is over the greatest
weights-within : (count width : ℕ) (ws : List ℕ) → count ≤ length ws → greatest (take count ws) ≡ width → (i : ℕ) → i < count → get_or ws i 0 ≤ width
weights-within count width ws e g i h = let t = length-take-le count ws e in let q = get_or-take count ws i 0 h in let r = all-at 0 (greatest-all (take count ws)) i (omega arith) in omega arith

module _ {text : List ℕ} {n m a b cw rw cl rl : ℕ} {l : List ℕ} (p : Parts text n m a b cw rw cl rl l) where
  long1 : length (drop n l) ≡ m + n * a + m * b
  long1 = let e = length-drop n l in let q = p.long in omega arith

  long2 : length (drop m (drop n l)) ≡ n * a + m * b
  long2 = let e = length-drop m (drop n l) in let q = long1 in omega arith

  long3 : length (drop (n * a) (drop m (drop n l))) ≡ m * b
  long3 = let e = length-drop (n * a) (drop m (drop n l)) in let q = long2 in omega arith

  pub enough-columns : n ≤ length l
  enough-columns = let q = p.long in omega arith

  pub enough-rows : m ≤ length (drop n l)
  enough-rows = let q = long1 in omega arith

  pub columns-lie : greatest (take n l) ≡ a → ListsAhead text cw cl n a l (drop m (drop n l))
  columns-lie g = record {
    weights-ahead = p.column-weights;
    enough = enough-columns;
    lists-ahead = p.column-lists;
    room = room-from n a (drop m (drop n l)) (let q = long2 in omega arith);
    within = weights-within n a l enough-columns g;
  }

  pub rows_lie : greatest (take m (drop n l)) ≡ b → ListsAhead text rw rl m b (drop n l) (drop (n * a) (drop m (drop n l)))
  rows_lie g = record {
    weights-ahead = p.row-weights;
    enough = enough-rows;
    lists-ahead = p.row-lists;
    room = room-from m b (drop (n * a) (drop m (drop n l))) (let q = long3 in omega arith);
    within = weights-within m b (drop n l) enough-rows g;
  }

-- ---- the tests
pub product_small : (x y : ℕ) → x < 1000000 → y < 1000000 → x * y < 1000000000000
product_small x y h k = let p : x * y ≤ 999999 * 999999 = mul-le-mul {n₁ = x} {m₁ = y} {n₂ = 999999} {m₂ = 999999} (omega arith) (omega arith) in omega arith

module _ (n m a b : ℕ) (l : List ℕ) where
  -- too few or too many numbers, or as many as there should be
  pub miscounted : (length l ≡ n + m + n * a + m * b → ⊥) → is_alist (whole n m a b l) ≡ false
  miscounted h = ap (λ x. x && sound (whole n m a b l)) (ne_eqb (length (whole n m a b l)) (4 + n + m + n * a + m * b) (λ z. h (omega arith)))

  pub counts-right : length l ≡ n + m + n * a + m * b → is_alist (whole n m a b l) ≡ sound (whole n m a b l)
  counts-right h = ap (λ x. x && sound (whole n m a b l)) (eq-eqb (length (whole n m a b l)) (4 + n + m + n * a + m * b) (omega arith))

  -- a wrong greatest weight
  pub column-wrong : (greatest (take n l) ≡ a → ⊥) → false ≡ sound (whole n m a b l)
  column-wrong h = rw (ne_eqb (greatest (take n l)) a h)

  pub row-wrong : greatest (take n l) ≡ a → (greatest (take m (drop n l)) ≡ b → ⊥) → false ≡ sound (whole n m a b l)
  row-wrong g h = rw (eq-eqb (greatest (take n l)) a g, ne_eqb (greatest (take m (drop n l))) b h)

  -- right ones
  pub sound-is : greatest (take n l) ≡ a → greatest (take m (drop n l)) ≡ b
      → sound (whole n m a b l) ≡ (good_lists m (take n l) (chunks n a (drop m (drop n l))) && good_lists n (take m (drop n l)) (chunks m b (drop (n * a) (drop m (drop n l)))))
  sound-is g h = rw (eq-eqb (greatest (take n l)) a g, eq-eqb (greatest (take m (drop n l))) b h)

  pub sound-greatest : sound (whole n m a b l) ≡ true → (greatest (take n l) ≡ a) × (greatest (take m (drop n l)) ≡ b)
  sound-greatest e = let r = and_l (right_most (whole n m a b l)) _ e in
      (eqb-true (greatest (take n l)) a (and_l (eqb (greatest (take n l)) a) _ r), eqb-true (greatest (take m (drop n l))) b (and_r (eqb (greatest (take n l)) a) _ r))
