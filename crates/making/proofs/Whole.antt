-- The whole table: its head, its weights, W0 and its places, one after the other.
use mathlib.Core.Path.{◌≡◌, sym, ap, subst}
use mathlib.Core.List.{List, [], ◌∷◌, map, append-nil}
use Prim.Native.Nat.{ℕ, ◌+◌, ◌≤◌}
use native.Mathlib.Omega.{arith}
use lib.ListN.{length, set}
use Rattle.lists.specs.Lists.{Wrote}
use Rattle.lists.specs.WroteLaws.{Left, left-all, left_is, left-done, left-more, left_one, wrote-length}
use Rattle.table.specs.Table.{ones}
use Rattle.making.specs.Making.{table_words}
use Rattle.making.specs.ReadBack.{length-written}
use Rattle.making.specs.Written.{flat, tail, table_of}
use Rattle.lists.specs.WroteLaws.{front-room}

module _ (l : List ℕ) (n s m o : ℕ) (cs : List (List ℕ)) (long : length l ≡ table_words) (rows : length cs ≡ m) (few : m ≤ 512) (sum : o ≡ ones cs) (light : o ≤ 6144) where
  fits : 0 + length (table_of n s cs) ≤ length l
  fits = let h = length-written n s cs in omega arith

  module _ {e f : List ℕ} (head : Wrote l 0 (2 ∷ n ∷ s ∷ m ∷ []) e 4) (weights : Wrote e 4 (map length cs) f (4 + m)) where
    after-head : Left l 0 (table_of n s cs) (tail cs) e 4
    after-head = left-more fits (2 ∷ n ∷ s ∷ m ∷ []) (tail cs) (left_is _ (left-all l 0 (table_of n s cs)) (ap (λ x. 2 ∷ n ∷ s ∷ x ∷ tail cs) rows)) head

    after-ones : Left l 0 (table_of n s cs) (flat cs) (set f (4 + m) o) (5 + m)
    after-ones =
        let z : 4 + m + 1 ≡ 5 + m = omega arith in
        subst (λ k. Left l 0 (table_of n s cs) (flat cs) (set f (4 + m) o) k) z
        (left_one fits (left_is (o ∷ flat cs) (left-more fits (map length cs) (ones cs ∷ flat cs) after-head weights) (ap (λ x. x ∷ flat cs) (sym sum))))

    -- the places have room
    pub rows-room : 5 + m + length (flat cs) ≤ length (set f (4 + m) o)
    rows-room = front-room (flat cs) [] fits (left_is _ after-ones (sym (append-nil (flat cs))))

    pub whole : {g : List ℕ} {r : ℕ} → Wrote (set f (4 + m) o) (5 + m) (flat cs) g r → Wrote l 0 (table_of n s cs) g r
    whole w = left-done (left-more fits (flat cs) [] (left_is _ after-ones (sym (append-nil (flat cs)))) w)

    pub whole_length : {g : List ℕ} {r : ℕ} → Wrote (set f (4 + m) o) (5 + m) (flat cs) g r → length g ≡ length l
    whole_length w = let h = whole w in let k = h.next in let j = fits in wrote-length h (omega arith)
