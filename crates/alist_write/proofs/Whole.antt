-- The text of the rows of bits is the table's; the answers.
use mathlib.Core.Path.{◌≡◌, refl, sym, ap, ap₂, ◌∙◌}
use mathlib.Core.List.{List, [], ◌∷◌, ◌++◌, map, map-map}
use Prim.Native.Nat.{ℕ, suc, ◌+◌, ◌<◌, ◌≤◌}
use native.Mathlib.Omega.{arith}
use borrow.Author.Tests.{lt-ltb, le-ltb}
use lib.Dec.{ltb}
use lib.ListN.{length, drop, length-map}
use Rattle.lists.specs.ListLaws.{all_of, map_same}
use Rattle.lists.specs.Lists.{from}
use Rattle.table.specs.FirstCauseLaws.{first-decides, none_of, rest-decides}
use Rattle.table.specs.Table.{places, checks, table_causes, refusal}
use Rattle.bits.specs.Row.{row, places_in, rows_in}
use Rattle.making.specs.MakingLaws.{make-refused}
use Rattle.making.specs.Making.{MakeAnswer, make_answer_at, make_buffer_after}
use Rattle.making.specs.MakingLaws.{rows-length}
use Rattle.alist.specs.Alist.{greatest}
use Rattle.alist.specs.AlistText.{number_lines, column_of, columns_of, rows_of, padded, alist_lines, alist_text, alist_write_refusal_at, alist_write_answer, alist_write_text_after}
use Rattle.alist_bits.specs.Loaded.{Loaded}
use Rattle.alist_numbers.specs.Put.{PutBelow}
use Rattle.alist_lines.specs.Lines.{lines}
use Rattle.alist_write.specs.Rows.{bits_text, room_refusal, Answered}

-- ---- the text
-- a list has as many numbers as its row has places
weights-same : (ls : List (List ℕ)) → map length ls ≡ map length (rows_of ls)
weights-same [] = refl
weights-same (l ∷ ls) = ap₂ ◌∷◌ (sym (length-map l suc)) (weights-same ls)

-- the lines, by what each is
lines_same : (n m a b : ℕ) (v w : List ℕ) (columns rows : List (List ℕ)) → a ≡ greatest v → b ≡ greatest w → m ≡ length rows → v ≡ map length columns → w ≡ map length rows
    → (n ∷ m ∷ []) ∷ (a ∷ b ∷ []) ∷ v ∷ w ∷ (map (padded a) columns ++ map (padded b) rows) ≡ alist_lines n columns rows
lines_same n m a b v w columns rows ea eb em ev ew = rw (ea, eb, em, ev, ew)

module _ (columns : List ℕ) (n a : ℕ) (rows : List ℕ) (m b : ℕ) where
  -- with the greatest weights it is the text
  pub whole-text : a ≡ greatest (map length (rows_in columns n)) → b ≡ greatest (map length (rows_in rows m)) → number_lines (lines columns n a rows m b) ≡ bits_text columns n rows m
  unfolding lines bits_text
  whole-text ea eb = ap number_lines (lines_same n m a b _ _ (rows_of (rows_in columns n)) (rows_of (rows_in rows m)) ea eb
      (sym (length-map (rows_in rows m) (map suc) ∙ rows-length rows m)) (weights-same (rows_in columns n)) (weights-same (rows_in rows m)))

-- the rows hold the table's lists
pub table-text : {t columns rows : List ℕ} {m : ℕ} (n : ℕ) → Loaded t m columns rows → n ≡ places t → bits_text columns n rows m ≡ alist_text t
unfolding bits_text alist_text
table-text {t} {columns} n l e =
    ap₂ (λ x y. number_lines (alist_lines n x y))
    (map-map (map suc) (λ c. places_in (row columns c)) (from 0 n) ∙ map_same (λ c. map suc (places_in (row columns c))) (column_of (checks t)) (all_of (λ c. ap (map suc) (l.column c)) (from 0 n)))
    (ap rows_of l.listed)
    ∙ ap (λ k. number_lines (alist_lines k (columns_of k (checks t)) (rows_of (checks t)))) e

-- ---- the answers
module _ (b w : List ℕ) {c : List ℕ} {r : ℕ} (measured : PutBelow 0 b w c r) where
  -- too short
  pub answer-short : length c < r → Answered b w (record { refusal = 5; length = 0 }) c
  answer-short h =
      let e = ap length (measured.none refl) in
      let m = measured.ends in
      let t = lt-ltb (length b) (length w) (omega arith) in
      record { answer = rw t; text = rw t (measured.none refl) }

  -- long enough
  pub answer-written : {e : List ℕ} {q : ℕ} → r ≤ length c → PutBelow (length c) c w e q → Answered b w (record { refusal = 0; length = r }) e
  answer-written h p =
      let same = measured.none refl in
      let u = ap length same in
      let m = measured.ends in
      let n = p.ends in
      let t = le-ltb (length b) (length w) (omega arith) in
      record {
        answer = rw t (ap (λ x. record { refusal = 0; length = x }) m);
        text = rw t ((p.all refl (omega arith)).list ∙ ap (λ x. w ++ drop (0 + length w) x) same);
      }

module _ (t b : List ℕ) where
  -- an accepted table: the room decides
  pub answer-room : {w e : List ℕ} {a : MakeAnswer} → refusal t ≡ 0 → w ≡ alist_text t → Answered b w a e → (a ≡ alist_write_answer t b) × (e ≡ alist_write_text_after t b)
  unfolding alist_write_refusal_at
  answer-room ok s a =
      let z = rest-decides (none_of (table_causes t) refl ok) ((ltb (length b) (length (alist_text t)), 5) ∷ []) in (
        a.answer ∙ ap (λ x. make_answer_at (room_refusal b x) x) s ∙ sym (ap (λ x. make_answer_at x (alist_text t)) z),
        a.text ∙ ap (λ x. make_buffer_after (room_refusal b x) x b) s ∙ sym (ap (λ x. make_buffer_after x (alist_text t) b) z),
      )

  -- a table that is refused
  pub answer-refused : (x : ℕ) → x ≡ refusal t → (x ≡ 0 → ⊥) → (record { refusal = x; length = 0 } ≡ alist_write_answer t b) × (b ≡ alist_write_text_after t b)
  unfolding alist_write_refusal_at
  answer-refused x e n =
      let z = e ∙ sym (first-decides (table_causes t) ((ltb (length b) (length (alist_text t)), 5) ∷ []) (λ q. n (e ∙ q))) in
      let k = make-refused x (alist_text t) b n in
      (sym k.0 ∙ ap (λ y. make_answer_at y (alist_text t)) z, sym k.1 ∙ ap (λ y. make_buffer_after y (alist_text t) b) z)
