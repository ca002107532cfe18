-- The answers of the reader: the first cause that holds, what is answered then, and what the buffer holds.
use mathlib.Core.Path.{◌≡◌, refl, sym, ap, ap₂, ◌∙◌, subst}
use mathlib.Core.Bool.{true, false, not, ◌&&◌}
use mathlib.Core.List.{List, [], ◌∷◌}
use mathlib.Core.Option.{Option, none, some}
use Prim.Native.Nat.{ℕ, suc, ◌+◌, ◌-◌, ◌*◌, ◌<◌, ◌≤◌}
use native.Mathlib.Omega.{arith}
use borrow.Author.Tests.{ne_eqb}
use lib.ListN.{length, get_or}
use Rattle.lists.specs.Lists.{Wrote}
use Rattle.table.specs.Table.{beyond}
use Rattle.making.specs.Making.{MakeAnswer, table_words, too_heavy, make_answer_at, make_buffer_after}
use Rattle.making.specs.Written.{table_of}
use Rattle.numbers.specs.Counting.{count_of}
use Rattle.std.specs.Prelude.{Some, None}
use Rattle.numbers.specs.Cursor.{Ahead, Reads}
use Rattle.numbers.specs.Numbers.{numbers_in}
use Rattle.alist.specs.Alist.{column_count, row_count, is_alist, malformed, disagree, alist_checks, alist_read_refusal_at, alist_table}
use Rattle.alist.proofs.Cases.{malformed-is-12, not-alist-is-12, disagreeing-is-13, beyond-is-2, heavy-is-3, length-is-5, accepted-is-0}
use Rattle.alist_read.specs.Reading.{whole, sound, Answered}

module _ (text : List ℕ) (s : ℕ) (b : List ℕ) where
  -- ---- by the refusal's number
  refuses : (r : ℕ) → alist_read_refusal_at text s (length b) ≡ suc r → Answered text s b (record { refusal = suc r; length = 0 }) b
  refuses r e = record {
    answer = sym (ap (λ x. make_answer_at x (alist_table text s)) e);
    table = sym (ap (λ x. make_buffer_after x (alist_table text s) b) e);
  }

  makes : {e : List ℕ} {k : ℕ} → alist_read_refusal_at text s (length b) ≡ 0 → Wrote b 0 (alist_table text s) e k → Answered text s b (record { refusal = 0; length = k }) e
  makes {e} {k} z w =
      let y : k ≡ length (alist_table text s) = w.next ∙ (let x : 0 + length (alist_table text s) ≡ length (alist_table text s) = omega arith in x) in
      record {
        answer = ap (λ x. record { refusal = 0; length = x }) y ∙ sym (ap (λ x. make_answer_at x (alist_table text s)) z);
        table = w.list ∙ sym (ap (λ x. make_buffer_after x (alist_table text s) b) z);
      }

  -- an answer by another name
  pub answer-as : {x y : MakeAnswer} {e : List ℕ} → x ≡ y → Answered text s b y e → Answered text s b x e
  answer-as h a = record { answer = h ∙ a.answer; table = a.table }

  -- ---- by the causes
  pub answer-12 : malformed (numbers_in text) ≡ true → Answered text s b (record { refusal = 12; length = 0 }) b
  answer-12 e = refuses 11 (malformed-is-12 text s b e)

  module _ (l : List ℕ) (read : numbers_in text ≡ some l) where
    pub answer-bad : is_alist l ≡ false → Answered text s b (record { refusal = 12; length = 0 }) b
    answer-bad e = refuses 11 (not-alist-is-12 text s b l read e)

    module _ (good : is_alist l ≡ true) where
      pub answer-13 : disagree l ≡ true → Answered text s b (record { refusal = 13; length = 0 }) b
      answer-13 e = refuses 12 (disagreeing-is-13 text s b l read good e)

      module _ (agrees : disagree l ≡ false) where
        pub answer-2 : beyond (column_count l) s (row_count l) ≡ true → Answered text s b (record { refusal = 2; length = 0 }) b
        answer-2 e = refuses 1 (beyond-is-2 text s b l read good agrees e)

        module _ (inside : beyond (column_count l) s (row_count l) ≡ false) where
          pub answer-3 : too_heavy (alist_checks l) ≡ true → Answered text s b (record { refusal = 3; length = 0 }) b
          answer-3 e = refuses 2 (heavy-is-3 text s b l read good agrees inside e)

          module _ (light : too_heavy (alist_checks l) ≡ false) where
            pub answer-5 : (length b ≡ table_words → ⊥) → Answered text s b (record { refusal = 5; length = 0 }) b
            answer-5 h = refuses 4 (length-is-5 text s b l read good agrees inside light h)

            pub answer-made : {e : List ℕ} {k : ℕ} → length b ≡ table_words → Wrote b 0 (table_of (column_count l) s (alist_checks l)) e k → Answered text s b (record { refusal = 0; length = k }) e
            unfolding alist_table
            answer-made h w = makes (accepted-is-0 text s b l read good agrees inside light h) (rw read w)

-- the table of the same checks
pub wrote_as : {b e : List ℕ} {k : ℕ} (n s : ℕ) {cs ds : List (List ℕ)} → cs ≡ ds → Wrote b 0 (table_of n s cs) e k → Wrote b 0 (table_of n s ds) e k
wrote_as {b} {e} {k} n s h w = subst (λ x. Wrote b 0 (table_of n s x) e k) h w

-- ---- the first four numbers, and the others
-- no numbers, or fewer than four
pub none_read : (o : Option (List ℕ)) → None ≡ count_of o → malformed o ≡ true
none_read none c = refl
none_read (some l) c = absurd (cc)

pub few-read : (o : Option (List ℕ)) (count : ℕ) → Some count ≡ count_of o → count < 4 → malformed o ≡ true
few-read none count c h = refl
few-read (some l) count c h = ap not (ap (λ x. x && sound l) (ne_eqb (length l) _ (λ z. short z)))
  where
    short : length l ≡ 4 + column_count l + row_count l + column_count l * get_or l 2 0 + row_count l * get_or l 3 0 → ⊥
    short z = let y : count ≡ length l = cc in omega arith

pub record Four (text : List ℕ) (n m a b at count : ℕ) : Type 0 where
  pub others : List ℕ
  pub numbers-are : numbers_in text ≡ some (whole n m a b others)
  pub ahead : Ahead text at others
  pub counts : count ≡ length others

pub four-read : {text : List ℕ} {n m a b c1 c2 c3 at : ℕ} (count : ℕ) → Some count ≡ count_of (numbers_in text) → 4 ≤ count
    → Reads text 0 n c1 → Reads text c1 m c2 → Reads text c2 a c3 → Reads text c3 b at → Four text n m a b at (count - 4)
four-read {text} {n} {m} {a} {b} {c1} {c2} {c3} {at} count c few r1 r2 r3 r4 = by (numbers_in text) refl c
  where
    by : (o : Option (List ℕ)) → numbers_in text ≡ o → Some count ≡ count_of o → Four text n m a b at (count - 4)
    by none e k = absurd (cc)
    by (some []) e k = absurd (let z : count ≡ 0 = cc in omega arith)
    by (some (x ∷ [])) e k = absurd (let z : count ≡ 1 = cc in omega arith)
    by (some (x ∷ y ∷ [])) e k = absurd (let z : count ≡ 2 = cc in omega arith)
    by (some (x ∷ y ∷ z ∷ [])) e k = absurd (let q : count ≡ 3 = cc in omega arith)
    by (some (x ∷ y ∷ z ∷ u ∷ l)) e k =
        let a2 = r1.others x (y ∷ z ∷ u ∷ l) e in
        let a3 = r2.others y (z ∷ u ∷ l) a2 in
        let a4 = r3.others z (u ∷ l) a3 in
        let e1 = r1.first x (y ∷ z ∷ u ∷ l) e in
        let e2 = r2.first y (z ∷ u ∷ l) a2 in
        let e3 = r3.first z (u ∷ l) a3 in
        let e4 = r4.first u l a4 in
        record {
          others = l;
          numbers-are = e ∙ ap₂ (λ i j. some (i ∷ j)) (sym e1) (ap₂ (λ i j. i ∷ j) (sym e2) (ap₂ (λ i j. i ∷ j ∷ l) (sym e3) (sym e4)));
          ahead = r4.others u l a4;
          counts = (let q : count ≡ length (x ∷ y ∷ z ∷ u ∷ l) = cc in omega arith);
        }
