-- The answers of the maker: the first cause that holds, what is answered then, and what the buffer holds.
use mathlib.Core.Path.{◌≡◌, sym, ap, ◌∙◌, subst}
use mathlib.Core.Bool.{true, false}
use mathlib.Core.List.{List}
use mathlib.Core.Option.{none, some}
use Prim.Native.Nat.{ℕ, suc, ◌+◌, ◌-◌}
use native.Mathlib.Omega.{arith}
use borrow.Author.Tests.{ne_eqb, eq-eqb}
use lib.ListN.{length}
use Rattle.lists.specs.Lists.{Wrote}
use Rattle.table.specs.Table.{beyond}
use Rattle.making.specs.Making.{table_words, too_heavy, make_answer_at, make_buffer_after}
use Rattle.making.specs.Written.{table_of}
use Rattle.fill.specs.Fill.{State}
use Rattle.staircase.specs.Staircase.{left_side, checks_made, bad_parameters, staircase_refusal_at, staircase_table, staircase_answer, staircase_table_after}
use Rattle.staircase.specs.Stairs.{checks_of}

-- what the call answers, and what it leaves in the buffer
pub record Answered (k n ones seed s : ℕ) (b : List ℕ) (r l : ℕ) (e : List ℕ) : Type 0 where
  pub answer : record { refusal = r; length = l } ≡ staircase_answer k n ones seed s b
  pub table : e ≡ staircase_table_after k n ones seed s b

module _ (k n ones seed s : ℕ) (b : List ℕ) where
  -- ---- by the refusal's number
  -- a refusal
  refuses : (r : ℕ) → staircase_refusal_at k n ones seed s (length b) ≡ suc r → Answered k n ones seed s b (suc r) 0 b
  refuses r e = record {
    answer = sym (ap (λ x. make_answer_at x (staircase_table k n ones seed s)) e);
    table = sym (ap (λ x. make_buffer_after x (staircase_table k n ones seed s) b) e);
  }

  -- a table
  makes : {e : List ℕ} {l : ℕ} → staircase_refusal_at k n ones seed s (length b) ≡ 0 → Wrote b 0 (staircase_table k n ones seed s) e l → Answered k n ones seed s b 0 l e
  makes {e} {l} z w =
      let y : l ≡ length (staircase_table k n ones seed s) = w.next ∙ (let x : 0 + length (staircase_table k n ones seed s) ≡ length (staircase_table k n ones seed s) = omega arith in x) in
      record {
        answer = ap (λ x. record { refusal = 0; length = x }) y ∙ sym (ap (λ x. make_answer_at x (staircase_table k n ones seed s)) z);
        table = w.list ∙ sym (ap (λ x. make_buffer_after x (staircase_table k n ones seed s) b) z);
      }

  -- ---- by the causes
  pub answer-bad : bad_parameters k n ones seed ≡ true → Answered k n ones seed s b 11 0 b
  unfolding staircase_refusal_at
  answer-bad e = refuses 10 (rw e)

  module _ (good : bad_parameters k n ones seed ≡ false) where
    pub answer-beyond : beyond n s (n - k) ≡ true → Answered k n ones seed s b 2 0 b
    unfolding staircase_refusal_at
    answer-beyond e = refuses 1 (rw (good, e))

    module _ (inside : beyond n s (n - k) ≡ false) where
      pub answer-length : (length b ≡ table_words → ⊥) → Answered k n ones seed s b 5 0 b
      unfolding staircase_refusal_at
      answer-length h = refuses 4 (rw (good, inside, ne_eqb (length b) table_words h))

      module _ (long : length b ≡ table_words) where
        pub answer-spent : left_side k n ones seed ≡ none → Answered k n ones seed s b 11 0 b
        unfolding staircase_refusal_at
        answer-spent o = refuses 10 (rw (good, inside, eq-eqb (length b) table_words long, o))

        module _ (f : State) (filled : left_side k n ones seed ≡ some f) where
          pub answer-heavy : too_heavy (checks_of k f) ≡ true → Answered k n ones seed s b 3 0 b
          unfolding staircase_refusal_at
          answer-heavy h = refuses 2 (rw (good, inside, eq-eqb (length b) table_words long, filled, h))

          pub answer-made : {e : List ℕ} {l : ℕ} → too_heavy (checks_of k f) ≡ false → Wrote b 0 (table_of n s (checks_of k f)) e l → Answered k n ones seed s b 0 l e
          unfolding staircase_refusal_at staircase_table
          answer-made {e} {l} h w =
              makes (rw (good, inside, eq-eqb (length b) table_words long, filled, h)) (subst (λ t. Wrote b 0 (table_of n s (checks_made k t)) e l) (sym filled) w)
