-- Which number reading answers, by its causes: 12 and 13 come before all others, for texts of every size.
use Rattle.std.specs.Prelude.{◌≡◌, true, false, not, List, ℕ, length}
use Rattle.std.proofs.Common.{ap, ◌∙◌}
use Rattle.std.proofs.Math.Option.{some}
use borrow.Author.Tests.{ne_eqb, eq-eqb}
use Rattle.table.specs.Table.{beyond}
use Rattle.making.specs.Making.{table_words, too_heavy}
use Rattle.numbers.specs.Numbers.{numbers_in}
use Rattle.alist.specs.Alist.{column_count, row_count, is_alist, malformed, disagree, alist_checks, alist_read_refusal_at, alist_read_refusal}

module _ (text : List ℕ) (s : ℕ) (b : List ℕ) where
  -- no numbers, or not an alist text's
  pub malformed-is-12 : malformed (numbers_in text) ≡ true → alist_read_refusal text s b ≡ 12
  unfolding alist_read_refusal_at
  malformed-is-12 e = rw e

  module _ (l : List ℕ) (read : numbers_in text ≡ some l) where
    pub not-alist-is-12 : is_alist l ≡ false → alist_read_refusal text s b ≡ 12
    not-alist-is-12 e = malformed-is-12 (ap malformed read ∙ ap not e)

    module _ (good : is_alist l ≡ true) where
      -- lists that disagree
      pub disagreeing-is-13 : disagree l ≡ true → alist_read_refusal text s b ≡ 13
      unfolding alist_read_refusal_at
      disagreeing-is-13 e = rw (read, good, e)

      module _ (agrees : disagree l ≡ false) where
        -- n, s or m beyond its limits
        pub beyond-is-2 : beyond (column_count l) s (row_count l) ≡ true → alist_read_refusal text s b ≡ 2
        unfolding alist_read_refusal_at
        beyond-is-2 e = rw (read, good, agrees, e)

        module _ (inside : beyond (column_count l) s (row_count l) ≡ false) where
          -- a weight or the ones over the limit
          pub heavy-is-3 : too_heavy (alist_checks l) ≡ true → alist_read_refusal text s b ≡ 3
          unfolding alist_read_refusal_at
          heavy-is-3 e = rw (read, good, agrees, inside, e)

          module _ (light : too_heavy (alist_checks l) ≡ false) where
            -- a table buffer of wrong length
            pub length-is-5 : (length b ≡ table_words → ⊥) → alist_read_refusal text s b ≡ 5
            unfolding alist_read_refusal_at
            length-is-5 h = rw (read, good, agrees, inside, light, ne_eqb (length b) table_words h)

            -- no cause
            pub accepted-is-0 : length b ≡ table_words → alist_read_refusal text s b ≡ 0
            unfolding alist_read_refusal_at
            accepted-is-0 h = rw (read, good, agrees, inside, light, eq-eqb (length b) table_words h)
