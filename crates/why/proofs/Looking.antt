-- What the look before the repair finds, from what the code found.
use mathlib.Core.Path.{◌≡◌, refl, sym, ap, ap₂, ◌∙◌}
use mathlib.Core.Bool.{true, false, cond, not, ◌||◌, true≢false}
use mathlib.Core.List.{List}
use Prim.Native.Nat.{ℕ, ◌*◌, ◌<◌, ◌≤◌}
use native.Mathlib.Omega.{arith}
use borrow.Author.Tests.{ltb-true, ltb-false}
use lib.Dec.{eqb, ltb}
use lib.ListN.{length}
use Rattle.erasure.specs.Offered.{byte_over}
use Rattle.std.proofs.lemmas.Bool.{not-false}
use Rattle.table.specs.Accepted.{Accepted}
use Rattle.table.specs.FirstCause.{wrong_length}
use Rattle.lists.specs.Tests.{by_bool, eqb-true, eqb-false, or-false-l, or-false-r}
use Rattle.table.specs.Table.{places, size, refusal, work_words}
use Rattle.why.specs.Why.{reason_numbers}
use Rattle.why.proofs.WhyLaws.{early, early-table, early-block, early-map, early-work, early-reason, early-byte, early-place}

module _ (t b map work : List ℕ) (p : ℕ) (reason : List ℕ) (c n s : ℕ) (look : c ≡ refusal t) where
  pub found-table : (c ≡ 0 → ⊥) → c ≡ early t b map work p reason
  found-table ne = look ∙ sym (early-table t b map work p reason (λ q. ne (look ∙ q)))

  module _ (ok : c ≡ 0) (en : n ≡ places t) (es : s ≡ size t) where
    good : refusal t ≡ 0
    good = sym look ∙ ok

    pub found-block : (length b ≡ n * s → ⊥) → 5 ≡ early t b map work p reason
    found-block ne = sym (early-block t b map work p reason good (λ q. ne (q ∙ sym (ap₂ ◌*◌ en es))))

    module _ (lb : length b ≡ n * s) where
      pub found_map : (length map ≡ n → ⊥) → 5 ≡ early t b map work p reason
      found_map ne = sym (early-map t b map work p reason good (lb ∙ ap₂ ◌*◌ en es) (λ q. ne (q ∙ sym en)))

      module _ (lm : length map ≡ n) where
        pub found-work : (length work ≡ work_words → ⊥) → 5 ≡ early t b map work p reason
        found-work ne = sym (early-work t b map work p reason good (lb ∙ ap₂ ◌*◌ en es) (lm ∙ en) ne)

        module _ (lw : length work ≡ work_words) where
          pub found-reason : (length reason ≡ reason_numbers → ⊥) → 5 ≡ early t b map work p reason
          found-reason ne = sym (early-reason t b map work p reason good (lb ∙ ap₂ ◌*◌ en es) (lm ∙ en) lw ne)

          module _ (lr : length reason ≡ reason_numbers) where
            pub found-byte : byte_over map ≡ true → 7 ≡ early t b map work p reason
            found-byte o = sym (early-byte t b map work p reason good (lb ∙ ap₂ ◌*◌ en es) (lm ∙ en) lw lr o)

            module _ (o : byte_over map ≡ false) where
              pub found-place : n ≤ p → 14 ≡ early t b map work p reason
              found-place h = sym (early-place t b map work p reason good (lb ∙ ap₂ ◌*◌ en es) (lm ∙ en) lw lr o ∙ ap (λ v. cond (not v) 14 0) beyond)
                where
                  beyond : ltb p (places t) ≡ false
                  beyond = by_bool (ltb p (places t)) (λ e. let k = ltb-true p (places t) e in absurd (omega arith)) (λ e. e)

              pub found_none : p < n → 0 ≡ early t b map work p reason
              found_none h = sym (early-place t b map work p reason good (lb ∙ ap₂ ◌*◌ en es) (lm ∙ en) lw lr o ∙ ap (λ v. cond (not v) 14 0) below)
                where
                  below : ltb p (places t) ≡ true
                  below = by_bool (ltb p (places t)) (λ e. e) (λ e. let k = ltb-false p (places t) e in absurd (omega arith))

-- a block or map of wrong length
pub found-lengths : (t b map work : List ℕ) (p : ℕ) (reason : List ℕ) (m n s : ℕ) → Accepted t m n s → (wrong_length (length b) (n * s) || wrong_length (length map) n) ≡ true
    → 5 ≡ early t b map work p reason
found-lengths t b map work p reason m n s k h = by_bool (eqb (length b) (n * s))
    (λ e. by_bool (eqb (length map) n)
    (λ f. absurd (true≢false (sym h ∙ rw (e, f) refl)))
    (λ f. found_map t b map work p reason 0 n s (sym k.accepted) refl k.places-are k.size_is (eqb-true (length b) (n * s) e) (eqb-false (length map) n f)))
    (λ e. found-block t b map work p reason 0 n s (sym k.accepted) refl k.places-are k.size_is (eqb-false (length b) (n * s) e))

-- both are right
pub right-lengths : (b map : List ℕ) (n s : ℕ) → (wrong_length (length b) (n * s) || wrong_length (length map) n) ≡ false → (length b ≡ n * s) × (length map ≡ n)
right-lengths b map n s h = (
  eqb-true (length b) (n * s) (not-false (eqb (length b) (n * s)) (or-false-l (wrong_length (length b) (n * s)) (wrong_length (length map) n) h)),
  eqb-true (length map) n (not-false (eqb (length map) n) (or-false-r (wrong_length (length b) (n * s)) (wrong_length (length map) n) h)),
)
