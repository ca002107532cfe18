-- Laws of the tally: a check that becomes live, one that leaves, and the place in exactly one.
use Rattle.std.specs.Prelude.{◌≡◌, refl, cond, List, ◌∷◌, map, ℕ, suc, ◌+◌, eqb, get_or}
use Rattle.std.proofs.Common.{sym, ap, ◌∙◌, add-one, arith}
use Rattle.std.specs.Int.Bits.{bit_xor, xor_zero_l}
use Rattle.std.proofs.lemmas.Nat.{xor_comm}
use Rattle.gf2.specs.Gf2.{xor_group, sum_over}
use Rattle.gf2.specs.Group.{cancel-r, left_comm}
use Rattle.lists.specs.Lists.{highest, has, count}
use Rattle.lists.specs.ListLaws.{highest-same}
use Rattle.lists.specs.Tests.{by_bool}
use Rattle.rule.specs.Rule.{in_one_only}
use Rattle.live.specs.Live.{Noted, Forgot, Tally}

pub single-is : (g : ℕ → List ℕ) (JS c x : List ℕ) (n : ℕ) → Tally g JS c x → highest n (λ p. eqb (get_or c p 0) 1) ≡ highest n (in_one_only (map g JS))
single-is g JS c x n s = highest-same n (λ p. eqb (get_or c p 0) 1) (in_one_only (map g JS)) (λ p z. ap (λ (a : ℕ). eqb a 1) (s.counts p))

pub tally-more : (g : ℕ → List ℕ) (j : ℕ) {JS c x d y : List ℕ} → Tally g JS c x → Noted c x (g j) j d y → Tally g (j ∷ JS) d y
tally-more g j {JS} {c} {x} s u = record {
  counts = λ p. u.counts.each p ∙ by_bool (has p (g j))
      (λ e. rw (e, count) (ap (λ (a : ℕ). a + 1) (s.counts p) ∙ add-one _))
      (λ e. rw (e, count) (s.counts p));
  names = λ p. u.names.each p ∙ by_bool (has p (g j))
      (λ e. rw e (ap (λ (a : ℕ). bit_xor a j) (s.names p) ∙ xor_comm _ j))
      (λ e. rw e (s.names p ∙ sym (xor_zero_l _)));
}

-- ---- a check leaves
pub data Out (j : ℕ) : List ℕ → List ℕ → Type 0 where
  here : {JS : List ℕ} → Out j (j ∷ JS) JS
  there : {i : ℕ} {JS JS' : List ℕ} → Out j JS JS' → Out j (i ∷ JS) (i ∷ JS')

abbrev name : (ℕ → List ℕ) → ℕ → ℕ → ℕ
name g p j = cond (has p (g j)) j 0

out-count : (g : ℕ → List ℕ) (p j : ℕ) {JS JS' : List ℕ} → Out j JS JS' → count (has p) (map g JS) ≡ cond (has p (g j)) (suc (count (has p) (map g JS'))) (count (has p) (map g JS'))
out-count g p j here = by_bool (has p (g j)) (λ e. rw (e, count)) (λ e. rw (e, count))
out-count g p j (there {i = i} o) = by_bool (has p (g i))
    (λ e. rw (e, count) (ap suc (out-count g p j o) ∙ by_bool (has p (g j)) (λ k. rw k) (λ k. rw k)))
    (λ e. rw (e, count) (out-count g p j o))

out-names : (f : ℕ → ℕ) (j : ℕ) {JS JS' : List ℕ} → Out j JS JS' → sum_over xor_group f JS ≡ bit_xor (f j) (sum_over xor_group f JS')
out-names f j here = refl
out-names f j (there {i = i} {JS' = JS'} o) = ap (bit_xor (f i)) (out-names f j o) ∙ left_comm xor_group (f i) (f j) (sum_over xor_group f JS')

pub tally-less : (g : ℕ → List ℕ) (j : ℕ) {JS JS' c x d y : List ℕ} → Out j JS JS' → Tally g JS c x → Forgot c x (g j) j d y → Tally g JS' d y
tally-less g j {JS} {JS'} {c} {x} o s u = record {
  counts = λ p. u.counts.each p ∙ by_bool (has p (g j))
      (λ e. let k : get_or c p 0 ≡ suc (count (has p) (map g JS')) = s.counts p ∙ out-count g p j o ∙ rw e in rw e (omega arith))
      (λ e. rw e (s.counts p ∙ out-count g p j o ∙ rw e));
  names = λ p. u.names.each p ∙ by_bool (has p (g j))
      (λ e. let k : get_or x p 0 ≡ bit_xor j (sum_over xor_group (name g p) JS') = s.names p ∙ out-names (name g p) j o ∙ rw e in
      rw e (ap (λ (a : ℕ). bit_xor a j) (k ∙ xor_comm j _) ∙ cancel-r xor_group _ j))
      (λ e. rw e (s.names p ∙ out-names (name g p) j o ∙ rw e (xor_zero_l _)));
}
