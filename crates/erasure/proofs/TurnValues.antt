-- Packets restored from a word: a turn restores the word's packet, if its check sums to zero over the word. So do turns in any order, if
-- every check without a lost place in the end does: no other check is taken.
use Rattle.std.specs.Prelude.{◌≡◌, refl, false, cond, not, true, List, [], ◌∷◌, ℕ, ◌<◌, eqb, length, get_or, set, replicate}
use Rattle.std.proofs.Common.{sym, ap, ap₂, ◌∙◌, subst, arith, ext_get_or, get_or-set_same, get_or-set_other}
use Rattle.std.proofs.lemmas.Bool.{false≢true}
use Rattle.std.specs.Int.Bits.{bit_xor}
use Rattle.erasure.specs.ContradictionLaws.{Zeros, Sums}
use Rattle.erasure.proofs.OrderLaws.{turns-within}
use Rattle.erasure.specs.Orders.{Ready, Turns, Turns.stay, Turns.more}
use Rattle.erasure.specs.Passing.{filter-mono, none_passes, one_passes}
use Rattle.erasure.specs.Restoring.{State, is_lost, lost_places, turn}
use Rattle.erasure.specs.Turn.{turn-length, turn-none}
use Rattle.gf2.specs.Gf2.{xor_group, sum_over, add}
use Rattle.gf2.specs.Group.{eq-zero}
use Rattle.gf2.specs.Places.{sum-apart}
use Rattle.lists.specs.ListLaws.{all_filter, all-zip, filter-in, all_in, all_get_d, get_d-zeros, par-has, all_map, all-member}
use Rattle.lists.specs.Lists.{has, par, minus, All, All.nil, All.cons}
use Rattle.lists.specs.Tests.{eqb-true, eqb-false, by_bool}
use Rattle.table.specs.PacketLaws.{view, sum_view}
use Rattle.table.specs.Packets.{packet_sum, Packets}

-- what is left after taking out q is not q
not-self : (p q : ℕ) → not (has p (q ∷ [])) ≡ true → eqb p q ≡ false
not-self p q h = by_bool (eqb p q) (λ e. absurd (false≢true (rw e at h))) (λ e. e)

-- sums over places where two blocks agree
pub sum-agree : (s : ℕ) (b e : List (List ℕ)) {c : List ℕ} → All (λ p. get_or b p [] ≡ get_or e p []) c → packet_sum s b c ≡ packet_sum s e c
sum-agree s b e nil = refl
sum-agree s b e (cons h a) = ap₂ (add xor_group) h (sum-agree s b e a)

module _ (n s : ℕ) (word : List (List ℕ)) where
  -- n packets, the word's wherever the map does not say lost
  pub record Agrees (m : State) : Type 0 where
    pub size : length m.block ≡ n
    pub same : (p : ℕ) → p < n → is_lost m.map p ≡ false → get_or m.block p [] ≡ get_or word p []

  -- checks without a lost place sum to the same over the block as over the word
  pub agrees-sums : {cs : List (List ℕ)} → All (λ c. All (λ p. p < n) c) cs → (m : State) → Zeros s word cs m → Agrees m → Sums s cs m
  agrees-sums low m zeros g = all_map (λ c r h. sum-agree s m.block word
      (all_map (λ p t. g.same p t.0 t.1) (all-zip r.0 (none_passes (is_lost m.map) c h))) ∙ r.1 h) (all-zip low zeros)

  module _ (long : length word ≡ n) (sized : Packets s word) where
    -- a place of a check is the sum of the others
    word_at : (c : List ℕ) (q : ℕ) → All (λ p. p < n) c → packet_sum s word c ≡ replicate s 0 → par q c ≡ true → q < n → packet_sum s word (minus c (q ∷ [])) ≡ get_or word q []
    word_at c q a z h l =
        let lw : All (λ p. p < length word) c = all_map (λ p k. subst (λ m. p < m) (sym long) k) a in
        let r = sum_view s sized (all_filter (λ p. not (has p (q ∷ []))) lw) in
        ext_get_or 0 _ _ (r.0 ∙ sym (all_get_d sized q (omega arith))) (λ j i. r.1 j ∙ sym (eq-zero xor_group (view word j q) _
        (ap (λ t. bit_xor t (sum_over xor_group (view word j) (minus c (q ∷ [])))) (sym (ap (λ t. cond t (view word j q) 0) h))
        ∙ sym (sum-apart xor_group (view word j) q c) ∙ sym ((sum_view s sized lw).1 j) ∙ ap (λ v. get_or v j 0) z ∙ get_d-zeros s j)))

    -- one turn
    pub turn-agrees : (c : List ℕ) → All (λ p. p < n) c → packet_sum s word c ≡ replicate s 0 → (m : State) → Ready m.map c → Agrees m → Agrees (turn s c m)
    turn-agrees c low z m one g =
        let q = get_or (lost_places m.map c) 0 0 in
        let o = one_passes (is_lost m.map) c one in
        let l : q < n = all_in (λ p. p < n) q (par-has q c o.0) low in
        let others : All (λ p. get_or m.block p [] ≡ get_or word p []) (minus c (q ∷ [])) =
        all_map (λ p t. g.same p t.0.0 (t.0.1 (not-self p q t.1))) (filter-in (λ p. not (has p (q ∷ []))) (all-zip low o.1)) in
        record {
          size = turn-length s c m ∙ g.size;
          same = λ p h u. by_bool (eqb p q)
              (λ e. subst (λ x. get_or (set m.block q (packet_sum s m.block (minus c (q ∷ [])))) x [] ≡ get_or word x []) (sym (eqb-true p q e))
              (get_or-set_same m.block q _ [] (omega (arith, g.size)) ∙ sum-agree s m.block word others ∙ word_at c q low z o.0 l))
              (λ e. get_or-set_other m.block q p _ [] (eqb-false p q e) ∙ g.same p h (ap (λ v. eqb v 1) (sym (get_or-set_other m.map q p 2 0 (eqb-false p q e))) ∙ u));
        }

    -- turns in any order
    pub turns-agrees : {cs : List (List ℕ)} {m e : State} → All (λ c. All (λ p. p < n) c) cs → Zeros s word cs e → Turns s cs m e → Agrees m → Agrees e
    turns-agrees low zeros stay g = g
    turns-agrees {m} {e} low zeros (more c i one t) g =
        let none = turn-none s c m one in
        let fewer = filter-mono (is_lost e.map) (is_lost (turn s c m).map) (turns-within t) c in
        turns-agrees low zeros t (turn-agrees c (all-member low i) (all-member zeros i (omega arith)) m one g)
