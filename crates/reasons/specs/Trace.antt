-- The walk from the last row to the first: each needed row flips its feeders, and then the checks needed sum to what the rows did.
use Rattle.std.specs.Prelude.{◌≡◌, Bool, true, false, eqb}
use Rattle.std.proofs.Math.Path.{refl, sym, ap, ap₂}
use Rattle.std.proofs.Common.{◌∙◌, subst, le_refl, arith}
use Rattle.std.proofs.Math.Bool.{cond}
use Prim.Native.Nat.{ℕ, zero, suc, ◌+◌, ◌<◌, ◌≤◌}
use Rattle.std.specs.Int.Bits.{bit_xor}
use Rattle.gf2.specs.Bit.{bit-adds}
use Rattle.gf2.specs.Gf2.{Group2, bit, Short}
use Rattle.gf2.specs.RowValue.{val, val-lin, val-ext}
use Rattle.lists.specs.Lists.{bxor}
use Rattle.lists.specs.Tests.{by_bool, eqb-true, eqb-false}

-- "traced back from each used check to the earlier ones that fed it, latest first, each looked at once": bit k of need says that row k is
-- needed, the bits of feed k are the rows that fed it; the rows below k are looked at
unfoldable pub trace : (ℕ → ℕ) → ℕ → ℕ → ℕ
trace feed zero need = need
trace feed (suc k) need = trace feed k (cond (bit k need) (bit_xor (feed k) need) need)

-- feeders are earlier: nothing from k on is flipped
kept_from : (feed : ℕ → ℕ) (need k : ℕ) → Short k (feed k) → (b : Bool) (i : ℕ) → k ≤ i → bit i (cond b (bit_xor (feed k) need) need) ≡ bit i need
kept_from feed need k s true i h = bit-adds i (feed k) need ∙ ap (λ x. bxor x (bit i need)) (s.above i h)
kept_from feed need k s false i h = refl

-- rows from k on are looked at already
trace-above : (feed : ℕ → ℕ) (k need : ℕ) → ((j : ℕ) → j < k → Short j (feed j)) → (i : ℕ) → k ≤ i → bit i (trace feed k need) ≡ bit i need
unfolding trace
trace-above feed zero need s i h = refl
trace-above feed (suc k) need s i h = trace-above feed k (cond (bit k need) (bit_xor (feed k) need) need) (λ j l. s j (omega arith)) i (omega arith)
    ∙ kept_from feed need k (s k (omega arith)) (bit k need) i (omega arith)

module _ {A : Type 0} (G : Group2 A) where
  open G use {◌⊕◌, o, assoc}

  -- each row is its own check and the rows that fed it, all of them earlier
  pub record Fed (row own : ℕ → A) (feed : ℕ → ℕ) (K : ℕ) : Type 0 where
    pub adds : (k : ℕ) → k < K → row k ≡ own k ⊕ val G row k (feed k)
    pub earlier : (k : ℕ) → k < K → Short k (feed k)

  -- rows, checks and feeders below K alone count
  pub fed-kept : {row own row' own' : ℕ → A} {feed feed' : ℕ → ℕ} {K : ℕ} → Fed row own feed K
      → ((k : ℕ) → k < K → row' k ≡ row k) → ((k : ℕ) → k < K → own' k ≡ own k) → ((k : ℕ) → k < K → feed' k ≡ feed k) → Fed row' own' feed' K
  fed-kept {row} {own} {row'} {own'} {feed} {feed'} {K} f r c d = record {
    adds = λ k h. r k h ∙ f.adds k h ∙ ap₂ ◌⊕◌ (sym (c k h)) (val-ext G row row' k (feed k) (λ i l. sym (r i (omega arith))) ∙ ap (val G row' k) (sym (d k h)));
    earlier = λ k h. subst (Short k) (sym (d k h)) (f.earlier k h);
  }

  -- one row more
  pub fed-more : {row own : ℕ → A} {feed : ℕ → ℕ} {K : ℕ} → Fed row own feed K → row K ≡ own K ⊕ val G row K (feed K) → Short K (feed K) → Fed row own feed (K + 1)
  fed-more {row} {own} {feed} {K} f e s = record {
    adds = λ k h. by_bool (eqb k K)
        (λ i. subst (λ j. row j ≡ own j ⊕ val G row j (feed j)) (sym (eqb-true k K i)) e)
        (λ i. let ne = eqb-false k K i in f.adds k (omega arith));
    earlier = λ k h. by_bool (eqb k K)
        (λ i. subst (λ j. Short j (feed j)) (sym (eqb-true k K i)) s)
        (λ i. let ne = eqb-false k K i in f.earlier k (omega arith));
  }

  pub trace-sum : (row own : ℕ → A) (feed : ℕ → ℕ) (K : ℕ) → Fed row own feed K → (k : ℕ) → k ≤ K → (need : ℕ) → val G own k (trace feed k need) ≡ val G row k need
  unfolding trace
  trace-sum row own feed K f zero h need = refl
  trace-sum row own feed K f (suc k) h need = ap₂ ◌⊕◌
      (ap (λ b. cond b (own k) o) (trace-above feed k next (λ j l. f.earlier j (omega arith)) k (le_refl k) ∙ kept_from feed need k (f.earlier k h) (bit k need) k (le_refl k)))
      (trace-sum row own feed K f k (omega arith) next)
      ∙ by_bool (bit k need)
      (λ e. rw e (ap (λ x. own k ⊕ x) ((val-lin G row k).adds (feed k) need) ∙ sym (assoc (own k) (val G row k (feed k)) (val G row k need))
      ∙ ap (λ x. x ⊕ val G row k need) (sym (f.adds k h))))
      (λ e. rw e)
    where
      next : ℕ
      next = cond (bit k need) (bit_xor (feed k) need) need
