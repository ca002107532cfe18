-- Rows taken one after another: those that aren't a sum of earlier ones get a number and lead a place. `Choosing` holds at each turn.
use Rattle.std.specs.Prelude.{◌≡◌, refl, Bool, true, false, ◌||◌, List, [], ◌∷◌, ◌++◌, ℕ, ◌+◌, ◌*◌, ◌-◌, ◌^◌, ◌<◌, ◌≤◌, length, get_or, set}
use Rattle.std.proofs.Common.{sym, ap, ap₂, ◌∙◌, subst, append_assoc, append-nil, arith}
use Rattle.std.specs.Int.Bits.{bit_xor}
use Rattle.lists.specs.Lists.{from}
use Rattle.lists.specs.Numbers.{from_next, from-none}
use Rattle.gf2.specs.Bit.{bits-zero}
use Rattle.gf2.specs.Gf2.{Bits, rows_of, sums, down, is_zero, choose, onto, xor_group}
use Rattle.gf2.specs.EchelonLaws.{bit-nonzero, down-test, down-in, one_more, sums-shift, sums_none}
use Rattle.bits.specs.Row.{row}
use Rattle.bits.specs.RowLaws.{row_lt}
use Rattle.rows.specs.Leads.{leads, Owners, Lowered}
use Rattle.rows.specs.LeadsLaws.{leads-none, owners-lead, leads-kept, owners-kept, owners-below, own-most, lead-here, lead-other, lead_bits}

-- the rows of ps, the last one first
abbrev pub kept_rows : (ℕ → ℕ) → List ℕ → List ℕ
kept_rows f ps = onto xor_group is_zero f [] ps

onto-last : (f : ℕ → ℕ) (R ps : List ℕ) (i : ℕ) → onto xor_group is_zero f R (ps ++ (i ∷ [])) ≡ f i ∷ onto xor_group is_zero f R ps
onto-last f R [] i = refl
onto-last f R (p ∷ ps) i = onto-last f (f p ∷ R) ps i

-- of m rows f the first i are passed, and ps, k of them, are taken
pub record Choosing (f : ℕ → ℕ) (m n : ℕ) (w owner : List ℕ) (k i : ℕ) (ps : List ℕ) : Type 0 where
  pub few : k ≤ i
  pub owned : (p : ℕ) → get_or owner p 0 ≤ k
  pub lead : (p : ℕ) → 0 < get_or owner p 0 → Bits (row w (get_or owner p 0 - 1)) (p + 1)
  pub same : (x : ℕ) → sums (rows_of (leads w owner) n) x ≡ sums (kept_rows f ps) x
  pub decides : choose xor_group is_zero f [] (from 0 m) ≡ ps ++ choose xor_group is_zero f (kept_rows f ps) (from i (m - i))

pub choosing-none : (f : ℕ → ℕ) (m n : ℕ) (w owner : List ℕ) → ((p : ℕ) → get_or owner p 0 ≡ 0) → Choosing f m n w owner 0 0 []
choosing-none f m n w owner z =
    let e : m - 0 ≡ m = omega arith in
    record {
      few = omega arith;
      owned = λ p. let h = z p in omega arith;
      lead = λ p h. let q = z p in absurd (omega arith);
      same = sums_none n (λ p. leads-none w owner p (z p));
      decides = rw e;
    }

pub choosing-owners : {f : ℕ → ℕ} {m n : ℕ} {w owner : List ℕ} {k i : ℕ} {ps : List ℕ} → Choosing f m n w owner k i ps → k * 16 ≤ length w → Owners w owner k
choosing-owners s room = owners-below s.owned s.lead room

module _ {f : ℕ → ℕ} {m n : ℕ} {w owner e : List ℕ} {k i : ℕ} {ps : List ℕ} (l : ℕ) (s : Choosing f m n w owner k i ps) (room : k * 16 ≤ length w) (more : i < m)
    (d : Lowered w owner k n (f i) e l) where
  abbrev y : ℕ
  y = down (leads w owner) n (f i)

  abbrev K : List ℕ
  K = kept_rows f ps

  abbrev R : List ℕ
  R = from (i + 1) (m - (i + 1))

  o : Owners w owner k
  o = choosing-owners s room

  test : is_zero y ≡ sums K (f i)
  test = down-test (owners-lead o) n (f i) ∙ s.same (f i)

  -- the row vanished
  pub choosing-miss : (0 < l → ⊥) → Choosing f m n e owner k (i + 1) ps
  choosing-miss h =
      let z : l ≡ 0 = omega (arith, h) in
      let lt : y < 2 ^ (16 * 64) = subst (λ (v : ℕ). v < 2 ^ (16 * 64)) d.put.here (row_lt e k) in
      let nil : y ≡ 0 = bits-zero (16 * 64) y lt (λ q _. d.bits.most.above q (omega arith)) in
      let c : sums K (f i) ≡ true = sym test ∙ ap is_zero nil in
      let fw = s.few in
      record {
        few = omega arith;
        owned = s.owned;
        lead = (owners-kept o d.put).lead;
        same = λ x. ap (λ (F : ℕ → ℕ). sums (rows_of F n) x) (leads-kept o d.put) ∙ s.same x;
        decides = s.decides ∙ ap (λ (r : List ℕ). ps ++ r) (ap (choose xor_group is_zero f K) (from_next m i more) ∙ rw (c, choose));
      }

  -- something is left: it gets the next number
  pub choosing-hit : 0 < l → l ≤ length owner → Choosing f m n e (set owner (l - 1) (k + 1)) (k + 1) (i + 1) (ps ++ (i ∷ []))
  choosing-hit hit lo =
      let mo = d.most in
      let c : sums K (f i) ≡ false = sym test ∙ bit-nonzero (l - 1) y (d.bits.last hit) in
      let kr = onto-last f [] ps i in
      let fw = s.few in
      record {
        few = omega arith;
        owned = own-most o d hit lo (k + 1) (omega arith) (λ p. let h = s.owned p in omega arith);
        lead = lead_bits o d hit lo;
        same = λ x. one_more (l - 1) y n (omega arith) (lead-other o d hit lo) (lead-here o d hit lo) (leads-none w owner (l - 1) (d.free hit)) x
            ∙ ap (λ (v : Bool). sums (rows_of (leads w owner) n) x || v) (sums-shift (rows_of (leads w owner) n) y (f i) x (down-in (leads w owner) n (f i)))
            ∙ ap₂ ◌||◌ (s.same x) (s.same (bit_xor (f i) x))
            ∙ sym (ap (λ (L : List ℕ). sums L x) kr);
        decides = s.decides ∙ ap (λ (r : List ℕ). ps ++ r) (ap (choose xor_group is_zero f K) (from_next m i more) ∙ rw (c, choose))
            ∙ sym (append_assoc ps (i ∷ []) (choose xor_group is_zero f (f i ∷ K) R))
            ∙ sym (ap (λ (L : List ℕ). (ps ++ (i ∷ [])) ++ choose xor_group is_zero f L R) kr);
      }

-- all are passed
pub choosing-all : {f : ℕ → ℕ} {m n : ℕ} {w owner : List ℕ} {k : ℕ} {ps : List ℕ} → Choosing f m n w owner k m ps → choose xor_group is_zero f [] (from 0 m) ≡ ps
choosing-all {f} {m} {ps = ps} s = s.decides ∙ ap (λ (r : List ℕ). ps ++ choose xor_group is_zero f (kept_rows f ps) r) (from-none m m (omega arith)) ∙ append-nil ps
