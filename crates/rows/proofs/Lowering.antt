-- The loop that reduces a row: `Lowering` holds at each turn.
use mathlib.Core.Path.{◌≡◌, sym, ap, ◌∙◌, subst}
use mathlib.Core.Bool.{false}
use mathlib.Core.List.{List, [], ◌∷◌, ◌++◌, append-nil}
use Prim.Native.Nat.{ℕ, ◌+◌, ◌-◌, ◌<◌, ◌≤◌}
use native.Mathlib.Omega.{arith}
use lib.Bits.{bit_xor}
use lib.ListN.{length, get_or, set}
use Rattle.gf2.specs.Gf2.{bit, Short, Bits, down, is_zero}
use Rattle.gf2.specs.EchelonLaws.{Passed, passed_then, passed-skip, passed-step, Ended, ended-stop, bits-le, bit-nonzero, short-sum}
use Rattle.bits.specs.Front.{Front, front-none, front-more}
use Rattle.bits.specs.Row.{row, RowPut}
use Rattle.bits.specs.RowLaws.{put-put, put_is, put_self}
use Rattle.rows.specs.Leads.{leads, Owners, Lowered, path_of}
use Rattle.rows.specs.LeadsLaws.{leads-none, leads-at, row_named}

-- e is w with row k reduced down to place l; noted has the path so far in front
pub record Lowering (w owner : List ℕ) (k n : ℕ) (noted₀ e noted : List ℕ) (count l : ℕ) : Type 0 where
  pub ps : List ℕ
  pub put : RowPut w k (row e k) e
  pub passed : Passed (leads w owner) n (row w k) l (row e k) ps
  pub front : Front ps noted₀ noted count
  pub bits : Bits (row e k) l
  pub most : count + l ≤ n

pub lower-start : (w owner : List ℕ) (k n : ℕ) (noted : List ℕ) (l : ℕ) → Short n (row w k) → Bits (row w k) l → Lowering w owner k n noted w noted 0 l
lower-start w owner k n noted l s b =
    let h = bits-le s b in
    record {
      ps = [];
      put = put_self w k;
      passed = passed-skip (leads w owner) (row w k) l n h b.most;
      front = front-none noted;
      bits = b;
      most = omega arith;
    }

module _ {w owner : List ℕ} {k n : ℕ} {noted₀ e noted : List ℕ} {count : ℕ} (p : ℕ) (o : Owners w owner k) (s : Lowering w owner k n noted₀ e noted count (p + 1)) where
  abbrev j : ℕ
  j = get_or owner p 0

  abbrev F : ℕ → ℕ
  F = leads w owner

  before : p + 1 - 1 ≡ p
  before = omega arith

  pub own_bits : 0 < j → Bits (row e (j - 1)) (p + 1)
  own_bits h = subst (λ (v : ℕ). Bits v (p + 1)) (sym (row_named o s.put p h)) (o.lead p h)

  own_row : 0 < j → row e (j - 1) ≡ F p
  own_row h = row_named o s.put p h ∙ sym (leads-at w owner p h)

  pub next-short : {f : List ℕ} → 0 < j → RowPut e k (bit_xor (row e (j - 1)) (row e k)) f → Short p (row f k)
  next-short {f} h d =
      let b = own_bits h in
      subst (λ (i : ℕ). Short i (row f k)) before
      (subst (Short (p + 1 - 1)) (sym d.here) (short-sum (row e (j - 1)) (row e k) (p + 1) (omega arith) b.most s.bits.most (b.last (omega arith)) (s.bits.last (omega arith))))

  pub next-less : {f : List ℕ} {i : ℕ} → 0 < j → RowPut e k (bit_xor (row e (j - 1)) (row e k)) f → Bits (row f k) i → i < p + 1
  next-less h d b = let a = bits-le (next-short h d) b in omega arith

  pub lower-turn : {f : List ℕ} {i : ℕ} → n ≤ length noted₀ → 0 < j → RowPut e k (bit_xor (row e (j - 1)) (row e k)) f → Bits (row f k) i
      → Lowering w owner k n noted₀ f (set noted count p) (count + 1) i
  lower-turn {f} {i} room h d b =
      let r : row f k ≡ bit_xor (F p) (row e k) = d.here ∙ ap (λ (v : ℕ). bit_xor v (row e k)) (own_row h) in
      let nz : is_zero (F p) ≡ false = bit-nonzero (p + 1 - 1) (F p) (ap (bit (p + 1 - 1)) (sym (own_row h)) ∙ (own_bits h).last (omega arith)) in
      let le = bits-le (next-short h d) b in
      let m = s.most in
      let one : Passed F (p + 1) (row e k) p (bit_xor (F p) (row e k)) (p ∷ []) =
      subst (λ (q : ℕ). Passed F (p + 1) (row e k) q (bit_xor (F q) (row e k)) (q ∷ [])) before
      (passed-step F (row e k) (p + 1) (omega arith) (s.bits.last (omega arith)) (ap (λ (q : ℕ). is_zero (F q)) before ∙ nz)) in
      let step : Passed F (p + 1) (row e k) p (row f k) (p ∷ []) = subst (λ (y : ℕ). Passed F (p + 1) (row e k) p y (p ∷ [])) (sym r) one in
      let way = passed_then s.passed (passed_then step (passed-skip F (row f k) i p le b.most)) in
      record {
        ps = s.ps ++ (p ∷ []);
        put = put_is (put-put s.put d) (sym d.here);
        passed = way;
        front = front-more p s.front (omega arith);
        bits = b;
        most = omega arith;
      }

  pub stopped : j ≡ 0 → Ended F (p + 1) (row e k)
  stopped h = ended-stop F (row e k) (p + 1) (omega arith) (s.bits.last (omega arith)) (ap (λ (q : ℕ). is_zero (F q)) before ∙ ap is_zero (leads-none w owner p h))

module _ {w owner : List ℕ} {k n : ℕ} {noted₀ e noted : List ℕ} {count l : ℕ} (s : Lowering w owner k n noted₀ e noted count l) (end : Ended (leads w owner) l (row e k)) where
  pub lowered : (0 < l → get_or owner (l - 1) 0 ≡ 0) → Lowered w owner k n (row w k) e l
  lowered free =
      let y : down (leads w owner) n (row w k) ≡ row e k = s.passed.row ∙ end.row in
      let m = s.most in
      record { put = put_is s.put (sym y); bits = subst (λ (v : ℕ). Bits v l) (sym y) s.bits; most = omega arith; free = free }

  pub told : Front (path_of w owner k n) noted₀ noted count
  told = subst (λ (ps : List ℕ). Front ps noted₀ noted count) (sym (s.passed.way ∙ ap (λ (r : List ℕ). s.ps ++ r) end.way ∙ append-nil s.ps)) s.front
