-- Laws for the checks and for the places: a list of places as it lies in a buffer, and the sums that go with rows.
use Rattle.std.specs.Prelude.{◌≡◌, refl, true, not, List, [], ◌∷◌, ℕ, ◌+◌, ◌-◌, ◌*◌, ◌<◌, ◌≤◌, length, get_or, take, drop}
use Rattle.std.proofs.Common.{sym, ap, ◌∙◌, subst, true≢false, arith, eq-eqb, ne_eqb}
use Rattle.std.proofs.Math.Path.{fun_ext}
use Rattle.std.specs.Int.Bits.{bit_xor}
use Rattle.lists.specs.Buffers.{get_d_part}
use Rattle.lists.specs.ListLaws.{all-at, all_map, filter-all}
use Rattle.lists.specs.Lists.{has, minus, All}
use Rattle.lists.specs.Tests.{eqb-lt}
use Rattle.gf2.specs.EchelonLaws.{bit-nonzero, path-leads}
use Rattle.gf2.specs.Gf2.{Bits, xor_group, sum_over, path, is_zero}
use Rattle.gf2.specs.RowValue.{sum-ext-in}
use Rattle.table.specs.Accepted.{Accepted}
use Rattle.table.specs.Checks.{CheckIn}
use Rattle.table.specs.PacketLaws.{view}
use Rattle.table.specs.Packets.{packets}
use Rattle.table.specs.Table.{checks}
use Rattle.table.specs.TableLaws.{accepted}
use Rattle.bits.specs.Row.{row}
use Rattle.rows.specs.Leads.{leads}
use Rattle.rows.specs.LeadsLaws.{leads-none, leads-at, named}
use Rattle.decided.specs.Pairing.{byte_group}
use Rattle.eliminate.specs.Eliminating.{sums_at}

-- ---- a list of places as it lies in a buffer
-- the first all numbers of x are l
pub record Noted (x : List ℕ) (all : ℕ) (l : List ℕ) : Type 0 where
  pub list : take all (drop 0 x) ≡ l
  pub count : all ≡ length l
  pub room : all ≤ length x

-- it can be summed
pub noted_in : {x l : List ℕ} {all : ℕ} → Noted x all l → (b : List ℕ) (n s : ℕ) → All (λ q. q < n) l → length b ≡ n * s → CheckIn x 0 all b n s
noted_in {x} {l} {all} d b n s low bytes = record {
  room = let r = d.room in omega arith;
  below = λ i h. subst (λ v. v < n) (ap (λ v. get_or v i 0) (sym d.list) ∙ get_d_part x 0 all i h) (all-at 0 low i (let c = d.count in omega arith));
  bytes = bytes;
}

-- without a place that it doesn't have
pub minus-none : (n : ℕ) {l : List ℕ} → All (λ q. q < n) l → minus l (n ∷ []) ≡ l
minus-none n a = filter-all (λ q. not (has q (n ∷ []))) (all_map (λ q h. rw (eqb-lt q n h)) a)

-- ---- the sums that go with rows
-- byte j of a sum of functions of the byte
sum-byte : (v : ℕ → ℕ → ℕ) (l : List ℕ) (j : ℕ) → sum_over byte_group v l j ≡ sum_over xor_group (λ q. v q j) l
sum-byte v [] j = refl
sum-byte v (q ∷ l) j = ap (bit_xor (v q j)) (sum-byte v l j)

-- rows that lead nothing have no sum
pub none-sum : (w owner : List ℕ) (s n : ℕ) (b : List ℕ) → ((p : ℕ) → 0 < get_or owner p 0 → Bits (row w (get_or owner p 0 - 1)) (p + 1))
    → (p : ℕ) → is_zero (leads w owner p) ≡ true → sums_at s n owner b p ≡ byte_group.o
none-sum w owner s n b lead p z = named (get_or owner p 0)
    (λ e. fun_ext (λ j. rw (eq-eqb (get_or owner p 0) 0 e)))
    (λ e. let o : p + 1 - 1 ≡ p = omega arith in
    absurd (true≢false (sym z ∙ ap is_zero (leads-at w owner p e) ∙ bit-nonzero p (row w (get_or owner p 0 - 1)) (rw o at ((lead p e).last (omega arith))))))

-- a place on a path is led
led-path : (w owner : List ℕ) (n x : ℕ) → All (λ q. 0 < get_or owner q 0) (path (leads w owner) n x)
led-path w owner n x = all_map (λ q z. named (get_or owner q 0) (λ e. absurd (true≢false (ap is_zero (sym (leads-none w owner q e)) ∙ z))) (λ e. e)) (path-leads (leads w owner) n x)

-- the sum at a led place is that of its packet
pub sums-led : (s n : ℕ) (owner b : List ℕ) (q j : ℕ) → 0 < get_or owner q 0 → sums_at s n owner b q j ≡ view (packets s n b) j q
sums-led s n owner b q j h = rw (ne_eqb (get_or owner q 0) 0 (λ (e : get_or owner q 0 ≡ 0). omega arith))

-- the sums along a path
pub path-sum : (s n : ℕ) (w owner b : List ℕ) (k x j : ℕ) → sum_over byte_group (sums_at s n owner b) (path (leads w owner) k x) j ≡ sum_over xor_group (view (packets s n b) j) (path (leads w owner) k x)
path-sum s n w owner b k x j = sum-byte (sums_at s n owner b) (path (leads w owner) k x) j
    ∙ sum-ext-in xor_group (all_map (λ q h. sums-led s n owner b q j h) (led-path w owner k x))

-- ---- the checks of a table
-- the places of every check lie below n
pub checks-low : (t : List ℕ) (m n s : ℕ) → Accepted t m n s → All (λ c. All (λ p. p < n) c) (checks t)
checks-low t m n s k = rw k.places-are (accepted t k.accepted).low
