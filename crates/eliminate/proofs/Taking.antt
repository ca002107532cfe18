-- A check's parts, the list of places that are summed for its row, and its sum.
use mathlib.Core.Path.{◌≡◌, refl, sym, ap, ap₂, ◌∙◌, subst}
use mathlib.Core.Bool.{Bool, true, false, not, false≢true, true≢false}
use mathlib.Core.List.{List, [], ◌∷◌, ◌++◌, append_assoc, append-nil}
use Prim.Native.Nat.{ℕ, suc, ◌+◌, ◌-◌, ◌*◌, ◌<◌, ◌≤◌}
use native.Mathlib.Omega.{arith}
use lib.ListN.{length, get_or, set, take, drop, replicate, length-append, length-replicate}
use lib.Seq.{take_at}
use Rattle.std.specs.declared.option.Option.{Option}
use Rattle.std.specs.declared.option.Option.TheVariants.{None, Some}
use Rattle.std.specs.declared.result.Result.TheVariants.{Ok, Err}
use Rattle.eliminate.specs.declared.Clash.{Clash}
use Rattle.lists.specs.ListLaws.{all_append, all_filter, all_map, get_d-zeros}
use Rattle.lists.specs.Lists.{minus, All}
use Rattle.lists.specs.Tests.{by_bool}
use Rattle.gf2.specs.Bit.{bit-zero}
use Rattle.gf2.specs.EchelonLaws.{path-low, passed-skip, short-lt}
use Rattle.gf2.specs.Gf2.{Short, Bits, xor_group, sum_over, down, path, row_of}
use Rattle.gf2.specs.RowValue.{row_lt}
use Rattle.table.specs.Checks.{check_sum, others_sum}
use Rattle.table.specs.PacketLaws.{packets-length, packets-sized, view, sum_view}
use Rattle.std.specs.Option.{is_some}
use Rattle.sums.specs.Lowest.{LowestByte}
use Rattle.sums.specs.LowestLaws.{some-lowest, none-lowest}
use Rattle.table.specs.Packets.{packets, joined, packet_sum, lowest_nonzero}
use Rattle.table.specs.SumLaws.{lowest-zeros, lowest-is}
use Rattle.packets.specs.Given.{Given}
use Rattle.erasure.specs.Restoring.{is_lost, lost_places}
use Rattle.bits.specs.Front.{Front, front-is}
use Rattle.bits.specs.Row.{RowPut}
use Rattle.bits.specs.RowLaws.{put_is}
use Rattle.rows.specs.Leads.{leads, Owners, Reducible, Lowered, path_of}
use Rattle.rows.specs.LeadsLaws.{put-reducible, put-path}
use Rattle.decided.specs.Decided.{lost_row}
use Rattle.eliminate.specs.Eliminating.{received_places, summed_places, row_sum, Summed}
use Rattle.eliminate.specs.EliminatingLaws.{Noted, minus-none}

-- ---- the two parts
parts : (lost c : List ℕ) → length (received_places lost c) + length (lost_places lost c) ≡ length c
parts lost [] = refl
parts lost (p ∷ c) = let ih = parts lost c in by_bool (is_lost lost p) (λ e. rw e (omega arith)) (λ e. rw e (omega arith))

empty : (l : List ℕ) → length l ≡ 0 → l ≡ []
empty [] h = refl
empty (x ∷ l) h = absurd (omega arith)

-- all are received: none is lost
pub none-lost : (lost c : List ℕ) → length (received_places lost c) ≡ length c → lost_places lost c ≡ []
none-lost lost c h = let e = parts lost c in empty (lost_places lost c) (omega arith)

pub all-received : (lost c : List ℕ) → lost_places lost c ≡ [] → received_places lost c ≡ c
all-received lost [] h = refl
all-received lost (p ∷ c) h = by_bool (is_lost lost p)
    (λ e. let z : ◌≡◌ {A = ℕ} (suc (length (lost_places lost c))) 0 = ap length (rw e at h) in absurd (omega arith))
    (λ e. rw e (ap (λ l. p ∷ l) (all-received lost c (rw e at h))))

-- ---- a check without a lost place: its row is zero, and stays so
zero-short : Short 0 0
zero-short = record { above = λ q h. bit-zero q }

zero-down : (f : ℕ → ℕ) (n : ℕ) → down f n 0 ≡ 0
unfolding down
zero-down f n = (passed-skip f 0 0 n (omega arith) zero-short).row

zero-path : (f : ℕ → ℕ) (n : ℕ) → path f n 0 ≡ []
unfolding path
zero-path f n = (passed-skip f 0 0 n (omega arith) zero-short).way

module _ (lost c : List ℕ) (none : lost_places lost c ≡ []) where
  row_zero : lost_row lost c ≡ 0
  row_zero = ap row_of none

  pub zero-lowered : {w e : List ℕ} (owner : List ℕ) {k : ℕ} (n : ℕ) → RowPut w k (lost_row lost c) e → Lowered w owner k n (lost_row lost c) e 0
  zero-lowered {w} owner n p =
      let z : down (leads w owner) n (lost_row lost c) ≡ 0 = ap (down (leads w owner) n) row_zero ∙ zero-down (leads w owner) n in
      record {
        put = put_is p (row_zero ∙ sym z);
        bits = subst (λ v. Bits v 0) (sym z) (record { most = zero-short; last = λ h. absurd (omega arith) });
        most = omega arith;
        free = λ h. absurd (omega arith);
      }

  -- the packets that are summed are the check's
  pub summed-all : (f : ℕ → ℕ) (n : ℕ) → summed_places lost c f n ≡ c
  summed-all f n = ap₂ ◌++◌ (all-received lost c none) (ap (path f n) row_zero ∙ zero-path f n) ∙ append-nil c

-- ---- the list as it lies in a buffer
-- ps in front, and qs behind them, written into the rest of the buffer
pub noted-part : {ps old e qs x e' : List ℕ} {j k : ℕ} → Front ps old e j → Front qs x e' k → (z : List ℕ) → Noted (take j e ++ (e' ++ z)) (j + k) (ps ++ qs)
noted-part {ps} {old} {e} {qs} {x} {e'} {j} {k} f g z =
    let is : take j e ++ (e' ++ z) ≡ (ps ++ qs) ++ (drop (length qs) x ++ z) =
    ap₂ (λ a b. a ++ (b ++ z)) (ap₂ take f.count f.list ∙ take_at ps (drop (length ps) old) (length ps) refl) g.list
    ∙ ap (λ l. ps ++ l) (append_assoc qs (drop (length qs) x) z) ∙ sym (append_assoc ps qs (drop (length qs) x ++ z)) in
    let many : j + k ≡ length (ps ++ qs) = ap₂ ◌+◌ f.count g.count ∙ sym (length-append ps qs) in
    let l = ap length is ∙ length-append (ps ++ qs) (drop (length qs) x ++ z) in
    record {
      list = ap₂ take many is ∙ take_at (ps ++ qs) (drop (length qs) x ++ z) (length (ps ++ qs)) refl;
      count = many;
      room = omega arith;
    }

module _ (n : ℕ) (lost : List ℕ) (f : ℕ → ℕ) {c : List ℕ} (low : All (λ q. q < n) c) where
  -- the places that are summed for it are places too
  pub summed-low : All (λ q. q < n) (summed_places lost c f n)
  summed-low = all_append (all_filter (λ q. not (is_lost lost q)) low) (path-low f n (lost_row lost c))

  -- their sum: its length, and byte by byte
  pub row-view : (s : ℕ) (b : List ℕ) → length b ≡ n * s
      → (length (row_sum s n lost c f b) ≡ s) × ((j : ℕ) → get_or (row_sum s n lost c f b) j 0 ≡ sum_over xor_group (view (packets s n b) j) (summed_places lost c f n))
  row-view s b bytes = sum_view s (packets-sized s n b bytes) {c = summed_places lost c f n} (all_map (λ q h. subst (λ u. q < u) (sym (packets-length s n b)) h) summed-low)

-- ---- whether a sum is zero
pub zero-sum : (x : List ℕ) (s : ℕ) → length x ≡ s → lowest_nonzero x ≡ s → x ≡ replicate s 0
zero-sum x s l e = lowest-zeros x (e ∙ sym l) ∙ ap (λ k. replicate k 0) l

pub sum-zero : (x : List ℕ) (s : ℕ) → x ≡ replicate s 0 → lowest_nonzero x ≡ s
sum-zero x s e = ap lowest_nonzero e ∙ lowest-is (replicate s 0) s (omega (arith, length-replicate {A = ℕ} s 0)) (λ k h. get_d-zeros s k) (λ h. absurd (omega (arith, length-replicate {A = ℕ} s 0)))

-- ---- what a check comes to
module _ (n s : ℕ) (lost c : List ℕ) (f : ℕ → ℕ) (b : List ℕ) (given : Given c b n s) where
  -- nothing is left of the row, and its sum is zero
  calm_sum : row_sum s n lost c f b ≡ replicate s 0 → Summed s n lost c f b (Ok None) b
  calm_sum z = record { stored = λ h. absurd (omega arith); kept = λ h. refl; calm = λ u v. z; clashed = λ h. absurd (false≢true h) }

  pub skipped : (lost_places lost c ≡ [] → packet_sum s (packets s n b) c ≡ replicate s 0) → lost_places lost c ≡ [] → Summed s n lost c f b (Ok None) b
  skipped known none = calm_sum (ap (packet_sum s (packets s n b)) (summed-all lost c none f n) ∙ known none)

  -- the places that are summed stand in x
  module _ {x : List ℕ} {all : ℕ} (nd : Noted x all (summed_places lost c f n)) where
    -- nothing is left of the row
    low-is : {low : ℕ} → low ≡ lowest_nonzero (check_sum x 0 all b n s) → low ≡ lowest_nonzero (row_sum s n lost c f b)
    low-is e = e ∙ ap (λ l. lowest_nonzero (packet_sum s (packets s n b) l)) nd.list

    long : length (check_sum x 0 all b n s) ≡ s
    long = ap (λ l. length (packet_sum s (packets s n b) l)) nd.list ∙ (row-view n lost f given.below s b given.bytes).0

    calmed : {low : ℕ} → low ≡ lowest_nonzero (check_sum x 0 all b n s) → low ≡ s → Summed s n lost c f b (Ok None) b
    calmed e h = calm_sum (zero-sum (row_sum s n lost c f b) s (row-view n lost f given.below s b given.bytes).0 (sym (low-is e) ∙ h))

    clashed : {low : ℕ} {clash : Clash} → low ≡ lowest_nonzero (check_sum x 0 all b n s) → (low ≡ s → ⊥) → Summed s n lost c f b (Err clash) b
    clashed e h = record {
      stored = λ u. absurd (omega arith);
      kept = λ u. refl;
      calm = λ u v. absurd (true≢false u);
      clashed = λ u. (refl, λ z. h (low-is e ∙ sum-zero (row_sum s n lost c f b) s z));
    }

    -- by whether the sum has a byte that isn't zero
    pub judged-calm : (r : Option ℕ) {v : Bool} → v ≡ is_some r → v ≡ false → LowestByte (check_sum x 0 all b n s) r → Summed s n lost c f b (Ok None) b
    judged-calm r {v} e z l = calmed refl (none-lowest _ r (sym e ∙ z) l ∙ long)

    pub judged-clash : (r : Option ℕ) {v : Bool} {clash : Clash} → v ≡ is_some r → v ≡ true → LowestByte (check_sum x 0 all b n s) r → Summed s n lost c f b (Err clash) b
    judged-clash r {v} e z l = clashed refl (λ h. some-lowest _ r (sym e ∙ z) l (h ∙ sym long))

    -- something is left
    pub kept-sum : {p : ℕ} {b' : List ℕ} → b' ≡ joined (set (packets s n b) p (others_sum x 0 all b n s n)) → Summed s n lost c f b (Ok (Some p)) b'
    kept-sum {p} {b'} e =
        let i : p + 1 - 1 ≡ p = omega arith in
        record {
          stored = λ u. e ∙ ap₂ (λ q v. joined (set (packets s n b) q (packet_sum s (packets s n b) v))) (sym i) (ap (λ v. minus v (n ∷ [])) nd.list ∙ minus-none n (summed-low n lost f given.below));
          kept = λ u. absurd (omega arith);
          calm = λ u v. absurd (omega arith);
          clashed = λ u. absurd (false≢true u);
        }

-- ---- reducing its row
-- the received ones are not more than all
pub received-few : (lost c : List ℕ) {k : ℕ} → k ≡ length (received_places lost c) → k ≤ length c
received-few lost c e = let h = parts lost c in omega arith

module _ {w owner e : List ℕ} {k : ℕ} (o : Owners w owner k) (n : ℕ) (lost c : List ℕ) (low : All (λ q. q < n) c) (d : RowPut w k (lost_row lost c) e) where
  pub reducible : k * 16 + 16 ≤ length w → n ≤ 1024 → n ≤ length owner → Reducible e owner k n
  reducible room few long = put-reducible o d n (short-lt n (lost_row lost c) (row_lt n (all_filter (is_lost lost) low))) room few long

  pub path-as : {old x : List ℕ} {j : ℕ} → Front (path_of e owner k n) old x j → Front (path (leads w owner) n (lost_row lost c)) old x j
  path-as g = front-is g (put-path o d n)
