-- The loop over the checks with the rows that fed each: `Takes` holds at each turn.
use mathlib.Core.Path.{◌≡◌, refl, sym, ap, ap₂, ◌∙◌, subst}
use mathlib.Core.List.{List, [], ◌∷◌, ◌++◌}
use Prim.Native.Nat.{ℕ, ◌+◌, ◌-◌, ◌*◌, ◌<◌, ◌≤◌}
use native.Mathlib.Omega.{arith}
use lib.Bits.{bit_xor}
use lib.ListN.{length, get_or, set, take, drop, get_or-append}
use Rattle.lists.specs.Lists.{from}
use Rattle.gf2.specs.Gf2.{Short, xor_group, row_of, is_zero, choose}
use Rattle.gf2.specs.RowValue.{val, val-ext}
use Rattle.table.specs.Accepted.{Accepted, check-is, check-count}
use Rattle.table.specs.Checks.{offset}
use Rattle.table.specs.ChecksLaws.{offset-more}
use Rattle.table.specs.Table.{checks}
use Rattle.bits.specs.Front.{Front, front-none, front-more, front-taken}
use Rattle.bits.specs.Row.{row, RowPut}
use Rattle.bits.specs.RowLaws.{row_other, put_is}
use Rattle.rows.specs.Choosing.{Choosing, choosing-none, choosing-owners, choosing-miss, choosing-hit, choosing-all}
use Rattle.rows.specs.Leads.{leads, Lowered}
use Rattle.rows.specs.LeadsLaws.{owners-lead}
use Rattle.reasons.specs.Mirror.{mirror_row, mirror_at}
use Rattle.reasons.specs.Trace.{Fed, fed-kept, fed-more}
use Rattle.reasons.specs.Noting.{Kept, Numbered}
use Rattle.reasons.proofs.Traced.{noted-sum, noted-short}
use Rattle.reasons.specs.Used.{chosen}
use Rattle.tracing.specs.Tracing.{number_in, feeders, Taken}
use Rattle.tracing.specs.TracingLaws.{numbered}

-- ---- the state of the loop: ps are the numbers of the checks used so far
pub record Takes (t : List ℕ) (m n : ℕ) (lost ids₀ w owner feed ids : List ℕ) (k i at : ℕ) : Type 0 where
  pub ps : List ℕ
  pub front : Front ps ids₀ ids k
  pub here : at ≡ 5 + m + offset t i
  pub rows : Choosing (mirror_at n lost (checks t)) m n w owner k i ps
  pub fed : Fed xor_group (row w) (λ j. mirror_at n lost (checks t) (get_or ps j 0)) (row feed) k

pub start : (t : List ℕ) (m n : ℕ) (lost ids w owner feed : List ℕ) → ((p : ℕ) → get_or owner p 0 ≡ 0) → Takes t m n lost ids w owner feed ids 0 0 (5 + m)
unfolding offset
start t m n lost ids w owner feed z = record {
  ps = [];
  front = front-none ids;
  here = omega arith;
  rows = choosing-none (mirror_at n lost (checks t)) m n w owner z;
  fed = record { adds = λ k h. absurd (omega arith); earlier = λ k h. absurd (omega arith) };
}

module _ {t : List ℕ} {m n : ℕ} {lost ids₀ w owner feed ids e d : List ℕ} {k i at l : ℕ} (s : Takes t m n lost ids₀ w owner feed ids k i at) (room : k * 16 ≤ length w) (more : i < m)
    (low : Lowered w owner k n (mirror_at n lost (checks t) i) e l) (noted : RowPut feed k (row_of (feeders w owner n (mirror_at n lost (checks t) i))) d) where
  abbrev f : ℕ → ℕ
  f = mirror_at n lost (checks t)

  next : at + get_or t (4 + i) 0 ≡ 5 + m + offset t (i + 1)
  next = omega (arith, offset-more t i, s.here)

  -- the rows below k are as they were
  same_row : (j : ℕ) → j < k → row e j ≡ row w j
  same_row j h = row_other low.put j (λ (z : j ≡ k). omega arith)

  same-feed : (j : ℕ) → j < k → row d j ≡ row feed j
  same-feed j h = row_other noted j (λ (z : j ≡ k). omega arith)

  pub turn-miss : (0 < l → ⊥) → Takes t m n lost ids₀ e owner d ids k (i + 1) (at + get_or t (4 + i) 0)
  turn-miss h = record {
    ps = s.ps;
    front = s.front;
    here = next;
    rows = choosing-miss l s.rows room more low h;
    fed = fed-kept xor_group s.fed same_row (λ j h. refl) same-feed;
  }

  -- the list with one more
  old-at : (j : ℕ) → j < k → get_or (s.ps ++ (i ∷ [])) j 0 ≡ get_or s.ps j 0
  old-at j h = get_or-append s.ps (i ∷ []) 0 j (omega (arith, s.front.count))

  new-at : get_or (s.ps ++ (i ∷ [])) k 0 ≡ i
  new-at = ap (get_or (s.ps ++ (i ∷ [])) k) refl ∙ ap (λ j. get_or (s.ps ++ (i ∷ [])) j 0) s.front.count ∙ last-at s.ps
    where
      last-at : (l : List ℕ) → get_or (l ++ (i ∷ [])) (length l) 0 ≡ i
      last-at [] = refl
      last-at (x ∷ l) = last-at l

  is-numbered : Numbered (leads w owner) (row w) (number_in owner) k
  is-numbered = numbered w owner s.rows.owned

  new_row : row e k ≡ bit_xor (f (get_or (s.ps ++ (i ∷ [])) k 0)) (val xor_group (row e) k (row d k))
  new_row = low.put.here ∙ noted-sum n is-numbered (f i) ∙ ap₂ bit_xor (ap f (sym new-at))
      (val-ext xor_group (row w) (row e) k (row_of (feeders w owner n (f i))) (λ j h. sym (same_row j h)) ∙ ap (val xor_group (row e) k) (sym noted.here))

  pub turn-hit : 0 < l → l ≤ length owner → k < length ids₀ → Takes t m n lost ids₀ e (set owner (l - 1) (k + 1)) d (set ids k i) (k + 1) (i + 1) (at + get_or t (4 + i) 0)
  turn-hit hit lo li = record {
    ps = s.ps ++ (i ∷ []);
    front = front-more i s.front li;
    here = next;
    rows = choosing-hit l s.rows room more low hit lo;
    fed = fed-more xor_group (fed-kept xor_group s.fed same_row (λ j h. ap f (old-at j h)) same-feed) new_row (subst (Short k) (sym noted.here) (noted-short n is-numbered (f i)));
  }

-- ---- the end
pub stop : {t : List ℕ} {m n s : ℕ} {lost ids₀ w owner feed ids : List ℕ} {k at : ℕ} → Accepted t m n s → k * 16 ≤ length w → Takes t m n lost ids₀ w owner feed ids k m at → Taken t n lost w owner feed ids k
stop {t} {m} {n} {s} {lost} {ids₀} {w} {owner} {feed} {ids} {k} ok room z =
    let m-is = check-count t m n s ok in
    let is : chosen (mirror_row n lost) (checks t) ≡ z.ps = subst (λ c. choose xor_group is_zero (mirror_at n lost (checks t)) [] (from 0 c) ≡ z.ps) (sym m-is) (choosing-all z.rows) in
    let many : k ≡ length (chosen (mirror_row n lost) (checks t)) = z.front.count ∙ sym (ap length is) in
    record {
      count = many;
      used-are = front-taken z.front ∙ sym is;
      few = let h = z.rows.few in omega arith;
      owned = z.rows.owned;
      lead = z.rows.lead;
      kept = subst (λ U. Kept n (mirror_at n lost (checks t)) U (leads w owner) (row w) (row feed)) (sym is)
          (record { lead = owners-lead (choosing-owners z.rows room); same = z.rows.same; fed = subst (Fed xor_group (row w) (λ j. mirror_at n lost (checks t) (get_or z.ps j 0)) (row feed)) z.front.count z.fed });
    }

-- the check at its start
module _ {t : List ℕ} {m n s : ℕ} (ok : Accepted t m n s) (lost : List ℕ) (i : ℕ) (h : i < m) {at wt : ℕ} (a : at ≡ 5 + m + offset t i) (b : wt ≡ get_or t (4 + i) 0) where
  row_told : mirror_row n lost (take wt (drop at t)) ≡ mirror_at n lost (checks t) i
  row_told = ap (mirror_row n lost) (check-is t m n s ok i h at wt a b)

  pub told-row : {w owner e : List ℕ} {k r : ℕ} → Lowered w owner k n (mirror_row n lost (take wt (drop at t))) e r → Lowered w owner k n (mirror_at n lost (checks t) i) e r
  told-row {w} {owner} {e} {k} {r} d = subst (λ (x : ℕ). Lowered w owner k n x e r) row_told d

  pub told-feed : (w owner : List ℕ) {feed d : List ℕ} {k : ℕ} → RowPut feed k (row_of (feeders w owner n (mirror_row n lost (take wt (drop at t))))) d
      → RowPut feed k (row_of (feeders w owner n (mirror_at n lost (checks t) i))) d
  told-feed w owner g = put_is g (ap (λ x. row_of (feeders w owner n x)) row_told)
