-- The loop over the checks keeps those of the rule: `Keeps` holds at each turn.
use mathlib.Core.Path.{◌≡◌, sym, ap₂, subst}
use mathlib.Core.List.{List, [], ◌∷◌, ◌++◌}
use Prim.Native.Nat.{ℕ, ◌+◌, ◌-◌, ◌*◌, ◌<◌, ◌≤◌}
use native.Mathlib.Omega.{arith}
use lib.ListN.{length, get_or, set, take, drop}
use Rattle.gf2.specs.Gf2.{row_of}
use Rattle.table.specs.Checks.{offset, check}
use Rattle.table.specs.ChecksLaws.{offset-more}
use Rattle.bits.specs.Front.{Front, front-none, front-more}
use Rattle.rows.specs.Choosing.{Choosing, choosing-none, choosing-owners, choosing-miss, choosing-hit, choosing-all}
use Rattle.rows.specs.Leads.{Owners, Lowered}
use Rattle.keep.specs.Kept.{kept_of}

abbrev pub check_row : List ℕ → ℕ → ℕ → ℕ
check_row t m j = row_of (check t m j)

-- ---- the state of the loop: ps are the numbers kept so far
pub record Keeps (t : List ℕ) (m n : ℕ) (ids₀ w owner ids : List ℕ) (k i at : ℕ) : Type 0 where
  pub ps : List ℕ
  pub front : Front ps ids₀ ids k
  pub here : at ≡ 5 + m + offset t i
  pub rows : Choosing (check_row t m) m n w owner k i ps

pub start : (t : List ℕ) (m n : ℕ) (ids w owner : List ℕ) → ((p : ℕ) → get_or owner p 0 ≡ 0) → Keeps t m n ids w owner ids 0 0 (5 + m)
unfolding offset
start t m n ids w owner z = record { ps = []; front = front-none ids; here = omega arith; rows = choosing-none (check_row t m) m n w owner z }

pub owners : {t : List ℕ} {m n : ℕ} {ids₀ w owner ids : List ℕ} {k i at : ℕ} → Keeps t m n ids₀ w owner ids k i at → k * 16 ≤ length w → Owners w owner k
owners s room = choosing-owners s.rows room

module _ {t : List ℕ} {m n : ℕ} {ids₀ w owner ids e : List ℕ} {k i at : ℕ} (l : ℕ) (s : Keeps t m n ids₀ w owner ids k i at) (room : k * 16 ≤ length w) (more : i < m)
    (d : Lowered w owner k n (check_row t m i) e l) where
  next : at + get_or t (4 + i) 0 ≡ 5 + m + offset t (i + 1)
  next = omega (arith, offset-more t i, s.here)

  pub turn-miss : (0 < l → ⊥) → Keeps t m n ids₀ e owner ids k (i + 1) (at + get_or t (4 + i) 0)
  turn-miss h = record { ps = s.ps; front = s.front; here = next; rows = choosing-miss l s.rows room more d h }

  pub turn-hit : 0 < l → l ≤ length owner → k < length ids₀ → Keeps t m n ids₀ e (set owner (l - 1) (k + 1)) (set ids k i) (k + 1) (i + 1) (at + get_or t (4 + i) 0)
  turn-hit hit lo li = record { ps = s.ps ++ (i ∷ []); front = front-more i s.front li; here = next; rows = choosing-hit l s.rows room more d hit lo }

pub stop : {t : List ℕ} {m n : ℕ} {ids₀ w owner ids : List ℕ} {k at : ℕ} → Keeps t m n ids₀ w owner ids k m at → Front (kept_of t m) ids₀ ids k
unfolding kept_of
stop {ids₀ = ids₀} {ids = ids} {k = k} s = subst (λ (l : List ℕ). Front l ids₀ ids k) (sym (choosing-all s.rows)) s.front

pub told : {w owner e : List ℕ} {k n r : ℕ} (t : List ℕ) (m i : ℕ) {at wt : ℕ} → at ≡ 5 + m + offset t i → wt ≡ get_or t (4 + i) 0
    → Lowered w owner k n (row_of (take wt (drop at t))) e r → Lowered w owner k n (check_row t m i) e r
unfolding check
told {w} {owner} {e} {k} {n} {r} t m i a b d = subst (λ (x : ℕ). Lowered w owner k n x e r) (ap₂ (λ (x y : ℕ). row_of (take x (drop y t))) b a) d
