-- Laws of the packet call.
use mathlib.Core.Path.{◌≡◌, sym, ◌∙◌}
use mathlib.Core.Bool.{Bool, true, false, cond, not, ◌||◌}
use mathlib.Core.List.{List, []}
use Prim.Native.Nat.{ℕ, ◌+◌, ◌*◌, ◌<◌, ◌≤◌}
use native.Mathlib.Nat.{mul-le-mul}
use native.Mathlib.Omega.{arith}
use borrow.Author.Tests.{eq-eqb, ne_eqb, le-leb, lt-leb, ltb-false}
use lib.Dec.{eqb, leb}
use lib.ListN.{length}
use Rattle.lists.specs.Tests.{or-false-r, or_l, or_r}
use Rattle.table.specs.PacketCall.{packet_refusal, part_at, packet_part, part_start}
use Rattle.table.specs.Table.{outside}

-- no product is formed above this
pub product : (n s : ℕ) (q r : Bool) → q ≡ outside 1024 n → q ≡ false → r ≡ outside 1024 s → r ≡ false → n * s ≤ 1048576
product n s q r a b c d = mul-le-mul (ltb-false 1024 n (or-false-r (eqb n 0) _ (sym a ∙ b))) (ltb-false 1024 s (or-false-r (eqb s 0) _ (sym c ∙ d)))

-- ---- the first cause that holds
module _ (n s place len : ℕ) where
  refuse-2 : (o : Bool) (x : ℕ) → o ≡ true → ◌≡◌ {A = ℕ} 2 (cond o 2 x)
  refuse-2 o x e = rw e

  pub refuse-places : (q : Bool) → q ≡ outside 1024 n → q ≡ true → ◌≡◌ {A = ℕ} 2 (packet_refusal n s place len)
  refuse-places q a b = refuse-2 _ _ (or_l (outside 1024 n) (outside 1024 s) (sym a ∙ b))

  pub refuse-bytes : (r : Bool) → r ≡ outside 1024 s → r ≡ true → ◌≡◌ {A = ℕ} 2 (packet_refusal n s place len)
  refuse-bytes r a b = refuse-2 _ _ (or_r (outside 1024 n) (outside 1024 s) (sym a ∙ b))

  module _ (q r : Bool) (a : q ≡ outside 1024 n) (b : q ≡ false) (c : r ≡ outside 1024 s) (d : r ≡ false) where
    -- once n and s are within their limits
    rest : (x y : Bool) → x ≡ false → y ≡ false → (k : ℕ) → cond (x || y) 2 k ≡ k
    rest x y e f k = rw (e, f)

    within : packet_refusal n s place len ≡ cond (not (eqb len (n * s))) 5 (cond (leb n place) 10 0)
    within = rest (outside 1024 n) (outside 1024 s) (sym a ∙ b) (sym c ∙ d) _

    pub refuse-length : (len ≡ n * s → ⊥) → ◌≡◌ {A = ℕ} 5 (packet_refusal n s place len)
    refuse-length h = sym (within ∙ rw (ne_eqb len (n * s) h))

    pub refuse-place : len ≡ n * s → n ≤ place → ◌≡◌ {A = ℕ} 10 (packet_refusal n s place len)
    refuse-place h k = sym (within ∙ rw (eq-eqb len (n * s) h, le-leb n place k))

    pub refuse-none : len ≡ n * s → place < n → ◌≡◌ {A = ℕ} 0 (packet_refusal n s place len)
    refuse-none h k = sym (within ∙ rw (eq-eqb len (n * s) h, lt-leb n place k))

-- ---- the part
pub part-given : (n s place : ℕ) (b : List ℕ) → packet_refusal n s place (length b) ≡ 0 → part_at s place b ≡ packet_part n s place b
part-given n s place b h = go (packet_refusal n s place (length b)) (part_at s place b) h
  where
    go : (k : ℕ) (p : List ℕ) → k ≡ 0 → p ≡ cond (eqb k 0) p []
    go k p e = rw (eq-eqb k 0 e)

pub part-empty : (n s place : ℕ) (b : List ℕ) → (packet_refusal n s place (length b) ≡ 0 → ⊥) → [] ≡ packet_part n s place b
part-empty n s place b h = go (packet_refusal n s place (length b)) (part_at s place b) h
  where
    go : (k : ℕ) (p : List ℕ) → (k ≡ 0 → ⊥) → [] ≡ cond (eqb k 0) p []
    go k p e = rw (ne_eqb k 0 e)

pub start-given : (n s place len o : ℕ) → packet_refusal n s place len ≡ 0 → place * s + o ≡ part_start n s place len + o
start-given n s place len o h = go (packet_refusal n s place len) h
  where
    go : (k : ℕ) → k ≡ 0 → place * s + o ≡ cond (eqb k 0) (place * s) 0 + o
    go k e = rw (eq-eqb k 0 e)

pub start-empty : (n s place len o : ℕ) → (packet_refusal n s place len ≡ 0 → ⊥) → o ≡ part_start n s place len + o
start-empty n s place len o h = go (packet_refusal n s place len) h
  where
    go : (k : ℕ) → (k ≡ 0 → ⊥) → o ≡ cond (eqb k 0) (place * s) 0 + o
    go k e = rw (ne_eqb k 0 e) (omega arith)
