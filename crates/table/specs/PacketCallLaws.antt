-- A packet call that is not refused has its packet inside the block.
use Rattle.std.specs.Prelude.{◌≡◌, refl, Bool, true, false, cond, not, ◌||◌, ℕ, ◌+◌, ◌*◌, ◌<◌, ◌≤◌, eqb, leb}
use Rattle.std.proofs.Common.{mul-le-mul_right, suc-mul, arith, leb-false, eqb-true}
use Rattle.std.proofs.lemmas.Bool.{not-false}
use Rattle.table.specs.PacketCall.{packet_refusal}
use Rattle.table.specs.Table.{outside}

pub packet-room : (n s place len : ℕ) → packet_refusal n s place len ≡ 0 → place * s + s ≤ len
packet-room n s place len = go (outside 1024 n || outside 1024 s) (not (eqb len (n * s))) (leb n place) refl refl
  where
    go : (o x y : Bool) → not (eqb len (n * s)) ≡ x → leb n place ≡ y → ◌≡◌ {A = ℕ} (cond o 2 (cond x 5 (cond y 10 0))) 0 → place * s + s ≤ len
    go true x y p q h = absurd (omega arith)
    go false true y p q h = absurd (omega arith)
    go false false true p q h = absurd (omega arith)
    go false false false p q h =
        let e : len ≡ n * s = eqb-true len (n * s) (not-false _ p) in
        let l : place < n = leb-false n place q in
        omega (arith, mul-le-mul_right s l, suc-mul place s)
