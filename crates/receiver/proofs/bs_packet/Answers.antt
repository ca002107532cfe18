-- The packet call for C: the number, and where the part lies.
use mathlib.Core.Path.{◌≡◌, refl, sym, ap, ◌∙◌}
use Rattle.refusals.proofs.Numbers.{number-some}
use Prim.Native.Nat.{ℕ, ◌*◌}
use native.Mathlib.Omega.{arith}
use borrow.Author.Tests.{ne_eqb}
use lib.Dec.{eqb}
use lib.ListN.{length}
use mathlib.Core.Bool.{cond}
use Rattle.table.specs.PacketCall.{packet_refusal, part_start, part_len}
use Rattle.table.specs.PacketCallLaws.{packet-room}
use Rattle.receiver.proofs.bs_packet.Goals as goal

-- where the part lies, by the number that the leaf gives
lies : (n s place len r : ℕ) → r ≡ packet_refusal n s place len → r ≡ 0
    → (◌≡◌ {A = ℕ} 0 (packet_refusal n s place len)) × ((place * s ≡ part_start n s place len) × (s ≡ part_len n s place len))
lies n s place len r e z = let k : packet_refusal n s place len ≡ 0 = sym e ∙ z in
    (sym k, (sym (ap (λ x. cond (eqb x 0) (place * s) 0) k), sym (ap (λ x. cond (eqb x 0) s 0) k)))

nowhere : (n s place len r : ℕ) → r ≡ packet_refusal n s place len → (r ≡ 0 → ⊥)
    → (r ≡ packet_refusal n s place len) × ((◌≡◌ {A = ℕ} 0 (part_start n s place len)) × (◌≡◌ {A = ℕ} 0 (part_len n s place len)))
nowhere n s place len r e z = let k = ne_eqb (packet_refusal n s place len) 0 (λ h. z (e ∙ h)) in
    (e, (sym (ap (λ b. cond b (place * s) 0) k), sym (ap (λ b. cond b s 0) k)))

pub overflow_mul-result : goal.overflow_mul-result
overflow_mul-result c = omega (arith, packet-room c.args.n c.args.s c.args.place (length c.args.block.now) (sym c.in-Ok.ensures))

pub returns-in-Ok : goal.returns-in-Ok
returns-in-Ok c =
    let q = lies c.args.n c.args.s c.args.place (length c.args.block.now) 0 c.in-Ok.ensures refl in
    record { refusal = q.0; start = q.1.0; length = q.1.1 }

pub returns-in-Err : goal.returns-in-Err
returns-in-Err c =
    let e = c.number.ensures ∙ c.in-Err.ensures in
    let q = nowhere c.args.n c.args.s c.args.place (length c.args.block.now) c.number.result e (λ z. number-some c.in-Err.refusal (sym c.number.ensures ∙ z)) in
    record { refusal = q.0; start = q.1.0; length = q.1.1 }
