-- A packed step is unpacked to itself, and an unpacked one can be packed.
use Rattle.std.specs.Prelude.{◌≡◌, ℕ, zero, suc, ◌+◌, ◌*◌, ◌/◌, ◌%◌, ◌<◌}
use Rattle.std.proofs.Common.{ap, ap₂, ◌∙◌, arith}
use Rattle.std.proofs.Math.Option.{some}
use Rattle.plan.specs.declared.Step.{Step}
use Rattle.plan.specs.declared.Step.TheVariants.{Clear, Add}
use Rattle.plan.specs.Step.{pack, step_of, unpack, SlotsBelow}

-- slots below 4,096 come back
pub unpack-pack : (x : Step) → SlotsBelow 4096 x → unpack (pack x) ≡ some x
unpack-pack (Clear to) h =
    let a : to * 4096 / 16777216 ≡ 0 = omega arith in
    let b : to * 4096 % 4096 ≡ 0 = omega arith in
    let q : to * 4096 / 4096 ≡ to = omega arith in
    let c : to * 4096 / 4096 % 4096 ≡ to = ap (λ x. x % 4096) q ∙ (omega arith) in
    ap (λ i. step_of i (to * 4096 / 4096 % 4096) (to * 4096 % 4096)) a ∙ ap₂ (λ t f. step_of 0 t f) c b
unpack-pack (Add to from) h =
    let a : (16777216 + to * 4096 + from) / 16777216 ≡ 1 = omega arith in
    let b : (16777216 + to * 4096 + from) % 4096 ≡ from = omega arith in
    let q : (16777216 + to * 4096 + from) / 4096 ≡ 4096 + to = omega arith in
    let c : (16777216 + to * 4096 + from) / 4096 % 4096 ≡ to = ap (λ x. x % 4096) q ∙ (omega arith) in
    let w = 16777216 + to * 4096 + from in
    ap (λ i. step_of i (w / 4096 % 4096) (w % 4096)) a ∙ ap₂ (λ t f. step_of 1 t f) c b

-- the parts of a step that there is
pack-of : (k to from : ℕ) (x : Step) → step_of k to from ≡ some x → pack x ≡ k * 16777216 + to * 4096 + from
pack-of zero to zero x h = let e : Clear to ≡ x = cc in rw (← e) (omega arith)
pack-of zero to (suc from) x h = absurd (let z : ◌≡◌ {A = ℕ} 0 1 = cc in omega arith)
pack-of (suc zero) to from x h = let e : Add to from ≡ x = cc in rw (← e) (omega arith)
pack-of (suc (suc k)) to from x h = absurd (let z : ◌≡◌ {A = ℕ} 0 1 = cc in omega arith)

slots-of : (k to from : ℕ) (x : Step) → to < 4096 → from < 4096 → step_of k to from ≡ some x → SlotsBelow 4096 x
slots-of zero to zero x a b h = let e : Clear to ≡ x = cc in rw (← e) a
slots-of zero to (suc from) x a b h = absurd (let z : ◌≡◌ {A = ℕ} 0 1 = cc in omega arith)
slots-of (suc zero) to from x a b h = let e : Add to from ≡ x = cc in rw (← e) (a, b)
slots-of (suc (suc k)) to from x a b h = absurd (let z : ◌≡◌ {A = ℕ} 0 1 = cc in omega arith)

-- a number that is a step is that step, packed
pub pack-unpack : (w : ℕ) (x : Step) → unpack w ≡ some x → pack x ≡ w
pack-unpack w x h = pack-of (w / 16777216) (w / 4096 % 4096) (w % 4096) x h ∙ (omega arith)

-- and its slots are below 4,096
pub unpack-slots : (w : ℕ) (x : Step) → unpack w ≡ some x → SlotsBelow 4096 x
unpack-slots w x h = slots-of (w / 16777216) (w / 4096 % 4096) (w % 4096) x (omega arith) (omega arith) h
