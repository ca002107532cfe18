-- What a plan's numbers are decoded to, and the sources of a run: the steps that they belong to.
use Rattle.std.specs.Prelude.{◌≡◌, refl, cond, List, [], ◌∷◌, ℕ, zero, suc, ◌+◌, ◌-◌, ◌<◌, ◌≤◌, eqb, length, get_or, take, drop}
use Rattle.std.proofs.Common.{sym, ap, ap₂, ◌∙◌, arith, eqb-true, eq-eqb, drop-cons}
use Rattle.std.proofs.Math.Option.{Option, none, some}
use Rattle.lists.specs.Tests.{by_bool}
use Rattle.lists.specs.Buffers.{part_length, get_d_part}
use Rattle.plan.specs.declared.Step.{Step}
use Rattle.plan.specs.declared.Step.TheVariants.{Clear, Add}
use Rattle.plan.specs.Layout.{step_count, steps_at, steps_of}
use Rattle.plan.specs.LayoutLaws.{Formed, step-at}
use Rattle.plan.specs.Step.{unpack}
use Rattle.slots.specs.Runs.{step_in, source_before, sources_in, sources_of}

-- the number of a well-formed plan's i-th step is decoded to it
pub step-there : (w : List ℕ) → Formed w → (at : ℕ) → at ≡ steps_at w → (d : Step) (i : ℕ) → i < step_count w → step_in (unpack (get_or w (at + i) 0)) ≡ get_or (steps_of w) i d
step-there w f at e d i h = rw (e, step-at w f d i h)

-- ---- sources
-- no more than numbers
before-few : (x : Step) (to : ℕ) (fs : List ℕ) → length (source_before x to fs) ≤ suc (length fs)
before-few (Clear t) to fs = omega arith
before-few (Add t from) to fs = by_bool (eqb t to) (λ e. rw e (omega arith)) (λ e. rw e (omega arith))

sources-few : (to : ℕ) (ws : List ℕ) → length (sources_in to ws) ≤ length ws
sources-few to [] = omega arith
sources-few to (w ∷ ws) = let h = sources-few to ws in let g = before-few (step_in (unpack w)) to (sources_in to ws) in omega arith

-- the i-th number is the add step from the i-th source
before-first : (o : Option Step) (to : ℕ) (fs : List ℕ) → 0 < length (source_before (step_in o) to fs) → o ≡ some (Add to (get_or (source_before (step_in o) to fs) 0 0))
before-first none to fs h = absurd (omega arith)
before-first (some (Clear t)) to fs h = absurd (omega arith)
before-first (some (Add t from)) to fs h = by_bool (eqb t to)
    (λ e. rw e (ap (λ (k : ℕ). some (Add k from)) (eqb-true t to e)))
    (λ e. absurd (let z : 0 < length (cond (eqb t to) (from ∷ fs) []) = h in let y : length (cond (eqb t to) (from ∷ fs) []) ≡ 0 = rw e in omega arith))

before-rest : (x : Step) (to i : ℕ) (fs : List ℕ) → suc i < length (source_before x to fs)
    → (i < length fs) × (get_or (source_before x to fs) (suc i) 0 ≡ get_or fs i 0)
before-rest (Clear t) to i fs h = absurd (omega arith)
before-rest (Add t from) to i fs h = by_bool (eqb t to)
    (λ e. let z : suc i < length (from ∷ fs) = rw e at h in (omega arith, rw e))
    (λ e. absurd (let y : length (cond (eqb t to) (from ∷ fs) []) ≡ 0 = rw e in omega arith))

steps-in : (to : ℕ) (ws : List ℕ) (i : ℕ) → i < length (sources_in to ws) → unpack (get_or ws i 0) ≡ some (Add to (get_or (sources_in to ws) i 0))
steps-in to [] i h = absurd (omega arith)
steps-in to (w ∷ ws) zero h = before-first (unpack w) to (sources_in to ws) h
steps-in to (w ∷ ws) (suc i) h =
    let r = before-rest (step_in (unpack w)) to i (sources_in to ws) h in
    steps-in to ws i r.0 ∙ ap (λ (f : ℕ). some (Add to f)) (sym r.1)

module _ (w : List ℕ) (first end to : ℕ) (order : first ≤ end) (inside : end ≤ length w) where
  pub sources-within : first + length (sources_of w first end to) ≤ end
  sources-within = omega (arith, sources-few to (take (end - first) (drop first w)), part_length w first (end - first) (omega arith))

  pub sources-are : (i : ℕ) → i < length (sources_of w first end to) → unpack (get_or w (first + i) 0) ≡ some (Add to (get_or (sources_of w first end to) i 0))
  sources-are i h = ap unpack (sym (get_d_part w first (end - first) i (omega (arith, sources-within)))) ∙ steps-in to (take (end - first) (drop first w)) i h

-- ---- number by number
numbers-cons : (w : List ℕ) (p end : ℕ) → p < end → end ≤ length w → take (end - p) (drop p w) ≡ get_or w p 0 ∷ take (end - (p + 1)) (drop (p + 1) w)
numbers-cons w p end h inside =
    let e : end - p ≡ suc (end - (p + 1)) = omega arith in
    let d : suc p ≡ p + 1 = omega arith in
    ap₂ take e (drop-cons w p 0 (omega arith)) ∙ ap (λ (k : ℕ). get_or w p 0 ∷ take (end - (p + 1)) (drop k w)) d

-- the number at p decides
pub sources_next : (w : List ℕ) (p end to : ℕ) → p < end → end ≤ length w
    → sources_of w p end to ≡ source_before (step_in (unpack (get_or w p 0))) to (sources_of w (p + 1) end to)
sources_next w p end to h inside = ap (sources_in to) (numbers-cons w p end h inside)

-- none is left
pub sources-past : (w : List ℕ) (p end to : ℕ) → end ≤ p → sources_of w p end to ≡ []
sources-past w p end to h = ap (λ (k : ℕ). sources_in to (take k (drop p w))) {x = end - p} {y = 0} (omega arith)

-- an add step into slot to is one of them
pub sources-some : (w : List ℕ) (p end to from : ℕ) → p < end → end ≤ length w → unpack (get_or w p 0) ≡ some (Add to from) → 1 ≤ length (sources_of w p end to)
sources-some w p end to from h inside e =
    let rest = sources_of w (p + 1) end to in
    let z : sources_of w p end to ≡ from ∷ rest =
    sources_next w p end to h inside ∙ ap (λ o. source_before (step_in o) to rest) e ∙ ap (λ b. cond b (from ∷ rest) []) (eq-eqb to to refl) in
    omega (arith, ap length z)
