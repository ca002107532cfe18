-- Steps decoded: what decoding tells, and the sources passed and left.
use mathlib.Core.Path.{◌≡◌, refl, sym, ap, ◌∙◌}
use mathlib.Core.Bool.{cond}
use mathlib.Core.List.{List, [], ◌∷◌, ◌++◌}
use mathlib.Core.Option.{Option, none, some}
use Prim.Native.Nat.{ℕ, suc, ◌+◌, ◌<◌, ◌≤◌}
use native.Mathlib.Numerals.{add-one}
use native.Mathlib.Omega.{arith}
use lib.Dec.{eqb}
use lib.ListN.{length, get_or, take, drop, length-drop}
use lib.Seq.{take-suc, drop-cons}
use Rattle.lists.specs.Tests.{by_bool}
use Rattle.std.specs.declared.option.Option.TheVariants.{Some, None}
use Rattle.plan.specs.declared.Step.{Step}
use Rattle.plan.specs.declared.Step.TheVariants.{Clear, Add}
use Rattle.plan.specs.Step.{unpack, decoded_of}
use Rattle.plan.specs.StepLaws.{unpack-slots}
use Rattle.slots.specs.RunLaws.{sources_next, sources-past}
use Rattle.slots.specs.Runs.{no_slot, step_in, source_into, source_before, sources_of}

-- ---- what decoding tells
pub decoded-valid : (o : Option Step) (x : Step) → decoded_of o ≡ Some x → x ≡ step_in o
decoded-valid none x h = absurd (let z : ◌≡◌ {A = ℕ} 0 1 = cc in omega arith)
decoded-valid (some y) x h = cc

pub decoded-invalid : (o : Option Step) → decoded_of o ≡ None → Clear 0 ≡ step_in o
decoded-invalid none h = refl
decoded-invalid (some y) h = absurd (let z : ◌≡◌ {A = ℕ} 0 1 = cc in omega arith)

-- ---- the source of a number
source-some : (x : Step) (to : ℕ) (fs : List ℕ) → source_into x to < no_slot → source_before x to fs ≡ source_into x to ∷ fs
source-some (Clear t) to fs h = absurd (omega arith)
source-some (Add t from) to fs h = by_bool (eqb t to)
    (λ e. rw e)
    (λ e. absurd (let z : cond (eqb t to) from no_slot ≡ no_slot = rw e in omega arith))

source-none : (w to : ℕ) (fs : List ℕ) → no_slot ≤ source_into (step_in (unpack w)) to → source_before (step_in (unpack w)) to fs ≡ []
source-none w to fs h = go (unpack w) refl h
  where
    go : (o : Option Step) → unpack w ≡ o → no_slot ≤ source_into (step_in o) to → source_before (step_in o) to fs ≡ []
    go none e l = refl
    go (some (Clear t)) e l = refl
    go (some (Add t from)) e l = by_bool (eqb t to)
        (λ z. absurd (let y : cond (eqb t to) from no_slot ≡ from = rw z in omega (arith, (unpack-slots w (Add t from) e).1)))
        (λ z. rw z)

-- ---- the sources of a run, of which m are passed
pub record Passed (w : List ℕ) (first end to m : ℕ) : Type 0 where
  pub few : m ≤ length (sources_of w first end to)
  pub left : drop m (sources_of w first end to) ≡ sources_of w (first + m) end to

-- v is the next
pub record Next (w : List ℕ) (first end to m v : ℕ) : Type 0 where
  pub inside : m < length (sources_of w first end to)
  pub is : get_or (sources_of w first end to) m 0 ≡ v
  pub taken : take m (sources_of w first end to) ++ (v ∷ []) ≡ take (m + 1) (sources_of w first end to)
  pub passed : Passed w first end to (m + 1)

pub passed_none : (w : List ℕ) (first end to : ℕ) → Passed w first end to 0
passed_none w first end to = record { few = omega arith; left = ap (λ (p : ℕ). sources_of w p end to) {x = first} {y = first + 0} (omega arith) }

-- the last
no_more : (fs : List ℕ) (m : ℕ) → m ≤ length fs → drop m fs ≡ [] → m ≡ length fs
no_more fs m h e = let z = length-drop m fs in let y : length (drop m fs) ≡ 0 = ap length e in omega arith

module _ (w : List ℕ) (first end to m : ℕ) (inside : end ≤ length w) (p : Passed w first end to m) where
  pub passed-end : end ≤ first + m → m ≡ length (sources_of w first end to)
  passed-end h = no_more (sources_of w first end to) m p.few (p.left ∙ sources-past w (first + m) end to h)

  module _ (more : first + m < end) (v : ℕ) (is-v : v ≡ source_into (step_in (unpack (get_or w (first + m) 0))) to) where
    pub passed-stop : no_slot ≤ v → m ≡ length (sources_of w first end to)
    passed-stop h = no_more (sources_of w first end to) m p.few
        (p.left ∙ sources_next w (first + m) end to more inside ∙ source-none (get_or w (first + m) 0) to (sources_of w (first + m + 1) end to) (rw is-v at h))

    pub passed-next : v < no_slot → Next w first end to m v
    passed-next h =
        let fs = sources_of w first end to in
        let rest = sources_of w (first + m + 1) end to in
        let e : drop m fs ≡ v ∷ rest =
        p.left ∙ sources_next w (first + m) end to more inside ∙ source-some (step_in (unpack (get_or w (first + m) 0))) to rest (rw is-v at h) ∙ ap (λ (x : ℕ). x ∷ rest) (sym is-v) in
        let l : m < length fs = (let z = length-drop m fs in let y : length (drop m fs) ≡ suc (length rest) = ap length e in omega arith) in
        let d : drop m fs ≡ get_or fs m 0 ∷ drop (suc m) fs = drop-cons fs m 0 l in
        let i : get_or fs m 0 ≡ v = cc in
        let r : drop (suc m) fs ≡ rest = cc in
        record {
          inside = l;
          is = i;
          taken = sym (ap (λ (k : ℕ). take k fs) (add-one m) ∙ take-suc fs m 0 l ∙ ap (λ (x : ℕ). take m fs ++ (x ∷ [])) i);
          passed = record {
            few = omega arith;
            left = ap (λ (k : ℕ). drop k fs) (add-one m) ∙ r ∙ ap (λ (k : ℕ). sources_of w k end to) {x = first + m + 1} {y = first + (m + 1)} (omega arith);
          };
        }
