-- The steps of a plan, and a run among them.
use mathlib.Core.Path.{◌≡◌, refl, sym, ap, ◌∙◌, subst}
use mathlib.Core.Bool.{Bool, true, false, cond}
use mathlib.Core.List.{List, [], ◌∷◌, ◌++◌, append_assoc}
use mathlib.Core.Option.{some}
use Prim.Native.Nat.{ℕ, suc, ◌+◌, ◌*◌, ◌<◌, ◌≤◌}
use native.Mathlib.Omega.{arith}
use lib.ListN.{length, get_or, take, drop, length-set, length-take, length-drop, length-map, get_or-map}
use lib.Seq.{take-suc, take-add, ext_get_or, get_or-take, get_or-drop, length-take-le}
use mir.Val.{bool_byte}
use Rattle.plan.specs.declared.Step.{Step}
use Rattle.plan.specs.declared.Step.TheVariants.{Clear, Add}
use Rattle.plan.specs.Layout.{plan_places, plan_gap, info_in, slots, step_count, steps_at, steps_of}
use Rattle.plan.specs.LayoutLaws.{Formed, Sound, steps-length, step-at, step-sound}
use Rattle.plan.specs.Step.{unpack, SlotsBelow, add_steps}
use Rattle.plan.specs.Steps.{carry_out, carry_out_all}
use Rattle.slots.specs.Runs.{step_in, is_clear, target_of, adding, run_steps, sources_of, RunAt}
use Rattle.slots.specs.RunLaws.{step-there, sources-within, sources-are, sources-some}
use Rattle.slots.specs.Slots.{RunAmong, Gathers}
use Rattle.running.specs.Running.{Ran}
use Rattle.runs.specs.GatherLaws.{gathers-all, run-gives}
use Rattle.slots.specs.SlotLaws.{slot-in, holds_as}

-- ---- counts
adds-append : (xs ys : List Step) → add_steps (xs ++ ys) ≡ add_steps xs + add_steps ys
adds-append [] ys = omega arith
adds-append (Clear to ∷ xs) ys = adds-append xs ys
adds-append (Add to from ∷ xs) ys = let h = adds-append xs ys in omega arith

adding-adds : (to : ℕ) (fs : List ℕ) → add_steps (adding to fs) ≡ length fs
adding-adds to [] = refl
adding-adds to (f ∷ fs) = ap suc (adding-adds to fs)

run-adds : (fresh : Bool) (to : ℕ) (fs : List ℕ) → add_steps (run_steps fresh to fs) ≡ length fs
run-adds true to fs = adding-adds to fs
run-adds false to fs = adding-adds to fs

-- no more add steps than steps
adds-few : (xs : List Step) → add_steps xs ≤ length xs
adds-few [] = omega arith
adds-few (Clear to ∷ xs) = let h = adds-few xs in omega arith
adds-few (Add to from ∷ xs) = let h = adds-few xs in omega arith

pub adds-within : (k : ℕ) (xs : List Step) → add_steps (take k xs) ≤ k
adds-within k xs = let h = adds-few (take k xs) in let e = length-take k xs in omega arith

-- ---- slots
step-length : (s : ℕ) (st : List (List ℕ)) (x : Step) → length (carry_out s st x) ≡ length st
step-length s st (Clear to) = length-set st to _
step-length s st (Add to from) = length-set st to _

steps-keep : (s : ℕ) (st : List (List ℕ)) (xs : List Step) → length (carry_out_all s st xs) ≡ length st
steps-keep s st [] = refl
steps-keep s st (x ∷ xs) = steps-keep s (carry_out s st x) xs ∙ step-length s st x

steps-append : (s : ℕ) (st : List (List ℕ)) (xs ys : List Step) → carry_out_all s st (xs ++ ys) ≡ carry_out_all s (carry_out_all s st xs) ys
steps-append s st [] ys = refl
steps-append s st (x ∷ xs) ys = steps-append s (carry_out s st x) xs ys

-- ---- a plan's steps
pub ran-none : (w : List ℕ) (s : ℕ) (b c : List ℕ) → Ran w s 0 0 b c b c
ran-none w s b c = record { count = refl; slots = λ st h l. h }

-- a run as the code finds it: the step x at i clears slot to or adds into it; d steps after it are left out of its add steps
pub record Found (w : List ℕ) (at i : ℕ) (x : Step) (to : ℕ) (fresh : Bool) (d : ℕ) : Type 0 where
  pub step : x ≡ step_in (unpack (get_or w (at + i) 0))
  pub target : to ≡ target_of x
  pub clear : fresh ≡ is_clear x
  pub skip : d ≡ cond fresh 1 0

pub found : (w : List ℕ) (at i : ℕ) {x : Step} {to : ℕ} {fresh : Bool} {d : ℕ} → x ≡ step_in (unpack (get_or w (at + i) 0)) → to ≡ target_of x → fresh ≡ is_clear x
    → d ≡ cond fresh 1 0 → Found w at i x to fresh d
found w at i a b c e = record { step = a; target = b; clear = c; skip = e }

-- a bool as a number
pub bool-number : (b : Bool) → bool_byte b ≡ cond b 1 0
bool-number true = refl
bool-number false = refl

pub skip-most : (fresh : Bool) → cond fresh 1 0 ≤ 1
skip-most true = omega arith
skip-most false = omega arith

module _ (w : List ℕ) (f : Formed w) (at : ℕ) (e : at ≡ steps_at w) (i last : ℕ) (more : i < last) (all : last ≤ step_count w)
    {x : Step} {to : ℕ} {fresh : Bool} {d : ℕ} (r : Found w at i x to fresh d) where
  abbrev l : List Step
  l = steps_of w

  abbrev fs : List ℕ
  fs = sources_of w (at + (i + d)) (at + last) to

  order : at + (i + d) ≤ at + last
  order = omega (arith, r.skip, skip-most fresh)

  inside : at + last ≤ length w
  inside = let k = f.counts in omega arith

  fs-within : i + d + length fs ≤ last
  fs-within = omega (arith, sources-within w (at + (i + d)) (at + last) to order inside)

  -- the k-th of the add steps
  adds-at : (y : Step) (k : ℕ) → k < length fs → get_or l (i + d + k) y ≡ Add to (get_or fs k 0)
  adds-at y k g =
      let j : at + (i + d + k) ≡ at + (i + d) + k = omega arith in
      sym (step-there w f at e y (i + d + k) (omega (arith, fs-within))) ∙ ap (λ (m : ℕ). step_in (unpack (get_or w m 0))) j
      ∙ ap step_in (sources-are w (at + (i + d)) (at + last) to order inside k g)

  adds-there : take (length fs) (drop (i + d) l) ≡ adding to fs
  adds-there =
      let b : length (take (length fs) (drop (i + d) l)) ≡ length fs =
      length-take-le (length fs) (drop (i + d) l) (let z = length-drop (i + d) l in omega (arith, steps-length w f, fs-within)) in
      ext_get_or (Add to 0) _ _ (b ∙ sym (length-map fs (Add to))) (λ k g.
      let m : k < length fs = omega (arith, b) in
      get_or-take (length fs) (drop (i + d) l) k (Add to 0) m ∙ get_or-drop (i + d) l k (Add to 0) ∙ adds-at (Add to 0) k m ∙ sym (get_or-map (Add to) fs k 0))

  sound-at : (k : ℕ) → k < length fs → Sound (slots w) (info_in w) (Add to (get_or fs k 0))
  sound-at k g = subst (λ y. Sound (slots w) (info_in w) y) (adds-at (Clear 0) k g) (step-sound w f (Clear 0) (i + d + k) (omega (arith, fs-within)))

  x-there : x ≡ get_or l i (Clear 0)
  x-there = r.step ∙ step-there w f at e (Clear 0) i (omega arith)

  target_below : (y : Step) → SlotsBelow (slots w) y → target_of y < slots w
  target_below (Clear t) b = b
  target_below (Add t from) b = b.0

  -- its slots are there
  run-among : RunAmong (slots w) to fs
  run-among = record {
    target = rw r.target (target_below x (rw x-there (step-sound w f (Clear 0) i (omega arith)).below));
    sources = record { each = λ k g. (sound-at k g).below.1 };
    apart = λ k g z. (sound-at k g).apart (sym z);
  }

  pub run_at : (s b c : ℕ) → b ≡ plan_places w * s → c ≡ plan_gap w * s → RunAt w (at + (i + d)) (at + last) to (plan_places w) s b c
  run_at s b c lb lc = record {
    order = order;
    inside = inside;
    slots = record {
      target = slot-in (plan_places w) (plan_gap w) s b c to lb lc run-among.target;
      sources = record { each = λ k g. slot-in (plan_places w) (plan_gap w) s b c (get_or fs k 0) lb lc (run-among.sources.each k g) };
    };
  }

  by_kind : {P : Type 0} → (x ≡ Clear to → fresh ≡ true → P) → ((from : ℕ) → x ≡ Add to from → fresh ≡ false → P) → P
  by_kind {P} clear adds = go x refl
    where
      go : (y : Step) → x ≡ y → P
      go (Clear t) z = clear (z ∙ ap Clear (sym (r.target ∙ ap target_of z))) (r.clear ∙ ap is_clear z)
      go (Add t from) z = adds from (z ∙ ap (λ (k : ℕ). Add k from) (sym (r.target ∙ ap target_of z))) (r.clear ∙ ap is_clear z)

  module _ (count : ℕ) (counted : count ≡ length fs) where
    pub run-within : i + d + count ≤ last
    run-within = omega (arith, fs-within)

    -- at least one step
    pub run-goes : i < i + d + count
    run-goes = by_kind
        (λ z y. let b : d ≡ 1 = r.skip ∙ rw y in omega arith)
        (λ from z y.
        let b : d ≡ 0 = r.skip ∙ rw y in
        let j : steps_at w + i ≡ at + (i + d) = omega arith in
        let there : unpack (get_or w (at + (i + d)) 0) ≡ some (Add to from) = rw j at (step-at w f (Clear 0) i (omega arith) ∙ ap some (sym x-there ∙ z)) in
        omega (arith, sources-some w (at + (i + d)) (at + last) to from (omega arith) inside there))

    -- the steps with it
    run-there : take (i + d + count) l ≡ take i l ++ run_steps fresh to fs
    run-there = ap (λ (k : ℕ). take (i + d + k) l) counted ∙ take-add (i + d) (length fs) l ∙ ap (λ v. take (i + d) l ++ v) adds-there ∙ by_kind
        (λ z y.
        let b : i + d ≡ suc i = (let a : d ≡ 1 = r.skip ∙ rw y in omega arith) in
        let there : take (i + d) l ≡ take i l ++ (Clear to ∷ []) =
        ap (λ (k : ℕ). take k l) b ∙ take-suc l i (Clear 0) (let a = steps-length w f in omega arith) ∙ ap (λ v. take i l ++ (v ∷ [])) (sym x-there ∙ z) in
        ap (λ v. v ++ adding to fs) there ∙ append_assoc (take i l) (Clear to ∷ []) (adding to fs) ∙ ap (λ t. take i l ++ run_steps t to fs) (sym y))
        (λ from z y.
        let b : i + d ≡ i = (let a : d ≡ 0 = r.skip ∙ rw y in omega arith) in
        ap (λ (k : ℕ). take k l ++ adding to fs) b ∙ ap (λ t. take i l ++ run_steps t to fs) (sym y))

    -- what they give
    pub ran-run : {s a : ℕ} {b c b' c' b'' c'' : List ℕ} → Ran w s i a b c b' c' → Gathers (plan_places w) s fresh to fs 0 s b' c' b'' c''
        → Ran w s (i + d + count) (a + count) b c b'' c''
    ran-run {s} {a} {b} {c} {b'} {c'} {b''} {c''} p g = record {
      count = let z = run-adds fresh to fs in let y = p.count in let m = adds-append (take i l) (run_steps fresh to fs) in
          (omega arith) ∙ sym m ∙ ap add_steps (sym run-there);
      slots = λ st o k.
          let before = carry_out_all s st (take i l) in
          let long : slots w ≡ length before = sym (steps-keep s st (take i l) ∙ k) in
          let there : RunAmong (length before) to fs = rw (← long) run-among in
          let hold = p.slots st o k in
          holds_as (sym (ap (carry_out_all s st) run-there ∙ steps-append s st (take i l) (run_steps fresh to fs) ∙ run-gives fresh s before to fs hold.sized there))
          (gathers-all g before there hold);
    }
