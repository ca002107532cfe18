-- The loops over a set of bits: a row met, the bits solved, the places written.
use mathlib.Core.Path.{◌≡◌, refl, sym, ap, ap₂, ◌∙◌, fun_ext}
use mathlib.Core.Bool.{Bool, true, false, not, cond}
use mathlib.Core.List.{List, [], ◌∷◌, ◌++◌, append-nil}
use Prim.Native.Nat.{ℕ, zero, suc, ◌+◌, ◌-◌, ◌<◌, ◌≤◌}
use native.Mathlib.Omega.{arith}
use lib.Dec.{eqb}
use lib.ListN.{length, get_or, set, replicate, length-replicate}
use lib.Seq.{get_or-set_same, get_or-set_other}
use Rattle.bits.specs.Front.{Front, front-none, front-more, front-is}
use Rattle.bits.specs.Row.{row}
use Rattle.gf2.specs.EchelonLaws.{bit-nonzero}
use Rattle.gf2.specs.Gf2.{bool_group, Bits, bit, is_zero}
use Rattle.gf2.specs.RowValue.{val-ext}
use Rattle.gf2.specs.Separate.{meets}
use Rattle.gf2.specs.Solving.{solve}
use Rattle.lists.specs.ListLaws.{filter-append}
use Rattle.lists.specs.Lists.{bxor, filter, from}
use Rattle.lists.specs.Numbers.{from-snoc}
use Rattle.lists.specs.Tests.{by_bool, eqb-true, eqb-false, eqb-self}
use Rattle.reasons.specs.LeastBits.{even_bits}
use Rattle.reasons.specs.Noting.{places_of}
use Rattle.reasons.specs.Mirror.{mirror}
use Rattle.rows.specs.Leads.{leads}
use Rattle.rows.specs.LeadsLaws.{leads-none, leads-at}
use Rattle.least.specs.Solved.{in_set, Solved}

-- ---- a row met
module _ (S : ℕ → Bool) (q r : ℕ) where
  meets-more : meets S (q + 1) r ≡ bxor (cond (bit q r) (S q) false) (meets S q r)
  meets-more = let e : q + 1 ≡ suc q = omega arith in ap (λ k. meets S k r) e

  flip-not : (b : Bool) → bxor true b ≡ not b
  flip-not true = refl
  flip-not false = refl

  -- in the set and in the row
  pub met : {odd : Bool} → S q ≡ true → bit q r ≡ true → odd ≡ meets S q r → not odd ≡ meets S (q + 1) r
  met {odd} s b e = ap not e ∙ sym (meets-more ∙ ap₂ (λ u v. bxor (cond u v false) (meets S q r)) b s ∙ flip-not (meets S q r))

  -- not in the row
  pub not-in-row : {odd : Bool} → bit q r ≡ false → odd ≡ meets S q r → odd ≡ meets S (q + 1) r
  not-in-row b e = e ∙ sym (meets-more ∙ ap (λ u. bxor (cond u (S q) false) (meets S q r)) b)

  -- not in the set
  pub not-in-set : {odd : Bool} → S q ≡ false → odd ≡ meets S q r → odd ≡ meets S (q + 1) r
  not-in-set s e = e ∙ sym (meets-more ∙ ap (λ v. bxor (cond (bit q r) v false) (meets S q r)) s ∙ none (bit q r))
    where
      none : (u : Bool) → bxor (cond u false false) (meets S q r) ≡ meets S q r
      none true = refl
      none false = refl

-- ---- the bits solved
module _ (f : ℕ → ℕ) (S₀ : ℕ → Bool) where
  -- the bits below q are solved
  abbrev pub up_to : ℕ → ℕ → Bool
  up_to q = solve bool_group f (λ p. false) S₀ q

  pub solved-none : (j : ℕ) → up_to 0 j ≡ S₀ j
  unfolding solve
  solved-none j = refl

  -- those from q on are as they were
  above : (q j : ℕ) → q ≤ j → up_to q j ≡ S₀ j
  unfolding solve
  above zero j h = refl
  above (suc q) j h = by_bool (eqb j q) (λ e. let i = eqb-true j q e in absurd (omega arith)) (λ e. rw e (above q j (omega arith)))

  module _ (q : ℕ) where
    next-other : (j : ℕ) → eqb j q ≡ false → up_to (q + 1) j ≡ up_to q j
    unfolding solve
    next-other j e = let i : q + 1 ≡ suc q = omega arith in ap (λ k. up_to k j) i ∙ rw e

    -- a bit that leads no row stays
    pub next-free : is_zero (f q) ≡ true → (j : ℕ) → up_to (q + 1) j ≡ up_to q j
    unfolding solve
    next-free z j = by_bool (eqb j q)
        (λ e. let i : q + 1 ≡ suc q = omega arith in ap (λ k. up_to k j) i ∙ rw (e, z) (sym (above q j (let k = eqb-true j q e in omega arith) ∙ ap S₀ (eqb-true j q e))))
        (λ e. next-other j e)

    -- one that leads a row is as the row meets the bits below
    next-lead : is_zero (f q) ≡ false → up_to (q + 1) q ≡ meets (up_to q) q (f q)
    unfolding solve
    next-lead z = let i : q + 1 ≡ suc q = omega arith in ap (λ k. up_to k q) i ∙ rw (eqb-self q, z)

    -- the set with the bit written
    pub written-lead : (l : List Bool) (v : Bool) → q < length l → is_zero (f q) ≡ false → ((j : ℕ) → in_set l j ≡ up_to q j) → v ≡ meets (in_set l) q (f q) → (j : ℕ) → in_set (set l q v) j ≡ up_to (q + 1) j
    written-lead l v h z s e j = by_bool (eqb j q)
        (λ k. let i = eqb-true j q k in ap (in_set (set l q v)) i ∙ get_or-set_same l q v false h ∙ e ∙ val-ext bool_group (in_set l) (up_to q) q (f q) (λ p g. s p) ∙ sym (next-lead z) ∙ ap (up_to (q + 1)) (sym i))
        (λ k. get_or-set_other l q j v false (eqb-false j q k) ∙ s j ∙ sym (next-other j k))

-- the leads of an owner list
module _ (w owner : List ℕ) (lead : (p : ℕ) → 0 < get_or owner p 0 → Bits (row w (get_or owner p 0 - 1)) (p + 1)) (q o : ℕ) (e : o ≡ get_or owner q 0) where
  pub free-zero : o ≡ 0 → is_zero (leads w owner q) ≡ true
  free-zero h = ap is_zero (leads-none w owner q (sym e ∙ h))

  pub lead-row : (o ≡ 0 → ⊥) → leads w owner q ≡ row w (o - 1)
  lead-row h = leads-at w owner q (positive h) ∙ ap (λ x. row w (x - 1)) (sym e)
    where
      positive : (o ≡ 0 → ⊥) → 0 < get_or owner q 0
      positive h = let k : 0 < o = omega (arith, h) in omega arith

  pub lead-nonzero : (o ≡ 0 → ⊥) → is_zero (leads w owner q) ≡ false
  lead-nonzero h = let k : 0 < o = omega (arith, h) in let g : 0 < get_or owner q 0 = omega arith in let i : q + 1 - 1 ≡ q = omega arith in
      bit-nonzero q (leads w owner q) (ap (bit q) (leads-at w owner q g) ∙ (rw i at ((lead q g).last (omega arith))))

-- ---- the places written
module _ (n : ℕ) (S : ℕ → Bool) where
  -- those below p
  abbrev pub places_below : ℕ → List ℕ
  places_below p = filter (λ q. S (mirror n q)) (from 0 p)

  places-more : (p : ℕ) → places_below (p + 1) ≡ places_below p ++ cond (S (mirror n p)) (p ∷ []) []
  places-more p = let e : p + 1 ≡ suc p = omega arith in let z : 0 + p ≡ p = omega arith in
      ap places_below e ∙ ap (filter (λ q. S (mirror n q))) (from-snoc 0 p ∙ ap (λ q. from 0 p ++ (q ∷ [])) z) ∙ filter-append (λ q. S (mirror n q)) (from 0 p) (p ∷ [])

  pub places-start : {old : List ℕ} → Front (places_below 0) old old 0
  unfolding from
  places-start {old} = front-none old

  pub places-hit : (p : ℕ) {c : ℕ} {old e : List ℕ} → S (mirror n p) ≡ true → c < length old → Front (places_below p) old e c → Front (places_below (p + 1)) old (set e c p) (c + 1)
  places-hit p b room f = front-is (front-more p f room) (sym (places-more p ∙ ap (λ v. places_below p ++ cond v (p ∷ []) []) b))

  pub places-miss : (p : ℕ) {c : ℕ} {old e : List ℕ} → S (mirror n p) ≡ false → Front (places_below p) old e c → Front (places_below (p + 1)) old e c
  places-miss p b f = front-is f (sym (places-more p ∙ ap (λ v. places_below p ++ cond v (p ∷ []) []) b ∙ append-nil (places_below p)))

-- ---- the set with one bit
one_bit : (k f : ℕ) → f < k → (q : ℕ) → in_set (set (replicate k false) f true) q ≡ eqb q f
one_bit k f h q = by_bool (eqb q f)
    (λ e. ap (in_set (set (replicate k false) f true)) (eqb-true q f e) ∙ get_or-set_same (replicate k false) f true false (omega (arith, length-replicate {A = Bool} k false)) ∙ sym e)
    (λ e. get_or-set_other (replicate k false) f q true false (eqb-false q f e) ∙ get_or-constant k q ∙ sym e)
  where
    get_or-constant : (k q : ℕ) → get_or (replicate k false) q false ≡ false
    get_or-constant zero q = refl
    get_or-constant (suc k) zero = refl
    get_or-constant (suc k) (suc q) = get_or-constant k q

pub solved-list : (F : ℕ → ℕ) (n f : ℕ) (l : List Bool) → f < 1024 → Solved F n (set (replicate 1024 false) f true) l → places_of n (in_set l) ≡ places_of n (even_bits n F f)
solved-list F n f l h s = ap (places_of n) (fun_ext s-bits ∙ ap (λ S. solve bool_group F (λ p. false) S n) (fun_ext (one_bit 1024 f h)))
  where
    s-bits : (q : ℕ) → in_set l q ≡ solve bool_group F (λ p. false) (in_set (set (replicate 1024 false) f true)) n q
    s-bits q = s.bits q
