-- One column of the scan: it is skipped if no free mask sees it, else a mask is tied to it.
use mathlib.Core.Path.{◌≡◌, refl, sym, ap, ap₂, ◌∙◌, subst}
use mathlib.Core.Bool.{Bool, true, false}
use mathlib.Core.List.{List, [], ◌∷◌, ◌++◌, map, append_assoc}
use Prim.Native.Nat.{ℕ, zero, suc, ◌+◌, ◌-◌, ◌^◌, ◌<◌, ◌≤◌}
use native.Mathlib.Numerals.{add-one}
use native.Mathlib.Omega.{arith}
use borrow.Author.Tests.{ltb-true, ltb-false}
use lib.Dec.{eqb, ltb}
use lib.ListN.{length, get_or, set, take, drop, length-set}
use lib.Seq.{slice, slice_empty, slice-cons, get_or-set_same, get_or-set_other, take-set-lt, drop-set-lt}
use Rattle.gf2.specs.Gf2.{xor_group, is_zero, choose, is_sum}
use Rattle.lists.specs.Lists.{bxor, below, rev, All, All.nil, All.cons}
use Rattle.lists.specs.Tests.{eqb-true, eqb-false, eqb_comm, eqb-lt, eqb-gt, by_bool}
use Rattle.masks.specs.Dot.{dot}
use Rattle.masks.specs.Scan.{mended, Tied, Scan}
use Rattle.masks.specs.DotLaws.{dot-hom, dot-mend}
use Rattle.masks.proofs.Dual.{Dual, cols, Duals, Duals.done, Duals.also, clear, clear-keeps, clear-clears, clear-low, sum-all, sum-not}

-- ---- the tied masks as a list
module _ (f : ℕ → ℕ) (M F : List ℕ) where
  abbrev dual_at : ℕ → Dual
  dual_at j = record { test = dot (get_or M j 0); col = f (get_or F j 0) }

  -- k of them, from i on
  abbrev duals : ℕ → ℕ → List Dual
  duals i zero = []
  duals i (suc k) = dual_at i ∷ duals (suc i) k

  cols-is : (i k e : ℕ) → i + k ≡ e → e ≤ length F → cols (duals i k) ≡ map f (slice i e F)
  cols-is i zero e h l = let q : i ≡ e = omega arith in sym (ap (map f) (ap (λ (x : ℕ). slice x e F) q ∙ slice_empty e F))
  cols-is i (suc k) e h l = ap (λ r. f (get_or F i 0) ∷ r) (cols-is (suc i) k e (omega arith) l) ∙ sym (ap (map f) (slice-cons i e F 0 (omega arith) l))

  all-duals : {P : Dual → Type 0} (i k : ℕ) → ((j : ℕ) → i ≤ j → j < i + k → P (dual_at j)) → All P (duals i k)
  all-duals i zero h = nil
  all-duals i (suc k) h = cons (h i (omega arith) (omega arith)) (all-duals (suc i) k (λ j a b. h j (omega arith) (omega arith)))

  at-duals : {P : Dual → Type 0} (i k : ℕ) → All P (duals i k) → (j : ℕ) → i ≤ j → j < i + k → P (dual_at j)
  at-duals i zero a j l h = absurd (omega arith)
  at-duals {P} i (suc k) (cons p a) j l h = by_bool (eqb j i)
      (λ e. subst (λ (x : ℕ). P (dual_at x)) (sym (eqb-true j i e)) p)
      (λ e. let ne = eqb-false j i e in at-duals (suc i) k a j (omega arith) (omega arith))

tied-duals : {f : ℕ → ℕ} {W : List ℕ} {g p free : ℕ} {M F : List ℕ} → Scan f W g p free M F → (i k : ℕ) → free ≤ i → i + k ≤ g → Duals (duals f M F i k)
tied-duals s i zero h l = done
tied-duals {f} {M = M} {F = F} s i (suc k) h l = also (dot-hom (get_or M i 0)) (s.own i h (omega arith))
    (all-duals f M F (suc i) k (λ j a b. s.other i j (omega arith) (omega arith) (omega arith) (eqb-lt i j (omega arith))))
    (all-duals f M F (suc i) k (λ j a b. s.other j i (omega arith) h (omega arith) (eqb-gt j i (omega arith))))
    (tied-duals s (suc i) k (omega arith) (omega arith))

-- ---- skipped
blind-sum : {f : ℕ → ℕ} {W : List ℕ} {g p free : ℕ} {M F : List ℕ} → Scan f W g p free M F → (x : ℕ) → x < 2 ^ g → ((i : ℕ) → i < free → dot (get_or M i 0) x ≡ false)
    → is_sum xor_group is_zero (map f (slice free g F)) x ≡ true
blind-sum {f} {g = g} {free = free} {M = M} {F = F} s x lx h =
    let m = s.most in
    let r = s.room.1 in
    let D = duals f M F free (g - free) in
    let z : clear D x ≡ 0 = s.tell (clear D x) (clear-low g (all-duals f M F free (g - free) (λ j a b. s.low (get_or F j 0))) x lx) (λ i l. by_bool (ltb i free)
    (λ e. let q = ltb-true i free e in
    clear-keeps (dot-hom (get_or M i 0)) (all-duals f M F free (g - free) (λ j a b. s.other i j l a (omega arith) (eqb-lt i j (omega arith)))) x ∙ h i q)
    (λ e. let q = ltb-false i free e in
    at-duals f M F {P = λ d. d.test (clear D x) ≡ false} free (g - free) (clear-clears (tied-duals s free (g - free) (omega arith) (omega arith)) x) i q (omega arith))) in
    ap (λ (K : List ℕ). is_sum xor_group is_zero K x) (sym (cols-is f M F free (g - free) g (omega arith) r)) ∙ sum-all D x z

pub skipped : {f : ℕ → ℕ} {W : List ℕ} {g p free : ℕ} {M F : List ℕ} → Scan f W g (suc p) free M F → ((i : ℕ) → i < free → dot (get_or M i 0) (f p) ≡ false) → Scan f W g p free M F
skipped {f} {p = p} s h = record {
  most = s.most;
  room = s.room;
  low = s.low;
  own = s.own;
  other = s.other;
  tell = s.tell;
  rest = let e = blind-sum s (f p) (s.low p) h in rw (e, choose) at s.rest;
}

-- ---- taken
mended-off : (v x m y : ℕ) → dot v y ≡ false → dot (mended v x m) y ≡ dot m y
mended-off v x m y z = by_bool (dot m x) (λ k. rw k (dot-mend m v y ∙ ap (bxor (dot m y)) z ∙ none (dot m y))) (λ k. rw k)
  where
    none : (b : Bool) → bxor b false ≡ b
    none true = refl
    none false = refl

mended-on : (v x m : ℕ) → dot v x ≡ true → dot (mended v x m) x ≡ false
mended-on v x m o = by_bool (dot m x) (λ k. rw k (dot-mend m v x ∙ ap₂ bxor k o)) (λ k. rw k k)

-- where a mask comes from
record Source (g i k x : ℕ) (M N : List ℕ) (j : ℕ) : Type 0 where
  old : ℕ
  inside : old < g
  is : get_or N j 0 ≡ mended (get_or M i 0) x (get_or M old 0)
  apart : (l : ℕ) → k < l → eqb j l ≡ false → eqb old l ≡ false

source : {g i k x : ℕ} {M N : List ℕ} → Tied g i k x M N → i ≤ k → k < g → (j : ℕ) → j < g → eqb j k ≡ false → Source g i k x M N j
source {g} {i} {k} {x} {M} {N} t a b j l e = by_bool (eqb j i)
    (λ q. let z = eqb-true j i q in record {
      old = k;
      inside = b;
      is = ap (λ (y : ℕ). get_or N y 0) z ∙ t.there (ap (λ (y : ℕ). eqb y k) (sym z) ∙ e);
      apart = λ y h r. eqb-lt k y h;
    })
    (λ q. record { old = j; inside = l; is = t.others j l q e; apart = λ y h r. r })

slice_set : (k g p : ℕ) (F : List ℕ) → k < g → g ≤ length F → slice k g (set F k p) ≡ p ∷ slice (suc k) g F
slice_set k g p F h l =
    slice-cons k g (set F k p) 0 h (simp length-set l)
    ∙ ap₂ (λ (x : ℕ) (r : List ℕ). x ∷ r) (get_or-set_same F k p 0 (omega arith))
    (ap (drop (suc k)) (take-set-lt g F k p h) ∙ drop-set-lt (suc k) (take g F) k p (omega arith))

module _ {f : ℕ → ℕ} {W : List ℕ} {g p k i : ℕ} {M N F : List ℕ} (s : Scan f W g (suc p) (suc k) M F) (il : i ≤ k) (o : dot (get_or M i 0) (f p) ≡ true) (t : Tied g i k (f p) M N) where
  -- the mask is zero on the columns taken before
  zero-on : (j : ℕ) → k < j → j < g → dot (get_or M i 0) (f (get_or F j 0)) ≡ false
  zero-on j a b = let m = s.most in s.other i j (omega arith) (omega arith) b (eqb-lt i j (omega arith))

  place_here : get_or (set F k p) k 0 ≡ p
  place_here = let m = s.most in let r = s.room.1 in get_or-set_same F k p 0 (omega arith)

  place_other : (j : ℕ) → k < j → get_or (set F k p) j 0 ≡ get_or F j 0
  place_other j a = get_or-set_other F k j p 0 (λ z. let y : j ≡ k = z in omega arith)

  not-sum : is_sum xor_group is_zero (map f (slice (suc k) g F)) (f p) ≡ false
  not-sum = let m = s.most in let r = s.room.1 in
      ap (λ (K : List ℕ). is_sum xor_group is_zero K (f p)) (sym (cols-is f M F (suc k) (g - suc k) g (omega arith) r))
      ∙ sum-not (dot-hom (get_or M i 0)) (all-duals f M F (suc k) (g - suc k) (λ j a b. zero-on j a (omega arith))) (f p) o

  own' : (j : ℕ) → k ≤ j → j < g → dot (get_or N j 0) (f (get_or (set F k p) j 0)) ≡ true
  own' j a b = by_bool (eqb j k)
      (λ e. let z = eqb-true j k e in ap₂ (λ (u v : ℕ). dot u (f v)) (ap (λ (y : ℕ). get_or N y 0) z ∙ t.here) (ap (λ (y : ℕ). get_or (set F k p) y 0) z ∙ place_here) ∙ o)
      (λ e. let ne = eqb-false j k e in
      ap₂ (λ (u v : ℕ). dot u (f v)) (t.others j b (eqb-gt j i (omega arith)) e) (place_other j (omega arith))
      ∙ mended-off (get_or M i 0) (f p) (get_or M j 0) (f (get_or F j 0)) (zero-on j (omega arith) b) ∙ s.own j (omega arith) b)

  other' : (a j : ℕ) → a < g → k ≤ j → j < g → eqb a j ≡ false → dot (get_or N a 0) (f (get_or (set F k p) j 0)) ≡ false
  other' a j la lj lg e = let m = s.most in by_bool (eqb j k)
      (λ q. let z = eqb-true j k q in let w = source t il (omega arith) a la (ap (eqb a) (sym z) ∙ e) in
      ap₂ (λ (u v : ℕ). dot u (f v)) w.is (ap (λ (y : ℕ). get_or (set F k p) y 0) z ∙ place_here) ∙ mended-on (get_or M i 0) (f p) (get_or M w.old 0) o)
      (λ q. let ne = eqb-false j k q in let up : k < j = omega arith in ap (λ (v : ℕ). dot (get_or N a 0) (f v)) (place_other j up) ∙ by_bool (eqb a k)
      (λ r. ap (λ (u : ℕ). dot u (f (get_or F j 0))) (ap (λ (y : ℕ). get_or N y 0) (eqb-true a k r) ∙ t.here) ∙ zero-on j up lg)
      (λ r. let w = source t il (omega arith) a la r in
      ap (λ (u : ℕ). dot u (f (get_or F j 0))) w.is ∙ mended-off (get_or M i 0) (f p) (get_or M w.old 0) (f (get_or F j 0)) (zero-on j up lg)
      ∙ s.other w.old j w.inside up lg (w.apart j up e)))

  tell' : (y : ℕ) → y < 2 ^ g → ((a : ℕ) → a < g → dot (get_or N a 0) y ≡ false) → y ≡ 0
  tell' y l h = let m = s.most in
      let v : dot (get_or M i 0) y ≡ false = ap (λ (u : ℕ). dot u y) (sym t.here) ∙ h k (omega arith) in
      let back : (a b : ℕ) → b < g → get_or N b 0 ≡ mended (get_or M i 0) (f p) (get_or M a 0) → dot (get_or M a 0) y ≡ false =
      λ a b q e. sym (mended-off (get_or M i 0) (f p) (get_or M a 0) y v) ∙ ap (λ (u : ℕ). dot u y) (sym e) ∙ h b q in
      s.tell y l (λ a la. by_bool (eqb a i)
      (λ e. ap (λ (x : ℕ). dot (get_or M x 0) y) (eqb-true a i e) ∙ v)
      (λ e. by_bool (eqb a k)
      (λ q. let z = eqb-true a k q in back a i (omega arith) (t.there (eqb_comm i k ∙ ap (λ (x : ℕ). eqb x i) (sym z) ∙ e) ∙ ap (λ (x : ℕ). mended (get_or M i 0) (f p) (get_or M x 0)) (sym z)))
      (λ q. back a a la (t.others a la e q))))

  rest' : W ≡ rev (slice k g (set F k p)) ++ choose xor_group is_zero f (map f (slice k g (set F k p))) (below p)
  rest' = let m = s.most in
      let a : W ≡ rev (slice (suc k) g F) ++ (p ∷ choose xor_group is_zero f (f p ∷ map f (slice (suc k) g F)) (below p)) = rw (not-sum, choose) at s.rest in
      rw (slice_set k g p F (omega arith) s.room.1, append_assoc) a

  pub taken : Scan f W g p k N (set F k p)
  taken = let m = s.most in record {
    most = omega arith;
    room = (rw t.len s.room.0, simp length-set s.room.1);
    low = s.low;
    own = own';
    other = other';
    tell = tell';
    rest = rest';
  }

-- ---- as the code has it
pub one-skipped : {f : ℕ → ℕ} {W : List ℕ} {g p free c : ℕ} {M F : List ℕ} → f p ≡ c → Scan f W g (p + 1) free M F → ((i : ℕ) → i < free → dot (get_or M i 0) c ≡ false) → Scan f W g p free M F
one-skipped {f} {W} {g} {p} {free} {c} {M} {F} e s h = skipped (subst (λ (x : ℕ). Scan f W g x free M F) (add-one p) s) (λ i l. ap (dot (get_or M i 0)) e ∙ h i l)

pub one-taken : {f : ℕ → ℕ} {W : List ℕ} {g p free c : ℕ} (i : ℕ) {M N F : List ℕ} → f p ≡ c → Scan f W g (p + 1) free M F → i < free → dot (get_or M i 0) c ≡ true → Tied g i (free - 1) c M N
    → Scan f W g p (free - 1) N (set F (free - 1) p)
one-taken {f} {W} {g} {p} {free} {c} i {M} {N} {F} e s h o t =
    let k = free - 1 in
    let q : free ≡ suc k = omega arith in
    taken (subst (λ (x : ℕ). Scan f W g (suc p) x M F) q (subst (λ (x : ℕ). Scan f W g x free M F) (add-one p) s)) (omega arith) (ap (dot (get_or M i 0)) e ∙ o)
    (subst (λ (x : ℕ). Tied g i k x M N) (sym e) t)
