-- Laws of the look at a table: each loop goes on with the rest, and the rest decides.
use mathlib.Core.Path.{◌≡◌, sym, ap, ap₂, ◌∙◌}
use mathlib.Core.Bool.{Bool, true, false, cond, not, ◌||◌, ◌&&◌}
use mathlib.Core.List.{List, [], ◌∷◌}
use Prim.Native.Nat.{ℕ, suc, ◌+◌, ◌-◌, ◌<◌, ◌≤◌}
use native.Mathlib.Numerals.{add-one}
use native.Mathlib.Omega.{arith}
use borrow.Author.Tests.{lt-ltb, le-ltb, le-leb, lt-leb, eq-eqb, ne_eqb, eqb-true, ltb-false, not-false, ltb-true}
use lib.Dec.{eqb, ltb, leb}
use lib.ListN.{length, get_or, take, drop}
use lib.Seq.{drop-cons, drop-drop}
use Rattle.lists.specs.Lists.{all_pass, any_of}
use Rattle.lists.specs.Tests.{or-false-l, or-false-r, by_bool, or_l, or_r}
use Rattle.table.specs.LookOver.{weighed}
use Rattle.table.specs.Table.{places, size, number, weights, ones_count, total, cut_up, rising, outside, too_short, beyond_limits, bad_lengths, bad_places, refusal, beyond}

-- ---- the words of t from i up to e
abbrev pub part : List ℕ → ℕ → ℕ → List ℕ
part t i e = take (e - i) (drop i t)

pub part-all : (t : List ℕ) (at c i : ℕ) → i ≡ at → part t i (at + c) ≡ take c (drop at t)
part-all t at c i h = ap₂ (λ k d. take k (drop d t)) {x = at + c - i} {y = c} (omega arith) h

pub part_none : (t : List ℕ) (i e : ℕ) → e ≤ i → part t i e ≡ []
part_none t i e h = ap (λ k. take k (drop i t)) {x = e - i} {y = 0} (omega arith)

pub part-cons : (t : List ℕ) (i e k : ℕ) → k ≡ i + 1 → i < e → e ≤ length t → part t i e ≡ get_or t i 0 ∷ part t k e
part-cons t i e k h l r =
    let a : e - i ≡ suc (e - k) = omega arith in
    let b : suc i ≡ k = omega arith in
    ap₂ take a (drop-cons t i 0 (omega arith) ∙ ap (λ d. get_or t i 0 ∷ drop d t) b)

-- ---- one check's places
-- the least that the next place may be, and the places left
abbrev pub rest : ℕ → ℕ → List ℕ → Bool
rest n b l = leb b n && rising n b l

pub rest-low : (n b x p : ℕ) (l c : List ℕ) → x ≡ p → l ≡ p ∷ c → x < b → false ≡ rest n b l
rest-low n b x p l c e h k = rw (h, lt-leb b p (rw e at k)) (by_bool (leb b n) (λ a. rw a) (λ a. rw a))

pub rest-on : (n b x p : ℕ) (l c : List ℕ) → x ≡ p → l ≡ p ∷ c → b ≤ x → rest n b l ≡ rest n (x + 1) c
rest-on n b x p l c e h i = by_bool (ltb p n)
    (λ a. let k = ltb-true p n a in rw (h, le-leb b p (rw e at i), a, e, le-leb b n (omega arith), le-leb (p + 1) n (omega arith), add-one p))
    (λ a. let k = ltb-false p n a in rw (h, le-leb b p (rw e at i), a, e, lt-leb (p + 1) n (omega arith)) (by_bool (leb b n) (λ a. rw a) (λ a. rw a)))

pub rest-none : (n b : ℕ) → leb b n ≡ rest n b []
rest-none n b = by_bool (leb b n) (λ a. rw a) (λ a. rw a)

-- ---- one number
pub out-zero : (most x : ℕ) → x ≡ 0 → true ≡ outside most x
out-zero most x h = rw h

pub out-over : (most x : ℕ) → (x ≡ 0 → ⊥) → ltb most x ≡ outside most x
out-over most x h = rw (ne_eqb x 0 h)

-- ---- cause 2
pub limit-first : (t : List ℕ) → (get_or t 0 0 ≡ 2 → ⊥) → true ≡ beyond_limits t
limit-first t h = rw (ne_eqb (get_or t 0 0) 2 h)

pub limit-rest : (t : List ℕ) (n s m : ℕ) (r : Bool) → get_or t 0 0 ≡ 2 → n ≡ places t → s ≡ size t → m ≡ number t → r ≡ beyond n s m → r ≡ beyond_limits t
limit-rest t n s m r h a b c e = rw (e, a, b, c, eq-eqb (get_or t 0 0) 2 h)

module _ (n s m : ℕ) where
  pub beyond-places : {r : Bool} → r ≡ outside 1024 n → r ≡ true → true ≡ beyond n s m
  beyond-places e k = sym (or_l (outside 1024 n) _ (sym e ∙ k))

  pub beyond-bytes : {r : Bool} → r ≡ outside 1024 s → r ≡ true → true ≡ beyond n s m
  beyond-bytes e k = sym (or_r (outside 1024 n) _ (or_l (outside 1024 s) _ (sym e ∙ k)))

  pub beyond-checks : {q r : Bool} → q ≡ outside 1024 n → q ≡ false → r ≡ outside 1024 s → r ≡ false → ltb 512 m ≡ beyond n s m
  beyond-checks a b c d = rest (outside 1024 n) (outside 1024 s) (sym a ∙ b) (sym c ∙ d)
    where
      rest : (x y : Bool) → x ≡ false → y ≡ false → ltb 512 m ≡ (x || (y || ltb 512 m))
      rest x y e f = rw (e, f)

-- ---- the checks, by their weights
abbrev pub passes : ℕ → List ℕ → List ℕ → Bool
passes n ws ps = all_pass (rising n 0) (cut_up ws ps)

pub pass-not : (n x w : ℕ) (l ws ps : List ℕ) (r : Bool) → x ≡ w → l ≡ w ∷ ws → r ≡ rising n 0 (take x ps) → r ≡ false → false ≡ passes n l ps
pass-not n x w l ws ps r i h e k = let q : rising n 0 (take w ps) ≡ false = ap (λ y. rising n 0 (take y ps)) (sym i) ∙ sym e ∙ k in rw (h, q)

pub pass_on : (t : List ℕ) (n at x w : ℕ) (l ws : List ℕ) (r : Bool) → x ≡ w → l ≡ w ∷ ws → r ≡ rising n 0 (take x (drop at t)) → r ≡ true → passes n l (drop at t) ≡ passes n ws (drop (at + x) t)
pass_on t n at x w l ws r i h e k =
    let q : rising n 0 (take w (drop at t)) ≡ true = ap (λ y. rising n 0 (take y (drop at t))) (sym i) ∙ sym e ∙ k in
    rw (h, q, i) (ap (passes n ws) (drop-drop w at t))

pub pass-end : (n : ℕ) (l ps : List ℕ) → l ≡ [] → true ≡ passes n l ps
pass-end n l ps h = rw h

-- ---- cause 3
module _ (t : List ℕ) (m : ℕ) (m-is : m ≡ number t) where
  pub length-short : length t < 5 + m → true ≡ bad_lengths t
  length-short h = sym (or_l (ltb (length t) (5 + number t)) _ (lt-ltb _ _ (rw m-is at h)))

  module _ (ones : ℕ) (ones_is : ones ≡ get_or t (4 + m) 0) where
    ones-said : ones ≡ ones_count t
    ones-said = ones_is ∙ ap (λ k. get_or t (4 + k) 0) m-is

    pub length-ones : 6144 < ones → true ≡ bad_lengths t
    length-ones h = sym (or_r (ltb (length t) (5 + number t)) _ (or_r (any_of (ltb 64) (weights t)) _ (or_l (ltb 6144 (ones_count t)) _ (lt-ltb _ _ (rw ones-said at h)))))

    module _ (sum : ℕ) (sum_is_lem : sum ≡ weighed (take m (drop 4 t))) where
      sum_said : sum ≡ weighed (weights t)
      sum_said = sum_is_lem ∙ ap (λ k. weighed (take k (drop 4 t))) m-is

      pub length-sum : (ones ≡ sum → ⊥) → true ≡ bad_lengths t
      length-sum h = by_bool (any_of (ltb 64) (weights t))
          (λ e. sym (or_r (ltb (length t) (5 + number t)) _ (or_l (any_of (ltb 64) (weights t)) _ e)))
          (λ e. let s : weighed (weights t) ≡ total (weights t) = rw e in
          let n : eqb (ones_count t) (total (weights t)) ≡ false = ne_eqb _ _ (λ k. h (ones-said ∙ k ∙ sym s ∙ sym sum_said)) in
          sym (or_r (ltb (length t) (5 + number t)) _ (or_r (any_of (ltb 64) (weights t)) _ (or_r (ltb 6144 (ones_count t)) _ (or_l (not (eqb (ones_count t) (total (weights t)))) _ (ap not n))))))

      pub length-exact : 5 + m ≤ length t → ones ≤ 6144 → ones ≡ sum → not (eqb (length t) (5 + m + ones)) ≡ bad_lengths t
      length-exact a b k =
          let s : ones_count t ≡ weighed (weights t) = sym ones-said ∙ k ∙ sum_said in
          let l : ones_count t ≤ 6144 = rw ones-said at b in
          let e = light (weights t) (ones_count t) s l in
          let q : 5 + number t + ones_count t ≡ 5 + m + ones = ap₂ (λ x y. 5 + x + y) (sym m-is) (sym ones-said) in
          ap (λ x. not (eqb (length t) x)) (sym q) ∙ sym (none_before (ltb (length t) (5 + number t)) (any_of (ltb 64) (weights t)) (ltb 6144 (ones_count t)) (not (eqb (ones_count t) (total (weights t)))) _
          (le-ltb _ _ (rw m-is at a)) e.0 (le-ltb _ _ l) (ap not (eq-eqb _ _ e.1)))
        where
          none_before : (a b c d e : Bool) → a ≡ false → b ≡ false → c ≡ false → d ≡ false → (a || (b || (c || (d || e)))) ≡ e
          none_before a b c d e f g h i = rw (f, g, h, i)

          light : (ws : List ℕ) (x : ℕ) → x ≡ weighed ws → x ≤ 6144 → (any_of (ltb 64) ws ≡ false) × (x ≡ total ws)
          light ws x h b = by_bool (any_of (ltb 64) ws) (λ e. let z : x ≡ 65536 = h ∙ rw e in absurd (omega arith)) (λ e. (e, h ∙ rw e))

-- a table with its lengths has room for its places
pub places-room : (t : List ℕ) → bad_lengths t ≡ false → 5 + number t + total (weights t) ≤ length t
places-room t h =
    let c1 = or-false-r (ltb (length t) (5 + number t)) _ h in
    let c2 = or-false-r (any_of (ltb 64) (weights t)) _ c1 in
    let c3 = or-false-r (ltb 6144 (ones_count t)) _ c2 in
    let a : ones_count t ≡ total (weights t) = eqb-true _ _ (not-false _ (or-false-l (not (eqb (ones_count t) (total (weights t)))) _ c3)) in
    let b : length t ≡ 5 + number t + ones_count t = eqb-true _ _ (not-false _ (or-false-r (not (eqb (ones_count t) (total (weights t)))) _ c3)) in
    omega arith

-- ---- cause 4
pub places-bad : (t : List ℕ) (m n : ℕ) (r : Bool) → m ≡ number t → n ≡ places t → r ≡ passes n (take m (drop 4 t)) (drop (5 + m) t) → not r ≡ bad_places t
places-bad t m n r h k e = ap not (e ∙ ap₂ (λ x y. passes y (take x (drop 4 t)) (drop (5 + x) t)) h k)

-- m is known once the limits are
pub few-checks : (t : List ℕ) → beyond_limits t ≡ false → number t ≤ 512
few-checks t h = ltb-false 512 (number t) (or-false-r (outside 1024 (size t)) _ (or-false-r (outside 1024 (places t)) _ (or-false-r (not (eqb (get_or t 0 0) 2)) _ h)))

-- ---- the first cause that holds
module _ (t : List ℕ) where
  pub cause-1 : length t < 5 → ◌≡◌ {A = ℕ} 1 (refusal t)
  cause-1 h = rw (lt-ltb (length t) 5 h)

  pub cause-2 : 5 ≤ length t → beyond_limits t ≡ true → ◌≡◌ {A = ℕ} 2 (refusal t)
  cause-2 a b = first-2 (too_short t) (beyond_limits t) _ (le-ltb (length t) 5 a) b
    where
      first-2 : (a b : Bool) (r : ℕ) → a ≡ false → b ≡ true → ◌≡◌ {A = ℕ} 2 (cond a 1 (cond b 2 r))
      first-2 a b r e f = rw (e, f)

  pub cause-3 : 5 ≤ length t → beyond_limits t ≡ false → bad_lengths t ≡ true → ◌≡◌ {A = ℕ} 3 (refusal t)
  cause-3 a b c = first-3 (too_short t) (beyond_limits t) (bad_lengths t) _ (le-ltb (length t) 5 a) b c
    where
      first-3 : (a b c : Bool) (r : ℕ) → a ≡ false → b ≡ false → c ≡ true → ◌≡◌ {A = ℕ} 3 (cond a 1 (cond b 2 (cond c 3 r)))
      first-3 a b c r e f g = rw (e, f, g)

  last : (a b c d : Bool) → a ≡ false → b ≡ false → c ≡ false → ◌≡◌ {A = ℕ} (cond a 1 (cond b 2 (cond c 3 (cond d 4 0)))) (cond d 4 0)
  last a b c d e f g = rw (e, f, g)

  pub cause-4 : 5 ≤ length t → beyond_limits t ≡ false → bad_lengths t ≡ false → bad_places t ≡ true → ◌≡◌ {A = ℕ} 4 (refusal t)
  cause-4 a b c d = let e : ◌≡◌ {A = ℕ} (cond (bad_places t) 4 0) 4 = rw d in sym (last (too_short t) (beyond_limits t) (bad_lengths t) (bad_places t) (le-ltb (length t) 5 a) b c ∙ e)

  pub no-cause : 5 ≤ length t → beyond_limits t ≡ false → bad_lengths t ≡ false → bad_places t ≡ false → ◌≡◌ {A = ℕ} 0 (refusal t)
  no-cause a b c d = let e : ◌≡◌ {A = ℕ} (cond (bad_places t) 4 0) 0 = rw d in sym (last (too_short t) (beyond_limits t) (bad_lengths t) (bad_places t) (le-ltb (length t) 5 a) b c ∙ e)
