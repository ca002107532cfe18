-- What an accepted table gives.
use Rattle.std.specs.Prelude.{◌≡◌, refl, Bool, true, false, cond, not, ◌||◌, ◌&&◌, List, [], ◌∷◌, ℕ, suc, ◌+◌, ◌<◌, ◌≤◌, eqb, ltb, leb, length, get_or, take, drop}
use Rattle.std.proofs.Common.{ap, ◌∙◌, true≢false, arith, ltb-true, ltb-false, le-ltb, leb-true, ne_eqb, length-take, length-drop, length-take-le}
use Rattle.std.proofs.lemmas.Bool.{not-false}
use Rattle.lists.specs.Tests.{eqb-true, eqb-false, eqb-lt, or-false-l, or-false-r, or-neither, and_l, and_r}
use Rattle.lists.specs.Lists.{Distinct, Distinct.dnil, Distinct.dnew, has, any_of, All, All.nil, All.cons}
use Rattle.table.specs.Table.{ones, places, size, number, weights, ones_count, total, cut_up, checks, rising, outside, too_short, beyond_limits, bad_lengths, bad_places, refusal}
use Rattle.lists.specs.ListLaws.{all_map, pass_all}

-- ---- a number within its limits, both ways
pub within : (most x : ℕ) → 1 ≤ x → x ≤ most → outside most x ≡ false
within most x h k = or-neither (eqb x 0) (ltb most x) (ne_eqb x 0 (λ e. omega arith)) (le-ltb most x k)

pub inside-low : (most x : ℕ) → outside most x ≡ false → 1 ≤ x
inside-low most x h = let n = eqb-false x 0 (or-false-l (eqb x 0) (ltb most x) h) in omega arith

pub inside-high : (most x : ℕ) → outside most x ≡ false → x ≤ most
inside-high most x h = ltb-false most x (or-false-r (eqb x 0) (ltb most x) h)

-- ---- an accepted table
pub record Good (t : List ℕ) : Type 0 where
  pub some-places : 1 ≤ places t
  pub few-places : places t ≤ 1024
  pub some_bytes : 1 ≤ size t
  pub few_bytes : size t ≤ 1024
  pub few-checks : length (checks t) ≤ 512
  pub all_ones : ones (checks t) ≡ ones_count t
  pub few_ones : ones (checks t) ≤ 6144
  pub light : All (λ c. length c ≤ 64) (checks t)
  pub distinct : All Distinct (checks t)
  pub low : All (λ c. All (λ p. p < places t) c) (checks t)

-- as many checks as weights
cut-length : (ws ps : List ℕ) → length (cut_up ws ps) ≡ length ws
cut-length [] ps = refl
cut-length (w ∷ ws) ps = ap suc (cut-length ws (drop w ps))

-- as many ones as the weights say
cut_ones : (ws ps : List ℕ) → total ws ≤ length ps → ones (cut_up ws ps) ≡ total ws
cut_ones [] ps h = refl
cut_ones (w ∷ ws) ps h = let a = length-take-le w ps (omega arith) in let b = length-drop w ps in let c = cut_ones ws (drop w ps) (omega arith) in omega arith

-- no check is heavier than its weight
cut-light : (ws ps : List ℕ) → any_of (ltb 64) ws ≡ false → All (λ c. length c ≤ 64) (cut_up ws ps)
cut-light [] ps h = nil
cut-light (w ∷ ws) ps h = cons {x = take w ps} (let a = length-take w ps in let b = ltb-false 64 w (or-false-l (ltb 64 w) (any_of (ltb 64) ws) h) in omega arith)
    (cut-light ws (drop w ps) (or-false-r (ltb 64 w) (any_of (ltb 64) ws) h))

-- places between the bounds
rising-all : (n b : ℕ) (c : List ℕ) → rising n b c ≡ true → All (λ p. (b ≤ p) × (p < n)) c
rising-all n b [] h = nil
rising-all n b (p ∷ c) h =
    let k = and_l (leb b p && ltb p n) (rising n (suc p) c) h in
    let l : b ≤ p = leb-true b p (and_l (leb b p) (ltb p n) k) in
    cons (l, ltb-true p n (and_r (leb b p) (ltb p n) k)) (all_map (λ q r. (let s = r.0 in omega arith, r.1)) (rising-all n (suc p) c (and_r (leb b p && ltb p n) (rising n (suc p) c) h)))

-- a lower place is no member
has_above : (p : ℕ) {c : List ℕ} → All (λ q. p < q) c → has p c ≡ false
has_above p nil = refl
has_above p (cons {x = q} h a) = rw (eqb-lt p q h) (has_above p a)

-- ascending, so without repeats
rising-distinct : (n b : ℕ) (c : List ℕ) → rising n b c ≡ true → Distinct c
rising-distinct n b [] h = dnil
rising-distinct n b (p ∷ c) h = let k = and_r (leb b p && ltb p n) (rising n (suc p) c) h in
    dnew (has_above p (all_map (λ q r. r.0) (rising-all n (suc p) c k))) (rising-distinct n (suc p) c k)

-- no cause, no refusal
no-cause : (a b c d : Bool) → ◌≡◌ {A = ℕ} (cond a 1 (cond b 2 (cond c 3 (cond d 4 0)))) 0 → (a ≡ false) × ((b ≡ false) × ((c ≡ false) × (d ≡ false)))
no-cause true b c d h = absurd (omega arith)
no-cause false true c d h = absurd (omega arith)
no-cause false false true d h = absurd (omega arith)
no-cause false false false true h = absurd (omega arith)
no-cause false false false false h = (refl, (refl, (refl, refl)))

-- none of six tests
no_six : (a b c d e f : Bool) → (a || ((b || c) || ((d || e) || f))) ≡ false → (b ≡ false) × ((c ≡ false) × ((d ≡ false) × ((e ≡ false) × (f ≡ false))))
no_six true b c d e f h = absurd (true≢false h)
no_six false true c d e f h = absurd (true≢false h)
no_six false false true d e f h = absurd (true≢false h)
no_six false false false true e f h = absurd (true≢false h)
no_six false false false false true f h = absurd (true≢false h)
no_six false false false false false f h = (refl, (refl, (refl, (refl, h))))

-- none of five tests
no-five : (a b c d e : Bool) → (a || (b || (c || (d || e)))) ≡ false → (b ≡ false) × ((c ≡ false) × ((d ≡ false) × (e ≡ false)))
no-five true b c d e h = absurd (true≢false h)
no-five false true c d e h = absurd (true≢false h)
no-five false false true d e h = absurd (true≢false h)
no-five false false false true e h = absurd (true≢false h)
no-five false false false false e h = (refl, (refl, (refl, h)))

-- a table that is not refused is good
pub accepted : (t : List ℕ) → refusal t ≡ 0 → Good t
accepted t h =
    let r = no-cause (too_short t) (beyond_limits t) (bad_lengths t) (bad_places t) h in
    let b = no_six (not (eqb (get_or t 0 0) 2)) (eqb (places t) 0) (ltb 1024 (places t)) (eqb (size t) 0) (ltb 1024 (size t)) (ltb 512 (number t)) r.1.0 in
    let c = no-five (ltb (length t) (5 + number t)) (any_of (ltb 64) (weights t)) (ltb 6144 (ones_count t)) (not (eqb (ones_count t) (total (weights t)))) (not (eqb (length t) (5 + number t + ones_count t))) r.1.1.0 in
    let m : number t ≤ 512 = ltb-false 512 (number t) b.1.1.1.1 in
    let w : ones_count t ≤ 6144 = ltb-false 6144 (ones_count t) c.1.0 in
    let e : ones_count t ≡ total (weights t) = eqb-true (ones_count t) (total (weights t)) (not-false _ c.1.1.0) in
    let l : length t ≡ 5 + number t + ones_count t = eqb-true (length t) (5 + number t + ones_count t) (not-false _ c.1.1.1) in
    let rest : length (drop (5 + number t) t) ≡ ones_count t = length-drop (5 + number t) t ∙ (omega arith) in
    let all : ones (checks t) ≡ ones_count t = let a = cut_ones (weights t) (drop (5 + number t) t) (omega arith) in omega arith in
    let ups = pass_all (rising (places t) 0) (checks t) (not-false _ r.1.1.1) in
    let n0 = eqb-false (places t) 0 b.0 in
    let s0 = eqb-false (size t) 0 b.1.1.0 in
    record {
      some-places = omega arith;
      few-places = ltb-false 1024 (places t) b.1.0;
      some_bytes = omega arith;
      few_bytes = ltb-false 1024 (size t) b.1.1.1.0;
      few-checks = let a = cut-length (weights t) (drop (5 + number t) t) in let b = length-take (number t) (drop 4 t) in omega arith;
      all_ones = all;
      few_ones = omega arith;
      light = cut-light (weights t) _ c.0;
      distinct = all_map (λ c u. rising-distinct (places t) 0 c u) ups;
      low = all_map (λ c u. all_map (λ p q. q.1) (rising-all (places t) 0 c u)) ups;
    }

-- the table's refusals are 1 to 4
pub refusal-small : (t : List ℕ) → refusal t ≤ 4
refusal-small t = four (too_short t) (beyond_limits t) (bad_lengths t) (bad_places t)
  where
    four : (a b c d : Bool) → ◌≤◌ (cond a 1 (cond b 2 (cond c 3 (cond d 4 0)))) 4
    four true b c d = omega arith
    four false true c d = omega arith
    four false false true d = omega arith
    four false false false true = omega arith
    four false false false false = omega arith
