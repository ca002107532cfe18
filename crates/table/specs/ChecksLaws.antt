-- What an accepted table gives to code that reads its checks in place.
use Rattle.std.specs.Prelude.{◌≡◌, refl, Bool, true, false, cond, not, ◌&&◌, List, [], ◌∷◌, ◌++◌, map, ℕ, zero, suc, ◌+◌, ◌<◌, ◌≤◌, eqb, ltb, leb, length, take, drop}
use Rattle.std.proofs.Common.{sym, ap, ap₂, ◌∙◌, subst, true≢false, add-one, ltb-true, ltb-false, leb-true, leb-false, eqb-true, drop-cons, drop-drop, take-suc}
use native.Mathlib.Omega.{arith}
use Rattle.std.proofs.lemmas.Bool.{not-false}
use Rattle.std.proofs.Math.ListN.{get_or, length-drop}
use Rattle.std.proofs.lemmas.List.{length-map}
use Rattle.std.proofs.Math.Seq.{length-take-le, get_or-take, get_or-drop}
use Rattle.lists.specs.Lists.{all_pass, any_of, from}
use Rattle.lists.specs.Numbers.{from-length, map-from-at}
use Rattle.lists.specs.Tests.{or-false-l, or-false-r, by_bool, and_l, and_r}
use Rattle.table.specs.Checks.{offset, check, Places}
use Rattle.table.specs.Table.{places, size, number, weights, ones_count, total, cut_up, checks, rising, too_short, beyond_limits, bad_lengths, bad_places, refusal, outside}

-- ---- the limits and the length
pub record Limits (t : List ℕ) : Type 0 where
  pub some-places : 1 ≤ places t
  pub few-places : places t ≤ 1024
  pub some_bytes : 1 ≤ size t
  pub few_bytes : size t ≤ 1024
  pub few-checks : number t ≤ 512
  pub few_ones : ones_count t ≤ 6144
  pub ones-are : ones_count t ≡ total (weights t)
  pub long : length t ≡ 5 + number t + ones_count t
  pub light : any_of (ltb 64) (weights t) ≡ false
  pub rises : all_pass (rising (places t) 0) (checks t) ≡ true

-- a cause that does not hold, and the rest
passed : (b : Bool) (k x : ℕ) → ◌≡◌ {A = ℕ} (cond b (suc k) x) 0 → (b ≡ false) × (x ≡ 0)
passed true k x h = absurd (omega arith)
passed false k x h = (refl, h)

pub limits : (t : List ℕ) → refusal t ≡ 0 → Limits t
limits t h =
    let a = passed (too_short t) 0 _ h in
    let b = passed (beyond_limits t) 1 _ a.1 in
    let c = passed (bad_lengths t) 2 _ b.1 in
    let d = passed (bad_places t) 3 0 c.1 in
    let b1 = or-false-r (not (eqb (get_or t 0 0) 2)) _ b.0 in
    let b2 = or-false-r (outside 1024 (places t)) _ b1 in
    let n = or-false-l (outside 1024 (places t)) _ b1 in
    let s = or-false-l (outside 1024 (size t)) _ b2 in
    let c1 = or-false-r (ltb (length t) (5 + number t)) _ c.0 in
    let c2 = or-false-r (any_of (ltb 64) (weights t)) _ c1 in
    let c3 = or-false-r (ltb 6144 (ones_count t)) _ c2 in
    let n0 = ne0 (places t) (or-false-l (eqb (places t) 0) _ n) in
    let s0 = ne0 (size t) (or-false-l (eqb (size t) 0) _ s) in
    record {
      some-places = n0;
      few-places = ltb-false 1024 (places t) (or-false-r (eqb (places t) 0) _ n);
      some_bytes = s0;
      few_bytes = ltb-false 1024 (size t) (or-false-r (eqb (size t) 0) _ s);
      few-checks = ltb-false 512 (number t) (or-false-r (outside 1024 (size t)) _ b2);
      few_ones = ltb-false 6144 (ones_count t) (or-false-l (ltb 6144 (ones_count t)) _ c2);
      ones-are = eqb-true _ _ (not-false _ (or-false-l (not (eqb (ones_count t) (total (weights t)))) _ c3));
      long = eqb-true _ _ (not-false _ (or-false-r (not (eqb (ones_count t) (total (weights t)))) _ c3));
      light = or-false-l (any_of (ltb 64) (weights t)) _ c1;
      rises = not-false _ d.0;
    }
  where
    ne0 : (x : ℕ) → eqb x 0 ≡ false → 1 ≤ x
    ne0 zero e = absurd (true≢false e)
    ne0 (suc x) e = omega arith

-- the whole table
pub short : (t : List ℕ) → refusal t ≡ 0 → length t ≤ 6661
short t h = let l = limits t h in omega (arith, l.few-checks, l.few_ones, l.long)

-- ---- weights and offsets
total-append : (l : List ℕ) (w : ℕ) → total (l ++ (w ∷ [])) ≡ total l + w
total-append [] w = omega arith
total-append (x ∷ l) w = let e = total-append l w in omega arith

-- the ones before check j are the first j weights
pub offset-total : (t : List ℕ) (j : ℕ) → 4 + j ≤ length t → offset t j ≡ total (take j (drop 4 t))
unfolding offset
offset-total t zero h = refl
offset-total t (suc j) h =
    let e = offset-total t j (omega arith) in
    let g = get_or-drop 4 t j 0 in
    let i : j < length (drop 4 t) = simp length-drop (omega arith) in
    ap₂ ◌+◌ e (sym g) ∙ sym (total-append (take j (drop 4 t)) (get_or (drop 4 t) j 0)) ∙ ap total (sym (take-suc (drop 4 t) j 0 i))

-- where check 0 starts
pub offset-none : (t : List ℕ) (m : ℕ) → 5 + m ≡ 5 + m + offset t 0
unfolding offset
offset-none t m = omega arith

-- one check more, as code counts
pub offset-more : (t : List ℕ) (j : ℕ) → offset t (j + 1) ≡ offset t j + get_or t (4 + j) 0
unfolding offset
offset-more t j = ap (offset t) (add-one j)

-- they never fall
pub offset-grows : (t : List ℕ) (i j : ℕ) → i ≤ j → offset t i ≤ offset t j
unfolding offset
offset-grows t i zero h = let e : i ≡ 0 = omega arith in rw e (omega arith)
offset-grows t i (suc j) h = by_bool (leb i j)
    (λ e. let g = offset-grows t i j (leb-true i j e) in omega arith)
    (λ e. let k = leb-false i j e in let e : i ≡ suc j = omega arith in rw e (omega arith))

-- ---- the list of checks, check by check
-- the checks from check i on
cut-from : (t : List ℕ) (m i c : ℕ) → 4 + i + c ≤ length t → cut_up (take c (drop (4 + i) t)) (drop (5 + m + offset t i) t) ≡ map (check t m) (from i c)
unfolding offset check from
cut-from t m i zero h = refl
cut-from t m i (suc c) h =
    let w = get_or t (4 + i) 0 in
    let at = 5 + m + offset t i in
    let k : suc (4 + i) ≡ 4 + suc i = omega arith in
    let a : at + w ≡ 5 + m + offset t (suc i) = omega arith in
    let ps = drop at t in
    ap (λ l. cut_up (take (suc c) l) ps) (drop-cons t (4 + i) 0 (omega arith))
    ∙ ap (λ l. take w ps ∷ l) (ap₂ (λ x y. cut_up (take c (drop x t)) y) k (drop-drop w at t ∙ ap (λ x. drop x t) a) ∙ cut-from t m (suc i) c (omega arith))

-- a table that has its weights
pub checks-listed : (t : List ℕ) → 5 + number t ≤ length t → checks t ≡ map (check t (number t)) (from 0 (number t))
unfolding offset
checks-listed t h =
    ap (λ k. cut_up (weights t) (drop k t)) (offset-none t (number t)) ∙ cut-from t (number t) 0 (number t) (omega arith)

-- no weight over 64
light-at : (ws : List ℕ) (j : ℕ) → j < length ws → any_of (ltb 64) ws ≡ false → get_or ws j 0 ≤ 64
light-at [] j h a = absurd (omega arith)
light-at (w ∷ ws) zero h a = ltb-false 64 w (or-false-l (ltb 64 w) (any_of (ltb 64) ws) a)
light-at (w ∷ ws) (suc j) h a = light-at ws j (omega arith) (or-false-r (ltb 64 w) (any_of (ltb 64) ws) a)

-- what each check passes
pass-at : (f : List ℕ → Bool) (cs : List (List ℕ)) (j : ℕ) → j < length cs → all_pass f cs ≡ true → f (get_or cs j []) ≡ true
pass-at f [] j h a = absurd (omega arith)
pass-at f (c ∷ cs) zero h a = and_l (f c) (all_pass f cs) a
pass-at f (c ∷ cs) (suc j) h a = pass-at f cs j (omega arith) (and_r (f c) (all_pass f cs) a)

-- each place of a check lies between the bounds
pub rising-at : (n b : ℕ) (c : List ℕ) → rising n b c ≡ true → (i : ℕ) → i < length c → (b ≤ get_or c i 0) × (get_or c i 0 < n)
rising-at n b [] a i h = absurd (omega arith)
rising-at n b (p ∷ c) a zero h =
    let k = and_l (leb b p && ltb p n) (rising n (suc p) c) a in
    (leb-true b p (and_l (leb b p) (ltb p n) k), ltb-true p n (and_r (leb b p) (ltb p n) k))
rising-at n b (p ∷ c) a (suc i) h =
    let k = leb-true b p (and_l (leb b p) (ltb p n) (and_l (leb b p && ltb p n) (rising n (suc p) c) a)) in
    let r = rising-at n (suc p) c (and_r (leb b p && ltb p n) (rising n (suc p) c) a) i (omega arith) in
    (let l = r.0 in omega arith, r.1)

-- and above those before it
pub rising-up : (n b : ℕ) (c : List ℕ) → rising n b c ≡ true → (i k : ℕ) → i < k → k < length c → get_or c i 0 < get_or c k 0
rising-up n b [] a i k l h = absurd (omega arith)
rising-up n b (p ∷ c) a i zero l h = absurd (omega arith)
rising-up n b (p ∷ c) a zero (suc k) l h = (rising-at n (suc p) c (and_r (leb b p && ltb p n) (rising n (suc p) c) a) k (omega arith)).0
rising-up n b (p ∷ c) a (suc i) (suc k) l h = rising-up n (suc p) c (and_r (leb b p && ltb p n) (rising n (suc p) c) a) i k (omega arith) (omega arith)

-- ---- an accepted table
module _ (t : List ℕ) (ok : refusal t ≡ 0) where
  pub has-weights : 5 + number t ≤ length t
  has-weights = let l = (limits t ok).long in omega arith

  pub checks-are : checks t ≡ map (check t (number t)) (from 0 (number t))
  checks-are = checks-listed t has-weights

  pub checks-length : length (checks t) ≡ number t
  checks-length = ap length checks-are ∙ length-map (from 0 (number t)) (check t (number t)) ∙ from-length 0 (number t)

  pub checks-at : (j : ℕ) → j < number t → get_or (checks t) j [] ≡ check t (number t) j
  checks-at j h = ap (λ cs. get_or cs j []) checks-are ∙ map-from-at (check t (number t)) [] (number t) j h

  -- all ones
  pub offset-all : offset t (number t) ≡ ones_count t
  offset-all = let w = has-weights in offset-total t (number t) (omega arith) ∙ sym (limits t ok).ones-are

  -- check j lies inside the table
  pub check-room : (j : ℕ) → j < number t → 5 + number t + offset t j + get_or t (4 + j) 0 ≤ length t
  unfolding offset
  check-room j h =
      let g : offset t j + get_or t (4 + j) 0 ≤ offset t (number t) = offset-grows t (suc j) (number t) h in
      let l = (limits t ok).long in
      let a = offset-all in
      omega arith

  -- a start fits 16 bits
  pub start_small : (j : ℕ) → j ≤ number t → 5 + number t + offset t j ≤ 6661
  start_small j h =
      let g = offset-grows t j (number t) h in
      let l = limits t ok in
      let a = offset-all in
      omega (arith, l.few-checks, l.few_ones)

  -- it is as long as its weight
  pub check-length : (j : ℕ) → j < number t → length (check t (number t) j) ≡ get_or t (4 + j) 0
  unfolding check
  check-length j h = length-take-le (get_or t (4 + j) 0) (drop (5 + number t + offset t j) t) (let r = check-room j h in simp length-drop (omega arith))

  -- its places in the table
  pub check-at : (j i : ℕ) → i < get_or t (4 + j) 0 → get_or (check t (number t) j) i 0 ≡ get_or t (5 + number t + offset t j + i) 0
  unfolding check
  check-at j i h = get_or-take (get_or t (4 + j) 0) (drop (5 + number t + offset t j) t) i 0 h ∙ get_or-drop (5 + number t + offset t j) t i 0

  -- no check is heavier than 64
  pub weight-small : (j : ℕ) → j < number t → get_or t (4 + j) 0 ≤ 64
  weight-small j h =
      let w = has-weights in
      let i : j < length (weights t) = rw (length-take-le (number t) (drop 4 t) (simp length-drop (omega arith))) h in
      let a = light-at (weights t) j i (limits t ok).light in
      let e : get_or (weights t) j 0 ≡ get_or t (4 + j) 0 = get_or-take (number t) (drop 4 t) j 0 h ∙ get_or-drop 4 t j 0 in
      omega arith

  -- check j passes the test of its places
  pub check-rises : (j : ℕ) → j < number t → rising (places t) 0 (check t (number t) j) ≡ true
  check-rises j h = let l : j < length (checks t) = rw checks-length h in
      subst (λ c. rising (places t) 0 c ≡ true) (checks-at j h) (pass-at (rising (places t) 0) (checks t) j l (limits t ok).rises)

  pub check-places : (j : ℕ) → j < number t → Places t (5 + number t + offset t j) (get_or t (4 + j) 0) (places t)
  check-places j h =
      let r = check-rises j h in
      let l = check-length j h in
      record {
        room = check-room j h;
        below = λ i k. subst (λ (x : ℕ). x < places t) (check-at j i k) (rising-at (places t) 0 (check t (number t) j) r i (omega arith)).1;
        rising = λ i k a b. subst (λ (x : ℕ). x < get_or t (5 + number t + offset t j + k) 0) (check-at j i (omega arith))
            (subst (λ (x : ℕ). get_or (check t (number t) j) i 0 < x) (check-at j k b) (rising-up (places t) 0 (check t (number t) j) r i k a (omega arith)));
      }
