-- The scan's start, and what its end gives: the fitted places of the rule, and its inverse.
use mathlib.Core.Path.{◌≡◌, refl, sym, ap, ap₂, ◌∙◌, subst}
use mathlib.Core.Bool.{Bool, true, false, cond, not, true≢false}
use mathlib.Core.List.{List, [], ◌∷◌, ◌++◌, map, append-nil}
use Prim.Native.Nat.{ℕ, zero, suc, ◌+◌, ◌*◌, ◌/◌, ◌^◌, ◌<◌, ◌≤◌}
use native.Mathlib.Nat.{pow-suc}
use native.Mathlib.Omega.{arith}
use lib.Dec.{eqb}
use lib.ListN.{length, get_or, take, replicate, length-map}
use lib.Seq.{slice, slice_empty, length-slice, length-take-le, get_or-take}
use Rattle.gf2.specs.Gf2.{xor_group, bit, num, is_zero, column, choose, row_of, comb, is_sum}
use Rattle.gf2.specs.Bit.{bits-zero, bit-pow}
use borrow.Author.Tests.{not-false}
use Rattle.lists.specs.Tests.{eqb-true, eqb-self, by_bool}
use Rattle.gf2.specs.Columns.{is_zero-sound, column-lt, pair, pair-column}
use Rattle.lists.specs.Lists.{bxor, below, Distinct, rev, has, filter, All, All.nil, All.cons}
use Rattle.lists.specs.ListLaws.{all_in, all-index, get_d-zeros, get_d-has, length-rev}
use Rattle.gf2.specs.Span.{span-zero, is_sum-complete}
use Rattle.gf2.specs.Unique.{mask-unique}
use Rattle.gf2.specs.Rank.{Zero, hom-o}
use Rattle.table.specs.Accepted.{Located, by_number}
use Rattle.table.specs.Checks.{check}
use Rattle.table.specs.Table.{number, places, checks}
use Rattle.table.specs.TableLaws.{accepted}
use Rattle.rule.specs.Rule.{Solved, put_in_all, reduced, owns, restricted, inverse}
use Rattle.rule.specs.Buffers.{solved, mask_bits, Fitted}
use Rattle.rule.specs.Inverse.{pow, res-bit-in}
use Rattle.rule.specs.Choices.{Chooses, by_rule}
use Rattle.rule.proofs.AllChecksZero.{ts, az, E, C, F, same, own-zero, d_f, ind, good, lens}
use Rattle.gf2.specs.Linear.{lin-comb}
use Rattle.gf2.specs.RowValue.{val_on-lin, sum-ext-in}
use Rattle.masks.specs.Dot.{dot}
use Rattle.masks.specs.DotLaws.{dot-hom, dot-digit, dot-unit}
use Rattle.masks.specs.Scan.{Units, Scan}
use Rattle.columns.specs.Fitting.{Aside, Ready}
use Rattle.columns.specs.Cols.{Columns, Taken}

-- ---- the start: unit masks, all of them free
pub start : (R : List ℕ) (n g : ℕ) {M F : List ℕ} → g ≡ length R → Units g M → g ≤ length M → g ≤ length F → Scan (column R) (choose xor_group is_zero (column R) [] (below n)) g n g M F
start R n g {M} {F} e u lm lf = record {
  most = omega arith;
  room = (lm, lf);
  low = λ q. subst (λ (k : ℕ). column R q < 2 ^ k) (sym e) (column-lt R q);
  own = λ i a b. absurd (omega arith);
  other = λ i j a b c h. absurd (omega arith);
  tell = λ x l h. bits-zero g x l (λ i q. sym (dot-unit i x) ∙ ap (λ (m : ℕ). dot m x) (sym (u.each i q)) ∙ h i q);
  rest = sym (ap (λ (S : List ℕ). rev S ++ choose xor_group is_zero (column R) (map (column R) S) (below n)) (slice_empty g F));
}

-- ---- places whose column is zero are never chosen
zero-sum : (K : List ℕ) → is_sum xor_group is_zero K 0 ≡ true
zero-sum K = is_sum-complete xor_group is_zero is_zero-sound refl K 0 (span-zero xor_group)

choose-some : (f : ℕ → ℕ) (b : ℕ → Bool) → ((p : ℕ) → b p ≡ false → f p ≡ 0) → (K l : List ℕ) → choose xor_group is_zero f K l ≡ choose xor_group is_zero f K (filter b l)
choose-some f b h K [] = refl
choose-some f b h K (p ∷ l) = by_bool (b p)
    (λ e. rw (e, filter) (by_bool (is_sum xor_group is_zero K (f p))
    (λ k. rw (k, choose) (choose-some f b h K l))
    (λ k. rw (k, choose) (ap (λ r. p ∷ r) (choose-some f b h (f p ∷ K) l)))))
    (λ e. let k : is_sum xor_group is_zero K (f p) ≡ true = ap (is_sum xor_group is_zero K) (h p e) ∙ zero-sum K in
    rw (e, filter) (rw (k, choose) (choose-some f b h K l)))

column-zero : (p : ℕ) {R : List ℕ} → All (Zero xor_group (bit p)) R → column R p ≡ 0
column-zero p nil = refl
column-zero p (cons z zs) = ap₂ (λ (a : ℕ) (b : Bool). a * 2 + num b) (column-zero p zs) z

-- ---- lists
rev-snoc : {X : Type 0} (l : List X) (x : X) → rev (l ++ (x ∷ [])) ≡ x ∷ rev l
rev-snoc [] x = refl
rev-snoc (y ∷ l) x = ap (λ r. r ++ (y ∷ [])) (rev-snoc l x)

rev-rev : {X : Type 0} (l : List X) → rev (rev l) ≡ l
rev-rev [] = refl
rev-rev (x ∷ l) = rev-snoc (rev l) x ∙ ap (λ r. x ∷ r) (rev-rev l)

-- ---- a mask as a list of digits
pair-dot : (g m x : ℕ) → x < 2 ^ g → pair (mask_bits g m) x ≡ dot m x
pair-dot zero m x h = let z : x ≡ 0 = omega arith in sym (ap (dot m) z ∙ hom-o xor_group (dot-hom m))
pair-dot (suc g) m x h = let ih = pair-dot g (m / 2) (x / 2) (omega (arith, pow-suc 2 g)) in by_bool (bit 0 m)
    (λ e. rw e (ap (bxor (bit 0 x)) ih ∙ sym (dot-digit m x ∙ rw e)))
    (λ e. rw e (ih ∙ sym (dot-digit m x ∙ rw e)))

length-bits : (g m : ℕ) → length (mask_bits g m) ≡ g
length-bits zero m = refl
length-bits (suc g) m = ap suc (length-bits g (m / 2))

-- ---- the end
module _ (ch : Chooses) (n : ℕ) (cs : List (List ℕ)) (d : All Distinct cs) (low : All (λ c. All (λ p. p < n) c) cs) where
  abbrev EE : List ℕ
  EE = E ch n cs d low

  abbrev FF : List ℕ
  FF = F ch n cs d low

  abbrev gap : ℕ
  gap = length (az ch n cs d low)

  -- nobody's own place has a column
  all-places : choose xor_group is_zero (column EE) [] (below n) ≡ C ch n cs d low
  all-places = choose-some (column EE) (λ p. not (has p (owns (ts ch n cs d low)))) (λ p e. column-zero p (own-zero ch n cs d low p (not-false _ e))) [] (below n)

  rows-number : length EE ≡ gap
  rows-number = length-map (az ch n cs d low) (λ c. put_in_all (ts ch n cs d low) (row_of c))

  module _ {r : ℕ} {M L : List ℕ} (s : Scan (column EE) (choose xor_group is_zero (column EE) [] (below n)) gap 0 r M L) where
    found : C ch n cs d low ≡ rev (slice r gap L)
    found = sym all-places ∙ s.rest ∙ append-nil (rev (slice r gap L))

    none_left : r ≡ 0
    none_left =
        let a = s.most in
        let b : length (slice r gap L) ≡ gap = sym (length-rev (slice r gap L)) ∙ ap length (sym found) ∙ sym (length-rev (C ch n cs d low)) ∙ same ch n cs d low ∙ rows-number in
        let e = length-slice r gap L s.room.1 in
        omega arith

    pub places-are : take gap L ≡ FF
    places-are = sym (ap rev (found ∙ ap (λ (x : ℕ). rev (slice x gap L)) none_left) ∙ rev-rev (take gap L))

    place_at : (j : ℕ) → j < gap → get_or FF j 0 ≡ get_or L j 0
    place_at j h = ap (λ (l : List ℕ). get_or l j 0) (sym places-are) ∙ get_or-take gap L j 0 h

    number_of : length FF ≡ gap
    number_of = same ch n cs d low ∙ rows-number

    -- the k-th place's mask sees the column of the k-th place alone
    sees-own : (j i : ℕ) → j < gap → i < gap → dot (get_or M j 0) (column EE (get_or L i 0)) ≡ eqb (get_or L i 0) (get_or L j 0)
    sees-own j i lj li =
        let own : dot (get_or M j 0) (column EE (get_or L j 0)) ≡ true = s.own j (let z = none_left in omega arith) lj in
        by_bool (eqb (get_or L i 0) (get_or L j 0))
        (λ e. ap (λ (x : ℕ). dot (get_or M j 0) (column EE x)) (eqb-true (get_or L i 0) (get_or L j 0) e) ∙ own ∙ sym e)
        (λ e. s.other j i lj (let z = none_left in omega arith) li (by_bool (eqb j i)
        (λ q. absurd (true≢false (sym (eqb-self (get_or L j 0)) ∙ ap (λ (x : ℕ). eqb (get_or L x 0) (get_or L j 0)) (eqb-true j i q) ∙ e)))
        (λ q. q)) ∙ sym e)

    module _ (j : ℕ) (lj : j < gap) where
      abbrev f : ℕ
      f = get_or L j 0

      -- the mask, and the rule's row of the inverse
      abbrev m : List Bool
      m = mask_bits gap (get_or M j 0)

      abbrev k : List Bool
      k = inverse EE FF f

      f-in : has f FF ≡ true
      f-in = ap (λ (x : ℕ). has x FF) (sym (place_at j lj)) ∙ get_d-has FF j (let z = number_of in omega arith)

      rule-sums : restricted FF (comb xor_group k EE) ≡ 2 ^ f
      rule-sums = lin-comb xor_group xor_group (val_on-lin xor_group pow FF) k EE ∙ all_in (λ q. comb xor_group (inverse EE FF q) (map (restricted FF) EE) ≡ 2 ^ q) f f-in (good ch n cs d low)

      -- both see the same of the fitted places
      at_place : (i : ℕ) → i < length FF → bit (get_or FF i 0) (comb xor_group m EE) ≡ bit (get_or FF i 0) (comb xor_group k EE)
      at_place i h =
          let li : i < gap = let z = number_of in omega arith in
          let q = get_or FF i 0 in
          let mine : bit q (comb xor_group m EE) ≡ eqb q f =
          sym (pair-column m EE q) ∙ pair-dot gap (get_or M j 0) (column EE q) (s.low q)
          ∙ ap (λ (x : ℕ). dot (get_or M j 0) (column EE x)) (place_at i li) ∙ sees-own j i lj li ∙ ap (λ (x : ℕ). eqb x f) (sym (place_at i li)) in
          let rule : bit q (comb xor_group k EE) ≡ eqb q f =
          sym (res-bit-in q (d_f ch n cs d low) (get_d-has FF i h) (comb xor_group k EE)) ∙ ap (bit q) rule-sums ∙ bit-pow q f in
          mine ∙ sym rule

      pub row_is : m ≡ k
      row_is = mask-unique xor_group (ind ch n cs d low) m k
          (length-bits gap (get_or M j 0) ∙ sym (length-map EE (restricted FF) ∙ rows-number))
          (all_in (λ q. length (inverse EE FF q) ≡ gap) f f-in (lens ch n cs d low) ∙ sym (length-map EE (restricted FF) ∙ rows-number))
          (sym (lin-comb xor_group xor_group (val_on-lin xor_group pow FF) m EE)
          ∙ sum-ext-in xor_group (all-index FF (λ i h. ap (λ (b : Bool). cond b (2 ^ get_or FF i 0) 0) (at_place i h)))
          ∙ lin-comb xor_group xor_group (val_on-lin xor_group pow FF) k EE)

    pub fits : Fitted n (ts ch n cs d low) (az ch n cs d low) gap L M
    fits = record { room = (s.room.1, s.room.0); places = places-are; row-of = row_is }

-- ---- for a table
abbrev Ends : ℕ → List Solved → List (List ℕ) → ℕ → Type 0
Ends n T Z g = (r : ℕ) (M L : List ℕ) → Scan (column (reduced T Z)) (choose xor_group is_zero (column (reduced T Z)) [] (below n)) g 0 r M L → Fitted n T Z g L M

-- the columns that pushing leaves
map-reduced : (T : List Solved) (Z : List (List ℕ)) → map (put_in_all T) (map row_of Z) ≡ reduced T Z
map-reduced T [] = refl
map-reduced T (c ∷ Z) = ap (λ r. put_in_all T (row_of c) ∷ r) (map-reduced T Z)

pub fits-table : {t : List ℕ} {m n : ℕ} {starts order owns : List ℕ} {taken : ℕ} {aside : List ℕ} {g : ℕ} → Ready t m n starts order owns taken aside g
    → Ends n (solved (check t m) order owns taken) (map (check t m) (take g aside)) g
fits-table {t} {m} {n} {starts} {order} {owns} {taken} {aside} {g} y =
    let ok = accepted t y.located.table.accepted in
    let rm = y.chosen.room.1.1 in
    let T = solved (check t (number t)) order owns taken in
    let Z = map (check t (number t)) (take g aside) in
    let len : length Z ≡ g = length-map (take g aside) (check t (number t)) ∙ length-take-le g aside rm in
    let a : Ends (places t) (ts by_rule (places t) (checks t) ok.distinct ok.low) (az by_rule (places t) (checks t) ok.distinct ok.low) (length (az by_rule (places t) (checks t) ok.distinct ok.low)) =
    λ r M L s. fits by_rule (places t) (checks t) ok.distinct ok.low s in
    let b : Ends (places t) T Z (length Z) = subst (λ (x : List (List ℕ)). Ends (places t) T x (length x)) y.chosen.set-aside
    (subst (λ (x : List Solved). Ends (places t) x (az by_rule (places t) (checks t) ok.distinct ok.low) (length (az by_rule (places t) (checks t) ok.distinct ok.low))) y.chosen.took a) in
    let e : Ends (places t) T Z g = subst (Ends (places t) T Z) len b in
    let h : Ends n T Z g = subst (λ (x : ℕ). Ends x T Z g) (sym y.located.table.places-are) e in
    subst (λ (x : ℕ). Ends n (solved (check t x) order owns taken) (map (check t x) (take g aside)) g) (sym y.located.table.number_is) h

-- ---- what each call asks
module _ {t : List ℕ} {m n : ℕ} {starts order owns : List ℕ} {taken : ℕ} {aside : List ℕ} {g : ℕ} (y : Ready t m n starts order owns taken aside g) where
  located : Located t m (places t) starts
  located = record { table = by_number _ _ _ _ y.located.table; starts-at = y.located.starts-at }

  pub asks-aside : Aside t m starts aside g
  asks-aside = record {
    located = located;
    few = y.few;
    room = y.chosen.room.1.1;
    numbers = λ i l. rw y.located.table.number_is (y.chosen.asides i l);
  }

  pub asks-taken : Taken t m starts order owns taken
  asks-taken = record {
    located = located;
    enough = (y.chosen.room.0, y.chosen.room.1.0);
    checks = λ i l. rw y.located.table.number_is (y.chosen.numbers i l);
    own = y.chosen.own;
  }

pub no-columns : (k : ℕ) → Columns [] (replicate k 0)
no-columns k = record { each = λ p. get_d-zeros k p }

-- the rows of the inverse, from what the calls leave
module _ {t : List ℕ} {m n : ℕ} {starts order owns : List ℕ} {taken : ℕ} {aside : List ℕ} {g : ℕ} (y : Ready t m n starts order owns taken aside g) where
  abbrev T : List Solved
  T = solved (check t m) order owns taken

  abbrev Z : List (List ℕ)
  Z = map (check t m) (take g aside)

  set-aside-number : g ≡ length (reduced T Z)
  set-aside-number = sym (length-map Z (λ c. put_in_all T (row_of c)) ∙ length-map (take g aside) (check t m) ∙ length-take-le g aside y.chosen.room.1.1)

  pub all-fitted : (col : List ℕ) {r : ℕ} {U N L L' : List ℕ} → Columns (map (put_in_all T) (map row_of Z)) col → Units g U → g ≤ length U → g ≤ length L
      → ((f : ℕ → ℕ) → (W : List ℕ) → ((p : ℕ) → p < n → f p ≡ get_or col p 0) → Scan f W g n g U L → Scan f W g 0 r N L') → Fitted n T Z g L' N
  all-fitted col {r} {U} {N} {L} {L'} k u lu ll h = fits-table y r N L'
      (h (column (reduced T Z)) (choose xor_group is_zero (column (reduced T Z)) [] (below n)) (λ p l. ap (λ (R : List ℕ). column R p) (sym (map-reduced T Z)) ∙ sym (k.each p))
      (start (reduced T Z) n g set-aside-number u lu ll))
