-- The block that belongs to a table and its information packets: encoding gives it, and there is no other.
use Rattle.std.specs.Prelude.{◌≡◌, refl, Bool, true, false, cond, not, List, [], ◌∷◌, ◌++◌, map, ℕ, ◌+◌, ◌-◌, ◌<◌, eqb, length, get_or, replicate, take}
use Rattle.std.proofs.Common.{sym, ap, ap₂, ◌∙◌, subst, true≢false, arith, ext_get_or, get_or-take, length-take-le}
use Rattle.std.proofs.lemmas.List.{length-replicate}
use Rattle.gf2.specs.Gf2.{bit, Group2, xor_group, sum_over, row_of}
use Rattle.lists.specs.Tests.{eqb-true, by_bool}
use Rattle.lists.specs.Lists.{below, Distinct, rev, has, minus, All, All.nil, All.cons}
use Rattle.gf2.specs.GreedyLaws.{all-choose}
use Rattle.gf2.specs.Group.{sum_over-add, zr, eq-zero}
use Rattle.gf2.specs.Linear.{lin-none}
use Rattle.lists.specs.ListLaws.{all-rev, all-unrev, all-self, none_has, has-none, all_replicate, has_kept, low-has, get_d-has, has-append-none, all_take, all-index, all-zip, all-has, below_of, all_in, map-all, all_get_d, get_d-zeros, all-every, all_map}
use Rattle.gf2.specs.Places.{sum-apart}
use Rattle.gf2.specs.RowValue.{at, val, val-lin, val-pow, val-row, sum-ext-in}
use Rattle.table.specs.PacketLaws.{view, sum_view}
use Rattle.table.specs.Packets.{packet_sum, Packets}
use Rattle.plan.specs.AtStart.{put-length, put-packets}
use Rattle.plan.specs.ByteByByte.{runs-length, runs-packets}
use Rattle.rule.specs.Choices.{Chooses}
use Rattle.rule.proofs.AllChecksZero.{ts, az, F, E, tri, low_t, low_a, free-good, peels, d_f, good}
use Rattle.rule.specs.Encoded.{encode}
use Rattle.rule.proofs.EncodedZero.{encoded}
use Rattle.rule.proofs.Info.{info-number, info-holds}
use Rattle.rule.specs.Inverse.{res-bit-in, res-bit-out}
use Rattle.rule.specs.Peel.{peels_all}
use Rattle.rule.specs.Rule.{Solved, row, put_in_all, restricted, owns, plan_by, Plan, inverse}
use Rattle.rule.specs.Solved.{tri-own, put_in_all-clears, val-put_in}
use Rattle.rule.specs.Solving.{tri-ord, Ord, Ord.done, Ord.also}
use Rattle.rule.proofs.WellFormed.{info-low as places-low, well-formed}

-- ---- a sum of which all but one place are zero
module _ {A : Type 0} (G : Group2 A) (x : ℕ → A) where
  open G use {◌⊕◌, o, assoc, comm, self, zl}

  -- a sum of zeros
  sum_zeros : {c : List ℕ} → All (λ p. x p ≡ o) c → sum_over G x c ≡ o
  sum_zeros nil = refl
  sum_zeros (cons e a) = ap₂ ◌⊕◌ e (sum_zeros a) ∙ zl o

  -- going through the solved checks: each has one place that is not yet known to be zero
  own-zeros : (n : ℕ) {us : List Solved} → Ord us → All (λ u. (u.own < n) × All (λ p. p < n) u.check) us → All (λ u. sum_over G x u.check ≡ o) us
      → ((p : ℕ) → p < n → has p (owns us) ≡ false → x p ≡ o) → (p : ℕ) → p < n → x p ≡ o
  own-zeros n done nil nil h p l = h p l refl
  own-zeros n (also {u = u} {us = us} q a r) (cons b bs) (cons z zs) h p₀ l₀ = own-zeros n r bs zs
      (λ p l k. by_bool (eqb p u.own) (λ e. ap x (eqb-true p u.own e) ∙ mine) (λ e. h p l (rw e k))) p₀ l₀
    where
      others : {c : List ℕ} → All (λ p. (p < n) × (has p u.check ≡ true)) c → All (λ p. x p ≡ o) (minus c (u.own ∷ []))
      others nil = nil
      others (cons {x = p} {l = c} w ws) = by_bool (eqb p u.own)
          (λ e. rw e (others ws))
          (λ e. rw e (cons (h p w.0 (rw e (has-none (λ v. v.own) p (all_map (λ v k. by_bool (eqb p v.own)
          (λ f. absurd (true≢false (sym w.1 ∙ ap (λ y. has y u.check) (eqb-true p v.own f) ∙ k))) (λ f. f)) a)))) (others ws)))

      mine : x u.own ≡ o
      mine = sym (zr G (x u.own)) ∙ ap₂ ◌⊕◌ (sym (ap (λ b. cond b (x u.own) o) q)) (sym (sum_zeros (others (all-zip b.1 (all-self u.check)))))
          ∙ sym (sum-apart G x u.own u.check) ∙ z

module _ {A : Type 0} (G : Group2 A) (ch : Chooses) (n : ℕ) (cs : List (List ℕ)) (d : All Distinct cs) (low : All (λ c. All (λ p. p < n) c) cs) where
  open G use {◌⊕◌, o, assoc, comm, self, zl}

  -- short names
  abbrev I : List ℕ
  I = (plan_by ch.choice n cs).info

  abbrev T : List Solved
  T = ts ch n cs d low

  abbrev FF : List ℕ
  FF = F ch n cs d low

  -- a codeword that is zero at the information places is zero everywhere
  module _ (x : ℕ → A) (no-info : All (λ p. x p ≡ o) I) (checks : All (λ c. sum_over G x c ≡ o) cs) where
    -- the solved checks and those set aside sum to zero
    sums : All (λ t. sum_over G x t.check ≡ o) T × All (λ c. sum_over G x c ≡ o) (az ch n cs d low)
    sums = peels_all (peels ch n cs d low) (all-choose row_of [] checks)

    -- the same, by rows
    val_t : All (λ t. val G x n (row t) ≡ o) T
    val_t = all_map (λ t r. val-row G x n r.1 ∙ r.0) (all-zip sums.0 (low_t ch n cs d low))

    -- a place that nobody owns and that is not fitted is an information place
    rest : (p : ℕ) → p < n → has p FF ≡ false → has p (owns T) ≡ false → x p ≡ o
    rest p l h k = all_in (λ q. x q ≡ o) p
        (has_kept (λ q. not (has q (owns T ++ FF))) p (rev (below n)) (ap not (has-append-none p (owns T) FF k h)) (low-has n p l)) no-info

    -- of a reduced row only the fitted places count
    at-fitted : (e p : ℕ) → p < n → at G x (put_in_all T e) p ≡ at G x (restricted FF (put_in_all T e)) p
    at-fitted e p l = by_bool (has p FF)
        (λ h. ap (λ b. cond b (x p) o) (sym (res-bit-in p (d_f ch n cs d low) h (put_in_all T e))))
        (λ h. by_bool (has p (owns T))
        (λ k. ap (λ b. cond b (x p) o) (all-has (λ q. bit q (put_in_all T e) ≡ false) (λ t. t.own) p k (put_in_all-clears (tri ch n cs d low) e)))
        (λ k. ap (λ y. cond (bit p (put_in_all T e)) y o) (rest p l h k) ∙ cond-o (bit p (put_in_all T e)))
        ∙ sym (ap (λ b. cond b (x p) o) (res-bit-out p FF h (put_in_all T e))))
      where
        cond-o : (b : Bool) → cond b o o ≡ o
        cond-o true = refl
        cond-o false = refl

    -- the rows of the square matrix come to zero
    square-zero : All (λ r. val G x n r ≡ o) (map (restricted FF) (E ch n cs d low))
    square-zero = map-all (restricted FF) (map-all (λ c. put_in_all T (row_of c)) (all_map
        (λ c r. sym (sum-ext-in G (below_of n (at-fitted (row_of c)))) ∙ val-put_in G x n val_t (row_of c) ∙ val-row G x n r.1 ∙ r.0)
        (all-zip sums.1 (low_a ch n cs d low))))

    -- so every fitted place is zero
    fitted-zero : All (λ f. x f ≡ o) FF
    fitted-zero = all_map (λ f r. sym (val-pow G x n f r.1.0) ∙ ap (val G x n) (sym r.0) ∙ lin-none xor_group G (val-lin G x n) square-zero (inverse (E ch n cs d low) FF f))
        (all-zip (good ch n cs d low) (free-good ch n cs d low))

    pub zero-block : (p : ℕ) → p < n → x p ≡ o
    zero-block = own-zeros G x n (tri-ord (tri ch n cs d low)) (all-rev (tri-own (tri ch n cs d low) (low_t ch n cs d low))) (all-rev sums.0)
        (λ p l k. by_bool (has p FF)
        (λ h. all_in (λ q. x q ≡ o) p h fitted-zero)
        (λ h. rest p l h (has-none (λ t. t.own) p (all-unrev T (none_has (λ t. t.own) p (rev T) k)))))

  -- two codewords that agree at the information places agree everywhere
  same_block : (x y : ℕ → A) → All (λ p. x p ≡ y p) I → All (λ c. sum_over G x c ≡ o) cs → All (λ c. sum_over G y c ≡ o) cs
      → (p : ℕ) → p < n → x p ≡ y p
  same_block x y a h k p l = eq-zero G (x p) (y p) (zero-block (λ q. x q ⊕ y q)
      (all_map (λ q e. ap (λ z. z ⊕ y q) e ∙ self (y q)) a)
      (all_map (λ c r. sum_over-add G x y c ∙ ap₂ ◌⊕◌ r.0 r.1 ∙ zl o) (all-zip h k)) p l)

-- ---- lists of packets

-- What the block of a plan P of the checks cs and its information packets must be: n packets of s bytes, in which the k-th information
-- place holds the k-th packet and every check sums to zero bytes.
pub record Encodes (P : Plan) (n s : ℕ) (cs ps b : List (List ℕ)) : Type 0 where
  pub long : length b ≡ n
  pub sized : Packets s b
  pub carries : (k : ℕ) → k < n - P.M → get_or b (get_or P.info k 0) [] ≡ get_or ps k []
  pub zero-sums : All (λ c. packet_sum s b c ≡ replicate s 0) cs

-- the block that encoding by the plan gives
abbrev pub block : Plan → ℕ → ℕ → List (List ℕ) → List (List ℕ)
block P n s ps = take n (encode n s P ps)

module _ (ch : Chooses) (n s : ℕ) (cs : List (List ℕ)) (d : All Distinct cs) (low : All (λ c. All (λ p. p < n) c) cs)
    (ps : List (List ℕ)) (w : Packets s ps) (l : length ps ≡ n - (plan_by ch.choice n cs).M) where
  -- short names
  abbrev P : Plan
  P = plan_by ch.choice n cs

  abbrev whole : List (List ℕ)
  whole = encode n s P ps

  -- all slots, scratch too, are there and have s bytes
  whole_length : length whole ≡ n + P.g
  whole_length = runs-length s P.steps _ ∙ put-length _ P.info ps ∙ length-replicate (n + P.g) (replicate s 0)

  -- each of them of s bytes
  whole-packets : Packets s whole
  whole-packets = runs-packets s (n + P.g) (all_map (λ x r. r.below) (well-formed ch n cs d low)) _
      (put-length _ P.info ps ∙ length-replicate (n + P.g) (replicate s 0))
      (put-packets s P.info (all_replicate (n + P.g) (replicate s 0) (length-replicate s 0)) w)

  -- the block has n packets
  block-length : length (block P n s ps) ≡ n
  block-length = length-take-le n whole (let h = whole_length in omega arith)

  -- the k-th information place is below n
  info-low : (k : ℕ) → k < n - P.M → get_or P.info k 0 < n
  info-low k h = let m = info-number ch n cs d low in all_in (λ p. p < n) _ (get_d-has P.info k (omega arith)) (places-low ch n cs d low)

  -- the encoded block is as it must be
  pub block-encodes : Encodes P n s cs ps (block P n s ps)
  block-encodes = record {
    long = block-length;
    sized = all_take n whole-packets;
    carries = λ k h. get_or-take n whole _ [] (info-low k h) ∙ info-holds ch n cs d low s ps l k h;
    zero-sums = all_map (λ c z. let a = z.0 in
        let r = sum_view s (all_take n whole-packets) (all_map (λ p q. subst (λ m. p < m) (sym block-length) q) a) in
        ext_get_or 0 _ _ (r.0 ∙ sym (length-replicate s 0))
        (λ j h. r.1 j ∙ sum-ext-in xor_group (all_map (λ p q. ap (λ v. get_or v j 0) (get_or-take n whole p [] q)) a) ∙ z.1 j ∙ sym (get_d-zeros s j)))
        (all-zip low (all-every cs (encoded ch n s cs d low ps w)));
  }

  -- byte j of every check's sum
  byte-sums : (b : List (List ℕ)) → Encodes P n s cs ps b → (j : ℕ) → All (λ c. sum_over xor_group (view b j) c ≡ 0) cs
  byte-sums b r j = all_map (λ c z. sym ((sum_view s r.sized (all_map (λ p q. subst (λ m. p < m) (sym r.long) q) z.0)).1 j) ∙ ap (λ v. get_or v j 0) z.1 ∙ get_d-zeros s j)
      (all-zip low r.zero-sums)

  -- two blocks as they must be are the same
  encodes_same : (b e : List (List ℕ)) → Encodes P n s cs ps b → Encodes P n s cs ps e → b ≡ e
  encodes_same b e r t = ext_get_or [] b e (r.long ∙ sym t.long) (λ i h. let q : i < n = omega (arith, r.long) in
      ext_get_or 0 (get_or b i []) (get_or e i []) (all_get_d r.sized i h ∙ sym (all_get_d t.sized i (omega (arith, t.long))))
      (λ j k. same_block xor_group ch n cs d low (view b j) (view e j)
      (all-index P.info (λ k h. let m = info-number ch n cs d low in ap (λ v. get_or v j 0) (r.carries k (omega arith) ∙ sym (t.carries k (omega arith)))))
      (byte-sums b r j) (byte-sums e t j) i q))

  -- the encoded block is the only one
  pub one_block : (b : List (List ℕ)) → Encodes P n s cs ps b → b ≡ block P n s ps
  one_block b r = encodes_same b (block P n s ps) r block-encodes
