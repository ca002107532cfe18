-- Laws of a check's sum: one place more, a part of its bytes, and the lowest byte that isn't zero.
use Rattle.std.specs.Prelude.{◌≡◌, refl, true, List, [], ◌∷◌, ◌++◌, ℕ, zero, suc, ◌+◌, ◌*◌, ◌<◌, ◌≤◌, length, get_or, take, drop, replicate}
use Rattle.std.proofs.Common.{sym, ap, ◌∙◌, arith, take-take}
use Rattle.std.proofs.lemmas.Bool.{false≢true}
use Rattle.std.proofs.Math.Nat.{suc_inj}
use Rattle.std.proofs.Math.Dec.{eqb-suc-zero}
use Rattle.gf2.specs.Gf2.{xor_group, add}
use Rattle.lists.specs.ListLaws.{all-index}
use Rattle.lists.specs.Lists.{same_list, All}
use Rattle.gf2.specs.Vectors.{add_assoc, add_comm}
use Rattle.lists.specs.Buffers.{part_length, get_d_part}
use Rattle.table.specs.Checks.{CheckIn, Places}
use Rattle.table.specs.PacketLaws.{packets-length, packets-sized, sum_view}
use Rattle.table.specs.Packets.{packets, packet_sum, lowest_nonzero}

-- ---- the lowest byte that isn't zero
-- it lies within, or is the length
pub lowest-le : (x : List ℕ) → lowest_nonzero x ≤ length x
unfolding lowest_nonzero
lowest-le [] = omega arith
lowest-le (zero ∷ x) = let h = lowest-le x in omega arith
lowest-le (suc v ∷ x) = omega arith

-- it isn't zero
pub lowest-at : (x : List ℕ) → lowest_nonzero x < length x → get_or x (lowest_nonzero x) 0 ≡ 0 → ⊥
unfolding lowest_nonzero
lowest-at [] h e = omega arith
lowest-at (zero ∷ x) h e = lowest-at x (omega arith) e
lowest-at (suc v ∷ x) h e = omega arith

-- the bytes before it are zero
pub lowest-below : (x : List ℕ) (i : ℕ) → i < lowest_nonzero x → get_or x i 0 ≡ 0
unfolding lowest_nonzero
lowest-below [] i h = refl
lowest-below (zero ∷ x) zero h = refl
lowest-below (zero ∷ x) (suc i) h = lowest-below x i (omega arith)
lowest-below (suc v ∷ x) i h = absurd (omega arith)

-- which decides it
pub lowest-is : (x : List ℕ) (i : ℕ) → i ≤ length x → ((k : ℕ) → k < i → get_or x k 0 ≡ 0) → (i < length x → get_or x i 0 ≡ 0 → ⊥) → lowest_nonzero x ≡ i
unfolding lowest_nonzero
lowest-is [] i l z h = omega arith
lowest-is (zero ∷ x) zero l z h = absurd (h (omega arith) refl)
lowest-is (zero ∷ x) (suc i) l z h = ap suc (lowest-is x i (omega arith) (λ k g. z (suc k) (omega arith)) (λ g. h (omega arith)))
lowest-is (suc v ∷ x) zero l z h = refl
lowest-is (suc v ∷ x) (suc i) l z h = let e = z zero (omega arith) in absurd (omega arith)

-- the length means that all are zero
pub lowest-zeros : (x : List ℕ) → lowest_nonzero x ≡ length x → x ≡ replicate (length x) 0
unfolding lowest_nonzero
lowest-zeros [] e = refl
lowest-zeros (zero ∷ x) e = ap (λ l. 0 ∷ l) (lowest-zeros x (suc_inj e))
lowest-zeros (suc v ∷ x) e = absurd (omega arith)

pub lowest-same : (x : List ℕ) → lowest_nonzero x ≡ length x → same_list x (replicate (length x) 0) ≡ true
unfolding lowest_nonzero
lowest-same [] e = refl
lowest-same (zero ∷ x) e = lowest-same x (suc_inj e)
lowest-same (suc v ∷ x) e = absurd (omega arith)

-- and the other way
pub same-lowest : (x : List ℕ) → same_list x (replicate (length x) 0) ≡ true → lowest_nonzero x ≡ length x
unfolding lowest_nonzero
same-lowest [] e = refl
same-lowest (zero ∷ x) e = ap suc (same-lowest x e)
same-lowest (suc v ∷ x) e = absurd (false≢true (rw (eqb-suc-zero v) at e))

-- a first part of k bytes holds it
pub lowest-in-first : (k : ℕ) (x : List ℕ) → lowest_nonzero (take k x) < k → lowest_nonzero (take k x) < length x → lowest_nonzero x ≡ lowest_nonzero (take k x)
unfolding lowest_nonzero
lowest-in-first zero x h g = absurd (omega arith)
lowest-in-first (suc k) [] h g = refl
lowest-in-first (suc k) (zero ∷ x) h g = ap suc (lowest-in-first k x (omega arith) (omega arith))
lowest-in-first (suc k) (suc v ∷ x) h g = refl

-- or the rest does
pub lowest-in-rest : (k : ℕ) (x : List ℕ) → k ≤ length x → k ≤ lowest_nonzero (take k x) → lowest_nonzero x ≡ k + lowest_nonzero (drop k x)
unfolding lowest_nonzero
lowest-in-rest zero x l h = omega arith
lowest-in-rest (suc k) [] l h = absurd (omega arith)
lowest-in-rest (suc k) (zero ∷ x) l h = let r = lowest-in-rest k x (omega arith) (omega arith) in omega arith
lowest-in-rest (suc k) (suc v ∷ x) l h = absurd (omega arith)

-- ---- parts of a sum
-- a part of a part
pub part-of-part : (off k s : ℕ) (l : List ℕ) → off + k ≤ s → take k (drop off (take s l)) ≡ take k (drop off l)
part-of-part zero k s l h = take-take k s l (omega arith)
part-of-part (suc off) k zero l h = absurd (omega arith)
part-of-part (suc off) k (suc s) [] h = refl
part-of-part (suc off) k (suc s) (x ∷ l) h = part-of-part off k s l (omega arith)

take-sum : (k : ℕ) (x y : List ℕ) → take k (add xor_group x y) ≡ add xor_group (take k x) (take k y)
take-sum zero x y = refl
take-sum (suc k) [] y = refl
take-sum (suc k) (a ∷ x) [] = refl
take-sum (suc k) (a ∷ x) (b ∷ y) = ap (λ l. xor_group.◌⊕◌ a b ∷ l) (take-sum k x y)

nothing-added : (x : List ℕ) → add xor_group x [] ≡ []
nothing-added [] = refl
nothing-added (a ∷ x) = refl

drop-sum : (k : ℕ) (x y : List ℕ) → drop k (add xor_group x y) ≡ add xor_group (drop k x) (drop k y)
drop-sum zero x y = refl
drop-sum (suc k) [] y = refl
drop-sum (suc k) (a ∷ x) [] = sym (nothing-added (drop k x))
drop-sum (suc k) (a ∷ x) (b ∷ y) = drop-sum k x y

-- a part of a sum is the sum of the parts
pub part-sum : (off k : ℕ) (x y : List ℕ) → take k (drop off (add xor_group x y)) ≡ add xor_group (take k (drop off x)) (take k (drop off y))
part-sum off k x y = ap (take k) (drop-sum off x y) ∙ take-sum k (drop off x) (drop off y)

-- a part of zeros
pub part-zeros : (off k s : ℕ) → off + k ≤ s → ◌≡◌ {A = List ℕ} (take k (drop off (replicate s 0))) (replicate k 0)
part-zeros zero zero s h = refl
part-zeros zero (suc k) zero h = absurd (omega arith)
part-zeros zero (suc k) (suc s) h = ap (λ l. 0 ∷ l) (part-zeros zero k s (omega arith))
part-zeros (suc off) k zero h = absurd (omega arith)
part-zeros (suc off) k (suc s) h = part-zeros off k s (omega arith)

-- ---- the sum over a check
-- one place more
pub sum-snoc : (s : ℕ) (b : List (List ℕ)) (c : List ℕ) (q : ℕ) → packet_sum s b (c ++ (q ∷ [])) ≡ add xor_group (packet_sum s b c) (get_or b q [])
sum-snoc s b [] q = add_comm xor_group (get_or b q []) (replicate s 0)
sum-snoc s b (p ∷ c) q = ap (add xor_group (get_or b p [])) (sum-snoc s b c q) ∙ sym (add_assoc xor_group (get_or b p []) (packet_sum s b c) (get_or b q []))

-- an accepted check
pub places-in : (t : List ℕ) (at weight : ℕ) (b : List ℕ) (n s : ℕ) → Places t at weight n → length b ≡ n * s → CheckIn t at weight b n s
places-in t at weight b n s p l = record { room = p.room; below = p.below; bytes = l }

module _ (t : List ℕ) (at weight : ℕ) (b : List ℕ) (n s : ℕ) (ok : CheckIn t at weight b n s) where
  -- the check's places are below n
  pub check-below : All (λ p. p < n) (take weight (drop at t))
  check-below = all-index (take weight (drop at t)) (λ i h.
      let l = part_length t at weight ok.room in
      let g : i < weight = omega arith in
      rw (get_d_part t at weight i g) (ok.below i g))

  -- the sum has s bytes
  pub sum-length : length (packet_sum s (packets s n b) (take weight (drop at t))) ≡ s
  sum-length = (sum_view s (packets-sized s n b ok.bytes) {c = take weight (drop at t)} (rw (packets-length s n b) check-below)).0

-- the places of a check lie below n
pub places-low : {t : List ℕ} {at weight n : ℕ} → Places t at weight n → All (λ q. q < n) (take weight (drop at t))
places-low {t} {at} {weight} {n} p = check-below t at weight [] n 0 (places-in t at weight [] n 0 p (omega arith))
