-- Packets byte by byte: sums of some, tests for a clash, lists made from functions, and a check split into received and lost places.
use Rattle.std.specs.Prelude.{◌≡◌, refl, Bool, true, false, List, [], ◌∷◌, map, ℕ, length, get_or, replicate}
use Rattle.std.proofs.Common.{sym, ap, ◌∙◌, true≢false, ext_get_or}
use Rattle.std.proofs.lemmas.Bool.{false≢true}
use Rattle.std.specs.Int.Bits.{bit_xor}
use Rattle.std.proofs.lemmas.List.{length-replicate, length-map}
use Rattle.decided.specs.Decided.{some_of, clashes_at}
use Rattle.gf2.specs.Columns.{is_zero-sound}
use Rattle.gf2.specs.Gf2.{is_zero, xor_group, sum_over, add, comb}
use Rattle.gf2.specs.Group.{move, left_comm, cancel}
use Rattle.gf2.specs.Span.{comb-nil}
use Rattle.gf2.specs.Vectors.{get_d-add, length-add}
use Rattle.lists.specs.ListLaws.{all_of, map-all, get_d-zeros, same_self, same-sound}
use Rattle.lists.specs.Lists.{filter, from, same_list, All, All.nil, All.cons}
use Rattle.lists.specs.Numbers.{from-length}
use Rattle.lists.specs.Tests.{by_bool, or-false-l, or-false-r}

-- ---- lists made from functions
-- f 0 to f (n - 1)
abbrev pub list_of : {A : Type 0} → ℕ → (ℕ → A) → List A
list_of n f = map f (from 0 n)

-- n members
pub list_of-length : {A : Type 0} (n : ℕ) (f : ℕ → A) → length (list_of n f) ≡ n
list_of-length n f = length-map (from 0 n) f ∙ from-length 0 n

-- all of them
pub list_of-all : {A : Type 0} {P : A → Type 0} (n : ℕ) (f : ℕ → A) → ((i : ℕ) → P (f i)) → All P (list_of n f)
list_of-all n f h = map-all f (all_of h (from 0 n))

-- ---- the sum of some packets, byte by byte
pub some-view : (s : ℕ) {X : Type 0} (g : X → List ℕ) {cs : List X} → All (λ c. length (g c) ≡ s) cs → (m : List Bool)
    → (length (some_of s m (map g cs)) ≡ s) × ((j : ℕ) → get_or (some_of s m (map g cs)) j 0 ≡ comb xor_group m (map (λ c. get_or (g c) j 0) cs))
some-view s g nil m = (length-replicate s 0, get_d-zeros s)
some-view s g (cons e a) [] = (length-replicate s 0, get_d-zeros s)
some-view s g (cons {x = c} {l = cs} e a) (true ∷ m) = let r = some-view s g a m in (
  length-add xor_group (g c) (some_of s m (map g cs)) s e r.0,
  λ j. get_d-add xor_group (g c) (some_of s m (map g cs)) s e r.0 j ∙ ap (bit_xor (get_or (g c) j 0)) (r.1 j),
)
some-view s g (cons e a) (false ∷ m) = some-view s g a m

-- ---- the test for a clash
module _ (s : ℕ) {X : Type 0} (f : X → ℕ) (g : X → List ℕ) where
  -- no clash: what sums to r has the packet x
  pub clash-none : {cs : List X} → All (λ c. length (g c) ≡ s) cs → (r : ℕ) (x : List ℕ) → length x ≡ s → clashes_at s f g cs r x ≡ false
      → (m : List Bool) → comb xor_group m (map f cs) ≡ r → (j : ℕ) → comb xor_group m (map (λ c. get_or (g c) j 0) cs) ≡ get_or x j 0
  clash-none nil r x l h m e j = let z : is_zero r ≡ true = ap is_zero (sym e) in by_bool (same_list x (replicate s 0))
      (λ k. sym (ap (λ v. get_or v j 0) (same-sound x (replicate s 0) k) ∙ get_d-zeros s j))
      (λ k. absurd (true≢false (rw (z, k) at h)))
  clash-none (cons {x = c} {l = cs} k a) r x l h [] e j = sym (comb-nil xor_group (map (λ c. get_or (g c) j 0) cs)) ∙ clash-none a r x l (or-false-l _ _ h) [] (comb-nil xor_group (map f cs) ∙ e) j
  clash-none (cons {x = c} {l = cs} k a) r x l h (true ∷ m) e j = ap (bit_xor (get_or (g c) j 0))
      (clash-none a (bit_xor (f c) r) (add xor_group (g c) x) (length-add xor_group (g c) x s k l) (or-false-r (clashes_at s f g cs r x) _ h) m (move xor_group (f c) (comb xor_group m (map f cs)) r e) j
      ∙ get_d-add xor_group (g c) x s k l j) ∙ cancel xor_group (get_or (g c) j 0) (get_or x j 0)
  clash-none (cons {x = c} {l = cs} k a) r x l h (false ∷ m) e j = clash-none a r x l (or-false-l _ _ h) m e j

  -- a clash: some rows sum to r, and not every byte of their packets to x
  pub record Clash (cs : List X) (r : ℕ) (x : List ℕ) : Type 0 where
    pub mask : List Bool
    pub sums : comb xor_group mask (map f cs) ≡ r
    pub differs : ((j : ℕ) → comb xor_group mask (map (λ c. get_or (g c) j 0) cs) ≡ get_or x j 0) → ⊥

  pub clash-some : {cs : List X} → All (λ c. length (g c) ≡ s) cs → (r : ℕ) (x : List ℕ) → length x ≡ s → clashes_at s f g cs r x ≡ true → Clash cs r x
  clash-some nil r x l h = by_bool (is_zero r)
      (λ z. by_bool (same_list x (replicate s 0))
      (λ k. absurd (false≢true (rw (z, k) at h)))
      (λ k. record {
        mask = [];
        sums = sym (is_zero-sound r z);
        differs = λ all. true≢false (sym (ap (λ v. same_list v (replicate s 0)) (ext_get_or 0 x (replicate s 0) (l ∙ sym (length-replicate s 0)) (λ j i. sym (all j) ∙ sym (get_d-zeros s j))) ∙ same_self (replicate s 0)) ∙ k);
      }))
      (λ z. absurd (false≢true (rw z at h)))
  clash-some (cons {x = c} {l = cs} k a) r x l h = by_bool (clashes_at s f g cs r x)
      (λ t. let q = clash-some a r x l t in record { mask = false ∷ q.mask; sums = q.sums; differs = q.differs })
      (λ t. let q = clash-some a (bit_xor (f c) r) (add xor_group (g c) x) (length-add xor_group (g c) x s k l) (rw t at h) in record {
        mask = true ∷ q.mask;
        sums = ap (bit_xor (f c)) q.sums ∙ cancel xor_group (f c) r;
        differs = λ all. q.differs (λ j. move xor_group (get_or (g c) j 0) _ _ (all j) ∙ sym (get_d-add xor_group (g c) x s k l j));
      })

-- ---- a check split
-- st where it passes, rest where not
pub split-sum : (f : ℕ → Bool) (st rest : ℕ → ℕ) {c : List ℕ} → All (λ p. (f p ≡ true → rest p ≡ 0) × (f p ≡ false → rest p ≡ st p)) c
    → sum_over xor_group st c ≡ bit_xor (sum_over xor_group st (filter f c)) (sum_over xor_group rest c)
split-sum f st rest nil = refl
split-sum f st rest (cons {x = p} {l = c} h a) = by_bool (f p)
    (λ t. rw (t, filter, h.0 t) (ap (bit_xor (st p)) (split-sum f st rest a) ∙ sym (xor_group.assoc (st p) (sum_over xor_group st (filter f c)) (sum_over xor_group rest c))
    ∙ ap (bit_xor (bit_xor (st p) (sum_over xor_group st (filter f c)))) (sym (xor_group.zl (sum_over xor_group rest c)))))
    (λ t. rw (t, filter, h.1 t) (ap (bit_xor (st p)) (split-sum f st rest a) ∙ left_comm xor_group (st p) (sum_over xor_group st (filter f c)) (sum_over xor_group rest c)))
