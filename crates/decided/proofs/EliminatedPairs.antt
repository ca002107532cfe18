-- What elimination with packets leaves: the leads' pairs solve the checks, nothing clashes, and a place that reduces to nothing has its value as sum.
use Rattle.std.specs.Prelude.{◌≡◌, refl, Bool, true, false, cond, List, [], ◌∷◌, map, ℕ, ◌^◌, ◌<◌, get_or, replicate}
use Rattle.std.proofs.Common.{sym, ap, ap₂, ◌∙◌}
use Rattle.std.specs.Int.Bits.{bit_xor}
use Rattle.std.proofs.lemmas.List.{length-replicate}
use Rattle.decided.specs.Decided.{lost_row, received_sum, decided, value, clashes}
use Rattle.decided.proofs.DecidedLaws.{byte_of, sums-sized, word_of, word_of-word, word-no-clash, word-meets, decided-value}
use Rattle.decided.specs.Packed.{clash-none}
use Rattle.decided.specs.Pairing.{byte_group, pair_of}
use Rattle.decided.specs.Words.{Word, Block}
use Rattle.gf2.specs.EchelonLaws.{sums-complete}
use Rattle.gf2.specs.Gf2.{bit, is_zero, xor_group, sum_over, comb, Lead, rows_of, down, path}
use Rattle.gf2.specs.Linear.{lin-image}
use Rattle.gf2.specs.Pairs.{pair_group, pairs_of, rows-within, solved, pairs-met}
use Rattle.gf2.specs.RowValue.{val, at, val-pow}
use Rattle.gf2.specs.Settling.{settle-decided, free-undecided, settle-pair}
use Rattle.gf2.specs.Span.{Span, span-within, Within}
use Rattle.gf2.specs.Systems.{meets-comb}
use Rattle.lists.specs.ListLaws.{all_map, get_d-zeros}
use Rattle.lists.specs.Lists.{below}
use Rattle.lists.specs.Tests.{by_bool}
use Rattle.table.specs.PacketLaws.{view}

-- byte j of a value is the value of byte j
pub val-byte : (st : ℕ → ℕ → ℕ) (n r j : ℕ) → val byte_group st n r j ≡ val xor_group (λ p. st p j) n r
val-byte st n r j = go (below n)
  where
    one : (b : Bool) (p : ℕ) → cond b (st p) byte_group.o j ≡ cond b (st p j) 0
    one true p = refl
    one false p = refl

    go : (l : List ℕ) → sum_over byte_group (at byte_group st r) l j ≡ sum_over xor_group (at xor_group (λ p. st p j) r) l
    go [] = refl
    go (p ∷ l) = ap₂ bit_xor (one (bit p r) p) (go l)

-- byte j of a sum of some pairs ..
comb-byte : {X : Type 0} (g : X → ℕ × (ℕ → ℕ)) (j : ℕ) (m : List Bool) (cs : List X) → (comb (pair_group xor_group byte_group) m (map g cs)).1 j ≡ comb xor_group m (map (λ c. (g c).1 j) cs)
comb-byte g j m cs = lin-image (pair_group xor_group byte_group) xor_group {f = λ x. x.1 j} (record { adds = λ a b. refl }) g m cs

-- .. and its row
pub comb-row : {X : Type 0} (g : X → ℕ × (ℕ → ℕ)) (m : List Bool) (cs : List X) → (comb (pair_group xor_group byte_group) m (map g cs)).0 ≡ comb xor_group m (map (λ c. (g c).0) cs)
comb-row g m cs = lin-image (pair_group xor_group byte_group) xor_group {f = λ x. x.0} (record { adds = λ a b. refl }) g m cs

module _ (n s : ℕ) (cs b : List (List ℕ)) (ok : Block n s cs b) (lost : List ℕ) where
  -- a row that vanished and a sum that did not: something clashes
  pub found-clash : (acc : ℕ → ℕ) → Span (pair_group xor_group byte_group) (map (pair_of s b lost) cs) (0, acc) → (((j : ℕ) → acc j ≡ 0) → ⊥) → clashes s cs b lost ≡ true
  found-clash acc q ne = by_bool (clashes s cs b lost) (λ e. e) (λ e. absurd (ne (λ j.
      sym (ap (λ x. x.1 j) q.sums) ∙ comb-byte (pair_of s b lost) j q.mask cs
      ∙ clash-none s (lost_row lost) (received_sum s b lost) (sums-sized n s cs b ok lost) 0 (replicate s 0) (length-replicate s 0) e q.mask
      (sym (comb-row (pair_of s b lost) q.mask cs) ∙ ap (λ x. x.0) q.sums) j ∙ get_d-zeros s j)))

  module _ {f : ℕ → ℕ} (l : Lead f) (v : ℕ → ℕ → ℕ) (none : (p : ℕ) → is_zero (f p) ≡ true → v p ≡ byte_group.o)
      (out : Within (pair_group xor_group byte_group) (pairs_of byte_group f v n) (map (pair_of s b lost) cs)) where
    -- byte j at place p, by solving
    abbrev pub solved_byte : ℕ → ℕ → ℕ
    solved_byte j p = solved byte_group l v none n p j

    -- the codeword by solving with every free place zero
    pub echelon-word : Word n s cs b lost (word_of n s cs b ok lost solved_byte)
    echelon-word = word_of-word n s cs b ok lost solved_byte (λ j.
        all_map (λ c e. sym (val-byte (solved byte_group l v none n) n (lost_row lost c) j) ∙ ap (λ h. h j) e)
        (pairs-met byte_group l v none n (lost_row lost) (λ c j. byte_of n s cs b ok lost j c) cs out))

    -- so nothing clashes
    pub echelon-calm : clashes s cs b lost ≡ false
    echelon-calm = word-no-clash n s cs b ok lost (word_of n s cs b ok lost solved_byte) echelon-word

    -- a place that some of the checks sum to, with the sum of their packets: decided, and that is its value
    module _ (p : ℕ) (h : p < n) (acc : ℕ → ℕ) (q : Span (pair_group xor_group byte_group) (map (pair_of s b lost) cs) (2 ^ p, acc)) where
      pub settled-decided : decided lost cs p ≡ true
      settled-decided = sums-complete (map (lost_row lost) cs) (2 ^ p)
          (record { mask = q.mask; sums = sym (comb-row (pair_of s b lost) q.mask cs) ∙ ap (λ x. x.0) q.sums })

      pub settled-value : (j : ℕ) → get_or (value s cs b lost p) j 0 ≡ acc j
      settled-value j = let w = word_of n s cs b ok lost solved_byte in
          ap (λ x. get_or x j 0) (sym (decided-value n s cs b ok lost p h settled-decided w echelon-word))
          ∙ sym (val-pow xor_group (view w j) n p h)
          ∙ ap (val xor_group (view w j) n) (sym (ap (λ x. x.0) q.sums) ∙ comb-row (pair_of s b lost) q.mask cs)
          ∙ meets-comb xor_group (lost_row lost) (byte_of n s cs b ok lost j) (view w j) n (word-meets n s cs b ok lost w echelon-word j) q.mask
          ∙ sym (comb-byte (pair_of s b lost) j q.mask cs) ∙ ap (λ x. x.1 j) q.sums

    -- ---- settling a place, where the leads' pairs are sums of the checks' pairs too
    module _ (inn : Within (pair_group xor_group byte_group) (map (pair_of s b lost) cs) (pairs_of byte_group f v n)) (p : ℕ) (h : p < n) where
      rows_in : Within xor_group (map (lost_row lost) cs) (rows_of f n)
      rows_in = rows-within byte_group (pair_of s b lost) (λ q. (f q, v q)) cs (below n) inn

      rows_out : Within xor_group (rows_of f n) (map (lost_row lost) cs)
      rows_out = rows-within byte_group (λ q. (f q, v q)) (pair_of s b lost) (below n) cs out

      -- a place that leads: its own row without it is reduced to zero just if it is decided ..
      pub lead-decided : is_zero (f p) ≡ false → is_zero (down f p (bit_xor (f p) (2 ^ p))) ≡ decided lost cs p
      lead-decided z = settle-decided f n p h l (map (lost_row lost) cs) rows_in rows_out z

      -- .. and its own sum with those on the path is its packet
      pub lead-value : is_zero (down f p (bit_xor (f p) (2 ^ p))) ≡ true → (j : ℕ)
          → get_or (value s cs b lost p) j 0 ≡ bit_xor (v p j) (sum_over byte_group v (path f p (bit_xor (f p) (2 ^ p))) j)
      lead-value z j = settled-value p h _ (span-within (pair_group xor_group byte_group) inn (settle-pair f n p h byte_group v z)) j

      -- one that leads no row is not decided
      pub free-lost : is_zero (f p) ≡ true → decided lost cs p ≡ false
      free-lost z = free-undecided f n p h l (map (lost_row lost) cs) rows_in rows_out z
