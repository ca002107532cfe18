-- The same matrix with packets of s bytes (`at_size`; document 02, C-16): places and checks stay, and so does the refusal as long as both
-- sizes are within their limits.
use Rattle.std.specs.Prelude.{◌≡◌, Bool, false, not, ◌||◌, List, [], ◌∷◌, ◌↔◌, ℕ, ◌+◌, ◌*◌, ◌<◌, ◌≤◌, eqb, ltb, length, get_or, take, drop}
use Rattle.std.proofs.Common.{sym, ap, ap₂, ◌∙◌, true≢false, ⊎_elim, arith, length-set, get_or-set_same, get_or-set_other, drop-set-lt}
use Rattle.std.proofs.Math.ListN.{get_or-eq_default}
use Rattle.std.proofs.lemmas.List.{set-get_or}
use Rattle.lists.specs.Lists.{all_pass, any_of}
use Rattle.lists.specs.Tests.{side}
use Rattle.table.specs.ChecksLaws.{limits}
use Rattle.table.specs.Codewords.{IsCodeword}
use Rattle.table.specs.FirstCause.{first_cause}
use Rattle.table.specs.Packets.{packets, Codeword as SumsToZero}
use Rattle.table.specs.TableLaws.{within}
use Rattle.table.specs.Table.{most_places, most_bytes, most_checks, most_weight, most_ones, places, size, at_size, number, weights, ones_count, total, cut_up, checks, rising, outside, too_short, beyond_limits, bad_lengths, bad_places, table_causes, refusal}

-- a table at its own size
pub at-own-size : (t : List ℕ) → at_size (size t) t ≡ t
at-own-size t = set-get_or t 2 0

module _ (s : ℕ) (t : List ℕ) where
  -- the numbers but for the size, and those behind it
  other : (i : ℕ) → (i ≡ 2 → ⊥) → get_or (at_size s t) i 0 ≡ get_or t i 0
  other i h = get_or-set_other t 2 i s 0 h

  behind : (k : ℕ) → 2 < k → drop k (at_size s t) ≡ drop k t
  behind k h = drop-set-lt k t 2 s h

  -- ---- the parts
  pub size-at : 3 ≤ length t → size (at_size s t) ≡ s
  size-at h = get_or-set_same t 2 s 0 (omega arith)

  pub places-at : places (at_size s t) ≡ places t
  places-at = other 1 (λ e. omega arith)

  pub number_at : number (at_size s t) ≡ number t
  number_at = other 3 (λ e. omega arith)

  weights-at : weights (at_size s t) ≡ weights t
  weights-at = ap₂ take number_at (behind 4 (omega arith))

  ones-at : ones_count (at_size s t) ≡ ones_count t
  ones-at = ap (λ (m : ℕ). get_or (at_size s t) (4 + m) 0) number_at ∙ other (4 + number t) (λ e. omega arith)

  pub checks-at : checks (at_size s t) ≡ checks t
  checks-at = ap₂ cut_up weights-at (ap (λ (m : ℕ). drop (5 + m) (at_size s t)) number_at ∙ behind (5 + number t) (omega arith))

  -- ---- the causes
  short-at : too_short (at_size s t) ≡ too_short t
  short-at = ap (λ (l : ℕ). ltb l 5) (length-set t 2 s)

  lengths-at : bad_lengths (at_size s t) ≡ bad_lengths t
  lengths-at =
      ap₂ (λ (l m : ℕ). ltb l (5 + m) || (any_of (ltb most_weight) (weights (at_size s t)) || (ltb most_ones (ones_count (at_size s t))
      || (not (eqb (ones_count (at_size s t)) (total (weights (at_size s t)))) || not (eqb l (5 + m + ones_count (at_size s t))))))) (length-set t 2 s) number_at
      ∙ ap₂ (λ (ws : List ℕ) (o : ℕ). ltb (length t) (5 + number t) || (any_of (ltb most_weight) ws || (ltb most_ones o
      || (not (eqb o (total ws)) || not (eqb (length t) (5 + number t + o)))))) weights-at ones-at

  bad-at : bad_places (at_size s t) ≡ bad_places t
  bad-at = ap₂ (λ (n : ℕ) (cs : List (List ℕ)). not (all_pass (rising n 0) cs)) places-at checks-at

  -- a size within its limits stands in the table
  has-size : outside most_bytes (size t) ≡ false → 3 ≤ length t
  has-size h = ⊎_elim (λ l. omega arith) (λ l. absurd (true≢false (sym (ap (outside most_bytes) (get_or-eq_default t 0 l)) ∙ h))) (side 2 (length t))

  module _ (own : outside most_bytes (size t) ≡ false) (given : outside most_bytes s ≡ false) where
    limits-at : beyond_limits (at_size s t) ≡ beyond_limits t
    limits-at = ap₂ ◌||◌ (ap (λ (x : ℕ). not (eqb x 2)) (other 0 (λ e. omega arith)))
        (ap₂ ◌||◌ (ap (outside most_places) places-at)
        (ap₂ ◌||◌ (ap (outside most_bytes) (size-at (has-size own)) ∙ given ∙ sym own) (ap (ltb most_checks) number_at)))

    pub causes-at : table_causes (at_size s t) ≡ table_causes t
    causes-at =
        ap₂ (λ (a b : Bool). (a, 1) ∷ (b, 2) ∷ (bad_lengths (at_size s t), 3) ∷ (bad_places (at_size s t), 4) ∷ []) short-at limits-at
        ∙ ap₂ (λ (c d : Bool). (too_short t, 1) ∷ (beyond_limits t, 2) ∷ (c, 3) ∷ (d, 4) ∷ []) lengths-at bad-at

    -- for every table, accepted or not
    pub refusal-at : refusal (at_size s t) ≡ refusal t
    refusal-at = ap first_cause causes-at

  -- ---- an accepted table
  module _ (ok : refusal t ≡ 0) where
    long : 3 ≤ length t
    long = let l = (limits t ok).long in omega arith

    pub accepted-at : outside most_bytes s ≡ false → refusal (at_size s t) ≡ 0
    accepted-at h = let l = limits t ok in refusal-at (within most_bytes (size t) l.some_bytes l.few_bytes) h ∙ ok

    -- its codewords at that size
    pub codeword-at : (b : List ℕ) → IsCodeword (at_size s t) b ↔ ((length b ≡ places t * s) × SumsToZero s (checks t) (packets s (places t) b))
    codeword-at b =
        let e : places (at_size s t) * size (at_size s t) ≡ places t * s = ap₂ ◌*◌ places-at (size-at long) in (
          λ c. (c.size_fits ∙ e, rw (size-at long, places-at, checks-at) at c.sums),
          λ h. record { size_fits = h.0 ∙ sym e; sums = rw (size-at long, places-at, checks-at) h.1 },
        )
