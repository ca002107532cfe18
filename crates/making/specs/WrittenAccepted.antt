-- A written table is accepted if its checks are within the limits and ascend.
use Rattle.std.specs.Prelude.{◌≡◌, refl, Bool, true, false, cond, not, List, map, ℕ, ◌+◌, ◌≤◌, ltb, length}
use Rattle.std.proofs.Common.{sym, ap, ◌∙◌, arith, le-ltb, eq-eqb}
use Rattle.lists.specs.ListLaws.{all_pass_lem}
use Rattle.lists.specs.Lists.{all_pass, any_of, All, All.nil, All.cons}
use Rattle.lists.specs.Tests.{or-neither}
use Rattle.table.specs.TableLaws.{within}
use Rattle.table.specs.Table.{number, weights, ones_count, total, ones, rising, outside, too_short, beyond_limits, bad_lengths, bad_places, refusal}
use Rattle.making.specs.ReadBack.{weights-back, ones-back, checks-back, length-written, total-weights}
use Rattle.making.specs.Written.{table_of}

-- n, s and checks within document 01's limits, the places of each check ascending below n
pub record Fits (n s : ℕ) (cs : List (List ℕ)) : Type 0 where
  pub some-places : 1 ≤ n
  pub few-places : n ≤ 1024
  pub some_bytes : 1 ≤ s
  pub few_bytes : s ≤ 1024
  pub few-checks : length cs ≤ 512
  pub few_ones : ones cs ≤ 6144
  pub light : All (λ c. length c ≤ 64) cs
  pub rises : All (λ c. rising n 0 c ≡ true) cs

-- no weight over 64
light-any : {cs : List (List ℕ)} → All (λ c. length c ≤ 64) cs → any_of (ltb 64) (map length cs) ≡ false
light-any nil = refl
light-any (cons {x = c} h a) = rw (le-ltb 64 (length c) h) (light-any a)

-- no cause, no refusal
no-cause : (a b c d : Bool) → a ≡ false → b ≡ false → c ≡ false → d ≡ false → ◌≡◌ {A = ℕ} (cond a 1 (cond b 2 (cond c 3 (cond d 4 0)))) 0
no-cause a b c d e f g h = rw (e, f, g, h)

module _ (n s : ℕ) (cs : List (List ℕ)) (fits : Fits n s cs) where
  -- the written table
  abbrev t : List ℕ
  t = table_of n s cs

  -- none of cause 3
  lengths-good : bad_lengths t ≡ false
  lengths-good =
      let l = length-written n s cs in
      let w = ones-back n s cs in
      let v = ap total (weights-back n s cs) ∙ total-weights cs in
      or-neither _ _ (le-ltb (length t) (5 + number t) (omega arith))
      (or-neither _ _ (ap (any_of (ltb 64)) (weights-back n s cs) ∙ light-any fits.light)
      (or-neither _ _ (le-ltb 6144 (ones_count t) (omega arith))
      (or-neither _ _ (ap not (eq-eqb (ones_count t) (total (weights t)) (w ∙ sym v)))
      (ap not (eq-eqb (length t) (5 + number t + ones_count t) (omega arith))))))

  -- a table within the limits is accepted
  pub written-accepted : refusal t ≡ 0
  written-accepted =
      let l = length-written n s cs in
      no-cause (too_short t) (beyond_limits t) (bad_lengths t) (bad_places t)
      (le-ltb (length t) 5 (omega arith))
      (or-neither (outside 1024 n) _ (within 1024 n fits.some-places fits.few-places)
      (or-neither (outside 1024 s) _ (within 1024 s fits.some_bytes fits.few_bytes) (le-ltb 512 (length cs) fits.few-checks)))
      lengths-good
      (ap not (ap (all_pass (rising n 0)) (checks-back n s cs) ∙ all_pass_lem (rising n 0) fits.rises))
