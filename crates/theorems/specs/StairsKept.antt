-- Every check of a staircase is kept: its last place lies in no check before it.
use Rattle.std.specs.Prelude.{◌≡◌, refl, true, false, List, [], ◌∷◌, ◌++◌, ℕ, zero, suc, ◌+◌, ◌<◌, ◌≤◌}
use Rattle.std.proofs.Common.{ap, ◌∙◌, arith}
use Rattle.lists.specs.ListLaws.{has-par, all_map}
use Rattle.lists.specs.Lists.{has, par, All, All.nil, All.cons}
use Rattle.lists.specs.Tests.{eqb-self, eqb-gt}
use Rattle.gf2.specs.EchelonLaws.{no-sum}
use Rattle.gf2.specs.Gf2.{bit, is_zero, choose, xor_group, row_of, is_sum}
use Rattle.gf2.specs.Places.{bit-row}
use Rattle.staircase.specs.Stairs.{stair, stairs_from, staircase}
use Rattle.rule.specs.Rule.{kept}

-- every place of the left side is a source place
abbrev pub Sources : ℕ → List (List ℕ) → Type 0
Sources k ls = All (λ l. All (λ p. p < k) l) ls

-- the places of a check below its own
pub has-stair : (k i q : ℕ) {l : List ℕ} → All (λ p. p < k) l → k + i < q → has q (l ++ stair k i) ≡ false
has-stair k zero q nil h = rw (eqb-gt q (k + 0) h)
has-stair k (suc i) q nil h = rw (eqb-gt q (k + i) (omega arith), eqb-gt q (k + suc i) h)
has-stair k i q (cons {x = p} g a) h = rw (eqb-gt q p (omega arith)) (has-stair k i q a h)

-- check i has place k + i ..
pub has-own : (k i : ℕ) {l : List ℕ} → All (λ p. p < k) l → has (k + i) (l ++ stair k i) ≡ true
has-own k zero nil = rw (eqb-self (k + 0))
has-own k (suc i) nil = rw (eqb-gt (k + suc i) (k + i) (omega arith), eqb-self (k + suc i))
has-own k i (cons {x = p} g a) = rw (eqb-gt (k + i) p (omega arith)) (has-own k i a)

-- .. once
par-own : (k i : ℕ) {l : List ℕ} → All (λ p. p < k) l → par (k + i) (l ++ stair k i) ≡ true
par-own k zero nil = rw (eqb-self (k + 0))
par-own k (suc i) nil = rw (eqb-gt (k + suc i) (k + i) (omega arith), eqb-self (k + suc i))
par-own k i (cons {x = p} g a) = rw (eqb-gt (k + i) p (omega arith)) (par-own k i a)

-- the rows before check i have no place from k + i on
abbrev Before : ℕ → ℕ → List ℕ → Type 0
Before k i K = All (λ r. (q : ℕ) → k + i ≤ q → bit q r ≡ false) K

-- the checks from number i on are kept after such rows
keep-from : (k i : ℕ) (K : List ℕ) {ls : List (List ℕ)} → Sources k ls → Before k i K → choose xor_group is_zero row_of K (stairs_from k i ls) ≡ stairs_from k i ls
keep-from k i K nil b = refl
keep-from k i K (cons {x = l} {l = ls} s ss) b =
    let c = l ++ stair k i in
    let e : is_sum xor_group is_zero K (row_of c) ≡ false = no-sum (k + i) (all_map (λ r f. f (k + i) (omega arith)) b) (row_of c) (bit-row (k + i) c ∙ par-own k i s) in
    rw (e, choose) (ap (λ x. c ∷ x) (keep-from k (suc i) (row_of c ∷ K) ss
    (cons (λ q h. bit-row q c ∙ has-par q c (has-stair k i q s (omega arith))) (all_map (λ r f q h. f q (omega arith)) b))))

-- all checks of a staircase are kept
pub all-kept : (k : ℕ) {ls : List (List ℕ)} → Sources k ls → kept (staircase k ls) ≡ staircase k ls
all-kept k s = keep-from k 0 [] s nil
