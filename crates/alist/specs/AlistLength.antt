-- No accepted table's text has more than 1,200,000 bytes.
use Rattle.std.specs.Prelude.{◌≡◌, refl, Bool, true, List, [], ◌∷◌, ◌++◌, map, ℕ, zero, suc, ◌+◌, ◌-◌, ◌*◌, ◌≤◌, length, get_or, replicate}
use Rattle.std.proofs.Common.{sym, ap, ap₂, ◌∙◌, subst, append_assoc, append-nil, mul-le-mul, suc-mul, arith, length-append}
use Rattle.std.proofs.lemmas.Simd.{map-map}
use Rattle.std.proofs.lemmas.List.{length-map}
use Rattle.std.proofs.Math.Seq.{get_or-append_seam}
use Rattle.lists.specs.ListLaws.{all_of, map-all, map_same, pass_all}
use Rattle.lists.specs.Lists.{All, All.nil, All.cons, count, filter, from, has}
use Rattle.lists.specs.Tests.{by_bool}
use Rattle.table.specs.ChecksLaws.{limits}
use Rattle.table.specs.Table.{places, checks, ones, total, rising, refusal}
use Rattle.table.specs.TableLaws.{accepted}
use Rattle.making.specs.ReadBack.{total-weights}
use Rattle.making.specs.Sorted.{sorted_back}
use Rattle.numerals.specs.NumeralLaws.{decimal-few}
use Rattle.numerals.specs.Numerals.{decimal}
use Rattle.alist.specs.Alist.{greatest}
use Rattle.alist.specs.AlistLaws.{greatest-most}
use Rattle.alist.specs.AlistText.{number_line, number_lines, column_of, columns_of, rows_of, padded, padded_all, alist_lines, alist_text}
use Rattle.alist.specs.Columns.{columns-count, rows-count}
use Rattle.alist.specs.Parts.{longest}
use Rattle.alist.specs.Small.{Small, columns_in, rows_in, columns-light, rows-light, columns-small, rows-small, lines-small}

-- the longest text
abbrev pub most_alist : ℕ
most_alist = 1200000

-- ---- lines
-- a number more
line-cons : (x : ℕ) (l : List ℕ) → length (number_line (x ∷ l)) ≤ length (decimal x) + 1 + length (number_line l)
line-cons x [] = simp length-append (omega arith)
line-cons x (y ∷ l) = simp length-append (omega arith)

-- zeros; numbers of at most four digits, and zeros behind them
zeros-most : (k : ℕ) → length (number_line (replicate k 0)) ≤ 2 * k + 1
zeros-most zero = omega arith
zeros-most (suc k) = let c = line-cons 0 (replicate k 0) in let d = decimal-few 0 0 (omega arith) in let i = zeros-most k in omega arith

line-most : (k : ℕ) {l : List ℕ} → All Small l → length (number_line (l ++ replicate k 0)) ≤ 5 * length l + 2 * k + 1
line-most k nil = let z = zeros-most k in omega arith
line-most k (cons {x = x} {l = l} h a) = let c = line-cons x (l ++ replicate k 0) in let d = decimal-few 3 x (omega arith) in let i = line-most k a in omega arith

-- without zeros
numbers-most : {l : List ℕ} → All Small l → length (number_line l) ≤ 5 * length l + 1
numbers-most {l} a =
    let h : length (number_line l) ≤ 5 * length l + 2 * 0 + 1 = subst (λ x. length (number_line x) ≤ 5 * length l + 2 * 0 + 1) (append-nil l) (line-most 0 a) in
    omega arith

-- padded lists
padded-most : (most : ℕ) {ls : List (List ℕ)} → All (λ l. length l ≤ most) ls → All (All Small) ls
    → length (number_lines (map (padded most) ls)) ≤ 3 * ones ls + 2 * (length ls * most) + length ls
padded-most most nil nil = omega arith
padded-most most (cons {x = l} {l = ls} h a) (cons s b) =
    let c = line-most (most - length l) s in
    let i = padded-most most a b in
    let e = suc-mul (length ls) most in
    simp length-append (omega arith)

-- four lines, and two parts
lines-append : (a b : List (List ℕ)) → number_lines (a ++ b) ≡ number_lines a ++ number_lines b
lines-append [] b = refl
lines-append (l ∷ a) b = ap (λ x. number_line l ++ x) (lines-append a b) ∙ sym (append_assoc (number_line l) (number_lines a) (number_lines b))

lines-length : (a b c d : List ℕ) (p q : List (List ℕ)) → length (number_lines (a ∷ b ∷ c ∷ d ∷ (p ++ q)))
    ≡ length (number_line a) + (length (number_line b) + (length (number_line c) + (length (number_line d) + (length (number_lines p) + length (number_lines q)))))
lines-length a b c d p q = rw (lines-append p q) (simp length-append)

-- ---- the columns have as many ones as the rows
-- the rows that pass a test, by their numbers
filter-count : (f : List ℕ → Bool) (before cs : List (List ℕ))
    → length (filter (λ r. f (get_or (before ++ cs) r [])) (from (length before) (length cs))) ≡ count f cs
unfolding from
filter-count f before [] = refl
filter-count f before (c ∷ cs) =
    let here : get_or (before ++ (c ∷ cs)) (length before) [] ≡ c = get_or-append_seam before c cs [] in
    let long : length (before ++ (c ∷ [])) ≡ suc (length before) = simp length-append (omega arith) in
    let rest : length (filter (λ r. f (get_or (before ++ (c ∷ cs)) r [])) (from (suc (length before)) (length cs))) ≡ count f cs =
    ap₂ (λ x i. length (filter (λ r. f (get_or x r [])) (from i (length cs)))) (sym (append_assoc before (c ∷ []) cs)) (sym long) ∙ filter-count f (before ++ (c ∷ [])) cs in
    by_bool (f c)
    (λ e. rw (here, e, count) (ap suc rest))
    (λ e. rw (here, e, count) rest)

-- a check more
counts-more : (c : List ℕ) (cs : List (List ℕ)) (ps : List ℕ)
    → total (map (λ p. count (has p) (c ∷ cs)) ps) ≡ length (filter (λ p. has p c) ps) + total (map (λ p. count (has p) cs) ps)
counts-more c cs [] = refl
counts-more c cs (p ∷ ps) = let i = counts-more c cs ps in by_bool (has p c) (λ e. rw (e, count) (omega arith)) (λ e. rw (e, count) (omega arith))

no-counts : (ps : List ℕ) → total (map (λ p. count (has p) []) ps) ≡ 0
no-counts [] = refl
no-counts (p ∷ ps) = let i = no-counts ps in omega arith

-- the places below n in all checks
all-counts : (n : ℕ) {cs : List (List ℕ)} → All (λ c. rising n 0 c ≡ true) cs → total (map (λ p. count (has p) cs) (from 0 n)) ≡ ones cs
all-counts n nil = no-counts (from 0 n)
all-counts n (cons {x = c} {l = cs} r a) = counts-more c cs (from 0 n) ∙ ap₂ ◌+◌ (ap length (sorted_back n c r)) (all-counts n a)

columns-ones : (n : ℕ) {cs : List (List ℕ)} → All (λ c. rising n 0 c ≡ true) cs → ones (columns_of n cs) ≡ ones cs
columns-ones n {cs} a =
    let weight : (p : ℕ) → length (column_of cs p) ≡ count (has p) cs =
    λ p. length-map (filter (λ r. has p (get_or cs r [])) (from 0 (length cs))) suc ∙ filter-count (has p) [] cs in
    sym (total-weights (columns_of n cs))
    ∙ ap total (map-map length (column_of cs) (from 0 n) ∙ map_same (λ p. length (column_of cs p)) (λ p. count (has p) cs) (all_of weight (from 0 n)))
    ∙ all-counts n a

rows-ones : (cs : List (List ℕ)) → ones (rows_of cs) ≡ ones cs
rows-ones [] = refl
rows-ones (c ∷ cs) = ap₂ ◌+◌ (length-map c suc) (rows-ones cs)

-- ---- the text
pub alist-most : (t : List ℕ) → refusal t ≡ 0 → length (alist_text t) ≤ most_alist
unfolding alist_text
alist-most t ok = whole (lines-small t ok)
  where
    whole : All (All Small) (alist_lines (places t) (columns_in t) (rows_in t)) → length (alist_text t) ≤ most_alist
    whole (cons sizes (cons weights (cons columns (cons rows lists)))) =
        let g = accepted t ok in
        let a = greatest (map length (columns_in t)) in
        let b = greatest (map length (rows_in t)) in
        let n = columns-count (places t) (checks t) in
        let m = rows-count (places t) (checks t) in
        let i = columns-ones (places t) (pass_all (rising (places t) 0) (checks t) (limits t ok).rises) in
        let j = rows-ones (checks t) in
        let p : length (columns_in t) * a ≤ 1024 * 512 = mul-le-mul {n₂ = 1024} {m₂ = 512} (omega (arith, g.few-places)) (greatest-most 512 (map-all length (columns-light t ok))) in
        let q : length (rows_in t) * b ≤ 512 * 64 = mul-le-mul {n₂ = 512} {m₂ = 64} (omega (arith, g.few-checks)) (greatest-most 64 (map-all length (rows-light t ok))) in
        let l1 = numbers-most sizes in
        let l2 = numbers-most weights in
        let l3 = numbers-most columns in
        let l4 = numbers-most rows in
        let l5 = padded-most a (longest (columns_in t)) (columns-small t ok) in
        let l6 = padded-most b (longest (rows_in t)) (rows-small t ok) in
        let w : length (map length (columns_in t)) ≡ length (columns_in t) = length-map (columns_in t) length in
        let v : length (map length (rows_in t)) ≡ length (rows_in t) = length-map (rows_in t) length in
        let e = lines-length (places t ∷ length (rows_in t) ∷ []) (a ∷ b ∷ []) (map length (columns_in t)) (map length (rows_in t)) (padded_all (columns_in t)) (padded_all (rows_in t)) in
        omega (arith, g.few-places, g.few-checks, g.few_ones)
