-- What is read of a written table: n, s and the checks come back.
use Rattle.std.specs.Prelude.{◌≡◌, refl, List, [], ◌∷◌, ◌++◌, map, ℕ, ◌+◌, length, drop}
use Rattle.std.proofs.Common.{sym, ap, ap₂, ◌∙◌, append_assoc, arith, length-append, take_at, drop_at, get_or-append-add}
use Rattle.std.proofs.lemmas.List.{length-map, get_or_at}
use Rattle.table.specs.Table.{places, size, number, weights, ones_count, total, cut_up, checks, ones}
use Rattle.making.specs.Written.{flat, tail, table_of}

-- as many places as ones
pub flat-length : (cs : List (List ℕ)) → length (flat cs) ≡ ones cs
flat-length [] = refl
flat-length (c ∷ cs) = length-append c (flat cs) ∙ ap (λ x. length c + x) (flat-length cs)

-- the weights sum to the ones
pub total-weights : (cs : List (List ℕ)) → total (map length cs) ≡ ones cs
total-weights [] = refl
total-weights (c ∷ cs) = ap (λ x. length c + x) (total-weights cs)

-- the places, cut up by the weights, are the checks
pub cut-flat : (cs : List (List ℕ)) → cut_up (map length cs) (flat cs) ≡ cs
cut-flat [] = refl
cut-flat (c ∷ cs) = ap₂ ◌∷◌ (take_at c (flat cs) (length c) refl) (ap (cut_up (map length cs)) (drop_at c (flat cs) (length c) refl) ∙ cut-flat cs)

module _ (n s : ℕ) (cs : List (List ℕ)) where
  -- the first four numbers
  abbrev head : List ℕ
  head = 2 ∷ n ∷ s ∷ length cs ∷ []

  -- n
  pub places-back : places (table_of n s cs) ≡ n
  places-back = refl

  -- s
  pub size_back : size (table_of n s cs) ≡ s
  size_back = refl

  -- m
  pub number-back : number (table_of n s cs) ≡ length cs
  number-back = refl

  -- the weights
  pub weights-back : weights (table_of n s cs) ≡ map length cs
  weights-back = take_at (map length cs) (ones cs ∷ flat cs) (length cs) (length-map cs length)

  -- W0
  pub ones-back : ones_count (table_of n s cs) ≡ ones cs
  ones-back = get_or-append-add head (tail cs) (length cs) 0 ∙ get_or_at (map length cs) (ones cs) (flat cs) 0 (length cs) (length-map cs length)

  -- the places
  pub flat_back : drop (5 + length cs) (table_of n s cs) ≡ flat cs
  flat_back = let m : length (map length cs) ≡ length cs = length-map cs length in
      ap (drop (5 + length cs)) (ap (λ l. head ++ l) (sym (append_assoc (map length cs) (ones cs ∷ []) (flat cs))))
      ∙ drop_at (head ++ (map length cs ++ (ones cs ∷ []))) (flat cs) (5 + length cs) (simp length-append (omega arith))

  -- the checks
  pub checks-back : checks (table_of n s cs) ≡ cs
  checks-back = ap₂ cut_up weights-back flat_back ∙ cut-flat cs

  -- the length
  pub length-written : length (table_of n s cs) ≡ 5 + length cs + ones cs
  length-written = let m : length (map length cs) ≡ length cs = length-map cs length in let f = flat-length cs in
      let a = length-append (map length cs) (ones cs ∷ flat cs) in omega arith
