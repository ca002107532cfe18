-- The tests of the parameters, one after the other, and what they mean together.
use Rattle.std.specs.Prelude.{◌≡◌, true, false, ℕ, ◌-◌, ◌<◌, ◌≤◌, eqb, ltb, leb}
use Rattle.std.proofs.Common.{arith, ltb-false, leb-false, lt-ltb, le-ltb, le-leb, eq-eqb, ne_eqb}
use Rattle.std.proofs.lemmas.Bool.{eqb-false, lt-leb}
use Rattle.lists.specs.Tests.{or-false-l, or-false-r}
use Rattle.draws.specs.Generator.{modulus}
use Rattle.staircase.specs.Staircase.{least_per_column, most_per_column, most_seed, bad_parameters}

-- parameters that pass
pub record Fine (k n ones seed : ℕ) : Type 0 where
  pub some-sources : 0 < k
  pub above : k < n
  pub few : ones ≤ most_per_column
  pub seed-low : seed < modulus

pub fine : (k n ones seed : ℕ) → bad_parameters k n ones seed ≡ false → Fine k n ones seed
fine k n ones seed e =
    let e2 = or-false-r (eqb k 0) _ e in
    let e3 = or-false-r (leb n k) _ e2 in
    let e4 = or-false-r (ltb ones least_per_column) _ e3 in
    let e5 = or-false-r (ltb most_per_column ones) _ e4 in
    let e6 = or-false-r (ltb (n - k) ones) _ e5 in
    let a = eqb-false k 0 (or-false-l (eqb k 0) _ e) in
    let s = ltb-false most_seed seed (or-false-r (eqb seed 0) _ e6) in
    record {
      some-sources = positive a;
      above = leb-false n k (or-false-l (leb n k) _ e2);
      few = ltb-false most_per_column ones (or-false-l (ltb most_per_column ones) _ e4);
      seed-low = omega arith;
    }
  where
    positive : (k ≡ 0 → ⊥) → 0 < k
    positive f = omega arith

module _ (k n ones seed : ℕ) where
  pub no_source : k ≡ 0 → true ≡ bad_parameters k n ones seed
  no_source e = rw (eq-eqb k 0 e)

  module _ (some : k ≡ 0 → ⊥) where
    pub not-above : n ≤ k → true ≡ bad_parameters k n ones seed
    not-above e = rw (ne_eqb k 0 some, le-leb n k e)

    module _ (above : k < n) where
      pub too_few : ones < least_per_column → true ≡ bad_parameters k n ones seed
      too_few e = rw (ne_eqb k 0 some, lt-leb n k above, lt-ltb ones least_per_column e)

      module _ (least : least_per_column ≤ ones) where
        pub too_many : most_per_column < ones → true ≡ bad_parameters k n ones seed
        too_many e = rw (ne_eqb k 0 some, lt-leb n k above, le-ltb ones least_per_column least, lt-ltb most_per_column ones e)

        module _ (most : ones ≤ most_per_column) where
          pub over-checks : n - k < ones → true ≡ bad_parameters k n ones seed
          over-checks e = rw (ne_eqb k 0 some, lt-leb n k above, le-ltb ones least_per_column least, le-ltb most_per_column ones most, lt-ltb (n - k) ones e)

          module _ (room : ones ≤ n - k) where
            pub seed-zero : seed ≡ 0 → true ≡ bad_parameters k n ones seed
            seed-zero e = rw (ne_eqb k 0 some, lt-leb n k above, le-ltb ones least_per_column least, le-ltb most_per_column ones most, le-ltb (n - k) ones room, eq-eqb seed 0 e)

            pub seed-decides : (seed ≡ 0 → ⊥) → ltb most_seed seed ≡ bad_parameters k n ones seed
            seed-decides e = rw (ne_eqb k 0 some, lt-leb n k above, le-ltb ones least_per_column least, le-ltb most_per_column ones most, le-ltb (n - k) ones room, ne_eqb seed 0 e)
