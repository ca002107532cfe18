-- Checks that pass the makers' tests make a table that is accepted.
use Rattle.std.specs.Prelude.{◌≡◌, true, false, List, ℕ, ◌≤◌, eqb, ltb, length}
use Rattle.std.proofs.Common.{arith, ltb-false}
use Rattle.std.proofs.lemmas.Bool.{eqb-false}
use Rattle.lists.specs.ListLaws.{all_map, none_any}
use Rattle.lists.specs.Lists.{any_of, All}
use Rattle.lists.specs.Tests.{or-false-l, or-false-r}
use Rattle.table.specs.Table.{ones, rising, outside, beyond}
use Rattle.making.specs.WrittenAccepted.{Fits}
use Rattle.making.specs.Making.{too_heavy}

-- not 0
some_of : (x : ℕ) → eqb x 0 ≡ false → 1 ≤ x
some_of x e = let z = eqb-false x 0 e in omega arith

-- no weight over the limit
light-all : (cs : List (List ℕ)) → any_of (λ c. ltb 64 (length c)) cs ≡ false → All (λ c. length c ≤ 64) cs
light-all cs h = all_map (λ c e. ltb-false 64 (length c) e) (none_any (λ c. ltb 64 (length c)) cs h)

-- n, s and m within their limits
pub record Inside (n s m : ℕ) : Type 0 where
  pub some-places : 1 ≤ n
  pub few-places : n ≤ 1024
  pub some_bytes : 1 ≤ s
  pub few_bytes : s ≤ 1024
  pub few-checks : m ≤ 512

pub inside : (n s m : ℕ) → beyond n s m ≡ false → Inside n s m
inside n s m b =
    let n_in = or-false-l (outside 1024 n) _ b in
    let rest = or-false-r (outside 1024 n) _ b in
    let s_in = or-false-l (outside 1024 s) _ rest in
    record {
      some-places = some_of n (or-false-l (eqb n 0) _ n_in);
      few-places = ltb-false 1024 n (or-false-r (eqb n 0) _ n_in);
      some_bytes = some_of s (or-false-l (eqb s 0) _ s_in);
      few_bytes = ltb-false 1024 s (or-false-r (eqb s 0) _ s_in);
      few-checks = ltb-false 512 m (or-false-r (outside 1024 s) _ rest);
    }

-- the tests passed, and ascending places: within the limits
pub fits-from : (n s : ℕ) (cs : List (List ℕ)) → beyond n s (length cs) ≡ false → too_heavy cs ≡ false → All (λ c. rising n 0 c ≡ true) cs → Fits n s cs
fits-from n s cs b h r =
    let i = inside n s (length cs) b in
    record {
      some-places = i.some-places;
      few-places = i.few-places;
      some_bytes = i.some_bytes;
      few_bytes = i.few_bytes;
      few-checks = i.few-checks;
      few_ones = ltb-false 6144 (ones cs) (or-false-r (any_of (λ c. ltb 64 (length c)) cs) _ h);
      light = light-all cs (or-false-l (any_of (λ c. ltb 64 (length c)) cs) _ h);
      rises = r;
    }
