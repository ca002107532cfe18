-- How long an accepted table is.
use mathlib.Core.Path.{◌≡◌, refl, sym}
use mathlib.Core.List.{List}
use Prim.Native.Nat.{ℕ, ◌+◌, ◌*◌, ◌≤◌}
use native.Mathlib.Omega.{arith}
use lib.ListN.{length, take, replicate}
use Rattle.table.specs.BufferLaws.{part-of-same}
use Rattle.table.specs.Accepted.{Accepted, few_words, has-weights, words}
use Rattle.table.specs.Table.{refusal, number, places, size}

pub record Long (t : List ℕ) : Type 0 where
  pub most : length t ≤ 6661
  pub head : 5 ≤ length t
  pub weights : 5 + number t ≤ length t

pub long : (t : List ℕ) → refusal t ≡ 0 → Long t
long t h =
    let k : Accepted t (number t) (places t) (size t) = record { accepted = h; number_is = refl; places-are = refl; size_is = refl } in
    record {
      most = few_words t _ _ _ k;
      head = words t 0 (sym h) refl;
      weights = has-weights t _ _ _ k;
    }

-- the part of a file's buffer that its bytes take
pub file-part : (t : List ℕ) (v : ℕ) → refusal t ≡ 0 → 2 * length t ≡ length (take (2 * length t) (replicate 13322 v))
file-part t v h = let l = (long t h).most in part-of-same (2 * length t) 13322 v (omega arith)
