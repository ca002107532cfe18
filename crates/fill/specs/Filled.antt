-- fill_gives: at least N1 ones in each source column, and at least two source places in each row.
use Rattle.std.specs.Prelude.{◌≡◌, List, [], map, ℕ, zero, suc, ◌*◌, ◌%◌, ◌<◌, ◌≤◌, length, get_or, replicate}
use Rattle.std.proofs.Common.{◌∙◌, mod-lt, arith}
use Rattle.std.proofs.Math.Option.{some}
use Rattle.std.proofs.lemmas.List.{length-replicate, length-map}
use Rattle.lists.specs.Lists.{Distinct.dnil, has, All, All.nil, All.cons, count, from}
use Rattle.lists.specs.Numbers.{from-length}
use Rattle.fill.specs.Columns.{columns-give}
use Rattle.fill.specs.Fill.{State, columns, extras, start, fill}
use Rattle.fill.specs.Good.{Good, both}
use Rattle.fill.specs.PutLaws.{Row}
use Rattle.fill.specs.Rows.{extras-give}

-- what the filled left side is: m rows of different source places, N1 ones or more in each column, two or more in each row
pub record Filled (k m ones : ℕ) (rows : List (List ℕ)) : Type 0 where
  pub long : length rows ≡ m
  pub each : All (Row k) rows
  pub column-ones : (j : ℕ) → j < k → ones ≤ count (has j) rows
  pub row-ones : (i : ℕ) → i < m → 2 ≤ length (get_or rows i [])

-- the start
pub start-good : (k m entries seed draws : ℕ) → 0 < m → Good k m entries (start m entries seed draws)
unfolding from
start-good k m entries seed draws h = record { long = length-replicate m []; each = empties m; low = below 0 entries; whole = length-map (from 0 entries) _ ∙ from-length 0 entries; within = omega arith }
  where
    empties : (c : ℕ) → All (Row k) (replicate c [])
    empties zero = nil
    empties (suc c) = cons (dnil, nil) (empties c)

    below : (i c : ℕ) → All (λ x. x < m) (map (λ p. p % m) (from i c))
    below i zero = nil
    below i (suc c) = cons (mod-lt i h) (below (suc i) c)

-- what the fill gives
pub fill_gives : (k m ones seed draws : ℕ) (r : State) → 0 < k → 0 < m → fill k m ones seed draws ≡ some r → Filled k m ones r.rows
fill_gives k m ones seed draws r hk hm e =
    both (columns (ones * k) m ones 0 k (start m (ones * k) seed draws)) (λ s. extras k 0 m s) e
    (λ t a b.
    let f = columns-give k m (ones * k) ones 0 k (start m (ones * k) seed draws) t hm (omega arith) (start-good k m (ones * k) seed draws hm) a in
    let g = extras-give k m (ones * k) 0 m t r hk (omega arith) f.0 b in
    record {
      long = g.0.long;
      each = g.0.each;
      column-ones = λ j h. let x = f.1.1 j (omega arith) (omega arith) in let y = g.1.0.columns-keep j in omega arith;
      row-ones = λ i h. g.1.1 i (omega arith) (omega arith);
    })
