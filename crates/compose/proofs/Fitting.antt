-- The fitted places in their buffer, and the steps by rows of the inverse: those of the rule.
use mathlib.Core.Path.{◌≡◌, refl, ap, ap₂}
use mathlib.Core.Bool.{Bool}
use mathlib.Core.List.{List, [], ◌++◌}
use Prim.Native.Nat.{ℕ, zero, suc, ◌+◌, ◌<◌, ◌≤◌}
use native.Mathlib.Omega.{arith}
use lib.ListN.{length, get_or, take, drop}
use lib.Seq.{get_or-take, drop-cons, length-take-le}
use Rattle.gf2.specs.Gf2.{column}
use Rattle.gf2.specs.GreedyLaws.{all-choose}
use Rattle.lists.specs.ListLaws.{all-rev, all-at, below_of, all_filter}
use Rattle.lists.specs.Lists.{All}
use Rattle.rule.specs.Buffers.{mask_bits, Fitted}
use Rattle.rule.specs.Rule.{Solved, clear_and_add, slots_named, fitting_steps, fitted_places, reduced}
use Rattle.emit.specs.Emit.{fitting_rows, Below}

fitted-all : (n : ℕ) (ts : List Solved) (az : List (List ℕ)) → All (λ p. p < n) (fitted_places n ts az)
fitted-all n ts az = all-rev (all-choose (column (reduced ts az)) [] (all_filter _ (below_of n (λ p h. h))))

pub fitted-low : {n : ℕ} {T : List Solved} {Z : List (List ℕ)} {g : ℕ} {fitted rows : List ℕ} → Fitted n T Z g fitted rows → Below n fitted g
fitted-low {n} {T} {Z} {g} {fitted} f =
    let l = length-take-le g fitted f.room.0 in
    record {
      room = f.room.0;
      each = λ i h. rw (← get_or-take g fitted i 0 h, f.places) (all-at 0 (fitted-all n T Z) i (let e = ap length f.places in omega arith));
    }

-- the rows are those of the inverse
pub fitting-is : (n g : ℕ) (fitted rows : List ℕ) (inv : ℕ → List Bool) (j c : ℕ) → j + c ≤ length fitted
    → ((i : ℕ) → i < j + c → mask_bits g (get_or rows i 0) ≡ inv (get_or fitted i 0)) → fitting_rows n g fitted rows j c ≡ fitting_steps n inv (take c (drop j fitted))
unfolding fitting_rows
fitting-is n g fitted rows inv j zero r h = refl
fitting-is n g fitted rows inv j (suc c) r h =
    let f = get_or fitted j 0 in
    rw (drop-cons fitted j 0 (omega arith)) (ap₂ (λ m s. clear_and_add f (slots_named n m) ++ s) (h j (omega arith)) (fitting-is n g fitted rows inv (suc j) c (omega arith) (λ i l. h i (omega arith))))
