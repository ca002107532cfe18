-- When a board is blank.
use Rattle.std.specs.Prelude.{◌≡◌, Bool, false, List, ℕ, ◌+◌, ◌*◌, ◌/◌, ◌%◌, ◌<◌, get_or}
use Rattle.std.proofs.Common.{ap, ◌∙◌, arith}
use Rattle.lists.specs.Lists.{bxor}
use Rattle.lists.specs.Tests.{bxor-comm, bxor-self}
use Rattle.gf2.specs.Bit.{bit-zero}
use Rattle.gf2.specs.Gf2.{bit}
use Rattle.bits.specs.RowLaws.{row-bit}
use Rattle.tiles.specs.Board.{Blank, Flips}

-- words of 0 are a blank board
pub words-blank : (w : List ℕ) → ((k : ℕ) → k < 16384 → get_or w k 0 ≡ 0) → Blank w
words-blank w z i q a b = row-bit w i q b ∙ ap (bit (q % 64)) (z (i * 16 + q / 64) (omega arith)) ∙ bit-zero (q % 64)

-- marked and unmarked
pub blank-again : {w e u : List ℕ} {f : ℕ → ℕ → Bool} → Blank w → Flips w f e → Flips e f u → Blank u
blank-again {w} {e} {u} {f} z p n i q a b = n.each i q a b ∙ ap (bxor (f i q)) (p.each i q a b ∙ ap (bxor (f i q)) (z i q a b) ∙ bxor-comm (f i q) false) ∙ bxor-self (f i q)
