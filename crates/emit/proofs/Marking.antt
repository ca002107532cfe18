-- Marking one place after the other.
use mathlib.Core.Path.{◌≡◌, sym, ap, ap₂, ◌∙◌}
use mathlib.Core.List.{List, ◌∷◌}
use Prim.Native.Nat.{ℕ, ◌+◌, ◌<◌, ◌≤◌}
use native.Mathlib.Numerals.{add-one}
use lib.ListN.{length, get_or, set, drop, drop_of_length-le}
use lib.Seq.{drop-cons}
use Rattle.emit.specs.Emit.{marking}

pub marking-next : (m l : List ℕ) (i p : ℕ) → i < length l → p ≡ get_or l i 0 → marking m (drop i l) ≡ marking (set m p 1) (drop (i + 1) l)
unfolding marking
marking-next m l i p h q = ap (marking m) (drop-cons l i 0 h ∙ ap₂ (λ x k. x ∷ drop k l) (sym q) (sym (add-one i)))

pub marking-done : (m l : List ℕ) (i : ℕ) → length l ≤ i → marking m (drop i l) ≡ m
unfolding marking
marking-done m l i h = ap (marking m) (drop_of_length-le l h)
