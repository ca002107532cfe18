-- What is told of a lost place.
use Rattle.std.specs.Prelude.{◌≡◌, List, ℕ, cond}
use Rattle.bits.specs.Front.{Front}
use Rattle.decided.specs.Decided.{decided}
use Rattle.reasons.specs.Reasons.{Listed}
use Rattle.explain.specs.declared.Told.{Told}
use Rattle.explain.specs.Kinds.{kind_of, length_of}

-- the list for the place stands in front, and the kind is told
pub record Tells (n : ℕ) (cs : List (List ℕ)) (lost : List ℕ) (p : ℕ) (r : Told) (old e : List ℕ) : Type 0 where
  pub list : List ℕ
  pub listed : Listed n cs lost p list
  pub front : Front list old e (length_of r)
  pub kind : kind_of r ≡ cond (decided lost cs p) 2 3
