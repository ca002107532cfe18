-- What is told of one place: the kind, and the list with zeros behind it.
use Rattle.std.specs.Prelude.{◌≡◌, List, ◌++◌, ℕ, ◌-◌, length, replicate}
use Rattle.explain.specs.Kinds.{kind_of as told_kind, length_of}
use Rattle.explain.specs.declared.Told.{Told}
use Rattle.reasons.specs.Reasons.{kind_of, Listed}
use Rattle.why.specs.Why.{reason_numbers}

pub record Tells (n : ℕ) (cs : List (List ℕ)) (lost : List ℕ) (p : ℕ) (r : Told) (e : List ℕ) : Type 0 where
  pub list : List ℕ
  pub listed : Listed n cs lost p list
  pub kind-is : told_kind r ≡ kind_of lost cs p
  pub length-is : length_of r ≡ length list
  pub buffer-is : e ≡ list ++ replicate (reason_numbers - length list) 0
