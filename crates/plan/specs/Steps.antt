-- What the steps give (document 01, "What the steps give, written out"): n + g slots of s bytes.
use Rattle.std.specs.Prelude.{List, [], ◌∷◌, ℕ, get_or, set, replicate}
use Rattle.gf2.specs.Gf2.{xor_group, add}
use Rattle.plan.specs.declared.Step.{Step}
use Rattle.plan.specs.declared.Step.TheVariants.{Clear, Add}

-- "Clear makes its slot all zero bytes. Add makes the slot it adds into the exclusive-or of both"
abbrev pub carry_out : ℕ → List (List ℕ) → Step → List (List ℕ)
carry_out s st (Clear to) = set st to (replicate s 0)
carry_out s st (Add to from) = set st to (add xor_group (get_or st to []) (get_or st from []))

-- the steps in order
abbrev pub carry_out_all : ℕ → List (List ℕ) → List Step → List (List ℕ)
carry_out_all s st [] = st
carry_out_all s st (x ∷ xs) = carry_out_all s (carry_out s st x) xs

-- the k-th packet at the k-th place
abbrev pub with_packets : List (List ℕ) → List ℕ → List (List ℕ) → List (List ℕ)
with_packets st [] ps = st
with_packets st (i ∷ is) [] = st
with_packets st (i ∷ is) (p ∷ ps) = with_packets (set st i p) is ps

-- "At the start every slot is zero, but the information places, ascending, hold the information packets in their order"
abbrev pub at_start : ℕ → ℕ → List ℕ → List (List ℕ) → List (List ℕ)
at_start slots s info ps = with_packets (replicate slots (replicate s 0)) info ps
