-- Which check step 3 sets aside, worked: live checks, and the one that is chosen.
use Rattle.std.specs.Prelude.{◌≡◌, refl, List, [], ◌∷◌, map, ℕ}
use Rattle.rule.specs.Rule.{first, most_freed}

pub record Case : Type 0 where
  pub live : List (List ℕ)
  pub check : List ℕ

abbrev pub cases : List Case
cases =
    -- of three checks of greatest weight the first frees nothing, the others place 0: the lower number of these
    record { live = (1 ∷ 2 ∷ 3 ∷ 4 ∷ []) ∷ (0 ∷ 1 ∷ 3 ∷ 4 ∷ []) ∷ (0 ∷ 2 ∷ 3 ∷ 4 ∷ []) ∷ (1 ∷ 2 ∷ 4 ∷ []) ∷ []; check = 0 ∷ 1 ∷ 3 ∷ 4 ∷ [] }
    -- no place lies in exactly two live checks: the lowest number
    ∷ record { live = (0 ∷ 1 ∷ 2 ∷ []) ∷ (0 ∷ 1 ∷ 3 ∷ []) ∷ (0 ∷ 2 ∷ 3 ∷ []) ∷ (1 ∷ 2 ∷ 3 ∷ []) ∷ []; check = 0 ∷ 1 ∷ 2 ∷ [] }
    -- a check of weight 1
    ∷ record { live = (2 ∷ []) ∷ (0 ∷ 2 ∷ 3 ∷ []) ∷ (3 ∷ 4 ∷ []) ∷ (0 ∷ 1 ∷ 4 ∷ []) ∷ (0 ∷ 1 ∷ 3 ∷ 4 ∷ []) ∷ []; check = 2 ∷ [] }
    -- three places, 3, 4 and 5
    ∷ record { live = (0 ∷ 1 ∷ []) ∷ (0 ∷ 2 ∷ []) ∷ (0 ∷ 1 ∷ 2 ∷ 3 ∷ []) ∷ (1 ∷ 2 ∷ 3 ∷ 4 ∷ 5 ∷ []) ∷ (1 ∷ 2 ∷ 4 ∷ 5 ∷ []) ∷ []; check = 1 ∷ 2 ∷ 3 ∷ 4 ∷ 5 ∷ [] }
    -- a place in one live check doesn't count. At step 3 there is none, so that only the definition tells.
    ∷ record { live = (2 ∷ 3 ∷ 4 ∷ []) ∷ (0 ∷ 1 ∷ []) ∷ (0 ∷ 1 ∷ 5 ∷ []) ∷ []; check = 0 ∷ 1 ∷ [] }
    ∷ []

pub choice-cases : map (λ c. first (most_freed c.live) c.live) cases ≡ map (λ c. c.check) cases
choice-cases = refl
