-- What clearing and copying leave before the first step (document 02, C-13), byte by byte, in a block b that becomes b': plan w, s
-- bytes a packet, byte i of place p.
use Rattle.std.specs.Prelude.{◌≡◌, true, false, List, ℕ, ◌+◌, ◌*◌, ◌<◌, get_or}
use Rattle.lists.specs.Lists.{has}
use Rattle.plan.specs.Layout.{info_in}

-- "of the clearing, that it leaves every byte of an information place as it was"
pub record InformationKept (w : List ℕ) (s : ℕ) (b b' : List ℕ) : Type 0 where
  pub each : (p i : ℕ) → has p (info_in w) ≡ true → i < s → get_or b' (p * s + i) 0 ≡ get_or b (p * s + i) 0

-- "and of the copying, that it changes no other byte"
pub record OthersKept (w : List ℕ) (s : ℕ) (b b' : List ℕ) : Type 0 where
  pub each : (p i : ℕ) → has p (info_in w) ≡ false → i < s → get_or b' (p * s + i) 0 ≡ get_or b (p * s + i) 0
