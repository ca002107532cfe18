-- Codewords that agree with the received packets, packet by packet.
use Rattle.std.specs.Prelude.{◌≡◌, false, List, [], ℕ, ◌<◌, length, get_or}
use Rattle.erasure.specs.Restoring.{is_lost}
use Rattle.lists.specs.Lists.{All}
use Rattle.table.specs.Packets.{Packets, Codeword}

-- w is a codeword of n packets of s bytes that agrees with the received packets
pub record Word (n s : ℕ) (cs b : List (List ℕ)) (lost : List ℕ) (w : List (List ℕ)) : Type 0 where
  pub long : length w ≡ n
  pub sized : Packets s w
  pub zeros : Codeword s cs w
  pub agree : (p : ℕ) → p < n → is_lost lost p ≡ false → get_or w p [] ≡ get_or b p []

-- n packets of s bytes, and checks of places below n
pub record Block (n s : ℕ) (cs b : List (List ℕ)) : Type 0 where
  pub low : All (λ c. All (λ p. p < n) c) cs
  pub long : length b ≡ n
  pub sized : Packets s b

-- two states with the same codewords that agree
pub record Same (n s : ℕ) (cs b : List (List ℕ)) (lost : List ℕ) (b' : List (List ℕ)) (lost' : List ℕ) : Type 0 where
  pub forth : (w : List (List ℕ)) → Word n s cs b lost w → Word n s cs b' lost' w
  pub back : (w : List (List ℕ)) → Word n s cs b' lost' w → Word n s cs b lost w
