-- Packets and their sums (document 01, first paragraph): "A block is n packets of s bytes, at places 0 to n − 1."
use Rattle.std.specs.Prelude.{◌≡◌, List, [], ◌∷◌, ◌++◌, map, ℕ, zero, suc, length, get_or, take, drop, replicate}
use Rattle.gf2.specs.Gf2.{xor_group, add}
use Rattle.lists.specs.Lists.{All, written}

-- each of s bytes
abbrev pub Packets : ℕ → List (List ℕ) → Type 0
Packets s ps = All (λ p. length p ≡ s) ps

-- the n packets of a block
abbrev pub packets : ℕ → ℕ → List ℕ → List (List ℕ)
packets s zero b = []
packets s (suc n) b = take s b ∷ packets s n (drop s b)

-- packets in a row
abbrev pub joined : List (List ℕ) → List ℕ
joined [] = []
joined (p ∷ ps) = p ++ joined ps

-- byte position j of a block: byte j of each of its n packets
abbrev pub bytes_at : ℕ → ℕ → ℕ → List ℕ → List ℕ
bytes_at s n j b = map (λ p. get_or p j 0) (packets s n b)

-- "the bytewise exclusive-or of its packets", over the places of a check
abbrev pub packet_sum : ℕ → List (List ℕ) → List ℕ → List ℕ
packet_sum s b [] = replicate s 0
packet_sum s b (p ∷ c) = add xor_group (get_or b p []) (packet_sum s b c)

-- "A block is a codeword if, for each check, the bytewise exclusive-or of its packets is all zero bytes"
abbrev pub Codeword : ℕ → List (List ℕ) → List (List ℕ) → Type 0
Codeword s cs b = All (λ c. packet_sum s b c ≡ replicate s 0) cs

-- b with x added from at on
abbrev pub mixed : List ℕ → ℕ → List ℕ → List ℕ
mixed b at x = written b at (add xor_group (take (length x) (drop at b)) x)

-- the position of the lowest byte that isn't zero; the length where all are zero
unfoldable pub lowest_nonzero : List ℕ → ℕ
lowest_nonzero [] = 0
lowest_nonzero (zero ∷ x) = suc (lowest_nonzero x)
lowest_nonzero (suc v ∷ x) = 0
