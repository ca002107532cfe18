-- The codewords of these laws may be taken of bytes below 256, where the block's are.
use Rattle.std.specs.Prelude.{◌≡◌, true, false, List, [], ℕ, ◌<◌, ◌≤◌, get_or}
use Rattle.std.proofs.Common.{arith}
use Rattle.std.proofs.lemmas.Nat.{xor_lt}
use Rattle.decided.specs.Decided.{decided, clashes}
use Rattle.decided.proofs.DecidedLaws.{agreed_word, agreed-word, agreed-within, one-decided}
use Rattle.decided.specs.Words.{Word, Block}
use Rattle.erasure.specs.Restoring.{is_lost}
use Rattle.lists.specs.ListLaws.{all_read}
use Rattle.lists.specs.Lists.{All, All.nil}
use Rattle.table.specs.PacketLaws.{view}

-- every byte of every packet below 256
abbrev pub Bytes : List (List ℕ) → Type 0
Bytes b = All (λ x. All (λ v. v < 256) x) b

view_in : {b : List (List ℕ)} → Bytes b → (p j : ℕ) → view b j p < 256
view_in a p j = all_read 0 (all_read [] a nil p) (omega arith) j

module _ (n s : ℕ) (cs b : List (List ℕ)) (ok : Block n s cs b) (bytes : Bytes b) (lost : List ℕ) (calm : clashes s cs b lost ≡ false) where
  -- nothing clashes: a codeword of bytes agrees
  pub bytes-exist : (w : List (List ℕ)) × (Word n s cs b lost w × Bytes w)
  bytes-exist = (
    agreed_word n s cs b ok lost (λ v. v < 256) (omega arith) (λ x y p q. xor_lt 8 x y p q) (view_in bytes) calm,
    (
      agreed-word n s cs b ok lost (λ v. v < 256) (omega arith) (λ x y p q. xor_lt 8 x y p q) (view_in bytes) calm,
      agreed-within n s cs b ok lost (λ v. v < 256) (omega arith) (λ x y p q. xor_lt 8 x y p q) (view_in bytes) calm,
    ),
  )

  -- a lost place where all codewords of bytes that agree have one packet is decided
  pub bytes-exact : 1 ≤ s → (p : ℕ) → p < n → is_lost lost p ≡ true
      → ((u w : List (List ℕ)) → Word n s cs b lost u → Bytes u → Word n s cs b lost w → Bytes w → get_or u p [] ≡ get_or w p []) → decided lost cs p ≡ true
  bytes-exact l p h t one = one-decided n s cs b ok lost (λ v. v < 256) (omega arith) (λ x y p q. xor_lt 8 x y p q) (view_in bytes) calm (omega arith) l p h t one
