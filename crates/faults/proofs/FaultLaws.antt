-- Laws of the lowest check that fails: when there is none, which one it is, and how a loop over the checks finds it.
use Rattle.std.specs.Prelude.{◌≡◌, refl, Bool, true, List, [], ◌∷◌, ℕ, zero, suc, ◌+◌, ◌<◌, ◌≤◌, take, drop}
use Rattle.std.proofs.Common.{sym, ◌∙◌, add-one, drop_of_length-le}
use Rattle.std.proofs.Math.Path.{ap, ap₂, subst}
use Rattle.std.proofs.Math.Bool.{false, true≢false}
use Rattle.std.proofs.Math.Option.{Option, none, some, some-ne-none, some-injective}
use native.Mathlib.Omega.{arith}
use Rattle.std.proofs.Math.ListN.{length, get_or, replicate}
use Rattle.lists.specs.ListLaws.{all_get_d, get_d-zeros}
use Rattle.lists.specs.Lists.{All, All.nil, All.cons}
use Rattle.lists.specs.Tests.{by_bool}
use Rattle.table.specs.Accepted.{drop_more}
use Rattle.table.specs.CodewordLaws.{zero-sound, zero-complete}
use Rattle.table.specs.Codewords.{zero_sum}
use Rattle.table.specs.PacketLaws.{sum_view}
use Rattle.table.specs.Packets.{Packets, packet_sum, lowest_nonzero}
use Rattle.table.specs.SumLaws.{lowest-le, lowest-at, lowest-below, lowest-is, lowest-zeros}
use Rattle.faults.specs.Faults.{Fault, no_fault, check_of, byte_of, fault_of, failing, FirstFault, fault_told}
use Rattle.refusals.specs.Refusals.{number_of}
use Rattle.refusals.specs.declared.Refusal.{Refusal}
use Rattle.refusals.specs.declared.Refusal.TheVariants.{Contradiction}

-- ---- by the test
pub no-fault : (f : Option Fault) → no_fault f ≡ true → f ≡ none
no-fault none h = refl
no-fault (some f) h = absurd (true≢false (sym h))

pub some-fault : (f : Option Fault) → no_fault f ≡ false → f ≡ some (record { check = check_of f; byte = byte_of f })
some-fault none h = absurd (true≢false h)
some-fault (some f) h = refl

module _ (judged : List ℕ → Bool) (s : ℕ) (b : List (List ℕ)) where
  -- every judged check sums to zero
  abbrev Zeros : List (List ℕ) → Type 0
  Zeros cs = All (λ c. judged c ≡ true → packet_sum s b c ≡ replicate s 0) cs

  -- ---- a loop over the checks: the rest decides
  module _ (cs : List (List ℕ)) (j : ℕ) (h : j < length cs) where
    pub fault-hit : judged (get_or cs j []) ≡ true → zero_sum s b (get_or cs j []) ≡ false → failing judged s b j (drop j cs) ≡ some (fault_of s b j (get_or cs j []))
    fault-hit e z = rw (drop_more cs j h, e, z, failing)

    pub fault-zero : judged (get_or cs j []) ≡ true → zero_sum s b (get_or cs j []) ≡ true → failing judged s b j (drop j cs) ≡ failing judged s b (j + 1) (drop (j + 1) cs)
    fault-zero e z = rw (drop_more cs j h, e, z, failing, add-one j)

    pub fault_past : judged (get_or cs j []) ≡ false → failing judged s b j (drop j cs) ≡ failing judged s b (j + 1) (drop (j + 1) cs)
    fault_past e = rw (drop_more cs j h, e, failing, add-one j)

  pub fault-end : (cs : List (List ℕ)) (j : ℕ) → length cs ≤ j → failing judged s b j (drop j cs) ≡ none
  fault-end cs j h = rw (drop_of_length-le cs h)

  -- ---- none fails exactly if every judged check sums to zero
  pub none-fails : (i : ℕ) (cs : List (List ℕ)) → failing judged s b i cs ≡ none → Zeros cs
  none-fails i [] h = nil
  none-fails i (c ∷ cs) h = by_bool (judged c)
      (λ j. by_bool (zero_sum s b c)
      (λ z. cons (λ e. zero-sound s b c z) (none-fails (suc i) cs (rw (j, z, failing) at h)))
      (λ z. absurd (some-ne-none (fault_of s b i c) (rw (j, z, failing) at h))))
      (λ j. cons (λ e. absurd (true≢false (sym e ∙ j))) (none-fails (suc i) cs (rw (j, failing) at h)))

  pub fails-none : (i : ℕ) {cs : List (List ℕ)} → Zeros cs → failing judged s b i cs ≡ none
  fails-none i nil = refl
  fails-none i (cons {x = c} h a) = by_bool (judged c)
      (λ j. rw (j, zero-complete s b c (h j), failing) (fails-none (suc i) a))
      (λ j. rw (j, failing) (fails-none (suc i) a))

  -- ---- which one it is
  -- check j of those from number i on
  record Found (i : ℕ) (cs : List (List ℕ)) (f : Fault) (j : ℕ) : Type 0 where
    is : f ≡ fault_of s b (i + j) (get_or cs j [])
    inside : j < length cs
    is-judged : judged (get_or cs j []) ≡ true
    fails : zero_sum s b (get_or cs j []) ≡ false
    lower : Zeros (take j cs)

  found : (i : ℕ) (cs : List (List ℕ)) (f : Fault) → failing judged s b i cs ≡ some f → (j : ℕ) × Found i cs f j
  found i [] f h = absurd (some-ne-none f (sym h))
  found i (c ∷ cs) f h = by_bool (judged c)
      (λ j. by_bool (zero_sum s b c)
      (λ z. later (λ e. zero-sound s b c z) (found (suc i) cs f (rw (j, z, failing) at h)))
      (λ z. (
        zero,
        record {
          is = sym (some-injective (fault_of s b i c) f (rw (j, z, failing) at h)) ∙ ap (λ k. fault_of s b k c) (omega arith);
          inside = omega arith;
          is-judged = j;
          fails = z;
          lower = nil;
        },
      )))
      (λ j. later (λ e. absurd (true≢false (sym e ∙ j))) (found (suc i) cs f (rw (j, failing) at h)))
    where
      later : (judged c ≡ true → packet_sum s b c ≡ replicate s 0) → (j : ℕ) × Found (suc i) cs f j → (j : ℕ) × Found i (c ∷ cs) f j
      later z r = (
        suc r.0,
        record {
          is = r.1.is ∙ ap (λ k. fault_of s b k (get_or cs r.0 [])) (omega arith);
          inside = let l = r.1.inside in omega arith;
          is-judged = r.1.is-judged;
          fails = r.1.fails;
          lower = cons z r.1.lower;
        },
      )

  -- the other way
  reached : (i : ℕ) (cs : List (List ℕ)) (j : ℕ) → j < length cs → judged (get_or cs j []) ≡ true → zero_sum s b (get_or cs j []) ≡ false → Zeros (take j cs)
      → failing judged s b i cs ≡ some (fault_of s b (i + j) (get_or cs j []))
  reached i [] j l h z a = absurd (omega arith)
  reached i (c ∷ cs) zero l h z a = rw (h, z, failing) (ap (λ k. some (fault_of s b k c)) (omega arith))
  reached i (c ∷ cs) (suc j) l h z (cons g a) =
      let rest : failing judged s b (suc i) cs ≡ some (fault_of s b (i + suc j) (get_or cs j [])) =
      reached (suc i) cs j (omega arith) h z a ∙ ap (λ k. some (fault_of s b k (get_or cs j []))) (omega arith) in
      by_bool (judged c)
      (λ e. rw (e, zero-complete s b c (g e), failing) rest)
      (λ e. rw (e, failing) rest)

  -- packets of s bytes, at the places of the checks
  module _ (sized : Packets s b) (cs : List (List ℕ)) (low : All (λ c. All (λ p. p < length b) c) cs) (f : Fault) where
    sum : List ℕ
    sum = packet_sum s b (get_or cs f.check [])

    long : f.check < length cs → length sum ≡ s
    unfolding sum
    long h = (sum_view s sized (all_get_d low f.check h)).0

    -- the check and byte that are given are the lowest ..
    pub first-fault : failing judged s b 0 cs ≡ some f → FirstFault judged s b cs f
    unfolding sum
    first-fault h =
        let r = found 0 cs f h in
        let e : r.0 ≡ f.check = let z : f.check ≡ 0 + r.0 = ap (λ (x : Fault). x.check) r.1.is in omega arith in
        let at : Found 0 cs f f.check = subst (Found 0 cs f) e r.1 in
        let byte : f.byte ≡ lowest_nonzero sum = ap (λ (x : Fault). x.byte) at.is in
        let most = lowest-le sum in
        let all = long at.inside in
        let less : lowest_nonzero sum < length sum = by_nat (lowest_nonzero sum) (length sum) most (λ z. true≢false (sym (zero-complete s b (get_or cs f.check []) (lowest-zeros sum z ∙ ap (λ k. replicate k 0) all)) ∙ at.fails)) in
        record {
          inside = at.inside;
          is-judged = at.is-judged;
          below = omega arith;
          nonzero = λ z. lowest-at sum less (ap (λ k. get_or sum k 0) (sym byte) ∙ z);
          zeros = λ i l. lowest-below sum i (omega arith);
          lower = at.lower;
        }
      where
        by_nat : (m n : ℕ) → m ≤ n → (m ≡ n → ⊥) → m < n
        by_nat m n h ne = omega arith

    -- .. and no others are
    pub fault-first : FirstFault judged s b cs f → failing judged s b 0 cs ≡ some f
    unfolding sum
    fault-first r =
        let all = long r.inside in
        let byte : lowest_nonzero sum ≡ f.byte = lowest-is sum f.byte (let l = r.below in omega arith) r.zeros (λ l. r.nonzero) in
        let not-zero : zero_sum s b (get_or cs f.check []) ≡ false = by_bool (zero_sum s b (get_or cs f.check []))
        (λ z. absurd (r.nonzero (ap (λ l. get_or l f.byte 0) (zero-sound s b (get_or cs f.check []) z) ∙ get_d-zeros s f.byte)))
        (λ z. z) in
        reached 0 cs f.check r.inside r.is-judged not-zero r.lower ∙ ap₂ (λ k y. some (record { check = k; byte = y })) (omega arith) byte

-- only 8 hands something on
pub nothing-told : (r : Refusal) → (number_of r ≡ 8 → ⊥) → fault_told r ≡ none
nothing-told (Contradiction f) h = absurd (h refl)
nothing-told _ h = refl
