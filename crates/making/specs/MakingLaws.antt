-- Laws of what the makers of tables share: what weighing tells, and how many rows there are.
use Rattle.std.specs.Prelude.{◌≡◌, refl, true, false, ◌||◌, List, [], ◌∷◌, map, ◌≢◌, ℕ, zero, suc, ◌+◌, ◌<◌, ◌≤◌, ltb, length, take, drop}
use Rattle.std.proofs.Common.{sym, ap, ap₂, ◌∙◌, arith, lt-ltb, le-ltb, length-append, take_at}
use Rattle.std.proofs.lemmas.List.{length-map}
use Rattle.lists.specs.Lists.{any_of}
use Rattle.lists.specs.Numbers.{from-length}
use Rattle.lists.specs.Tests.{by_bool, or_l, or_r}
use Rattle.table.specs.LookOver.{weighed}
use Rattle.table.specs.Table.{ones, most_weight, most_ones}
use Rattle.bits.specs.Row.{rows_in}
use Rattle.making.specs.Making.{too_heavy, make_answer_at, make_answer_of, make_buffer_after}
use Rattle.std.specs.declared.result.Result.{Result}
use Rattle.std.specs.declared.result.Result.TheVariants.{Ok, Err}
use Rattle.refusals.specs.declared.Refusal.{Refusal}
use Rattle.refusals.specs.Refusals.{refusal_of}
use Rattle.making.specs.ReadBack.{total-weights}

-- the weights are tested as the checks are
any-weights : (cs : List (List ℕ)) → any_of (ltb most_weight) (map length cs) ≡ any_of (λ c. ltb most_weight (length c)) cs
any-weights [] = refl
any-weights (c ∷ cs) = ap (λ b. ltb most_weight (length c) || b) (any-weights cs)

-- more than 6,144: a weight or W0 is over its limit
pub weighed-heavy : (cs : List (List ℕ)) → length cs ≤ 512 → most_ones < weighed (map length cs) → too_heavy cs ≡ true
weighed-heavy cs few h = by_bool (any_of (ltb most_weight) (map length cs))
    (λ e. or_l _ _ (sym (any-weights cs) ∙ e))
    (λ e. or_r (any_of (λ c. ltb most_weight (length c)) cs) _ (lt-ltb most_ones (ones cs) (rw (e, total-weights cs) at h)))

-- no more: neither is, and it is W0
pub weighed-light : (cs : List (List ℕ)) → weighed (map length cs) ≤ most_ones → (too_heavy cs ≡ false) × (weighed (map length cs) ≡ ones cs)
weighed-light cs h = by_bool (any_of (ltb most_weight) (map length cs))
    (λ e. let f : 65536 ≤ most_ones = rw e at h in absurd (omega arith))
    (λ e. let f : ones cs ≤ most_ones = rw (e, total-weights cs) at h in
    (ap₂ ◌||◌ (sym (any-weights cs) ∙ e) (le-ltb most_ones (ones cs) f), rw e (total-weights cs)))

-- as many rows as are asked for
pub rows-length : (w : List ℕ) (m : ℕ) → length (rows_in w m) ≡ m
rows-length w m = simp (length-map, from-length)

-- as many numbers of the buffer as the answer says are the table
pub table-lent : (t b : List ℕ) → take (make_answer_at 0 t).length (make_buffer_after 0 t b) ≡ t
table-lent t b = take_at t (drop (0 + length t) b) (length t) refl

-- the answer tells the refusal
pub make-told : (r : ℕ) (t : List ℕ) → (make_answer_at r t).refusal ≡ r
make-told zero t = refl
make-told (suc r) t = refl

-- a call that refuses with r: length 0, and the buffer as it was
pub make-refused : (r : ℕ) (t b : List ℕ) → r ≢ 0 → (make_answer_at r t ≡ record { refusal = r; length = 0 }) × (make_buffer_after r t b ≡ b)
make-refused zero t b n = absurd (n refl)
make-refused (suc r) t b n = (refl, refl)

-- ---- the answer that the code returns
-- what was made stands at the start of the buffer, so many numbers or bytes
pub record Stands (t : List ℕ) (r : ℕ) (buffer : List ℕ) : Type 0 where
  pub within : r ≤ length buffer
  pub counts : r ≡ length (take r buffer)
  pub is : take r buffer ≡ t

-- the refusal that is answered
answered-refusal : (r : Result ℕ Refusal) → (make_answer_of r).refusal ≡ refusal_of r
answered-refusal (Ok n) = refl
answered-refusal (Err r) = refl

pub made-refusal : (p : ℕ) (t : List ℕ) (r : Result ℕ Refusal) → make_answer_of r ≡ make_answer_at p t → refusal_of r ≡ p
made-refusal p t r a = sym (answered-refusal r) ∙ ap (λ x. x.refusal) a ∙ make-told p t

-- where there is none, what was made stands there
pub made-stands : (p : ℕ) (t b b' : List ℕ) (n : ℕ) → make_answer_of (Ok n) ≡ make_answer_at p t → b' ≡ make_buffer_after p t b → Stands t n b'
made-stands p t b b' n a e =
    let k : p ≡ 0 = sym (made-refusal p t (Ok n) a) in
    let l : length t ≡ n = sym (rw k at (ap (λ x. x.length) a)) in
    let w : b' ≡ make_buffer_after 0 t b = rw k at e in
    let f : take n b' ≡ t = rw (← l, w) (table-lent t b) in
    record {
      within = omega (arith, simp length-append at (ap length w));
      counts = sym (ap length f ∙ l);
      is = f;
    }
