-- What the scratch slots hold after the checks set aside, and what the fitted places get from them.
use Rattle.std.specs.Prelude.{◌≡◌, refl, Bool, true, false, List, [], ◌∷◌, ◌++◌, map, ℕ, suc, ◌+◌, ◌<◌, ◌≤◌, eqb, length}
use Rattle.std.proofs.Common.{ap, ap₂, ◌∙◌, subst, arith}
use Rattle.std.proofs.Math.Nat.{suc_inj}
use Rattle.lists.specs.Tests.{eqb_comm, eqb-lt, or-false-l, or-false-r}
use Rattle.gf2.specs.Gf2.{Group2, sum_over, comb}
use Rattle.lists.specs.ListLaws.{has-low, all_filter}
use Rattle.lists.specs.Lists.{Distinct, Distinct.dnil, Distinct.dnew, has, minus, All, All.nil, All.cons}
use Rattle.plan.specs.declared.Step.{Step}
use Rattle.plan.specs.Run.{upd, run, run-append, upd_same, upd_other, sum-upd}
use Rattle.rule.specs.Rule.{clear_and_add, scratch_steps, slots_named, fitting_steps}
use Rattle.rule.specs.Solving.{fill-run}

-- the slots that a mask names start at i, and are below the mask's end
pub has_named : (p i : ℕ) → p < i → (m : List Bool) → has p (slots_named i m) ≡ false
has_named p i h [] = refl
has_named p i h (true ∷ m) = rw (eqb-lt p i h) (has_named p (suc i) (omega arith) m)
has_named p i h (false ∷ m) = has_named p (suc i) (omega arith) m

pub named-low : (k i : ℕ) (m : List Bool) → i + length m ≤ k → All (λ p. p < k) (slots_named i m)
named-low k i [] h = nil
named-low k i (true ∷ m) h = cons {x = i} (omega arith) (named-low k (suc i) m (omega arith))
named-low k i (false ∷ m) h = named-low k (suc i) m (omega arith)

module _ {A : Type 0} (G : Group2 A) where
  open G use {◌⊕◌, o, assoc, comm, self, zl}

  -- the slots from i on hold the list
  pub data Reads (st : ℕ → A) : ℕ → List A → Type 0 where
    end : {i : ℕ} → Reads st i []
    slot : {i : ℕ} {s : A} {S : List A} → st i ≡ s → Reads st (suc i) S → Reads st i (s ∷ S)

  -- the slots that a mask names sum to what it picks of the list
  sum-named : {st : ℕ → A} {i : ℕ} {S : List A} → Reads st i S → (m : List Bool) → length m ≡ length S → sum_over G st (slots_named i m) ≡ comb G m S
  sum-named end [] l = refl
  sum-named end (b ∷ m) l = absurd (omega arith)
  sum-named (slot e r) [] l = absurd (omega arith)
  sum-named (slot e r) (true ∷ m) l = ap₂ ◌⊕◌ e (sum-named r m (suc_inj l))
  sum-named (slot e r) (false ∷ m) l = sum-named r m (suc_inj l)

  -- a slot before them doesn't matter
  reads-upd : {st : ℕ → A} {i : ℕ} {S : List A} (p : ℕ) (a : A) → p < i → Reads st i S → Reads (upd G st p a) i S
  reads-upd p a h end = end
  reads-upd {st} {i} p a h (slot e r) = slot (upd_other G st p a i (eqb_comm i p ∙ eqb-lt p i h) ∙ e) (reads-upd p a (omega arith) r)

  -- one slot filled, and the rest
  fill-then : (to : ℕ) (c : List ℕ) (rest : List Step) (st : ℕ → A) → has to c ≡ false → run G st (clear_and_add to c ++ rest) ≡ run G (upd G st to (sum_over G st c)) rest
  fill-then to c rest st h = run-append G st (clear_and_add to c) rest ∙ ap (λ s. run G s rest) (fill-run G to c st h)

  -- the scratch slots
  module _ (n : ℕ) (F : List ℕ) where
    -- earlier slots stay
    pub scratch-low : (p : ℕ) (i : ℕ) {cs : List (List ℕ)} → All (λ c. All (λ p. p < n) c) cs → n ≤ i → p < i → (st : ℕ → A) → run G st (scratch_steps i F cs) p ≡ st p
    scratch-low p i nil h l st = refl
    scratch-low p i (cons {x = c} {l = cs} a az) h l st =
        ap (λ s. s p) (fill-then i (minus c F) (scratch_steps (suc i) F cs) st (has-low i n h (all_filter _ a)))
        ∙ scratch-low p (suc i) az (omega arith) (omega arith) (upd G st i _) ∙ upd_other G st i _ p (eqb-lt p i l)

    sums-upd : (i : ℕ) (v : A) (st : ℕ → A) {cs : List (List ℕ)} → All (λ c. All (λ p. p < n) c) cs → n ≤ i
        → map (λ c. sum_over G (upd G st i v) (minus c F)) cs ≡ map (λ c. sum_over G st (minus c F)) cs
    sums-upd i v st nil h = refl
    sums-upd i v st (cons {x = c} a az) h = ap₂ ◌∷◌ (sum-upd G st i v (minus c F) (has-low i n h (all_filter _ a))) (sums-upd i v st az h)

    -- each holds its check's sum without the places F
    pub scratch-reads : (i : ℕ) {cs : List (List ℕ)} → All (λ c. All (λ p. p < n) c) cs → n ≤ i → (st : ℕ → A)
        → Reads (run G st (scratch_steps i F cs)) i (map (λ c. sum_over G st (minus c F)) cs)
    scratch-reads i nil h st = end
    scratch-reads i (cons {x = c} {l = cs} a az) h st =
        let v = sum_over G st (minus c F) in
        rw (fill-then i (minus c F) (scratch_steps (suc i) F cs) st (has-low i n h (all_filter _ a)))
        (slot (scratch-low i (suc i) az (omega arith) (omega arith) (upd G st i v) ∙ upd_same G st i v)
        (subst (Reads (run G (upd G st i v) (scratch_steps (suc i) F cs)) (suc i)) (sums-upd i v st az h) (scratch-reads (suc i) az (omega arith) (upd G st i v))))

  -- the fitted places
  module _ (n : ℕ) (inv : ℕ → List Bool) (S : List A) where
    -- other slots stay
    pub fitting-other : (p : ℕ) {fs : List ℕ} → All (λ f. f < n) fs → has p fs ≡ false → (st : ℕ → A) → run G st (fitting_steps n inv fs) p ≡ st p
    fitting-other p nil h st = refl
    fitting-other p (cons {x = f} {l = fs} l ls) h st =
        ap (λ s. s p) (fill-then f (slots_named n (inv f)) (fitting_steps n inv fs) st (has_named f n l (inv f)))
        ∙ fitting-other p ls (or-false-r (eqb p f) (has p fs) h) (upd G st f _) ∙ upd_other G st f _ p (or-false-l (eqb p f) (has p fs) h)

    -- each gets what its row of the inverse picks
    pub fitting-run : {fs : List ℕ} → Distinct fs → All (λ f. f < n) fs → All (λ f. length (inv f) ≡ length S) fs → (st : ℕ → A) → Reads st n S
        → All (λ f. run G st (fitting_steps n inv fs) f ≡ comb G (inv f) S) fs
    fitting-run dnil nil nil st r = nil
    fitting-run (dnew {x = f} {l = fs} k d) (cons l ls) (cons e es) st r =
        rw (fill-then f (slots_named n (inv f)) (fitting_steps n inv fs) st (has_named f n l (inv f)))
        (cons (fitting-other f ls k (upd G st f _) ∙ upd_same G st f _ ∙ sum-named r (inv f) e)
        (fitting-run d ls es (upd G st f _) (reads-upd f _ l r)))
