-- After the fill: no draws left, checks too heavy, or the table.
use mathlib.Core.Path.{◌≡◌, sym, ◌∙◌, subst}
use mathlib.Core.Bool.{Bool, true, false, false≢true, true≢false}
use mathlib.Core.List.{List, map}
use mathlib.Core.Option.{none, some}
use Prim.Native.Nat.{ℕ, ◌+◌, ◌-◌, ◌<◌, ◌≤◌}
use native.Mathlib.Omega.{arith}
use lib.ListN.{length}
use Rattle.lists.specs.Lists.{Wrote}
use Rattle.lists.specs.Tests.{by_opt}
use Rattle.table.specs.LookOver.{weighed}
use Rattle.table.specs.Table.{beyond, ones as ones_of}
use Rattle.bits.specs.Row.{rows_in}
use Rattle.making.specs.FitsLaws.{inside}
use Rattle.making.specs.Making.{table_words, too_heavy}
use Rattle.making.specs.MakingLaws.{rows-length, weighed-heavy, weighed-light}
use Rattle.making.specs.ReadBack.{length-written}
use Rattle.making.specs.Written.{table_of}
use Rattle.fill.specs.Fill.{State}
use Rattle.fill.specs.Held.{Ends, FilledIn}
use Rattle.staircase.specs.Parameters.{fine}
use Rattle.staircase.specs.Staircase.{left_side, bad_parameters}
use Rattle.staircase.specs.Staired.{Staired}
use Rattle.staircase.specs.Stairs.{checks_of}
use Rattle.staircase.proofs.Answering.{Answered, answer-spent, answer-heavy, answer-made}
use Rattle.staircase.proofs.RowsMade.{rows_made}

-- the numbers that the loops need
pub record Low (k n : ℕ) : Type 0 where
  pub rows : n - k ≤ 512
  pub places : k + (n - k) ≤ 1024

pub low : (k n ones seed s : ℕ) → bad_parameters k n ones seed ≡ false → beyond n s (n - k) ≡ false → Low k n
low k n ones seed s good far =
    let p = (fine k n ones seed good).above in
    let i = inside n s (n - k) far in
    let a = i.few-places in
    record { rows = i.few-checks; places = omega arith }

module _ (k n ones seed s : ℕ) (b w e : List ℕ) (good : bad_parameters k n ones seed ≡ false) (far : beyond n s (n - k) ≡ false) (long : length b ≡ table_words)
    (ok : Bool) (ends : Ends (left_side k n ones seed) ok (FilledIn k (n - k) w)) where
  pub spent : ok ≡ false → Answered k n ones seed s b 11 0 b
  spent t = by_opt (left_side k n ones seed)
      (λ f q. let p : Ends (some f) ok (FilledIn k (n - k) w) = subst (λ o. Ends o ok (FilledIn k (n - k) w)) q ends in absurd (true≢false (sym p.0 ∙ t)))
      (λ q. answer-spent k n ones seed s b good far long q)

  module _ (t : ok ≡ true) where
    -- the filled left side
    record Found : Type 0 where
      state : State
      filled : left_side k n ones seed ≡ some state
      held : FilledIn k (n - k) w state

    found : Found
    found = by_opt (left_side k n ones seed)
        (λ f q. let p : Ends (some f) ok (FilledIn k (n - k) w) = subst (λ o. Ends o ok (FilledIn k (n - k) w)) q ends in record { state = f; filled = q; held = p.1 })
        (λ q. let p : Ends none ok (FilledIn k (n - k) w) = subst (λ o. Ends o ok (FilledIn k (n - k) w)) q ends in absurd (false≢true (sym p ∙ t)))

    pub wide : length w ≡ 8192
    wide = found.held.wide

    module _ (st : Staired k (n - k) w e) (total : ℕ) (is : total ≡ weighed (map length (rows_in e (n - k)))) where
      rows : rows_in e (n - k) ≡ checks_of k found.state
      rows = rows_made k (n - k) w e found.state found.held st (low k n ones seed s good far).places

      pub heavy : 6144 < total → Answered k n ones seed s b 3 0 b
      heavy h = answer-heavy k n ones seed s b good far long found.state found.filled
          (subst (λ cs. too_heavy cs ≡ true) rows
          (weighed-heavy (rows_in e (n - k)) (let l = rows-length e (n - k) in let r = (low k n ones seed s good far).rows in omega arith) (subst (λ (x : ℕ). 6144 < x) is h)))

      pub ones-are : total ≤ 6144 → total ≡ ones_of (rows_in e (n - k))
      ones-are h = is ∙ (weighed-light (rows_in e (n - k)) (subst (λ (x : ℕ). x ≤ 6144) is h)).1

      -- the table's length
      pub short : {f : List ℕ} {l : ℕ} → total ≤ 6144 → Wrote b 0 (table_of n s (rows_in e (n - k))) f l → l ≤ 6661
      short {f} {l} h x =
          let o = ones-are h in
          let c = rows-length e (n - k) in
          let y = length-written n s (rows_in e (n - k)) in
          let z = x.next in
          let r = (low k n ones seed s good far).rows in
          omega arith

      pub made : {f : List ℕ} {l : ℕ} → total ≤ 6144 → Wrote b 0 (table_of n s (rows_in e (n - k))) f l → Answered k n ones seed s b 0 l f
      made {f} {l} h x = answer-made k n ones seed s b good far long found.state found.filled
          (subst (λ cs. too_heavy cs ≡ false) rows (weighed-light (rows_in e (n - k)) (subst (λ (y : ℕ). y ≤ 6144) is h)).0)
          (subst (λ cs. Wrote b 0 (table_of n s cs) f l) rows x)
