-- `verify::verify` meets its contract.
use Rattle.std.proofs.lemmas.Result.{err_from_is_err_and}
use Rattle.refusals.proofs.Numbers.{number-some}
use Rattle.faults.specs.Faults.{Fault, failing, every_check}
use Rattle.table.specs.Accepted.{Accepted}
use Rattle.table.specs.Packets.{packets}
use Rattle.table.specs.Table.{checks}
use Rattle.verify.specs.Verify.{Judges, refused_with, verdict, verify_answer}
use Rattle.verify.specs.VerifyLaws.{nothing-handed, verification-is, verification-refused, verification-short}
use Rattle.std.specs.Prelude.{List, ℕ, ◌*◌, length, Bool}
use Rattle.std.proofs.Math.Option.{Option}
use mathlib.Core.Bool.{true, true≢false}
use Rattle.std.proofs.Common.{rules}
use mathlib.Core.Path.{◌≡◌, refl, sym, ap, ap₂, ◌∙◌}
use Rattle.verify.proofs.verify.Goals as goal

pub returns-in_err-table : goal.returns-in_err-table
returns-in_err-table c =
    let p = err_from_is_err_and c.from_residual.result c.from_residual.ensures.1 in
    let e = c.in_err-table.ensures.refusal in
    let on = nothing-handed c.args.t.now _ e in
    rw (p.1, p.2, on) (ap refused_with e ∙ sym (verification-refused c.args.t.now c.args.block.now (λ z. number-some _ (e ∙ z))))

pub returns-then-block-table : goal.returns-then-block-table
returns-then-block-table c =
    let w = ap (λ r. r.now) c.in_ok-table.ensures.words in
    let k = rw w at c.in_ok-table.table.accepted in
    sym (verification-short c.args.t.now c.args.block.now k.accepted (λ z. c.if-block-table.true (z ∙ sym (ap₂ ◌*◌ k.places-are k.size_is))))

-- every check is judged
all-judged : {s : ℕ} {b : List (List ℕ)} {c : List ℕ} {r : Bool} → r ≡ true → Judges s b every_check c r
all-judged y = record { judged = λ e. refl; spared = λ e. absurd (true≢false (sym y ∙ e)) }

-- what the checks say is what a call answers that isn't refused
answered : (t b : List ℕ) (m n s : ℕ) → Accepted t m n s → length b ≡ n * s → (f : Option Fault) → f ≡ failing every_check s (packets s n b) 0 (checks t) → verdict f ≡ verify_answer t b
answered t b m n s k long f e =
    ap verdict (rw (k.places-are, k.size_is) at e) ∙ sym (verification-is t b k.accepted (long ∙ ap₂ ◌*◌ k.places-are k.size_is))

pub returns-in-Some : goal.returns-in-Some
returns-in-Some c =
    let w = ap (λ r. r.now) c.in_ok-table.ensures.words in
    let all = c.in-Some.ensures every_check (λ j r h p. let y : r ≡ true = search rules in all-judged y) in
    answered c.args.t.now c.args.block.now _ _ _ (rw w at c.in_ok-table.table.accepted) c.if-block-table.false _ (rw w at all)

pub returns-in-None : goal.returns-in-None
returns-in-None c =
    let w = ap (λ r. r.now) c.in_ok-table.ensures.words in
    let all = c.in-None.ensures every_check (λ j r h p. let y : r ≡ true = search rules in all-judged y) in
    answered c.args.t.now c.args.block.now _ _ _ (rw w at c.in_ok-table.table.accepted) c.if-block-table.false _ (rw w at all)
