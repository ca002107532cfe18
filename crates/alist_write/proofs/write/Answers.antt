-- `write` meets its contract: the rows are loaded and hold the table's text.
use Rattle.std.proofs.Common.{ℕ, arith, ◌∙◌}
use Rattle.std.proofs.lemmas.List.{length-replicate}
use Rattle.lists.specs.ListLaws.{get_d-zeros}
use Rattle.table.specs.Accepted.{few-checks, few-places}
use Rattle.alist_write.proofs.Whole.{table-text, answer-room}
use Rattle.alist_write.proofs.write.Goals as goal

pub load-requires : goal.load-requires
load-requires c = record { room = (length-replicate {A = ℕ} 16384 0, length-replicate {A = ℕ} 8192 0); zeros = get_d-zeros 16384 }

pub write_bits-requires : goal.write_bits-requires
write_bits-requires c =
    let k = c.args.table.now.accepted in
    let n = few-places _ _ _ _ k in
    let m = few-checks _ _ _ _ k in
    let x = c.load.auto.columns ∙ length-replicate {A = ℕ} 16384 0 in
    let y = c.load.auto.rows ∙ length-replicate {A = ℕ} 8192 0 in
    (omega arith, omega arith, omega arith, omega arith)

pub returns : goal.returns
returns c =
    let t = c.args.table.now in
    let e = table-text _ c.load.ensures t.accepted.places-are in
    let q = answer-room t.words.now c.args.text.now t.accepted.accepted e c.write_bits.ensures in
    record { answer = q.0; text = q.1 }
