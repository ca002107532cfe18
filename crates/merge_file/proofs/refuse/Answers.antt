-- `refuse` of merge_file: the table's refusals are left.
use Rattle.merge_file.proofs.Refusing.{table-refusal}
use Rattle.merge_file.proofs.refuse.Goals as goal

pub say_table_refused-requires : goal.say_table_refused-requires
say_table_refused-requires g c = rw c.number.ensures (table-refusal c.args.refusal c.requires c.in_default.not-Buffer c.in_default.not-Map)
