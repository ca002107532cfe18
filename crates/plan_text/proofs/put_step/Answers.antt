-- `plan_text::put_step` meets its contract: by the kind of step.
use Rattle.plan_text.proofs.put_step.Goals as goal

pub put_line-requires : goal.put_line-requires
put_line-requires c = rw c.in-Clear.is at c.requires

pub put_add-requires : goal.put_add-requires
put_add-requires c = rw c.in-Add.is at c.requires

pub returns-in-Clear : goal.returns-in-Clear
returns-in-Clear c = rw c.in-Clear.is c.put_line.ensures

pub returns-in-Add : goal.returns-in-Add
returns-in-Add c = rw c.in-Add.is c.put_add.ensures
