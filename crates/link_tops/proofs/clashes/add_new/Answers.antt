use Rattle.link_tops.proofs.Clashing.{added_twice, there_again}
use Rattle.link_tops.proofs.clashes.add_new.Goals as goal

pub returns-clause-err : goal.returns-clause-err
returns-clause-err c =
    rw c.in_ok-copy.ensures (added_twice c.args.names.now c.args.name.now
    (there_again c.args.names.now c.args.name.now c.in_ok-add.field-0 c.in_ok-add.ensures.fresh c.if-branch.false))
