use Rattle.link_items.proofs.Searching.{tied_in}
use Rattle.link_items.proofs.cell_checks.check_outputs.Goals as goal

pub returns-in_ok-name-in-Some-clause-err : goal.returns-in_ok-name-in-Some-clause-err
returns-in_ok-name-in-Some-clause-err c =
    let (bit, has) = tied_in c.args.conns.now c.in-Some.pin.now c.in-Some.ensures.some.1 in
    (c.in-Some.pin.now, bit, c.in-Some.ensures.some.0, has, c.in_ok-name-in-Some.ensures)
