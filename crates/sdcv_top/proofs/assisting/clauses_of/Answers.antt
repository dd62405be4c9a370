use Rattle.sdcv_top.proofs.FurtherClauses.{all_in_form, once}
use Rattle.sdcv_top.proofs.assisting.clauses_of.Goals as goal

pub assist_clauses-requires-clause-once : goal.assist_clauses-requires-clause-once
assist_clauses-requires-clause-once c = once c.args.linked.now c.requires

pub returns-clause-in_form : goal.returns-clause-in_form
returns-clause-in_form c =
    let linked = c.args.linked.now in
    let regs = c.in_ok-clauses.ensures.regs linked.design c.requires.cells in
    all_in_form linked.design linked.names.cells c.in_ok-assist.assist.clauses c.in_ok-clauses.clauses c.requires.sound c.in_ok-clauses.ensures.named
    c.in_ok-clauses.ensures.some regs
