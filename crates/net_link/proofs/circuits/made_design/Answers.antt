use Rattle.net_link.proofs.circuits.made_design.Goals as goal

pub design_of-requires-clause-lawful : goal.design_of-requires-clause-lawful
design_of-requires-clause-lawful c = let (items, j, is) = c.requires.left in is.lawful

pub named_fault-requires-clause-circuit : goal.named_fault-requires-clause-circuit
named_fault-requires-clause-circuit c = let (items, j, is) = c.requires.left in (items, j, is.below)

pub named_fault-requires-clause-fine : goal.named_fault-requires-clause-fine
named_fault-requires-clause-fine c = let (items, j, is) = c.requires.left in is.fine

pub named_fault-requires-clause-few : goal.named_fault-requires-clause-few
named_fault-requires-clause-few c = let (items, j, is) = c.requires.left in is.few

pub returns-in_ok-named_fault-in-Err-clause-err : goal.returns-in_ok-named_fault-in-Err-clause-err
returns-in_ok-named_fault-in-Err-clause-err c = λ items j left. c.in_ok-named_fault-in-Err.ensures items j left.below
