use Rattle.claim_monitor.proofs.Showing.{row_means}
use Rattle.claim_monitor.proofs.cycle_literals.start_literal.Goals as goal

pub returns-in-Reg : goal.returns-in-Reg
returns-in-Reg c = λ g literals. rw c.in-Reg.is (row_means g c.args.literals.now.bits c.in-Reg.r c.at.result c.at.ensures literals.in_bits)

pub returns-in-Input : goal.returns-in-Input
returns-in-Input c = λ g literals. rw c.in-Input.is (row_means g c.args.literals.now.ins c.in-Input.i c.at-in-Input.result c.at-in-Input.ensures literals.in_ins)
