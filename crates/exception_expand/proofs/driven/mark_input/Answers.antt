use Rattle.std.proofs.Common.{arith}
use Rattle.exception_expand.proofs.Driving.{mark_put, mark_past}
use Rattle.exception_expand.proofs.driven.mark_input.Goals as goal

pub returns-then-input-len-clause-marked : goal.returns-then-input-len-clause-marked
returns-then-input-len-clause-marked c = λ i low.
    mark_put c.args.marks.now c.put.new.self c.args.input i (omega (arith, c.if-input-len.true, c.len.ensures)) c.put.ensures

pub returns-else-input-len-clause-marked : goal.returns-else-input-len-clause-marked
returns-else-input-len-clause-marked c = λ i low.
    mark_past c.args.marks.now c.args.input i (omega (arith, c.if-input-len.false, c.len.ensures)) low
