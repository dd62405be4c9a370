use Rattle.std.proofs.Common.{true, false, refl}
use Rattle.and_graphs.proofs.Growing.{means_constant}
use Rattle.and_graphs.proofs.graphs.bit_literal.Goals as goal

pub returns-then-bit : goal.returns-then-bit
returns-then-bit c = λ g. rw c.if-bit.true (means_constant g 1 true refl)

pub returns-else-bit : goal.returns-else-bit
returns-else-bit c = λ g. rw c.if-bit.false (means_constant g 0 false refl)
