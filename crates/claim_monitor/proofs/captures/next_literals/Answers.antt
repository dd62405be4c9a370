use Rattle.std.proofs.Common.{arith}
use Rattle.claim_monitor.proofs.CaptureLits.{nexts_more, nexts_all, literals_kept}
use Rattle.claim_monitor.proofs.captures.next_literals.Goals as goal

pub next_literal-requires-clause-literals : goal.next_literal-requires-clause-literals
next_literal-requires-clause-literals c =
    literals_kept c.args.graph.now c.loop-r.graph c.args.design.now c.args.literals.now c.loop-r.invariant.keeps c.requires.literals

pub loop-r-preserved : goal.loop-r-preserved
loop-r-preserved c =
    rw c.in_ok-push.ensures.ok (nexts_more c.args.design.now c.args.literals.now c.args.graph.now c.loop-r.graph c.next_literal.new.graph c.loop-r.list
    c.loop-r.r c.in_ok-literal.literal c.next_literal.ensures.keeps c.requires.literals c.in_ok-literal.ensures.means c.loop-r.invariant)

pub returns-clause-captures : goal.returns-clause-captures
returns-clause-captures c =
    nexts_all c.args.design.now c.args.literals.now c.args.graph.now c.loop-r.graph c.loop-r.list c.loop-r.r (omega arith)
    c.requires.literals c.loop-r.invariant
