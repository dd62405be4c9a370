use Rattle.std.proofs.Common.{◌∙◌}
use Rattle.icg_rewrite.proofs.Lists.{one_more_gate}
use Rattle.icg_rewrite.proofs.enables.gates_with_enables.Goals as goal

pub enable_gate-requires-clause-parent : goal.enable_gate-requires-clause-parent
enable_gate-requires-clause-parent c = (c.requires.are.gates c.loop-k.k c.item.result.now c.item.ensures).parent

pub loop-k-preserved : goal.loop-k-preserved
loop-k-preserved c =
    c.in_ok-push.ensures.ok
    ∙ one_more_gate c.args.gated.now.design.nets c.args.gated.now.design.gates c.args.gated.now.gates c.loop-k.k c.item.result.now c.loop-k.gates
    c.in_ok-enable_gate.field-0 c.loop-k.invariant c.item.ensures c.in_ok-enable_gate.ensures
