use Rattle.icg_rewrite.specs.Gated.{AreGated}
use Rattle.model_tests.proofs.gated_edges.gated.Given as goal

abbrev pub invariant-loop-enable : goal.invariant-loop-enable
invariant-loop-enable g l = AreGated l.gated

abbrev pub invariant-loop-reg : goal.invariant-loop-reg
invariant-loop-reg g l = AreGated l.gated
