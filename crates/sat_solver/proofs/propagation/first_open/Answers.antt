use Rattle.std.proofs.Common.{◌∙◌}
use Rattle.std.proofs.lemmas.List.{get_or_default}
use Rattle.sat_solver.proofs.Analyzing.{OthersFalse-none, OthersFalse-more}
use Rattle.sat_solver.proofs.propagation.first_open.Goals as goal

pub loop-at-init : goal.loop-at-init
loop-at-init c = OthersFalse-none c.args.trail.now.lits c.args.other

pub loop-at-preserved : goal.loop-at-preserved
loop-at-preserved c =
    OthersFalse-more c.args.trail.now.lits c.args.lits.now c.args.other c.loop-at.at c.index-lits-at.result c.loop-at-test.true
    (c.index-lits-at.is ∙ get_or_default c.args.lits.now c.loop-at.at c.index-lits-at.result 0 c.loop-at-test.true) c.loop-at.invariant c.if-is_open.ensures
