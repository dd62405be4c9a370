use Rattle.std.proofs.Common.{length}
use Rattle.net_model.proofs.TernaryOnce.{unknown_layers, ternary_layers}
use Rattle.shown_runs.proofs.late_layers.unknown_layers.Goals as goal

pub returns : goal.returns
returns c = (
  c.requires.hazard,
  ternary_layers c.args.design.now c.args.claim.now.start c.args.claim.now.through c.args.cycle.now.nets c.make_layers.new.rows
      (unknown_layers c.args.design.now c.args.claim.now.start c.args.claim.now.through c.args.cycle.now.nets c.make_layers.new.rows
      (length c.args.claim.now.through) c.make_layers.ensures.layers),
)
