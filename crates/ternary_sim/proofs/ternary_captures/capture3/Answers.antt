use Rattle.std.proofs.Common.{subst}
use Rattle.net_model.specs.Ternary.{IsTernaryCapture}
use Rattle.net_model.specs.declared.terns.Tern.{Tern}
use Rattle.ternary_sim.proofs.Steady.{steady}
use Rattle.net_model.proofs.TernaryOnce.{unknown_layers, ternary_layers, ternary_once}
use Rattle.ternary_sim.proofs.ternary_captures.capture3.Goals as goal
use Rattle.std.proofs.Common.{length}

is_ternary : goal.returns-clause-ternary
is_ternary c = record {
  rows = c.make_layers.new.rows;
  layers =
      ternary_layers c.args.design.now c.args.claim.now.start c.args.claim.now.through c.args.cycle.now.nets c.make_layers.new.rows
      (unknown_layers c.args.design.now c.args.claim.now.start c.args.claim.now.through c.args.cycle.now.nets c.make_layers.new.rows
      (length c.args.claim.now.through) c.make_layers.ensures.layers);
  capture = c.capture_last.ensures;
}

pub returns-clause-ternary : goal.returns-clause-ternary
returns-clause-ternary c = is_ternary c

pub returns-clause-only : goal.returns-clause-only
returns-clause-only c =
    λ other is. ternary_once c.args.design.now c.args.claim.now c.args.cycle.now other c.capture_last.result c.requires.sound c.requires.fits.end_ is
    (is_ternary c)

pub returns-clause-steady : goal.returns-clause-steady
returns-clause-steady c =
    λ b known.
    steady c.args.design.now c.args.claim.now c.args.cycle.now b c.requires.sound c.requires.fits c.requires.settled
    (subst (λ (t : Tern). IsTernaryCapture c.args.design.now c.args.claim.now c.args.cycle.now t) known (is_ternary c))
