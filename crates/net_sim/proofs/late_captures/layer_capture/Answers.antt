use Rattle.std.proofs.Common.{sym, not}
use Rattle.net_model.specs.Pins.{late_value}
use Rattle.net_model.proofs.LateReads.{on_bits}
use Rattle.net_model.proofs.LateOnce.{late_capture_once}
use Rattle.net_sim.proofs.late_captures.layer_capture.Goals as goal

is_late : goal.returns-clause-late
is_late c = record {
  rows = c.make_layers.new.rows;
  layers = on_bits c.args.design.now c.args.claim.now.start c.args.claim.now.through
      (late_value c.args.stale (not c.args.stale)) c.args.cycle.now.nets c.make_layers.new.rows c.make_layers.ensures.layers;
  capture = sym c.capture_last.ensures;
}

pub returns-clause-late : goal.returns-clause-late
returns-clause-late c = is_late c

pub returns-clause-only : goal.returns-clause-only
returns-clause-only c =
    λ late other. late_capture_once c.args.design.now c.args.claim.now c.args.cycle.now c.args.stale late c.capture_last.result c.requires.sound
    c.requires.fits.end_ other (is_late c)
