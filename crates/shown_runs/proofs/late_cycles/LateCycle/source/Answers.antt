use Rattle.std.proofs.Common.{◌∷◌, arith, refl, drop}
use Rattle.net_model.specs.declared.claims.PinRef.TheVariants.{Net}
use Rattle.shown_runs.proofs.LateNets.{late_in, has_layer, has_net}
use Rattle.shown_runs.proofs.Walking.{meets_later}
use Rattle.shown_runs.proofs.late_cycles.LateCycle.source.Goals as goal

pub is_late-requires-clause-layer : goal.is_late-requires-clause-layer
is_late-requires-clause-layer c =
    has_layer c.args.self.now c.free_layer-driven.result c.args.net c.requires.late (omega arith) c.requires.net

pub is_late-requires-clause-net : goal.is_late-requires-clause-net
is_late-requires-clause-net c = has_net c.args.self.now c.args.net c.requires.late c.requires.net

pub returns-then-is_late : goal.returns-then-is_late
returns-then-is_late c = record {
  of_net = refl;
  below = omega (arith, c.free_layer-driven.ensures.below, c.free_layer-read.ensures.below);
  late = late_in c.args.self.now c.free_layer-driven.result c.args.net c.requires.late
      (omega (arith, c.free_layer-driven.ensures.below, c.free_layer-read.ensures.below)) (c.is_late.ensures c.if-is_late.true);
  meets = λ path meets. c.free_layer-driven.ensures.meets (c.args.pin ∷ path)
      (meets_later (drop c.free_layer-read.result c.args.self.now.claim.now.through) (Net c.args.net) (c.args.pin ∷ path)
      (c.free_layer-read.ensures.meets path meets));
}
