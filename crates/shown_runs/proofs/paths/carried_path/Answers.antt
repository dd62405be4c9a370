use Rattle.std.proofs.Common.{◌∙◌, Option, arith, sym, subst}
use Rattle.std.specs.Prelude.{IfSome}
use Rattle.net_model.specs.Pins.{start_nets}
use Rattle.shown_runs.specs.LateCycles.{IsRest}
use Rattle.shown_runs.specs.declared.late_cycles.LateCycle.{LateCycle}
use Rattle.shown_runs.specs.declared.late_cycles.Rest.{Rest}
use Rattle.shown_runs.proofs.Rests.{carried}
use Rattle.shown_runs.proofs.Starting.{is_start_net}
use Rattle.shown_runs.proofs.paths.carried_path.Goals as goal

pub returns : goal.returns
returns c =
    let l : LateCycle = record {
      design = c.args.design;
      claim = c.args.claim;
      cycle = c.args.cycle;
      stale = c.args.stale;
      layers = c.in_ok-layers.layers;
    } in
    let rest = subst (λ (found : Option Rest). IfSome found (λ rest. IsRest l rest.source rest.nets.items)) c.in-Some.is c.in_ok-rest.ensures in
    let starts = is_start_net (start_nets c.args.design.now c.args.claim.now.start) c.in-Some.rest.source.net
    (sym c.is_start_net.ensures ∙ c.if-not-is_start_net.false) in
    record {
      some = rw c.from_vec.ensures (carried l c.in-Some.rest.source c.in-Some.rest.nets.items c.reverse.new.self.items rest (omega arith) starts
          c.reverse.ensures.items c.reverse.ensures.permutation);
    }
