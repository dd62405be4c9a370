use Rattle.std.proofs.Common.{◌+◌, ◌∷◌, [], take, map}
use Rattle.net_model.specs.declared.claims.PinRef.TheVariants.{Net}
use Rattle.list_laws.proofs.Joining.{pushed, map_next}
use Rattle.sdc_objects.proofs.columns.add_nets.Goals as goal

pub loop-k-preserved : goal.loop-k-preserved
loop-k-preserved c =
    pushed c.args.found.now c.loop-k.found c.push.new.self (Net c.at.result ∷ []) (map Net (take (c.loop-k.k + 1) c.args.nets.now))
    (map Net (take c.loop-k.k c.args.nets.now)) c.loop-k.invariant c.in_ok-push.ensures.ok (map_next Net c.args.nets.now c.loop-k.k c.at.result c.at.ensures)
