use Rattle.std.proofs.Common.{◌∙◌, ℕ, ap}
use Rattle.net_model.specs.declared.claims.PinRef.{PinRef}
use Rattle.case_inputs.specs.Ties.{read_net}
use Rattle.case_inputs.specs.Assumed.{owner_pin}
use Rattle.case_inputs.proofs.Parts.{first_more}
use Rattle.case_inputs.proofs.loads.read_nets.Goals as goal

pub loop-place-preserved : goal.loop-place-preserved
loop-place-preserved c =
    first_more (λ (place net : ℕ). read_net c.args.ties.now.nets c.args.ties.now.sets (owner_pin c.args.owner place) net) c.args.nets.now c.loop-place.place
    c.at.result c.loop-place.list c.push.new.self c.read_net.result c.at.ensures c.loop-place.invariant
    (c.read_net.ensures
    ∙ ap (λ (pin : PinRef). read_net c.args.ties.now.nets c.args.ties.now.sets pin c.at.result) c.owner_pin.ensures)
    c.in_ok-push.ensures.ok
