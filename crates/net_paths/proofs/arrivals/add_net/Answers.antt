use Rattle.std.proofs.Common.{◌≡◌, ◌≤◌, ℕ, List, length, get_or, subst}
use Rattle.std.specs.Prelude.{Some, slice_get}
use Rattle.std.proofs.lemmas.Option.{slice_get-get_or}
use Rattle.net_model.specs.declared.claims.PinRef.{PinRef}
use Rattle.net_model.specs.declared.claims.PinRef.TheVariants.{Net}
use Rattle.net_paths.specs.Readers.{readers_at}
use Rattle.net_paths.specs.Arrivals.{IsArrival}
use Rattle.net_paths.proofs.Arriving.{adds_none, adds_next, net_added}
use Rattle.net_paths.proofs.arrivals.add_net.Goals as goal

pub loop-pin-init : goal.loop-pin-init
loop-pin-init c =
    adds_none (IsArrival c.args.reach.now c.args.places.now c.args.net) (readers_at c.args.reach.now.readers.now.rows.items c.args.net)
    c.args.found.now.items

pub loop-pin-preserved : goal.loop-pin-preserved
loop-pin-preserved c =
    let listed : List PinRef = c.of_net-pin-items.result.now in
    let row : List PinRef = readers_at c.args.reach.now.readers.now.rows.items c.args.net in
    let i : ℕ = c.loop-pin.pin-index in
    let pin : PinRef = get_or listed i (Net 0) in
    let here : slice_get row i ≡ Some pin = subst (λ (l : List PinRef). slice_get l i ≡ Some pin) c.of_net-pin-items.ensures
    (slice_get-get_or listed i (Net 0) c.loop-pin-test.true) in
    adds_next (IsArrival c.args.reach.now c.args.places.now c.args.net) row i pin c.args.found.now.items c.loop-pin.found.items c.add_pin.new.found.items
    here c.loop-pin.invariant c.in_ok-add_pin.ensures

pub returns : goal.returns
returns c =
    let past : length (readers_at c.args.reach.now.readers.now.rows.items c.args.net) ≤ c.loop-pin.pin-index =
    subst (λ (l : List PinRef). length l ≤ c.loop-pin.pin-index) c.of_net-pin-items.ensures c.loop-pin-test.false in
    net_added c.args.reach.now c.args.places.now c.args.net c.loop-pin.pin-index c.args.found.now.items c.loop-pin.found.items c.requires.reach past
    c.loop-pin.invariant
