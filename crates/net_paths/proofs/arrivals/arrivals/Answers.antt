use Rattle.std.proofs.Common.{◌≡◌, ◌≤◌, ℕ, List, [], length, get_or, sym, subst}
use Rattle.std.specs.Prelude.{Some, slice_get}
use Rattle.std.proofs.lemmas.Option.{slice_get-get_or}
use Rattle.net_paths.specs.Arrivals.{Adds, ArrivesFrom}
use Rattle.net_paths.proofs.Arriving.{Before, adds_none, adds_next, all_arrived}
use Rattle.net_paths.proofs.arrivals.arrivals.Goals as goal

pub loop-net-init : goal.loop-net-init
loop-net-init c =
    let nets : List ℕ = c.args.reach.now.cone.now.nets.items in
    subst (Adds (Before (ArrivesFrom c.args.reach.now c.args.places.now) nets 0) []) (sym c.new-found.ensures.items)
    (adds_none (ArrivesFrom c.args.reach.now c.args.places.now) nets [])

pub loop-net-preserved : goal.loop-net-preserved
loop-net-preserved c =
    let listed : List ℕ = c.as_slice-net-items.result.now in
    let nets : List ℕ = c.args.reach.now.cone.now.nets.items in
    let i : ℕ = c.loop-net.net-index in
    let net : ℕ = get_or listed i 0 in
    let here : slice_get nets i ≡ Some net = subst (λ (l : List ℕ). slice_get l i ≡ Some net) c.as_slice-net-items.ensures.value
    (slice_get-get_or listed i 0 c.loop-net-test.true) in
    adds_next (ArrivesFrom c.args.reach.now c.args.places.now) nets i net [] c.loop-net.found.items c.add_net.new.found.items
    here c.loop-net.invariant c.in_ok-add_net.ensures

pub returns : goal.returns
returns c =
    let past : length c.args.reach.now.cone.now.nets.items ≤ c.loop-net.net-index =
    subst (λ (l : List ℕ). length l ≤ c.loop-net.net-index) c.as_slice-net-items.ensures.value c.loop-net-test.false in
    all_arrived c.args.reach.now c.args.places.now c.loop-net.net-index c.loop-net.found.items c.requires.reach past c.loop-net.invariant
