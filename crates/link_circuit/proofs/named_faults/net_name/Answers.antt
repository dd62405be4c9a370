use Rattle.std.proofs.Common.{◌≡◌, ℕ, List, length, ap, subst, sym, ◌∙◌, arith}
use Rattle.std.specs.Prelude.{Option, Some, Contains, ◌==◌, IsSome, flat_map, map, slice_get}
use Rattle.std.specs.List.{position}
use Rattle.netlist_types.specs.declared.sources.Module.{Module}
use Rattle.link_defs.specs.Flatten.{scope_names}
use Rattle.link_items.specs.declared.made.Instance.{Instance}
use Rattle.link_items.specs.Items.{scope_of}
use Rattle.link_items.proofs.Listing.{all_at}
use Rattle.link_circuit.specs.Flats.{IsScope}
use Rattle.link_circuit.specs.Names.{has_net}
use Rattle.link_circuit.proofs.Finding.{instance_found, net_found, place_within, name_is, module_is}
use Rattle.link_circuit.proofs.named_faults.net_name.Goals as goal

pub unwrap-at-requires : goal.unwrap-at-requires
unwrap-at-requires c =
    subst (λ (o : Option ℕ). IsSome o)
    (sym (c.instance_with.ensures ∙ ap (λ (gs : List Instance). position (has_net c.args.net) gs) c.as_slice.ensures))
    (instance_found c.args.netlist.now.source.now c.args.scopes.now c.args.net c.requires.net)

pub unwrap-place-requires : goal.unwrap-place-requires
unwrap-place-requires c =
    subst (λ (o : Option ℕ). IsSome o) (sym (c.place_in.ensures ∙ ap (λ (ns : List ℕ). position (λ n. n == c.args.net) ns) c.as_slice-2.ensures))
    (net_found c.args.scopes.now c.args.net c.unwrap-at.result c.item-instance.result.now
    (sym c.unwrap-at.ensures ∙ c.instance_with.ensures ∙ ap (λ (gs : List Instance). position (has_net c.args.net) gs) c.as_slice.ensures)
    c.item-instance.ensures)

pub item-requires : goal.item-requires
item-requires c =
    (all_at (IsScope c.args.netlist.now.source.now) c.args.scopes.now c.requires.scopes c.unwrap-at.result c.item-instance.result.now c.item-instance.ensures).body

pub item-requires-2 : goal.item-requires-2
item-requires-2 c =
    let scope = all_at (IsScope c.args.netlist.now.source.now) c.args.scopes.now c.requires.scopes c.unwrap-at.result c.item-instance.result.now
    c.item-instance.ensures in
    let body = module_is c.args.netlist.now.source.now c.item-instance.result.now.body c.item.result.now c.item.ensures in
    let lt = place_within c.args.net c.unwrap-place.result c.item-instance.result.now.nets
    (sym c.unwrap-place.ensures ∙ c.place_in.ensures ∙ ap (λ (ns : List ℕ). position (λ n. n == c.args.net) ns) c.as_slice-2.ensures) in
    let names = ap (λ (m : Module). length m.nets) body in
    omega (arith, lt, scope.nets, names)

pub returns : goal.returns
returns c =
    let place = sym c.unwrap-place.ensures ∙ c.place_in.ensures ∙ ap (λ (ns : List ℕ). position (λ n. n == c.args.net) ns) c.as_slice-2.ensures in
    let body = module_is c.args.netlist.now.source.now c.item-instance.result.now.body c.item.result.now c.item.ensures in
    let named = subst (λ (m : Module). slice_get m.nets c.unwrap-place.result ≡ Some c.item-2.result.now) body c.item-2.ensures in
    subst (λ (n : List ℕ). Contains (flat_map scope_names (map (scope_of c.args.netlist.now.source.now) c.args.scopes.now)) (n, c.args.net))
    (sym c.in_ok-name.ensures)
    (name_is c.args.netlist.now.source.now c.args.scopes.now c.args.net c.unwrap-at.result c.unwrap-place.result c.item-instance.result.now
    c.item-2.result.now c.item-instance.ensures place named)
