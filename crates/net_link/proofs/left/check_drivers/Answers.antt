use Rattle.std.proofs.Common.{inr, List}
use Rattle.std.proofs.Common.{subst, sym}
use Rattle.std.specs.Prelude.{Option}
use Rattle.netlist_types.specs.declared.sources.Source.{Source}
use Rattle.link_defs.specs.declared.circuits.Circuit.{Circuit}
use Rattle.link_defs.specs.declared.cuts.CutItem.{CutItem}
use Rattle.link_defs.specs.declared.cuts.CutSource.{CutSource}
use Rattle.link_defs.specs.Flatten.{flat_of}
use Rattle.link_design.specs.Lawful.{IsLawfulCircuit}
use Rattle.link_cuts.specs.Checks.{IsDrivenPin}
use Rattle.link_cuts.specs.declared.places.PinPlace.{PinPlace}
use Rattle.link_items.specs.Items.{module_at}
use Rattle.link_circuit.proofs.Finding.{name_below}
use Rattle.net_link.proofs.Leaving.{driven_told, pin_there, pin_within}
use Rattle.net_link.proofs.left.check_drivers.Goals as goal

abbrev source_of : Source → List CutItem → CutSource
source_of s items = record { source = s; items = items }

pub driven_pin-requires : goal.driven_pin-requires
driven_pin-requires c =
    let (items, o, j, is) = c.requires in
    record { lawful = subst (λ (k : Circuit). IsLawfulCircuit k) (sym is.circuit) is.lawful }

pub item-requires-in-Some : goal.item-requires-in-Some
item-requires-in-Some c =
    let x = c.args.judged.now in
    let found = subst (λ (o : Option PinPlace). IsDrivenPin x.flat.circuit x.cells o) c.in-Some.is c.in_ok-place.ensures in
    pin_within x.flat.circuit x.cells c.in-Some.place c.item.result.now found c.item.ensures

pub net_name-requires-clause-scopes : goal.net_name-requires-clause-scopes
net_name-requires-clause-scopes c = let (items, o, j, is) = c.requires in is.below.are_scopes

pub net_name-requires-clause-net : goal.net_name-requires-clause-net
net_name-requires-clause-net c =
    let (items, o, j, is) = c.requires in
    let s = c.args.netlist.now.source.now in
    let x = c.args.judged.now in
    let found = subst (λ (o : Option PinPlace). IsDrivenPin x.flat.circuit x.cells o) c.in-Some.is c.in_ok-place.ensures in
    pin_there (source_of s items) c.args.netlist.now.library.now (module_at s c.args.top) o j x c.in-Some.place c.item.result.now
    c.item-in-Some.result.now is found c.item.ensures c.item-in-Some.ensures

pub returns-in_ok-net_name-in-Some-clause-err : goal.returns-in_ok-net_name-in-Some-clause-err
returns-in_ok-net_name-in-Some-clause-err c =
    let (items, o, j, is) = c.requires in
    let s = c.args.netlist.now.source.now in
    let lib = c.args.netlist.now.library.now in
    let top = module_at s c.args.top in
    let x = c.args.judged.now in
    let name = c.in_ok-net_name-in-Some.field-0 in
    let found = subst (λ (o : Option PinPlace). IsDrivenPin x.flat.circuit x.cells o) c.in-Some.is c.in_ok-place.ensures in
    inr (driven_told (flat_of s lib top) x.flat.circuit x.cells c.in-Some.place c.item.result.now c.item-in-Some.result.now name found
    c.item.ensures c.item-in-Some.ensures
    (name_below (source_of s items) lib top o j x.flat name c.item-in-Some.result.now.net is.below c.in_ok-net_name-in-Some.ensures))
