use Rattle.std.proofs.Common.{◌≡◌, ◌∙◌, ap, sym, subst, map, slice_get, Some, refl, List, OnOk}
use Rattle.std.proofs.lemmas.List.{length-map}
use Rattle.net_model.specs.declared.netlist.Design.{Design}
use Rattle.net_model.specs.declared.netlist.Gate.{Gate}
use Rattle.query_model.specs.Reads.{read_base}
use Rattle.query_model.specs.declared.keys.Key.{Key}
use Rattle.query_model.specs.declared.keys.KeyLit.{KeyLit}
use Rattle.frame_unroll.specs.Origins.{gate_base}
use Rattle.frame_unroll.specs.Found.{with_keys}
use Rattle.frame_unroll.proofs.Tabled.{gate_counted, gate_long}
use Rattle.frame_unroll.proofs.found_keys.add_base_gate.Goals as goal

pub add_pins-requires-clause-long : goal.add_pins-requires-clause-long
add_pins-requires-clause-long c =
    let t = c.args.tables.now in
    let g : Gate = c.item-driver.result.now in
    let at = subst (λ (d : Design). slice_get d.gates c.args.gate ≡ Some g) c.design.ensures c.item-driver.ensures in
    let reads : List KeyLit = map (read_base t.design c.args.cycle) g.ins in
    let long = length-map g.ins (read_base t.design c.args.cycle) in
    gate_long t t.design c.args.gate g c.gate_places.result.now reads refl at c.gate_places.ensures long ∙ long

pub returns : goal.returns
returns c =
    let t = c.args.tables.now in
    let g : Gate = c.item-driver.result.now in
    let at = subst (λ (d : Design). slice_get d.gates c.args.gate ≡ Some g) c.design.ensures c.item-driver.ensures in
    let reads : List KeyLit = map (read_base t.design c.args.cycle) g.ins in
    let counts = gate_counted t t.design c.args.gate g c.gate_places.result.now reads refl at c.gate_places.ensures
    (length-map g.ins (read_base t.design c.args.cycle)) in
    let whole = ap (with_keys c.args.found.now) (counts ∙ sym (ap (gate_base t.coding t.design c.args.cycle) at)) in
    subst (λ (keys : List Key). OnOk c.add_pins.result (c.add_pins.new.found ≡ keys)) whole c.add_pins.ensures
