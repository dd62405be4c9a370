use Rattle.std.proofs.Common.{◌≡◌, ◌∙◌, ◌∷◌, ◌++◌, [], true, ap, sym, subst, List, Some}
use Rattle.net_model.specs.Form.{value}
use Rattle.net_model.specs.declared.netlist.Gate.{Gate}
use Rattle.query_model.specs.Keys.{lit, key}
use Rattle.query_model.specs.Defined.{gate_reads}
use Rattle.query_model.specs.declared.keys.Key.{Key}
use Rattle.query_model.specs.declared.keys.KeyLit.{KeyLit}
use Rattle.frame_unroll.specs.Counting.{marked}
use Rattle.frame_unroll.specs.Found.{Finds, with_key, with_keys}
use Rattle.frame_unroll.specs.Sites.{counted_rail, gate_rail}
use Rattle.frame_unroll.proofs.Adding.{with_keys-append}
use Rattle.frame_unroll.proofs.Tabled.{gate_long, gate_counted, length-gate_reads}
use Rattle.frame_unroll.proofs.found_keys.add_gate_rail.Goals as goal

pub add_pins_at-requires-clause-long : goal.add_pins_at-requires-clause-long
add_pins_at-requires-clause-long c =
    let s = c.args.subject.now in
    let row = c.args.rail_at in
    let g : Gate = c.item-driver.result.now in
    let reads = gate_reads s.design.now s.claim.now s.moved row.cycle row.layer row.rail c.args.gate g in
    gate_long s.tables.now s.design.now c.args.gate g c.gate_places-places.result.now reads c.requires.subject.tables c.item-driver.ensures
    c.gate_places-places.ensures (length-gate_reads s.design.now s.claim.now s.moved row.cycle row.layer row.rail c.args.gate g)
    ∙ length-gate_reads s.design.now s.claim.now s.moved row.cycle row.layer row.rail c.args.gate g

pub returns : goal.returns
returns c h at =
    let s = c.args.subject.now in
    let row = c.args.rail_at in
    let coding = s.tables.now.coding in
    let g : Gate = c.item-driver.result.now in
    let marks = c.gate_places-places.result.now in
    let reads = gate_reads s.design.now s.claim.now s.moved row.cycle row.layer row.rail c.args.gate g in
    let out : Key = key row.cycle row.layer row.rail g.out in
    let counts = gate_counted s.tables.now s.design.now c.args.gate g marks reads c.requires.subject.tables c.item-driver.ensures
    c.gate_places-places.ensures (length-gate_reads s.design.now s.claim.now s.moved row.cycle row.layer row.rail c.args.gate g) in
    let found = c.in_ok-insert.ensures ∙ ap (λ (keys : List Key). with_key keys out) c.in_ok-add_pins_at.ensures
    ∙ sym (with_keys-append c.args.found.now (marked marks reads) (lit true out ∷ []))
    ∙ ap (λ (ls : List KeyLit). with_keys c.args.found.now (ls ++ lit true out ∷ [])) counts in
    let same : g ≡ h = same_gate g h (sym c.item-driver.ensures ∙ at) in
    subst (λ (x : Gate). Finds (counted_rail coding (value x.func) (gate_rail s.design.now s.claim.now s.moved row.cycle row.layer row.rail c.args.gate x))
    c.args.found.now c.insert.new.self) same found
  where
    same_gate : (a b : Gate) → Some a ≡ Some b → a ≡ b
    same_gate a b e = cc
