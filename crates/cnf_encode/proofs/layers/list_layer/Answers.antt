use Rattle.std.proofs.Common.{List}
use Rattle.std.specs.Prelude.{flat_map}
use Rattle.query_model.specs.Defined.{Definition, numbered, start_units, layer_gate}
use Rattle.cnf_encode.proofs.Listing.{Closed-right}
use Rattle.cnf_encode.proofs.layers.list_layer.Goals as goal

pub list_layer_gates-requires-clause-closed : goal.list_layer_gates-requires-clause-closed
list_layer_gates-requires-clause-closed c =
    let coding = c.args.late.now.cells.now.list.coding in
    let d = c.args.late.now.subject.design.now in
    let claim = c.args.late.now.subject.claim.now in
    let moved = c.args.late.now.subject.moved in
    let cycle = c.args.layer_at.cycle in
    let l = c.args.layer_at.layer in
    Closed-right (start_units d claim cycle l)
    (flat_map (λ (defs : List Definition). defs) (numbered (layer_gate coding d claim moved cycle
    l) 0 d.gates)) c.requires.closed
