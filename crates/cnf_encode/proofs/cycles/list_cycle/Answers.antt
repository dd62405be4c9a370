use Rattle.std.proofs.Common.{List, ◌++◌, map, length}
use Rattle.std.specs.Prelude.{flat_map}
use Rattle.query_model.specs.Keys.{below}
use Rattle.query_model.specs.Defined.{Definition, numbered, input_definition, gate_definition, bit_definition}
use Rattle.cnf_encode.proofs.Listing.{Closed-left, Closed-right}
use Rattle.cnf_encode.proofs.cycles.list_cycle.Goals as goal

pub list_gates-requires-clause-closed : goal.list_gates-requires-clause-closed
list_gates-requires-clause-closed c =
    let coding = c.args.cone.now.cells.now.list.coding in
    let d = c.args.cone.now.design.now in
    let inputs : List Definition = flat_map (input_definition d c.args.cone.now.live c.args.cycle) (below (length d.inputs)) in
    let gates : List Definition = map (gate_definition coding d c.args.cycle) d.gates in
    let bits : List Definition = numbered (bit_definition coding d c.args.cycle) 0 d.regs in
    Closed-left gates bits (Closed-right inputs (gates ++ bits) c.requires.closed)

pub list_bits-requires-clause-closed : goal.list_bits-requires-clause-closed
list_bits-requires-clause-closed c =
    let coding = c.args.cone.now.cells.now.list.coding in
    let d = c.args.cone.now.design.now in
    let inputs : List Definition = flat_map (input_definition d c.args.cone.now.live c.args.cycle) (below (length d.inputs)) in
    let gates : List Definition = map (gate_definition coding d c.args.cycle) d.gates in
    let bits : List Definition = numbered (bit_definition coding d c.args.cycle) 0 d.regs in
    Closed-right gates bits (Closed-right inputs (gates ++ bits) c.requires.closed)
