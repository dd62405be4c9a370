use Rattle.std.proofs.Common.{List, ◌++◌, ◌+◌, length}
use Rattle.std.specs.Prelude.{flat_map}
use Rattle.query_model.specs.Keys.{below}
use Rattle.query_model.specs.Defined.{Definition, layer_definitions, end_definition, extra_definitions}
use Rattle.cnf_encode.proofs.Listing.{Closed-left, Closed-right, Lists-append}
use Rattle.cnf_encode.proofs.claims.list_late.Goals as goal

pub list_layers-requires-clause-closed : goal.list_layers-requires-clause-closed
list_layers-requires-clause-closed c =
    let coding = c.args.late.now.cells.now.list.coding in
    let d = c.args.late.now.subject.design.now in
    let claim = c.args.late.now.subject.claim.now in
    let moved = c.args.late.now.subject.moved in
    let layers : List Definition = flat_map (layer_definitions coding d claim moved c.args.cycle)
    (below (length claim.through + 1)) in
    let end : List Definition = end_definition coding d claim moved c.args.cycle claim.end in
    let points : List Definition = extra_definitions d claim moved c.args.cycle in
    Closed-left layers (end ++ points) c.requires.closed

pub list_end-requires-clause-closed : goal.list_end-requires-clause-closed
list_end-requires-clause-closed c =
    let coding = c.args.late.now.cells.now.list.coding in
    let d = c.args.late.now.subject.design.now in
    let claim = c.args.late.now.subject.claim.now in
    let moved = c.args.late.now.subject.moved in
    let layers : List Definition = flat_map (layer_definitions coding d claim moved c.args.cycle)
    (below (length claim.through + 1)) in
    let end : List Definition = end_definition coding d claim moved c.args.cycle claim.end in
    let points : List Definition = extra_definitions d claim moved c.args.cycle in
    Closed-left end points (Closed-right layers (end ++ points) c.requires.closed)

pub list_points-requires-clause-closed : goal.list_points-requires-clause-closed
list_points-requires-clause-closed c =
    let coding = c.args.late.now.cells.now.list.coding in
    let d = c.args.late.now.subject.design.now in
    let claim = c.args.late.now.subject.claim.now in
    let moved = c.args.late.now.subject.moved in
    let layers : List Definition = flat_map (layer_definitions coding d claim moved c.args.cycle)
    (below (length claim.through + 1)) in
    let end : List Definition = end_definition coding d claim moved c.args.cycle claim.end in
    let points : List Definition = extra_definitions d claim moved c.args.cycle in
    Closed-right end points (Closed-right layers (end ++ points) c.requires.closed)

pub returns : goal.returns
returns c = Lists-append c.in_ok-list_layers.ensures (Lists-append c.in_ok-list_end.ensures c.in_ok-list_points.ensures)
