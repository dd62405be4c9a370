use Rattle.std.proofs.Common.{◌+◌, length, arith}
use Rattle.query_model.specs.Defined.{layer_definitions}
use Rattle.cnf_encode.proofs.Listing.{Closed-below, Lists-below_more}
use Rattle.cnf_encode.proofs.layers.list_layers.Goals as goal

pub list_layer-requires-clause-closed : goal.list_layer-requires-clause-closed
list_layer-requires-clause-closed c =
    let coding = c.args.late.now.cells.now.list.coding in
    Closed-below (layer_definitions coding c.args.late.now.subject.design.now c.args.late.now.subject.claim.now c.args.late.now.subject.moved c.args.cycle)
    (length c.args.late.now.subject.claim.now.through + 1) c.loop-layer.layer (omega (arith, c.len-layer-end.ensures, c.loop-layer-test.true))
    c.requires.closed

pub loop-layer-preserved : goal.loop-layer-preserved
loop-layer-preserved c =
    let coding = c.args.late.now.cells.now.list.coding in
    let d = c.args.late.now.subject.design.now in
    let claim = c.args.late.now.subject.claim.now in
    let moved = c.args.late.now.subject.moved in
    Lists-below_more (layer_definitions coding d claim moved c.args.cycle) c.loop-layer.layer
    c.loop-layer.invariant c.in_ok-list_layer.ensures
