use Rattle.link_cuts.specs.declared.rows.CutRows.{CutRows}
use Rattle.link_cuts.proofs.Cutted.{free_row_is}
use Rattle.link_cuts.proofs.Freed.{free_is}
use Rattle.link_cuts.proofs.Placed.{nets_below}
use Rattle.link_cuts.proofs.Sunk.{AreRows, sinks_are, sinks_there}
use Rattle.link_cuts.proofs.cuts.cut_pins.Goals as goal

pub row_of-requires : goal.row_of-requires
row_of-requires c =
    rw c.in_ok-free_nets.ensures (nets_below c.args.circuit.now.nets c.args.cells.now c.in_ok-free.free c.requires.nets c.in_ok-free.ensures.at)

pub returns : goal.returns
returns c =
    let free =
    free_is c.args.circuit.now c.args.cells.now c.in_ok-marks.marks c.in_ok-places.places c.in_ok-free.free c.in_ok-marks.ensures.driven
    c.in_ok-marks.ensures.read c.in_ok-places.ensures.pins c.in_ok-free.ensures.free in
    let row =
    free_row_is c.args.circuit.now c.args.cells.now c.in_ok-free.free c.in_ok-free_nets.free_nets c.in_ok-row_of.field-0 free c.in_ok-free_nets.ensures
    c.in_ok-row_of.ensures in
    let rows : CutRows = record {
      tree = c.in_ok-tree.tree;
      driven = c.in_ok-marks.marks.driven;
      free = c.in_ok-row_of.field-0;
      clocked = c.in_ok-clocked.clocked;
    } in
    let are : AreRows c.args.circuit.now c.args.cells.now rows = record {
      driven = c.in_ok-marks.ensures.driven;
      free = row;
      clocked = c.in_ok-clocked.ensures;
    } in
    record {
      tree = c.in_ok-tree.ensures;
      driven = c.in_ok-marks.ensures.driven;
      free_row = row;
      clocked = c.in_ok-clocked.ensures;
      free = free;
      free_at = c.in_ok-free.ensures.at;
      sinks =
          sinks_are c.args.circuit.now c.args.cells.now rows c.in_ok-places.places c.in_ok-sinks.sinks are c.in_ok-places.ensures.at
          c.in_ok-places.ensures.pins c.in_ok-sinks.ensures;
      sinks_at =
          sinks_there c.args.cells.now rows c.in_ok-places.places c.in_ok-sinks.sinks c.in_ok-places.ensures.at c.in_ok-sinks.ensures;
      inputs = c.len.ensures;
      outputs = c.len-2.ensures;
    }
