use Rattle.std.proofs.Common.{◌≡◌, ◌++◌, drop}
use Rattle.link_defs.specs.declared.circuits.Circuit.{Circuit}
use Rattle.link_defs.specs.Cuts.{cut_cell_names}
use Rattle.link_cuts.specs.Roles.{IsNamed, frame_of}
use Rattle.link_cuts.proofs.names.named_cells.Given as goal

abbrev pub invariant-loop-place : goal.invariant-loop-place
invariant-loop-place l = (c : Circuit) → IsNamed l.n c
    → cut_cell_names (frame_of l.n c) 0 l.n.cells.now ≡ l.list ++ cut_cell_names (frame_of l.n c) l.sinks (drop l.place l.n.cells.now)
