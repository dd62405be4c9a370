use Rattle.std.proofs.Common.{◌≡◌, true, take}
use Rattle.std.specs.List.{list_all}
use Rattle.cell_types.specs.declared.libraries.CombOut.{CombOut}
use Rattle.link_defs.specs.Parts.{is_buffer_form}
use Rattle.link_items.proofs.cells.are_buffers.Given as goal

abbrev pub invariant-loop-k : goal.invariant-loop-k
invariant-loop-k l = list_all (λ (o : CombOut). is_buffer_form o.func) (take l.k l.outs) ≡ true
