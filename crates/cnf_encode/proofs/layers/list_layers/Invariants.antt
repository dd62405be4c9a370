use Rattle.std.specs.Prelude.{flat_map}
use Rattle.query_model.specs.Keys.{below}
use Rattle.query_model.specs.Defined.{layer_definitions}
use Rattle.cnf_encode.specs.Late.{of_late}
use Rattle.cnf_encode.specs.Listed.{Lists}
use Rattle.cnf_encode.proofs.layers.list_layers.Given as goal

abbrev pub invariant-loop-layer : goal.invariant-loop-layer
invariant-loop-layer l = Lists l.frames (flat_map (of_late layer_definitions l.late l.cycle) (below l.layer)) l.fn.clauses l.clauses
