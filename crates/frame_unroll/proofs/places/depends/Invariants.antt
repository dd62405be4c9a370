use Rattle.std.proofs.Common.{◌≡◌, false}
use Rattle.std.specs.List.{list_any}
use Rattle.net_model.specs.Form.{value}
use Rattle.query_model.specs.Keys.{below}
use Rattle.query_model.specs.Tables.{row_bits}
use Rattle.frame_unroll.specs.Counting.{changes}
use Rattle.frame_unroll.proofs.places.depends.Given as goal

abbrev pub invariant-loop-number : goal.invariant-loop-number
invariant-loop-number l = list_any (λ w. changes (value l.func) l.place (row_bits l.places w)) (below l.number) ≡ false
