use Rattle.std.proofs.Common.{◌≡◌, map, take}
use Rattle.query_model.specs.Reads.{read_base}
use Rattle.frame_unroll.proofs.gathered.pin_literals.Given as goal

abbrev pub invariant-loop-net : goal.invariant-loop-net
invariant-loop-net l = l.reads ≡ map (read_base l.design l.cycle) (take l.net-index l.ins)
