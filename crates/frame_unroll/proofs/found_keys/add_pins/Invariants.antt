use Rattle.std.proofs.Common.{◌≡◌, map, take}
use Rattle.query_model.specs.Reads.{read_base}
use Rattle.frame_unroll.specs.Counting.{marked}
use Rattle.frame_unroll.specs.Found.{with_keys}
use Rattle.frame_unroll.proofs.found_keys.add_pins.Given as goal

abbrev pub invariant-loop-i : goal.invariant-loop-i
invariant-loop-i l =
    l.found ≡ with_keys l.initial.found (marked (take l.i l.places) (take l.i (map (read_base l.tables.design l.cycle) l.ins)))
