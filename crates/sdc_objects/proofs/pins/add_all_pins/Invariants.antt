use Rattle.std.proofs.Common.{◌≡◌, ◌++◌, take}
use Rattle.sdcv_base.specs.Seqs.{each_at}
use Rattle.sdc_objects.specs.Things.{pins_named}
use Rattle.sdc_objects.proofs.pins.add_all_pins.Given as goal

abbrev pub invariant-loop-k : goal.invariant-loop-k
invariant-loop-k l = l.found ≡ l.fn.found ++ each_at (pins_named l.query) 0 (take l.k l.cells)
