use Rattle.std.proofs.Common.{◌≡◌, ◌++◌, take}
use Rattle.sdcv_base.specs.Seqs.{each_at}
use Rattle.sdc_objects.specs.Things.{pin_named}
use Rattle.sdc_objects.proofs.pins.add_pins_of.Given as goal

abbrev pub invariant-loop-place : goal.invariant-loop-place
invariant-loop-place l = l.found ≡ l.fn.found ++ each_at (pin_named l.query l.k l.cell.name) 0 (take l.place l.cell.pins)
