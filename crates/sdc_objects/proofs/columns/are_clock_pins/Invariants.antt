use Rattle.std.proofs.Common.{◌≡◌, true, take}
use Rattle.std.specs.List.{list_all}
use Rattle.linked_types.specs.declared.names.PinName.{PinName}
use Rattle.sdc_objects.specs.Standing.{is_clock_role}
use Rattle.sdc_objects.proofs.columns.are_clock_pins.Given as goal

abbrev pub invariant-loop-k : goal.invariant-loop-k
invariant-loop-k l = list_all (λ (p : PinName). is_clock_role p.role) (take l.k l.pins) ≡ true
