use Rattle.std.proofs.Common.{◌≡◌, ◌-◌, length, take}
use Rattle.std.specs.Prelude.{sum_by}
use Rattle.linked_types.specs.declared.names.CutName.{CutName}
use Rattle.sdc_objects.proofs.tables.first_cut.Given as goal

abbrev pub invariant-loop-k : goal.invariant-loop-k
invariant-loop-k l = l.first ≡ length l.names.cells - sum_by (λ (c : CutName). c.count) (take l.k l.names.cuts)
