use Rattle.std.proofs.Common.{◌≡◌, take}
use Rattle.std.specs.Prelude.{flat_map}
use Rattle.texts.specs.Names.{with_names}
use Rattle.sdc_objects.specs.Tables.{bit_names}
use Rattle.sdc_objects.proofs.tables.add_bits.Given as goal

abbrev pub invariant-loop-k : goal.invariant-loop-k
invariant-loop-k l = l.table ≡ with_names l.fn.table (flat_map bit_names (take l.k l.ports))
