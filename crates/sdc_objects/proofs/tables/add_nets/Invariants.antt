use Rattle.std.proofs.Common.{take}
use Rattle.glob.specs.Indexes.{IsIndexOf}
use Rattle.sdc_objects.specs.Tables.{net_names}
use Rattle.sdc_objects.proofs.tables.add_nets.Given as goal

abbrev pub invariant-loop-k : goal.invariant-loop-k
invariant-loop-k l = IsIndexOf (net_names (take l.k l.nets)) l.index
