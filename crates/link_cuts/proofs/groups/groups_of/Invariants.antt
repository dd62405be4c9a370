use Rattle.std.proofs.Common.{take}
use Rattle.link_items.specs.Tables.{module_names}
use Rattle.link_cuts.specs.Groups.{AreGroups}
use Rattle.link_cuts.proofs.groups.groups_of.Given as goal

abbrev pub invariant-loop-place : goal.invariant-loop-place
invariant-loop-place l = AreGroups (take l.place l.items) (module_names l.netlist.source.now) l.groups.items
