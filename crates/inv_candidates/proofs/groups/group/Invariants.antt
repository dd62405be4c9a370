use Rattle.std.proofs.Common.{◌-◌, ℕ, length}
use Rattle.net_model.specs.Netlist.{AllBelow}
use Rattle.inv_candidates.specs.Levels.{IsUpTo}
use Rattle.inv_candidates.proofs.groups.group.Given as goal

abbrev pub invariant-loop-group : goal.invariant-loop-group
invariant-loop-group l = record {
  upto : (level : ℕ) × IsUpTo l.design l.claim level l.group;
  names : AllBelow (length l.design.regs) l.group;
}

abbrev pub decreases-loop-group : goal.decreases-loop-group
decreases-loop-group l = 16 - length l.group
