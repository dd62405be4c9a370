use Rattle.std.proofs.Common.{◌≡◌, false, take}
use Rattle.std.specs.List.{list_any}
use Rattle.net_model.specs.Queries.{state_value}
use Rattle.induction.proofs.members.holds_in.Given as goal

abbrev pub invariant-loop-lit : goal.invariant-loop-lit
invariant-loop-lit l = list_any (state_value l.cycle) (take l.lit-index l.clause.lits) ≡ false
