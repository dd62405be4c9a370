use Rattle.std.proofs.Common.{◌≡◌, ◌≢◌, ℕ, ◌<◌, Some}
use Rattle.std.specs.Prelude.{slice_get}
use Rattle.net_model.specs.declared.netlist.Fixed.{Fixed}
use Rattle.verdicts.proofs.judged.is_set.Given as goal

abbrev pub invariant-loop-k : goal.invariant-loop-k
invariant-loop-k l = (j : ℕ) (s : Fixed) → j < l.k → slice_get l.settings j ≡ Some s → s.input ≢ l.input
