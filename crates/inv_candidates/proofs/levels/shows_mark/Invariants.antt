use Rattle.std.proofs.Common.{◌≡◌, ◌<◌, ℕ, false, Some, slice_get}
use Rattle.sdcv_base.specs.Seqs.{is_marked}
use Rattle.net_model.specs.declared.netlist.RegOut.{RegOut}
use Rattle.inv_candidates.proofs.levels.shows_mark.Given as goal

abbrev pub invariant-loop-k : goal.invariant-loop-k
invariant-loop-k l = (j : ℕ) (o : RegOut) → j < l.k → slice_get l.reg.outs j ≡ Some o → is_marked l.marks o.net ≡ false
