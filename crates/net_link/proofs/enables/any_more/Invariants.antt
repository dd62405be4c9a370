use Rattle.std.proofs.Common.{◌≡◌}
use Rattle.net_model.specs.Form.{OrForm}
use Rattle.link_defs.specs.Parts.{folded}
use Rattle.net_link.proofs.enables.any_more.Given as goal

abbrev pub invariant-loop-k : goal.invariant-loop-k
invariant-loop-k l = l.func ≡ folded OrForm l.k
