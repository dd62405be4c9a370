use Rattle.std.proofs.Common.{◌<◌, ℕ, length}
use Rattle.net_model.specs.declared.invariants.StateLit.{StateLit}
use Rattle.cert_check.proofs.Below.{EachBelow}
use Rattle.cert_check.proofs.listing.names_regs.Given as goal

abbrev pub invariant-loop-k : goal.invariant-loop-k
invariant-loop-k l = EachBelow (λ (j : ℕ) (lit : StateLit). lit.reg < length l.design.regs) l.clause.lits l.k
