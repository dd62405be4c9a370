use Rattle.std.proofs.Common.{ℕ}
use Rattle.net_model.specs.declared.invariants.InvClause.{InvClause}
use Rattle.net_model.specs.Fits.{NamesRegs}
use Rattle.cert_check.proofs.Below.{EachBelow}
use Rattle.cert_check.proofs.listing.unknown_register.Given as goal

abbrev pub invariant-loop-place : goal.invariant-loop-place
invariant-loop-place l = EachBelow (λ (j : ℕ) (clause : InvClause). NamesRegs l.design clause) l.kept l.place
