use Rattle.std.proofs.Common.{ℕ}
use Rattle.net_model.specs.Queries.{claim_query}
use Rattle.net_model.specs.declared.queries.Phase.TheVariants.{Base}
use Rattle.cert_check.specs.Inducting.{AreBasesRefuted}
use Rattle.cert_check.proofs.inducting.refute_claim_bases.Given as goal

abbrev pub invariant-loop-offset : goal.invariant-loop-offset
invariant-loop-offset l = AreBasesRefuted l.design.coding (λ (o : ℕ). claim_query l.design.design l.claim Base o l.kept) l.base l.offset
