use Rattle.std.proofs.Common.{◌≡◌, ℕ, Some}
use Rattle.std.specs.Prelude.{slice_get}
use Rattle.net_model.specs.Queries.{clause_query}
use Rattle.net_model.specs.declared.invariants.InvClause.{InvClause}
use Rattle.net_model.specs.declared.queries.Phase.TheVariants.{Base}
use Rattle.cert_check.specs.Inducting.{AreBasesRefuted}
use Rattle.cert_check.proofs.inducting.refute_clause_bases.Given as goal

abbrev pub invariant-loop-offset : goal.invariant-loop-offset
invariant-loop-offset l =
    (clause : InvClause) → slice_get l.kept l.place ≡ Some clause
    → AreBasesRefuted l.design.coding (λ (o : ℕ). clause_query l.design.design l.kept clause Base o) l.base l.offset
