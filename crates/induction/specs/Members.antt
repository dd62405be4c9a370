-- Clauses that are left, with their derivations.
use Rattle.std.specs.Prelude.{Bool, List, [], ◌∷◌}
use Rattle.net_model.specs.Queries.{clause_holds}
use Rattle.net_model.specs.declared.cycles.Cycle.{Cycle}
use Rattle.net_model.specs.declared.invariants.InvClause.{InvClause}
use Rattle.proof_log.specs.declared.derivations.Derivation.{Derivation}
use Rattle.verdict_types.specs.declared.kept.InvProof.{InvProof}
use Rattle.induction.specs.declared.members.Member.{Member}

-- the clause of a member
abbrev pub clause_of : Member → InvClause
clause_of m = m.clause

-- whether a member's clause holds in a cycle
abbrev pub holds_of : Cycle → Member → Bool
holds_of c m = clause_holds c m.clause

-- the base derivations of the members, each with the step derivation at the same place
abbrev pub proofs_of : List Member → List Derivation → List InvProof
proofs_of [] steps = []
proofs_of (m ∷ ms) [] = []
proofs_of (m ∷ ms) (step ∷ steps) = record { base = m.base; step = step } ∷ proofs_of ms steps
