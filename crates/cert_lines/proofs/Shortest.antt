-- The shortest line of each kind.
use Rattle.std.proofs.Common.{Bool, true, [], ◌∷◌, refl, arith}
use Rattle.proof_log.specs.declared.derivations.DerivStep.{DerivStep}
use Rattle.net_model.specs.declared.invariants.InvClause.{InvClause}
use Rattle.cert_lines.specs.declared.heads.InvHead.{InvHead}
use Rattle.cert_lines.specs.Kinds.{IsInvHead, IsKept, IsStep}
use Rattle.cert_lines.proofs.KindLemmas.{state_fits}

abbrev pub no_inv : InvHead
no_inv = record { depth = 0; count = 0 }

pub no_inv_fits : IsInvHead no_inv
no_inv_fits = record { deep = omega arith; none = λ e. refl; small = omega arith }

abbrev pub one_state : InvClause
one_state = record { lits = record { reg = 0; value = true } ∷ [] }

pub one_state_fits : (long : Bool) → IsKept long one_state
one_state_fits long = record { some = omega arith; ascend = (state_fits 0 0 true (omega arith) (omega arith), tt); short = λ e. omega arith }

abbrev pub no_step : DerivStep
no_step = record { clause = []; hints = [] }

pub no_step_fits : IsStep no_step
no_step_fits = record { lits = tt; hints = tt }
