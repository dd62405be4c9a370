-- Faults of derivations as faults of a certificate, and the one answer where it is accepted.
use Rattle.std.specs.Prelude.{◌≡◌, ℕ, List, Result, MatchResult}
use Rattle.rup_check.specs.declared.faults.CheckFault.{CheckFault}
use Rattle.rup_check.specs.declared.faults.CheckFault.TheVariants.{HintMissing, HintNotUnit, NoConflict, NotEmpty, Memory as NoRoom}
use Rattle.cert_values.specs.declared.faults.CertFault.{CertFault}
use Rattle.cert_values.specs.declared.faults.CertFault.TheVariants.{Invariant, Pair, Memory}

-- want of memory, or a fault of the kept clause at a place
abbrev pub clause_fault : ℕ → CheckFault → CertFault
clause_fault place NoRoom = Memory
clause_fault place (HintMissing step) = Invariant place (HintMissing step)
clause_fault place (HintNotUnit step hint) = Invariant place (HintNotUnit step hint)
clause_fault place (NoConflict step) = Invariant place (NoConflict step)
clause_fault place NotEmpty = Invariant place NotEmpty

-- want of memory, or a fault of the pair of a number
abbrev pub pair_fault : ℕ → CheckFault → CertFault
pair_fault number NoRoom = Memory
pair_fault number (HintMissing step) = Pair number (HintMissing step)
pair_fault number (HintNotUnit step hint) = Pair number (HintNotUnit step hint)
pair_fault number (NoConflict step) = Pair number (NoConflict step)
pair_fault number NotEmpty = Pair number NotEmpty

-- the answer is this list, or there is no memory
abbrev pub IsAnswerFor : List ℕ → Result (List ℕ) CertFault → Type 0
IsAnswerFor numbers result = MatchResult result (λ (found : List ℕ). found ≡ numbers) (λ (e : CertFault). e ≡ Memory)
