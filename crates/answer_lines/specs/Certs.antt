-- The lines of a certificate that is checked.
use Rattle.std.specs.Prelude.{ℕ, List, ◌∷◌, length, map, codes, Option, Some, None, option_map}
use Rattle.std.specs.Fmt.{decimal}
use Rattle.rup_check.specs.declared.faults.CheckFault.{CheckFault}
use Rattle.rup_check.specs.declared.faults.CheckFault.TheVariants as check
use Rattle.cert_values.specs.declared.faults.CertFault.{CertFault}
use Rattle.cert_values.specs.declared.faults.CertFault.TheVariants as cert
use Rattle.answer_lines.specs.Texts.{◌⁀◌, newline}

-- so many of so many pairs are accepted
abbrev pub accepted_line : ℕ → ℕ → List ℕ
accepted_line accepted pairs = codes "accepted " ⁀ decimal accepted ⁀ codes " of " ⁀ decimal pairs ⁀ newline

-- the pair of this number is accepted
abbrev pub pair_line : ℕ → List ℕ
pair_line number = codes "pair " ⁀ decimal number ⁀ newline

-- how many pairs are accepted, and then each of them
abbrev pub accepted_lines : List ℕ → ℕ → List (List ℕ)
accepted_lines numbers pairs = accepted_line (length numbers) pairs ∷ map pair_line numbers

-- why a derivation is refused
abbrev pub check_text : CheckFault → Option (List ℕ)
check_text (check.HintMissing step) = Some (codes "HintMissing " ⁀ decimal step)
check_text (check.HintNotUnit step place) = Some (codes "HintNotUnit " ⁀ decimal step ⁀ codes " " ⁀ decimal place)
check_text (check.NoConflict step) = Some (codes "NoConflict " ⁀ decimal step)
check_text check.NotEmpty = Some (codes "NotEmpty")
check_text check.Memory = None

-- why a certificate is rejected: the number of the cause, its name, and what it speaks of
abbrev pub rejected_text : CertFault → Option (List ℕ)
rejected_text (cert.Form offset) = Some (codes "1 Form " ⁀ decimal offset)
rejected_text (cert.Version number) = Some (codes "2 Version " ⁀ decimal number)
rejected_text (cert.UnknownRegister place) = Some (codes "3 UnknownRegister " ⁀ decimal place)
rejected_text (cert.UnknownPair number) = Some (codes "4 UnknownPair " ⁀ decimal number)
rejected_text (cert.TwicePair number) = Some (codes "5 TwicePair " ⁀ decimal number)
rejected_text (cert.NotTrivial number) = Some (codes "6 NotTrivial " ⁀ decimal number)
rejected_text (cert.Invariant place why) = option_map (λ text. codes "7 Invariant " ⁀ decimal place ⁀ codes " " ⁀ text) (check_text why)
rejected_text (cert.Pair number why) = option_map (λ text. codes "8 Pair " ⁀ decimal number ⁀ codes " " ⁀ text) (check_text why)
rejected_text cert.Memory = None

abbrev pub rejected_line : CertFault → Option (List ℕ)
rejected_line fault = option_map (λ text. codes "rejected " ⁀ text ⁀ newline) (rejected_text fault)
