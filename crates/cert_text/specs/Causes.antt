-- Why bytes spell no certificate.
use Rattle.std.specs.Prelude.{◌≡◌, ℕ, ◌<◌, ◌^◌, List, ◌++◌, Result, Ok, Err}
use Rattle.cert_values.specs.declared.certs.Cert.{Cert}
use Rattle.cert_values.specs.declared.faults.CertFault.{CertFault}
use Rattle.cert_values.specs.declared.faults.CertFault.TheVariants.{Form, Version, UnknownRegister, UnknownPair, TwicePair, NotTrivial, Invariant, Pair, Memory}
use Rattle.cert_lines.specs.Kinds.{text_of, first_words, IsVersion}
use Rattle.cert_lines.specs.Texts.{StopsAt}
use Rattle.cert_text.specs.Certs.{cert_bytes, IsSpellable, Spells}

-- the first line, with its newline, spells another version
pub record IsOtherVersion (bytes : List ℕ) (number : ℕ) : Type 0 where
  pub rest : List ℕ
  pub is : bytes ≡ text_of first_words number ++ rest
  pub small : number < 2 ^ 63
  pub other : ¬ IsVersion number

-- no certificate and no other version is spelled; the bytes stop being the beginning of a certificate's text in the line at that
-- offset, or end early
pub record IsFormFault (bytes : List ℕ) (offset : ℕ) : Type 0 where
  pub none : (c : Cert) → ¬ Spells bytes c
  pub version : (number : ℕ) → ¬ IsOtherVersion bytes number
  pub stops : StopsAt IsSpellable cert_bytes bytes offset

abbrev pub IsReadCause : List ℕ → CertFault → Type 0
IsReadCause bytes (Form offset) = IsFormFault bytes offset
IsReadCause bytes (Version number) = IsOtherVersion bytes number
IsReadCause bytes Memory = Unit {0}
IsReadCause bytes (UnknownRegister place) = ⊥
IsReadCause bytes (UnknownPair number) = ⊥
IsReadCause bytes (TwicePair number) = ⊥
IsReadCause bytes (NotTrivial number) = ⊥
IsReadCause bytes (Invariant place fault) = ⊥
IsReadCause bytes (Pair number fault) = ⊥

-- no other certificate is read, and only want of memory is told
abbrev pub Recalls : Result Cert CertFault → Cert → Type 0
Recalls (Ok cert) c = cert ≡ c
Recalls (Err fault) c = fault ≡ Memory
