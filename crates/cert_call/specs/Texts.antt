-- When a text is accepted, and why it is refused.
use Rattle.std.specs.Prelude.{ℕ, List}
use Rattle.net_model.specs.declared.netlist.Design.{Design}
use Rattle.net_model.specs.declared.claims.Claim.{Claim}
use Rattle.cert_values.specs.declared.certs.Cert.{Cert}
use Rattle.cert_values.specs.Versions.{coding_of}
use Rattle.cert_values.specs.declared.faults.CertFault.{CertFault}
use Rattle.cert_values.specs.declared.faults.CertFault.TheVariants.{Form, Version, UnknownRegister, UnknownPair, TwicePair}
use Rattle.cert_values.specs.declared.faults.CertFault.TheVariants.{NotTrivial, Invariant, Pair, Memory}
use Rattle.cert_defs.specs.Accepted.{Accepts}
use Rattle.cert_defs.specs.Refused.{IsCause}
use Rattle.cert_text.specs.Certs.{Spells}
use Rattle.cert_text.specs.Causes.{IsReadCause}

-- the bytes spell a certificate that is accepted with this list
pub record IsAcceptedText (d : Design) (claims : List Claim) (bytes numbers : List ℕ) : Type 0 where
  pub cert : Cert
  pub spells : Spells bytes cert
  pub accepts : Accepts (coding_of cert.version) d claims cert numbers

-- the bytes spell a certificate that there is this cause to refuse
pub record SpellsRefused (d : Design) (claims : List Claim) (bytes : List ℕ) (fault : CertFault) : Type 0 where
  pub cert : Cert
  pub spells : Spells bytes cert
  pub cause : IsCause (coding_of cert.version) d claims cert fault

-- a fault of the text; or it spells a certificate with the cause. Want of memory is free
abbrev pub IsTextCause : Design → List Claim → List ℕ → CertFault → Type 0
IsTextCause d claims bytes (Form offset) = IsReadCause bytes (Form offset)
IsTextCause d claims bytes (Version number) = IsReadCause bytes (Version number)
IsTextCause d claims bytes (UnknownRegister place) = SpellsRefused d claims bytes (UnknownRegister place)
IsTextCause d claims bytes (UnknownPair number) = SpellsRefused d claims bytes (UnknownPair number)
IsTextCause d claims bytes (TwicePair number) = SpellsRefused d claims bytes (TwicePair number)
IsTextCause d claims bytes (NotTrivial number) = SpellsRefused d claims bytes (NotTrivial number)
IsTextCause d claims bytes (Invariant place fault) = SpellsRefused d claims bytes (Invariant place fault)
IsTextCause d claims bytes (Pair number fault) = SpellsRefused d claims bytes (Pair number fault)
IsTextCause d claims bytes Memory = Unit {0}
