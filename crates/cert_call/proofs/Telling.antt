-- The causes of a text, from those of reading it and of checking what it spells.
use Rattle.std.proofs.Common.{ℕ, List}
use Rattle.net_model.specs.declared.netlist.Design.{Design}
use Rattle.net_model.specs.declared.claims.Claim.{Claim}
use Rattle.cert_values.specs.declared.certs.Cert.{Cert}
use Rattle.cert_values.specs.Versions.{coding_of}
use Rattle.cert_values.specs.declared.faults.CertFault.{CertFault}
use Rattle.cert_values.specs.declared.faults.CertFault.TheVariants.{Form, Version, UnknownRegister, UnknownPair, TwicePair}
use Rattle.cert_values.specs.declared.faults.CertFault.TheVariants.{NotTrivial, Invariant, Pair, Memory}
use Rattle.cert_defs.specs.Refused.{IsCause}
use Rattle.cert_text.specs.Certs.{Spells}
use Rattle.cert_text.specs.Causes.{IsReadCause}
use Rattle.cert_call.specs.Texts.{SpellsRefused, IsTextCause}

pub read_cause : (d : Design) (claims : List Claim) (bytes : List ℕ) (fault : CertFault) → IsReadCause bytes fault → IsTextCause d claims bytes fault
read_cause d claims bytes (Form offset) cause = cause
read_cause d claims bytes (Version number) cause = cause
read_cause d claims bytes (UnknownRegister place) cause = absurd cause
read_cause d claims bytes (UnknownPair number) cause = absurd cause
read_cause d claims bytes (TwicePair number) cause = absurd cause
read_cause d claims bytes (NotTrivial number) cause = absurd cause
read_cause d claims bytes (Invariant place fault) cause = absurd cause
read_cause d claims bytes (Pair number fault) cause = absurd cause
read_cause d claims bytes Memory cause = tt

refused_of : (d : Design) (claims : List Claim) (bytes : List ℕ) (cert : Cert) (fault : CertFault) → Spells bytes cert
    → IsCause (coding_of cert.version) d claims cert fault → SpellsRefused d claims bytes fault
refused_of d claims bytes cert fault spells cause = record { cert = cert; spells = spells; cause = cause }

pub check_cause : (d : Design) (claims : List Claim) (bytes : List ℕ) (cert : Cert) (fault : CertFault) → Spells bytes cert
    → IsCause (coding_of cert.version) d claims cert fault → IsTextCause d claims bytes fault
check_cause d claims bytes cert (Form offset) spells cause = absurd cause
check_cause d claims bytes cert (Version number) spells cause = absurd cause
check_cause d claims bytes cert (UnknownRegister place) spells cause = refused_of d claims bytes cert (UnknownRegister place) spells cause
check_cause d claims bytes cert (UnknownPair number) spells cause = refused_of d claims bytes cert (UnknownPair number) spells cause
check_cause d claims bytes cert (TwicePair number) spells cause = refused_of d claims bytes cert (TwicePair number) spells cause
check_cause d claims bytes cert (NotTrivial number) spells cause = refused_of d claims bytes cert (NotTrivial number) spells cause
check_cause d claims bytes cert (Invariant place fault) spells cause = refused_of d claims bytes cert (Invariant place fault) spells cause
check_cause d claims bytes cert (Pair number fault) spells cause = refused_of d claims bytes cert (Pair number fault) spells cause
check_cause d claims bytes cert Memory spells cause = tt
