-- The certificate of what is found out.
use Rattle.std.specs.Prelude.{ℕ, List}
use Rattle.net_model.specs.declared.netlist.Design.{Design}
use Rattle.net_model.specs.declared.claims.Claim.{Claim}
use Rattle.cert_values.specs.Certs.{cert_of}
use Rattle.cert_defs.specs.Accepted.{justified_numbers}
use Rattle.cert_text.specs.Certs.{Spells}
use Rattle.cert_call.specs.Texts.{IsAcceptedText}
use Rattle.judgements.specs.declared.judged.Judged.{Judged}

-- the bytes spell the certificate of the kept clauses and the verdicts, and are accepted with exactly the claims that are justified
pub record IsCertificateOf (d : Design) (claims : List Claim) (j : Judged) (bytes : List ℕ) : Type 0 where
  pub spells : Spells bytes (cert_of j.inv j.verdicts)
  pub accepted : IsAcceptedText d claims bytes (justified_numbers j.verdicts)
