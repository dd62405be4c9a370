use Rattle.std.proofs.Common.{All, take}
use Rattle.verdict_types.specs.Forms.{IsVerdictInForm}
use Rattle.cert_defs.specs.Accepted.{AreRightVerdicts}
use Rattle.claim_tests.proofs.finding.verdicts_on.Given as goal

abbrev pub invariant-loop-place : goal.invariant-loop-place
invariant-loop-place l = record {
  right : AreRightVerdicts l.design (take l.place l.claims) l.inv.kept l.limits l.verdicts;
  in_form : All IsVerdictInForm l.verdicts;
}
