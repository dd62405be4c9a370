use Rattle.std.proofs.Common.{sym, subst}
use Rattle.std.proofs.lemmas.Result.{IfOk-weaker, IfErr-weaker, err_from_is_err_and}
use Rattle.cert_values.specs.declared.certs.Cert.{Cert}
use Rattle.cert_values.specs.Versions.{coding_of}
use Rattle.cert_defs.specs.Accepted.{Accepts}
use Rattle.cert_defs.specs.Refused.{IsCause}
use Rattle.cert_text.proofs.Complete.{spellable_complete}
use Rattle.cert_call.specs.Texts.{IsAcceptedText, IsTextCause}
use Rattle.cert_call.proofs.Telling.{read_cause, check_cause}
use Rattle.cert_call.proofs.calls.check_cert.Goals as goal

pub returns-in_err-cert-clause-cause : goal.returns-in_err-cert-clause-cause
returns-in_err-cert-clause-cause c =
    let p = err_from_is_err_and c.from_residual.result c.from_residual.ensures.1 in
    rw (p.1, p.2) (read_cause c.args.design.now c.args.claims.now c.args.bytes.now c.in_err-cert.field-0.0 c.in_err-cert.ensures.err)

pub returns-in_err-cert-clause-only : goal.returns-in_err-cert-clause-only
returns-in_err-cert-clause-only c numbers accepted =
    let p = err_from_is_err_and c.from_residual.result c.from_residual.ensures.1 in
    rw (p.1, p.2) (c.in_err-cert.ensures.only accepted.cert accepted.spells)

pub check-requires-clause-complete : goal.check-requires-clause-complete
check-requires-clause-complete c = let spells = c.in_ok-cert.ensures.ok in spellable_complete c.in_ok-cert.cert spells.fits

pub returns-clause-accepted : goal.returns-clause-accepted
returns-clause-accepted c =
    let d = c.args.design.now in
    let claims = c.args.claims.now in
    let bytes = c.args.bytes.now in
    let cert = c.in_ok-cert.cert in
    IfOk-weaker c.check.result (Accepts (coding_of cert.version) d claims cert) (IsAcceptedText d claims bytes)
    (λ numbers accepts. record { cert = cert; spells = c.in_ok-cert.ensures.ok; accepts = accepts }) c.check.ensures.accepted

pub returns-clause-cause : goal.returns-clause-cause
returns-clause-cause c =
    let d = c.args.design.now in
    let claims = c.args.claims.now in
    let bytes = c.args.bytes.now in
    let cert = c.in_ok-cert.cert in
    IfErr-weaker c.check.result (IsCause (coding_of cert.version) d claims cert) (IsTextCause d claims bytes)
    (λ fault cause. check_cause d claims bytes cert fault c.in_ok-cert.ensures.ok cause) c.check.ensures.cause

pub returns-clause-only : goal.returns-clause-only
returns-clause-only c numbers accepted =
    c.check.ensures.only numbers
    (subst (λ (x : Cert). Accepts (coding_of x.version) c.args.design.now c.args.claims.now x numbers)
    (sym (c.in_ok-cert.ensures.only accepted.cert accepted.spells)) accepted.accepts)
