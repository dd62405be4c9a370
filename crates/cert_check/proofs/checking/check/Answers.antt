use Rattle.std.proofs.Common.{refl}
use Rattle.std.proofs.lemmas.Result.{err_from_is_err_and}
use Rattle.cert_values.specs.Versions.{coding_of}
use Rattle.cert_defs.proofs.Holding.{hold_each, one_list}
use Rattle.cert_check.proofs.Causes.{is_memory}
use Rattle.cert_check.proofs.checking.check.Goals as goal

pub returns-in_err-numbers-clause-cause : goal.returns-in_err-numbers-clause-cause
returns-in_err-numbers-clause-cause c =
    let p = err_from_is_err_and c.from_residual.result c.from_residual.ensures.1 in
    rw (p.1, p.2) (c.in_err-numbers.ensures.cause (coding_of c.args.cert.now.version))

pub returns-in_err-numbers-clause-only : goal.returns-in_err-numbers-clause-only
returns-in_err-numbers-clause-only c numbers accepts =
    let coding = coding_of c.args.cert.now.version in
    let p = err_from_is_err_and c.from_residual.result c.from_residual.ensures.1 in
    rw (p.1, p.2)
    (is_memory coding c.args.design.now c.args.claims.now c.args.cert.now numbers c.in_err-numbers.field-0.0 c.requires.sound
    (c.in_err-numbers.ensures.cause coding) accepts)

pub returns-in_err-prove_listed-clause-cause : goal.returns-in_err-prove_listed-clause-cause
returns-in_err-prove_listed-clause-cause c =
    let p = err_from_is_err_and c.from_residual-in_err-prove_listed.result c.from_residual-in_err-prove_listed.ensures.1 in
    rw (p.1, p.2) c.in_err-prove_listed.ensures.err

pub returns-in_err-prove_listed-clause-only : goal.returns-in_err-prove_listed-clause-only
returns-in_err-prove_listed-clause-only c numbers accepts =
    let p = err_from_is_err_and c.from_residual-in_err-prove_listed.result c.from_residual-in_err-prove_listed.ensures.1 in
    rw (p.1, p.2)
    (is_memory (coding_of c.args.cert.now.version) c.args.design.now c.args.claims.now c.args.cert.now numbers c.in_err-prove_listed.field-0.0
    c.requires.sound c.in_err-prove_listed.ensures.err accepts)

pub returns-clause-accepted : goal.returns-clause-accepted
returns-clause-accepted c = record { accepted = c.in_ok-prove_listed.ensures.ok refl; numbers_are = c.in_ok-numbers.ensures.numbers }

pub returns-clause-holds : goal.returns-clause-holds
returns-clause-holds c =
    hold_each (coding_of c.args.cert.now.version) c.args.design.now c.args.claims.now c.args.cert.now c.in_ok-numbers.numbers c.requires.sound c.requires.fit
    (record { accepted = c.in_ok-prove_listed.ensures.ok refl; numbers_are = c.in_ok-numbers.ensures.numbers })

pub returns-clause-only : goal.returns-clause-only
returns-clause-only c numbers also =
    one_list (coding_of c.args.cert.now.version) c.args.design.now c.args.claims.now c.args.cert.now c.in_ok-numbers.numbers numbers
    (record { accepted = c.in_ok-prove_listed.ensures.ok refl; numbers_are = c.in_ok-numbers.ensures.numbers }) also
