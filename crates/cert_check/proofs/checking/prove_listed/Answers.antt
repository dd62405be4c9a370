use Rattle.std.proofs.Common.{◌∙◌, IfErr, refl, subst, sym}
use Rattle.std.proofs.lemmas.Result.{err_from_is_err_and}
use Rattle.net_model.specs.declared.netlist.Design.{Design}
use Rattle.query_model.specs.declared.keys.Coding.{Coding}
use Rattle.cert_values.specs.Versions.{coding_of}
use Rattle.cert_defs.specs.Listed.{IsWellListed}
use Rattle.cert_defs.specs.Refused.{IsCause}
use Rattle.cert_check.proofs.Causes.{all_accepted, nothing_accepted, of_prepared}
use Rattle.cert_check.proofs.checking.prove_listed.Goals as goal

pub returns-then-lists_nothing-clause-ok : goal.returns-then-lists_nothing-clause-ok
returns-then-lists_nothing-clause-ok c ok =
    let none = c.lists_nothing.ensures.0 c.if-lists_nothing.true in
    nothing_accepted (coding_of c.args.cert.now.version) c.args.design.now c.args.claims.now c.args.cert.now c.requires.complete c.requires.listed
    none.0 none.1

pub returns-in_err-prove_kept-clause-err : goal.returns-in_err-prove_kept-clause-err
returns-in_err-prove_kept-clause-err c =
    let cert = c.args.cert.now in
    let p = err_from_is_err_and c.from_residual-in_err-prove_kept.result c.from_residual-in_err-prove_kept.ensures.1 in
    let made = c.in_ok-prepared.ensures in
    let told = c.in_err-prove_kept.ensures.err c.args.claims.now
    (subst (λ (d : Design). IsWellListed d c.args.claims.now cert) (sym made.design) c.requires.listed) in
    rw (p.1, p.2)
    (of_prepared (λ (coding : Coding) (d : Design). IsCause coding d c.args.claims.now cert c.in_err-prove_kept.field-0.0) c.in_ok-prepared.prepared.coding
    (coding_of cert.version) c.in_ok-prepared.prepared.design c.args.design.now (made.coding ∙ c.coding_of.ensures) made.design told)

pub returns-clause-ok : goal.returns-clause-ok
returns-clause-ok c ok =
    let made = c.in_ok-prepared.ensures in
    all_accepted c.in_ok-prepared.prepared.coding (coding_of c.args.cert.now.version) c.in_ok-prepared.prepared.design c.args.design.now c.args.claims.now
    c.args.cert.now (made.coding ∙ c.coding_of.ensures) made.design c.requires.listed (c.in_ok-prove_kept.ensures.ok refl) (c.prove_pairs.ensures.ok ok)

pub returns-clause-err : goal.returns-clause-err
returns-clause-err c =
    let made = c.in_ok-prepared.ensures in
    of_prepared (λ (coding : Coding) (d : Design). IfErr c.prove_pairs.result (IsCause coding d c.args.claims.now c.args.cert.now))
    c.in_ok-prepared.prepared.coding (coding_of c.args.cert.now.version) c.in_ok-prepared.prepared.design c.args.design.now
    (made.coding ∙ c.coding_of.ensures) made.design c.prove_pairs.ensures.err
