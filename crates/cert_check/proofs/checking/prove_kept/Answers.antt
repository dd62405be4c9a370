use Rattle.std.proofs.Common.{◌≡◌, ◌+◌, ℕ, Some, refl, sym, subst, arith}
use Rattle.std.specs.Prelude.{slice_get}
use Rattle.net_model.proofs.Existence.{item_at}
use Rattle.net_model.specs.declared.invariants.InvClause.{InvClause}
use Rattle.verdicts.specs.Certified.{ProvesClause}
use Rattle.verdict_types.specs.declared.kept.InvProof.{InvProof}
use Rattle.cert_defs.specs.Refused.{IsCause}
use Rattle.cert_check.proofs.Below.{each_more}
use Rattle.cert_check.proofs.Causes.{clause_cause, fault_at, proved_at, kept_proved}
use Rattle.cert_check.proofs.checking.prove_kept.Goals as goal

pub returns-in-Err-clause-err : goal.returns-in-Err-clause-err
returns-in-Err-clause-err c claims listed =
    let d = c.args.design.now.design in
    let cert = c.args.cert.now in
    let place = c.loop-place.place in
    subst (IsCause c.args.design.now.coding d claims cert) (sym c.at_clause.ensures)
    (clause_cause c.args.design.now.coding d claims cert (place + 1) c.in-Err.fault listed
    (λ told.
    fault_at c.args.design.now.coding d cert c.as_slice.result.now place c.item-proof.result.now c.in-Err.fault c.as_slice.ensures c.requires.complete
    (omega (arith, c.loop-place-test.true, c.len-place-end.ensures)) c.item-proof.ensures (c.in-Err.ensures.fault told)))

pub loop-place-preserved : goal.loop-place-preserved
loop-place-preserved c =
    let d = c.args.design.now.design in
    let cert = c.args.cert.now in
    let place = c.loop-place.place in
    let found = item_at cert.kept place (omega (arith, c.loop-place-test.true, c.len-place-end.ensures)) in
    each_more (λ (j : ℕ) (clause : InvClause). (proof : InvProof) → slice_get cert.proofs j ≡ Some proof
    → ProvesClause c.args.design.now.coding d cert.kept cert.depth clause proof) cert.kept place found.0 c.loop-place.invariant found.1
    (proved_at c.args.design.now.coding d cert c.as_slice.result.now place c.item-proof.result.now c.as_slice.ensures c.requires.complete c.item-proof.ensures
    (c.in_default.ensures.proves refl) found.0 found.1)

pub returns-clause-ok : goal.returns-clause-ok
returns-clause-ok c ok =
    kept_proved c.args.design.now.coding c.args.design.now.design c.args.cert.now c.loop-place.place c.requires.complete c.loop-place.invariant
    (omega (arith, c.loop-place-test.false, c.len-place-end.ensures))
