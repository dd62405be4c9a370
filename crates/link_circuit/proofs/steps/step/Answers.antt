use Rattle.std.proofs.Common.{◌≡◌, Some, None, subst, sym}
use Rattle.std.specs.Prelude.{slice_get}
use Rattle.std.proofs.lemmas.Result.{err_from_is_err_and}
use Rattle.link_items.specs.declared.made.Instance.{Instance}
use Rattle.link_items.specs.Items.{module_at}
use Rattle.link_circuit.proofs.Going.{goes_left, goes_on, breaks}
use Rattle.link_circuit.proofs.Standing.{instance_is}
use Rattle.link_circuit.proofs.steps.step.Goals as goal

pub returns-in_err-inner-in-Some-clause-err : goal.returns-in_err-inner-in-Some-clause-err
returns-in_err-inner-in-Some-clause-err c =
    let p = err_from_is_err_and c.from_residual.result c.from_residual.ensures.1 in
    let s = c.args.netlist.now.source.now in
    let at = instance_is c.args.flat.now.scopes c.args.frame.scope c.item.result.now c.item.ensures in
    let next = subst (λ (g : Instance). slice_get (module_at s g.body).items c.args.frame.next ≡ Some c.in-Some.item.now) (sym at)
    (sym c.in-Some.ensures.item) in
    rw (p.1, p.2) (breaks s c.args.netlist.now.library.now c.args.frame c.in-Some.item.now c.args.stack.now c.args.flat.now
    c.in_err-inner-in-Some.field-0.0 next c.in_err-inner-in-Some.ensures.err)

pub returns-in_ok-enter-in-Some-clause-ok : goal.returns-in_ok-enter-in-Some-clause-ok
returns-in_ok-enter-in-Some-clause-ok c =
    let s = c.args.netlist.now.source.now in
    let at = instance_is c.args.flat.now.scopes c.args.frame.scope c.item.result.now c.item.ensures in
    let next = subst (λ (g : Instance). slice_get (module_at s g.body).items c.args.frame.next ≡ Some c.in-Some.item.now) (sym at)
    (sym c.in-Some.ensures.item) in
    goes_on s c.args.netlist.now.library.now c.args.frame c.in-Some.item.now c.in_ok-inner-in-Some.inner c.args.stack.now c.enter.new.stack
    c.args.flat.now c.take.new.flat c.enter.new.flat next c.in_ok-inner-in-Some.ensures.ok c.in_ok-enter-in-Some.ensures

pub returns-in-None-clause-ok : goal.returns-in-None-clause-ok
returns-in-None-clause-ok c =
    let s = c.args.netlist.now.source.now in
    let at = instance_is c.args.flat.now.scopes c.args.frame.scope c.item.result.now c.item.ensures in
    goes_left s c.args.netlist.now.library.now c.args.frame c.args.stack.now c.args.flat.now
    (subst (λ (g : Instance). slice_get (module_at s g.body).items c.args.frame.next ≡ None) (sym at) (sym c.in-None.ensures.item))
