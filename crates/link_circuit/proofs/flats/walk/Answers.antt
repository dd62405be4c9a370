use Rattle.std.proofs.Common.{◌<◌, List, ◌∷◌, length, subst, sym, ap, ◌∙◌}
use Rattle.std.proofs.lemmas.List.Elements.{All-head}
use Rattle.std.proofs.lemmas.Result.{err_from_is_err_and}
use Rattle.link_defs.specs.Flatten.{flat_of}
use Rattle.link_items.specs.Items.{module_at}
use Rattle.link_circuit.specs.declared.frames.Frame.{Frame}
use Rattle.link_circuit.specs.UnderWay.{IsUnderWay, left}
use Rattle.link_circuit.proofs.Starting.{begins, ends_made, ends_fine, top_frame}
use Rattle.link_circuit.proofs.flats.walk.Goals as goal

pub loop-frame-init : goal.loop-frame-init
loop-frame-init c =
    let s = c.args.netlist.now.source.now in
    let lib = c.args.netlist.now.library.now in
    subst (λ (st : List Frame). IsUnderWay (flat_of s lib (module_at s c.args.top)) s lib st c.in_ok-flat.flat)
    (sym (c.in_ok-push.ensures.ok ∙ ap (λ (st : List Frame). top_frame ∷ st) c.new-stack.ensures))
    (begins s lib c.args.top c.in_ok-flat.flat c.requires.top c.requires.ranks c.in_ok-flat.ensures)

pub step-requires-clause-frame : goal.step-requires-clause-frame
step-requires-clause-frame c =
    let s = c.args.netlist.now.source.now in
    let lib = c.args.netlist.now.library.now in
    let u = subst (λ (st : List Frame). IsUnderWay (flat_of s lib (module_at s c.args.top)) s lib st c.loop-frame.flat) c.in-Some.ensures.some
    c.loop-frame.invariant in
    All-head (λ (x : Frame). x.scope < length c.loop-frame.flat.scopes) c.in-Some.frame c.pop.new.self u.there

pub loop-frame-smaller : goal.loop-frame-smaller
loop-frame-smaller c =
    let s = c.args.netlist.now.source.now in
    let lib = c.args.netlist.now.library.now in
    let u = subst (λ (st : List Frame). IsUnderWay (flat_of s lib (module_at s c.args.top)) s lib st c.loop-frame.flat) c.in-Some.ensures.some
    c.loop-frame.invariant in
    subst (λ (st : List Frame). left s c.step.new.stack c.step.new.flat < left s st c.loop-frame.flat) (sym c.in-Some.ensures.some)
    (c.in_ok-step.ensures.ok (flat_of s lib (module_at s c.args.top)) u).1

pub returns-in_err-step-clause-err : goal.returns-in_err-step-clause-err
returns-in_err-step-clause-err c =
    let p = err_from_is_err_and c.from_residual-in_err-step.result c.from_residual-in_err-step.ensures.1 in
    let s = c.args.netlist.now.source.now in
    let lib = c.args.netlist.now.library.now in
    let u = subst (λ (st : List Frame). IsUnderWay (flat_of s lib (module_at s c.args.top)) s lib st c.loop-frame.flat) c.in-Some.ensures.some
    c.loop-frame.invariant in
    rw (p.1, p.2) (c.in_err-step.ensures.err (flat_of s lib (module_at s c.args.top)) u)

pub returns-clause-ok : goal.returns-clause-ok
returns-clause-ok c =
    let s = c.args.netlist.now.source.now in
    let lib = c.args.netlist.now.library.now in
    let whole = flat_of s lib (module_at s c.args.top) in
    ends_made whole s lib c.loop-frame.flat
    (subst (λ (st : List Frame). IsUnderWay whole s lib st c.loop-frame.flat) c.in_default.ensures.none c.loop-frame.invariant)

pub returns-clause-fine : goal.returns-clause-fine
returns-clause-fine c =
    let s = c.args.netlist.now.source.now in
    let lib = c.args.netlist.now.library.now in
    let whole = flat_of s lib (module_at s c.args.top) in
    ends_fine whole s lib c.loop-frame.flat
    (subst (λ (st : List Frame). IsUnderWay whole s lib st c.loop-frame.flat) c.in_default.ensures.none c.loop-frame.invariant)
