use Rattle.std.proofs.Common.{◌∙◌, sym, ap, subst, length}
use Rattle.std.specs.Prelude.{Contains, Result, Ok, Err, IfOk}
use Rattle.net_paths.specs.Those.{AreThose}
use Rattle.exception_expand.proofs.Placing.{marked_those, no_marks}
use Rattle.exception_expand.proofs.marks.among.Goals as goal

if_ok : {T E : Type 0} (r : Result T E) {P Q : T → Type 0} → IfOk r P → ((x : T) → P x → Q x) → IfOk r Q
if_ok (Ok x) p f = f x p
if_ok (Err e) p f = p

pub mark_all-requires-clause-none : goal.mark_all-requires-clause-none
mark_all-requires-clause-none g c =
    no_marks (g.T.Listed.all c.args.design.now) c.in_ok-marks.marks (c.in_ok-marks.ensures.len ∙ c.len.ensures ∙ ap (λ l. length l) c.requires.all)
    c.in_ok-marks.ensures.each

pub returns : goal.returns
returns g c =
    let all = g.T.Listed.all c.args.design.now in
    let W = Contains c.args.items.now in
    if_ok c.marked.result c.marked.ensures (λ found is. subst (AreThose W all) (sym is)
    (marked_those W all c.args.all.now c.mark_all.new.marks c.requires.all c.mark_all.ensures))
