use Rattle.std.proofs.Common.{◌∙◌, length, arith}
use Rattle.std.proofs.lemmas.Iterator.Adapters.{YieldsList-from_vec}
use Rattle.std.proofs.lemmas.Iterator.Consumers.{YieldsList-turn, YieldsList-end}
use Rattle.std.proofs.lemmas.List.{length_push}
use Rattle.std.proofs.lemmas.Result.{err_from_is_err_and}
use Rattle.verilog_net.specs.Items as spec
use Rattle.verilog_scope.proofs.FailLemmas.{fails_through}
use Rattle.verilog_scope.proofs.FoldLemmas.{fold_more, fold_bad, fold_end}
use Rattle.verilog_net.proofs.items.items_of.Goals as goal

pub returns-in_err-add_item : goal.returns-in_err-add_item
returns-in_err-add_item c =
    let t = YieldsList-turn (YieldsList-from_vec {s = c.into_iter-decl-iterator.result} c.args.decls (cc) (cc)) c.loop-decl.yielded
    c.loop-decl.decl-iterator c.loop-decl.yielded_by c.next.result c.next.new.self c.in-Some.decl c.in-Some.is c.next.ensures.steps in
    let p = err_from_is_err_and c.from_residual.result c.from_residual.ensures.1 in
    rw (p.1, p.2) (fails_through c.in_err-add_item.field-0.0 _ _ c.in_err-add_item.ensures
    (λ why bad. c.loop-decl.invariant ∙ fold_bad (spec.add_item c.args.hierarchy.now c.args.scope.now) c.loop-decl.items c.args.decls
    (length c.loop-decl.yielded) c.in-Some.decl why t.0 t.1 bad))

pub loop-decl-preserved : goal.loop-decl-preserved
loop-decl-preserved c =
    let t = YieldsList-turn (YieldsList-from_vec {s = c.into_iter-decl-iterator.result} c.args.decls (cc) (cc)) c.loop-decl.yielded
    c.loop-decl.decl-iterator c.loop-decl.yielded_by c.next.result c.next.new.self c.in-Some.decl c.in-Some.is c.next.ensures.steps in
    rw (length_push c.loop-decl.yielded c.in-Some.decl) (c.loop-decl.invariant ∙ fold_more (spec.add_item c.args.hierarchy.now c.args.scope.now)
    c.loop-decl.items c.add_item.new.items c.args.decls (length c.loop-decl.yielded) c.in-Some.decl t.0 t.1 c.in_ok-add_item.ensures)

pub returns : goal.returns
returns c =
    let t = YieldsList-end (YieldsList-from_vec {s = c.into_iter-decl-iterator.result} c.args.decls (cc) (cc)) c.loop-decl.yielded
    c.loop-decl.decl-iterator c.loop-decl.yielded_by c.next.result c.next.new.self c.in-None.is c.next.ensures.steps in
    c.loop-decl.invariant ∙ fold_end (spec.add_item c.args.hierarchy.now c.args.scope.now) c.loop-decl.items c.args.decls
    (length c.loop-decl.yielded) (omega (arith, t.1))
