use Rattle.std.proofs.Common.{◌∙◌, ◌++◌, ◌∷◌, [], refl, slice_get}
use Rattle.std.proofs.lemmas.Result.{err_from_is_err_and}
use Rattle.verilog_net.specs.Items as spec
use Rattle.verilog_scope.specs.Folds.{pushing}
use Rattle.verilog_scope.proofs.FailLemmas.{fails_through}
use Rattle.verilog_scope.proofs.FoldLemmas.{fold_more, fold_bad, fold_end, pushed_more, pushed_bad}
use Rattle.verilog_net.proofs.insts.conns.Goals as goal

pub returns-in_err-conn : goal.returns-in_err-conn
returns-in_err-conn c =
    let p = err_from_is_err_and c.from_residual-in_err-conn.result c.from_residual-in_err-conn.ensures.1 in
    rw (p.1, p.2) (fails_through c.in_err-conn.field-0.0 _ _ c.in_err-conn.ensures
    (λ why bad. c.loop-decl.invariant ∙ fold_bad (pushing (spec.conn_of c.args.scope.now (slice_get c.args.hierarchy.now.scopes c.args.place)))
    c.loop-decl.found c.args.list.now c.loop-decl.decl-index c.decl-item.result why
    c.loop-decl-test.true c.decl-item.is (pushed_bad (spec.conn_of c.args.scope.now (slice_get c.args.hierarchy.now.scopes c.args.place))
    c.loop-decl.found c.decl-item.result why bad)))

pub loop-decl-preserved : goal.loop-decl-preserved
loop-decl-preserved c = c.loop-decl.invariant ∙ fold_more (pushing (spec.conn_of c.args.scope.now
    (slice_get c.args.hierarchy.now.scopes c.args.place))) c.loop-decl.found (c.loop-decl.found ++ c.in_ok-conn.conn ∷ []) c.args.list.now
    c.loop-decl.decl-index c.decl-item.result c.loop-decl-test.true c.decl-item.is
    (pushed_more (spec.conn_of c.args.scope.now (slice_get c.args.hierarchy.now.scopes c.args.place)) c.loop-decl.found c.decl-item.result
    c.in_ok-conn.conn c.in_ok-conn.ensures) ∙ rw c.in_ok-push.ensures.ok refl

pub returns : goal.returns
returns c = c.loop-decl.invariant ∙ fold_end (pushing (spec.conn_of c.args.scope.now (slice_get c.args.hierarchy.now.scopes c.args.place)))
    c.loop-decl.found c.args.list.now c.loop-decl.decl-index c.loop-decl-test.false
