use Rattle.std.proofs.Common.{◌∙◌, ◌++◌, ◌∷◌, [], refl}
use Rattle.std.proofs.lemmas.Result.{err_from_is_err_and}
use Rattle.verilog_scope.specs.Scopes.{scope_of}
use Rattle.verilog_scope.specs.Folds.{pushing}
use Rattle.verilog_scope.proofs.FailLemmas.{fails_through}
use Rattle.verilog_scope.proofs.FoldLemmas.{fold_more, fold_bad, fold_end, pushed_more, pushed_bad}
use Rattle.verilog_net.proofs.hierarchies.scopes.Goals as goal

pub returns-in_err-scope : goal.returns-in_err-scope
returns-in_err-scope c =
    let p = err_from_is_err_and c.from_residual.result c.from_residual.ensures.1 in
    rw (p.1, p.2) (fails_through c.in_err-scope.field-0.0 _ _ c.in_err-scope.ensures
    (λ why bad. c.loop-decl.invariant ∙ fold_bad (pushing scope_of) c.loop-decl.found c.args.decls.now c.loop-decl.decl-index c.decl-item.result why
    c.loop-decl-test.true c.decl-item.is (pushed_bad scope_of c.loop-decl.found c.decl-item.result why bad)))

pub loop-decl-preserved : goal.loop-decl-preserved
loop-decl-preserved c = c.loop-decl.invariant ∙ fold_more (pushing scope_of) c.loop-decl.found (c.loop-decl.found ++ c.in_ok-scope.scope ∷ []) c.args.decls.now
    c.loop-decl.decl-index c.decl-item.result c.loop-decl-test.true c.decl-item.is
    (pushed_more scope_of c.loop-decl.found c.decl-item.result c.in_ok-scope.scope c.in_ok-scope.ensures) ∙ rw c.in_ok-push.ensures.ok refl

pub returns : goal.returns
returns c = c.loop-decl.invariant ∙ fold_end (pushing scope_of) c.loop-decl.found c.args.decls.now c.loop-decl.decl-index c.loop-decl-test.false
