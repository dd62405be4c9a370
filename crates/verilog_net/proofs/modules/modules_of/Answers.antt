use Rattle.std.proofs.Common.{◌≡◌, ◌∙◌, List, length, Ok, arith}
use Rattle.std.proofs.lemmas.Iterator.{YieldsList-from_slice, YieldsList-from_zip}
use Rattle.std.proofs.lemmas.Iterator.Adapters.{YieldsList-from_vec}
use Rattle.std.proofs.lemmas.Iterator.Consumers.{YieldsList-turn, YieldsList-end}
use Rattle.std.proofs.lemmas.List.{length_push}
use Rattle.std.proofs.lemmas.Result.{err_from_is_err_and}
use Rattle.std.proofs.lemmas.Slice.Zip.{length-zip}
use Rattle.verilog_syntax.specs.declared.declarations.ModuleDecl.{ModuleDecl}
use Rattle.verilog_scope.specs.declared.scopes.Scope.{Scope}
use Rattle.verilog_scope.specs.Folds.{each}
use Rattle.verilog_scope.specs.Scopes.{scope_of}
use Rattle.verilog_scope.proofs.FailLemmas.{fails_through}
use Rattle.verilog_scope.proofs.FoldLemmas.{both_more, both_bad, both_end}
use Rattle.verilog_net.specs.Modules.{add_module}
use Rattle.verilog_net.proofs.SourceLemmas.{scopes_are, scoped_length, scoped_at, paired_at}
use Rattle.verilog_net.proofs.modules.modules_of.Goals as goal

long : (ms : List ModuleDecl) (ss : List Scope) → each scope_of ms ≡ Ok ss → length ss ≡ length ms
long ms ss e = scoped_length ms ss (scopes_are ms ss e)

pub add_module-requires : goal.add_module-requires
add_module-requires c =
    let h = c.args.hierarchy.now in
    let ms = c.args.decls in
    let t = YieldsList-turn (YieldsList-from_zip {s = c.into_iter-scope-iterator.result} (YieldsList-from_slice h.scopes (cc))
    (YieldsList-from_vec ms (cc) (cc))) c.loop-scope.yielded c.loop-scope.scope-iterator c.loop-scope.yielded_by c.next.result c.next.new.self
    (c.in-Some.scope, c.in-Some.decl) c.in-Some.is c.next.ensures.steps in
    let p = paired_at h.scopes ms (length c.loop-scope.yielded) c.in-Some.scope.now c.in-Some.decl (long ms h.scopes c.requires) t.0 t.1 in
    scoped_at ms h.scopes (length c.loop-scope.yielded) c.in-Some.decl c.in-Some.scope.now (scopes_are ms h.scopes c.requires) p.0 p.1.1 p.1.0

pub returns-in_err-add_module : goal.returns-in_err-add_module
returns-in_err-add_module c =
    let h = c.args.hierarchy.now in
    let ms = c.args.decls in
    let many = long ms h.scopes c.requires in
    let t = YieldsList-turn (YieldsList-from_zip {s = c.into_iter-scope-iterator.result} (YieldsList-from_slice h.scopes (cc))
    (YieldsList-from_vec ms (cc) (cc))) c.loop-scope.yielded c.loop-scope.scope-iterator c.loop-scope.yielded_by c.next.result c.next.new.self
    (c.in-Some.scope, c.in-Some.decl) c.in-Some.is c.next.ensures.steps in
    let at = paired_at h.scopes ms (length c.loop-scope.yielded) c.in-Some.scope.now c.in-Some.decl many t.0 t.1 in
    let p = err_from_is_err_and c.from_residual.result c.from_residual.ensures.1 in
    rw (p.1, p.2) (fails_through c.in_err-add_module.field-0.0 _ _ c.in_err-add_module.ensures
    (λ why bad. c.loop-scope.invariant ∙ both_bad (add_module h) h.scopes ms many c.loop-scope.found (length c.loop-scope.yielded)
    c.in-Some.scope.now c.in-Some.decl why at.0 at.1.0 at.1.1 bad))

pub loop-scope-preserved : goal.loop-scope-preserved
loop-scope-preserved c =
    let h = c.args.hierarchy.now in
    let ms = c.args.decls in
    let many = long ms h.scopes c.requires in
    let t = YieldsList-turn (YieldsList-from_zip {s = c.into_iter-scope-iterator.result} (YieldsList-from_slice h.scopes (cc))
    (YieldsList-from_vec ms (cc) (cc))) c.loop-scope.yielded c.loop-scope.scope-iterator c.loop-scope.yielded_by c.next.result c.next.new.self
    (c.in-Some.scope, c.in-Some.decl) c.in-Some.is c.next.ensures.steps in
    let at = paired_at h.scopes ms (length c.loop-scope.yielded) c.in-Some.scope.now c.in-Some.decl many t.0 t.1 in
    rw (length_push c.loop-scope.yielded (c.in-Some.scope, c.in-Some.decl)) (c.loop-scope.invariant ∙ both_more (add_module h) h.scopes ms many
    c.loop-scope.found c.add_module.new.found (length c.loop-scope.yielded) c.in-Some.scope.now c.in-Some.decl at.0 at.1.0 at.1.1
    c.in_ok-add_module.ensures)

pub returns : goal.returns
returns c =
    let h = c.args.hierarchy.now in
    let ms = c.args.decls in
    let many = long ms h.scopes c.requires in
    let t = YieldsList-end (YieldsList-from_zip {s = c.into_iter-scope-iterator.result} (YieldsList-from_slice h.scopes (cc))
    (YieldsList-from_vec ms (cc) (cc))) c.loop-scope.yielded c.loop-scope.scope-iterator c.loop-scope.yielded_by c.next.result c.next.new.self
    c.in-None.is c.next.ensures.steps in
    c.loop-scope.invariant ∙ both_end (add_module h) h.scopes ms many c.loop-scope.found (length c.loop-scope.yielded)
    (omega (arith, t.1, many, length-zip h.scopes ms))
