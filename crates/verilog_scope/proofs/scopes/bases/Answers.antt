use Rattle.std.proofs.Common.{◌∙◌, ◌++◌, ◌∷◌, ◌+◌, [], drop, get_or, refl, ap, sym, append_assoc, append-nil}
use Rattle.std.proofs.lemmas.List.{at_drop_more, drop_all}
use Rattle.verilog_scope.specs.Ranges.{width}
use Rattle.verilog_scope.specs.Decls.{blank}
use Rattle.verilog_scope.specs.Scopes.{bases_from}
use Rattle.verilog_scope.proofs.BaseLemmas.{bases_more, bases_none}
use Rattle.verilog_scope.proofs.scopes.bases.Goals as goal

pub loop-decl-preserved : goal.loop-decl-preserved
loop-decl-preserved c =
    let xs = c.args.decls.now in
    let i = c.loop-decl.decl-index in
    let d = get_or xs i blank in
    let n = c.loop-decl.next in
    c.loop-decl.invariant ∙ ap (λ ys. c.loop-decl.found ++ ys) (at_drop_more (bases_from n) xs i blank c.loop-decl-test.true ∙ bases_more n d (drop (i + 1) xs))
    ∙ sym (append_assoc c.loop-decl.found (n ∷ []) (bases_from (n + width d.range) (drop (i + 1) xs)))
    ∙ rw (c.in_ok-push.ensures.ok, c.in-Some.ensures.1, c.width.ensures.value) refl

pub returns : goal.returns
returns c =
    sym (c.loop-decl.invariant ∙ rw (drop_all c.loop-decl.decl-index c.args.decls.now c.loop-decl-test.false, bases_none c.loop-decl.next)
    (append-nil c.loop-decl.found))
