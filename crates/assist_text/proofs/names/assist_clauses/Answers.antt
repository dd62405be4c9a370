use Rattle.std.proofs.Common.{◌≡◌, ◌+◌, ◌≤◌, ℕ, ap, sym, subst, take, get_or, length, List, arith}
use Rattle.std.proofs.lemmas.List.{take_all}
use Rattle.std.proofs.lemmas.Result.{err_from_is_err_and}
use Rattle.net_model.specs.declared.invariants.InvClause.{InvClause}
use Rattle.linked_types.specs.declared.names.CellName.{CellName}
use Rattle.assist_types.specs.declared.clauses.AssistClause.{AssistClause}
use Rattle.assist_text.specs.Registers.{IsTable}
use Rattle.assist_text.specs.Named.{IsNamed, AreNamed}
use Rattle.assist_text.proofs.Naming.{all_some, all_regs, unknown_clause}
use Rattle.assist_text.proofs.Zips.{zip_more}
use Rattle.assist_text.proofs.names.assist_clauses.Goals as goal

-- all clauses are named at the end
all_named : (cells : List CellName) (assist items : List AssistClause) (clauses : List InvClause) (k : ℕ) → items ≡ assist → length items ≤ k
    → AreNamed cells (take k assist) clauses → AreNamed cells assist clauses
all_named cells assist items clauses k same done all =
    subst (λ (cs : List AssistClause). AreNamed cells cs clauses) (take_all k assist (omega (arith, ap length same))) all

pub returns-in_err-named-clause-err : goal.returns-in_err-named-clause-err
returns-in_err-named-clause-err c =
    let k = c.loop-clause.clause-index in
    let clause = c.clause-item.result in
    let same = c.as_slice-clause-items.ensures in
    let at = subst (λ (xs : List AssistClause). clause ≡ get_or xs k clause) same c.clause-item.is in
    let table = subst (λ (cs : List CellName). IsTable cs c.in_ok-table.table) c.as_slice.ensures c.in_ok-table.ensures in
    let p = err_from_is_err_and c.from_residual-in_err-named.result c.from_residual-in_err-named.ensures.1 in
    rw (p.1, p.2) (unknown_clause c.args.names.now.cells c.args.assist.now.clauses k clause c.in_err-named.field-0.0 (omega (arith, ap length same)) at
    (c.in_err-named.ensures.err c.args.names.now.cells table))

pub loop-clause-preserved : goal.loop-clause-preserved
loop-clause-preserved c =
    let cells = c.args.names.now.cells in
    let k = c.loop-clause.clause-index in
    let clause = c.clause-item.result in
    let same = c.as_slice-clause-items.ensures in
    let at = subst (λ (xs : List AssistClause). clause ≡ get_or xs k clause) same c.clause-item.is in
    let table = subst (λ (cs : List CellName). IsTable cs c.in_ok-table.table) c.as_slice.ensures c.in_ok-table.ensures in
    subst (λ (cs : List InvClause). AreNamed cells (take (k + 1) c.args.assist.now.clauses) cs) (sym c.in_ok-push.ensures.ok)
    (zip_more (IsNamed cells) c.args.assist.now.clauses c.loop-clause.clauses k clause c.in_ok-named.field-0 (omega (arith, ap length same)) at
    c.loop-clause.invariant (c.in_ok-named.ensures.ok cells c.requires.once table))

pub returns-clause-named : goal.returns-clause-named
returns-clause-named c =
    all_named c.args.names.now.cells c.args.assist.now.clauses c.as_slice-clause-items.result.now c.loop-clause.clauses c.loop-clause.clause-index
    c.as_slice-clause-items.ensures (omega arith) c.loop-clause.invariant

pub returns-clause-some : goal.returns-clause-some
returns-clause-some c =
    all_some c.args.names.now.cells c.args.assist.now.clauses c.loop-clause.clauses c.requires.one_or_more
    (all_named c.args.names.now.cells c.args.assist.now.clauses c.as_slice-clause-items.result.now c.loop-clause.clauses c.loop-clause.clause-index
    c.as_slice-clause-items.ensures (omega arith) c.loop-clause.invariant)

pub returns-clause-regs : goal.returns-clause-regs
returns-clause-regs c =
    λ d of. all_regs d c.args.names.now.cells c.args.assist.now.clauses c.loop-clause.clauses of
    (all_named c.args.names.now.cells c.args.assist.now.clauses c.as_slice-clause-items.result.now c.loop-clause.clauses c.loop-clause.clause-index
    c.as_slice-clause-items.ensures (omega arith) c.loop-clause.invariant)
