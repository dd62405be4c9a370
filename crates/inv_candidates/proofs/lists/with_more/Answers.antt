use Rattle.std.proofs.Common.{List, sym, subst, ◌∙◌, All}
use Rattle.net_model.specs.declared.invariants.InvClause.{InvClause}
use Rattle.net_model.specs.Fits.{NamesRegs}
use Rattle.verdict_types.specs.Forms.{IsKeptClause}
use Rattle.inv_candidates.specs.Listing.{AddsNew}
use Rattle.inv_candidates.proofs.Adding.{adds_all}
use Rattle.inv_candidates.proofs.Standing.{adds_where_empty, adds_after_own, adds_once}
use Rattle.inv_candidates.proofs.lists.with_more.Goals as goal

pub returns-then-is_empty-clause-added : goal.returns-then-is_empty-clause-added
returns-then-is_empty-clause-added c = adds_where_empty c.args.own c.args.extra.now (sym c.is_empty.ensures ∙ c.if-is_empty.true)

pub returns-clause-added : goal.returns-clause-added
returns-clause-added c =
    subst (λ (l : List InvClause). AddsNew c.args.own c.args.extra.now l) (sym c.in_ok-clauses.ensures)
    (adds_after_own c.args.own c.args.extra.now c.new-table.result c.as_slice.result.now c.add_all.new.self c.add_all-2.new.self c.requires.once
    c.new-table.ensures c.as_slice.ensures c.in_ok-add_all.ensures c.in_ok-add_all-2.ensures)

pub returns-clause-once : goal.returns-clause-once
returns-clause-once c = adds_once c.args.own c.args.extra.now c.in_ok-clauses.clauses (returns-clause-added c) c.requires.once

pub returns-clause-names : goal.returns-clause-names
returns-clause-names c = λ d own extra. adds_all (NamesRegs d) c.args.own c.args.extra.now c.in_ok-clauses.clauses (returns-clause-added c) own extra

pub returns-clause-in_form : goal.returns-clause-in_form
returns-clause-in_form c = λ own extra. adds_all IsKeptClause c.args.own c.args.extra.now c.in_ok-clauses.clauses (returns-clause-added c) own extra
