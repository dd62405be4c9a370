use Rattle.std.proofs.Common.{arith, ◌≡◌, ◌≤◌, ◌∙◌, ◌++◌, List, [], ◌∷◌, Vec, Global, length, map, take, ap, sym}
use Rattle.std.proofs.lemmas.List.{take_all, length-map}
use Rattle.net_model.specs.declared.invariants.InvClause.{InvClause}
use Rattle.inv_candidates.specs.Listing.{clause_of_row}
use Rattle.inv_candidates.specs.declared.tables.RowLit.{RowLit}
use Rattle.inv_candidates.proofs.TableKeys.{rows_more}
use Rattle.inv_candidates.proofs.tables.ClauseTable.clauses.Goals as goal

pub loop-k-preserved : goal.loop-k-preserved
loop-k-preserved c =
    let rows : List (Vec RowLit Global) = c.as_slice-rows.result.now in
    let k = c.loop-k.k in
    c.in_ok-push.ensures.ok ∙ ap (λ (l : List InvClause). l ++ c.in_ok-clause_of_row.field-0 ∷ []) c.loop-k.invariant
    ∙ ap (λ (x : InvClause). take k (map clause_of_row rows) ++ x ∷ []) (c.in_ok-clause_of_row.ensures ∙ ap clause_of_row c.index-rows-k.is)
    ∙ sym (rows_more rows k c.index-rows-k.result (omega arith))

pub returns : goal.returns
returns c =
    let rows : List (Vec RowLit Global) = c.as_slice-rows.result.now in
    let past : length (map clause_of_row rows) ≤ c.loop-k.k = omega (arith, length-map rows clause_of_row) in
    c.loop-k.invariant ∙ take_all c.loop-k.k (map clause_of_row rows) past
    ∙ ap (λ (l : List (Vec RowLit Global)). map clause_of_row l) c.as_slice-rows.ensures.keys ∙ c.self.view_is
