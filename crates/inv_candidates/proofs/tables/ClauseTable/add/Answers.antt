use Rattle.std.proofs.Common.{List, [], ◌∷◌, Vec, Global, map, sym, subst}
use Rattle.net_model.specs.declared.invariants.InvClause.{InvClause}
use Rattle.inv_candidates.specs.Listing.{AddsNew, clause_of_row}
use Rattle.inv_candidates.specs.declared.tables.RowLit.{RowLit}
use Rattle.inv_candidates.proofs.TableKeys.{adds_table_key, same_row, tells_rows}
use Rattle.inv_candidates.proofs.tables.ClauseTable.add.Goals as goal

pub returns : goal.returns
returns c =
    let keys : List (Vec RowLit Global) = c.self.inside.rows.keys in
    let clause : InvClause = clause_of_row c.args.row in
    subst (λ (old : List InvClause). AddsNew old (clause ∷ []) (map clause_of_row c.insert.new.self.keys)) c.self.view_is
    (subst (λ (ks : List (Vec RowLit Global)). AddsNew (map clause_of_row keys) (clause ∷ []) (map clause_of_row ks)) (sym c.in_ok-insert.ensures.keys)
    (adds_table_key same_row clause_of_row tells_rows c.args.row keys))
