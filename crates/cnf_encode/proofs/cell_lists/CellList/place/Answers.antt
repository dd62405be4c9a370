use Rattle.std.proofs.Common.{◌≡◌, ◌∙◌, ◌++◌, [], ◌∷◌, Vec, Bool, Global, ap, sym, subst}
use Rattle.indexmap.proofs.CallerLemmas.{insert_entry-new}
use Rattle.net_model.specs.Form.{value}
use Rattle.cnf_encode.specs.CellLists.{CellList, IsCellAt}
use Rattle.cnf_encode.proofs.CellTables.{found_at, none_found, told_more, put_last, values_push}
use Rattle.cnf_encode.proofs.cell_lists.CellList.place.Goals as goal

pub returns-in-Some-clause-is : goal.returns-in-Some-clause-is
returns-in-Some-clause-is c =
    subst (λ (list : CellList). IsCellAt list c.in-Some.place (value c.args.func.now) c.args.places) c.self.view_is
    (found_at (λ (v : Vec Bool Global). v.items) c.self.inside.coding c.self.inside.cells.entries c.in_ok-values.values.items c.in-Some.place
    (value c.args.func.now) c.args.places c.self.invariant (sym c.get_index_of.ensures.index ∙ c.in-Some.is) c.in_ok-values.ensures)

pub invariant_of-self : goal.invariant_of-self
invariant_of-self c = rw c.in_err-insert.ensures.err c.self.invariant

pub invariant_of-self-2 : goal.invariant_of-self-2
invariant_of-self-2 c =
    told_more (λ (v : Vec Bool Global). v.items) c.self.inside.coding c.self.inside.cells.entries c.insert.new.self.entries c.in_ok-values.values
    c.in_ok-cell.cell (value c.args.func.now) c.args.places c.self.invariant
    (c.in_ok-insert.ensures.entries ∙ insert_entry-new _ c.self.inside.cells c.in_ok-values.values c.in_ok-cell.cell
    (none_found c.get_index_of.result _ c.get_index_of.ensures.found c.in_default.not-Some))
    c.in_ok-values.ensures (record { covering = c.in_ok-cell.ensures.covering; settling = c.in_ok-cell.ensures.settling })

pub returns-clause-is : goal.returns-clause-is
returns-clause-is c =
    put_last c.self.inside.coding c.self.inside.cells.entries c.insert.new.self.entries c.in_ok-values.values c.in_ok-cell.cell c.len-place.result
    (value c.args.func.now) c.args.places
    (c.in_ok-insert.ensures.entries ∙ insert_entry-new _ c.self.inside.cells c.in_ok-values.values c.in_ok-cell.cell
    (none_found c.get_index_of.result _ c.get_index_of.ensures.found c.in_default.not-Some))
    c.len-place.ensures.len (record { covering = c.in_ok-cell.ensures.covering; settling = c.in_ok-cell.ensures.settling })

pub returns-clause-grown : goal.returns-clause-grown
returns-clause-grown c =
    let push : c.insert.new.self.entries ≡ c.self.inside.cells.entries ++ (c.in_ok-values.values, c.in_ok-cell.cell) ∷ [] =
    c.in_ok-insert.ensures.entries ∙ insert_entry-new _ c.self.inside.cells c.in_ok-values.values c.in_ok-cell.cell
    (none_found c.get_index_of.result _ c.get_index_of.ensures.found c.in_default.not-Some) in
    record {
      coding = ap (λ (list : CellList). list.coding) c.self.view_is;
      more = c.in_ok-cell.cell ∷ [];
      cells =
          values_push c.self.inside.cells.entries c.insert.new.self.entries c.in_ok-values.values c.in_ok-cell.cell push
          ∙ ap (λ (list : CellList). list.cells ++ c.in_ok-cell.cell ∷ []) c.self.view_is;
    }
