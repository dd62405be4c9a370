use Rattle.std.proofs.Common.{◌≡◌, ◌<◌, List, ◌++◌, length, map, ap, sym, ◌∙◌, arith}
use Rattle.std.specs.Prelude.{flat_map}
use Rattle.std.proofs.lemmas.List.{take_all}
use Rattle.std.proofs.lemmas.List.Folds.{flat_map-map}
use Rattle.link_defs.specs.declared.cuts.CutCell.{CutCell}
use Rattle.link_defs.specs.Cuts.{cells_in}
use Rattle.link_items.specs.declared.made.Instance.{Instance}
use Rattle.link_items.specs.Items.{module_at, scope_of}
use Rattle.link_items.proofs.Listing.{all_at, flat_next}
use Rattle.link_cuts.specs.Groups.{IsPlaced, group_of}
use Rattle.link_cuts.proofs.Grouped.{all_fit, group_is, scope_cells}
use Rattle.link_cuts.proofs.cells.cut_cells.Goals as goal

pub push_cells-requires : goal.push_cells-requires
push_cells-requires c =
    let s = c.args.netlist.now.source.now in
    let g = c.item-scope.result.now in
    let placed : IsPlaced s g = all_at (IsPlaced s) c.args.scopes.now c.requires.scopes c.loop-k.k g c.item-scope.ensures in
    record {
      fit = all_fit s g c.args.items.now c.item.result.now placed c.requires.items
          (group_is s c.args.items.now c.in_ok-groups.groups g.body c.item.result.now c.in_ok-groups.ensures placed.body c.item.ensures);
    }

pub loop-k-preserved : goal.loop-k-preserved
loop-k-preserved c =
    let s = c.args.netlist.now.source.now in
    let items = c.args.items.now in
    let g = c.item-scope.result.now in
    let placed : IsPlaced s g = all_at (IsPlaced s) c.args.scopes.now c.requires.scopes c.loop-k.k g c.item-scope.ensures in
    let group : c.item.result.now ≡ group_of items (module_at s g.body).name = group_is s items c.in_ok-groups.groups g.body c.item.result.now
    c.in_ok-groups.ensures placed.body c.item.ensures in
    c.in_ok-push_cells.ensures ∙ ap (λ (xs : List CutCell). c.loop-k.cells ++ xs) (scope_cells s g items c.item.result.now group)
    ∙ ap (λ (xs : List CutCell). xs ++ cells_in items (scope_of s g)) c.loop-k.invariant
    ∙ sym (flat_next (λ (i : Instance). cells_in items (scope_of s i)) c.args.scopes.now c.loop-k.k g c.item-scope.ensures)

pub returns : goal.returns
returns c =
    let s = c.args.netlist.now.source.now in
    let items = c.args.items.now in
    c.loop-k.invariant
    ∙ ap (λ (gs : List Instance). flat_map (λ (i : Instance). cells_in items (scope_of s i)) gs) (take_all c.loop-k.k c.args.scopes.now (omega arith))
    ∙ sym (flat_map-map (cells_in items) (scope_of s) c.args.scopes.now)
