use Rattle.std.proofs.Common.{ℕ, ◌+◌, ◌++◌, List, length, take, ap, subst, sym, ◌∙◌, arith}
use Rattle.std.proofs.lemmas.List.{take_all}
use Rattle.std.proofs.lemmas.Result.{err_from_is_err_and}
use Rattle.netlist_types.specs.declared.sources.Module.{Module}
use Rattle.link_circuit.specs.Flats.{IsScope}
use Rattle.link_items.specs.declared.made.Instance.{Instance}
use Rattle.link_items.proofs.Listing.{all_at}
use Rattle.link_circuit.proofs.Finding.{module_is}
use Rattle.link_circuit.specs.Scopes.{named, IsTableOf, IsTwice}
use Rattle.net_link.specs.Nets.{names_in}
use Rattle.net_link.proofs.Tabling.{names_next, twice_in_all}
use Rattle.net_link.proofs.nets.name_table.Goals as goal

pub loop-k-init : goal.loop-k-init
loop-k-init c = let t = c.new-table.ensures c.args.marks.now in record { len = t.len; so_far = t }

pub item-requires : goal.item-requires
item-requires c = (all_at (IsScope c.args.netlist.now.source.now) c.args.scopes.now c.requires c.loop-k.k c.item-at.result.now c.item-at.ensures).body

pub add_scope-requires-clause-nets : goal.add_scope-requires-clause-nets
add_scope-requires-clause-nets c =
    let s = c.args.netlist.now.source.now in
    let g = c.item-at.result.now in
    let scope = all_at (IsScope s) c.args.scopes.now c.requires c.loop-k.k g c.item-at.ensures in
    scope.nets ∙ ap (λ (m : Module). length m.nets) (sym (module_is s g.body c.item.result.now c.item.ensures))

pub loop-k-preserved : goal.loop-k-preserved
loop-k-preserved c =
    let s = c.args.netlist.now.source.now in
    let g = c.item-at.result.now in
    let before = names_in s (take c.loop-k.k c.args.scopes.now) in
    let is = names_next s c.args.scopes.now c.loop-k.k g c.item-at.ensures
    ∙ ap (λ (m : Module). before ++ named g.prefix m.nets g.nets) (sym (module_is s g.body c.item.result.now c.item.ensures)) in
    record {
      len = c.in_ok-add_scope.ensures.table;
      so_far = subst (λ (ps : List (List ℕ × ℕ)). IsTableOf c.args.marks.now ps c.add_scope.new.self.names c.add_scope.new.self.nets) (sym is)
          (c.in_ok-add_scope.ensures.ok before c.loop-k.invariant.so_far);
    }

pub returns-in_err-add_scope-clause-err : goal.returns-in_err-add_scope-clause-err
returns-in_err-add_scope-clause-err c =
    let p = err_from_is_err_and c.from_residual.result c.from_residual.ensures.1 in
    let s = c.args.netlist.now.source.now in
    let g = c.item-at.result.now in
    let before = names_in s (take c.loop-k.k c.args.scopes.now) in
    let is = names_next s c.args.scopes.now c.loop-k.k g c.item-at.ensures
    ∙ ap (λ (m : Module). before ++ named g.prefix m.nets g.nets) (sym (module_is s g.body c.item.result.now c.item.ensures)) in
    rw (p.1, p.2) (twice_in_all s c.args.marks.now c.args.scopes.now (c.loop-k.k + 1) c.in_err-add_scope.field-0.0
    (subst (λ (ps : List (List ℕ × ℕ)). IsTwice c.args.marks.now ps c.in_err-add_scope.field-0.0) (sym is)
    (c.in_err-add_scope.ensures.err before c.loop-k.invariant.so_far)))

pub returns-clause-ok : goal.returns-clause-ok
returns-clause-ok c =
    subst (λ (gs : List Instance). IsTableOf c.args.marks.now (names_in c.args.netlist.now.source.now gs) c.loop-k.table.names c.loop-k.table.nets)
    (take_all c.loop-k.k c.args.scopes.now (omega arith)) c.loop-k.invariant.so_far
