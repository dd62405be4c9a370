use Rattle.std.proofs.Common.{◌∙◌, List, sym, subst, ap, arith}
use Rattle.std.specs.Prelude.{flat_map, zip}
use Rattle.std.proofs.lemmas.List.{take_all}
use Rattle.linked_types.specs.declared.names.NetName.{NetName}
use Rattle.link_defs.specs.CellNames.{AreNetNames}
use Rattle.link_defs.specs.Designs.{number_by}
use Rattle.link_circuit.specs.Scopes.{kept}
use Rattle.link_circuit.proofs.Kept.{kept_step, none_within, net_names_are}
use Rattle.link_circuit.proofs.Scoped.{length_zip}
use Rattle.link_circuit.proofs.tables.NetTable.net_names.Goals as goal
use Rattle.link_circuit.proofs.tables.NetTable.net_names.Goals.{in-Some+in_ok-push_kept, in_default}

pub loop-k-preserved : goal.loop-k-preserved
loop-k-preserved c =
    elim c.match-name.branch [
      | in-Some+in_ok-push_kept w ↦
          kept_step c.args.numbers.now c.args.count c.args.self.now.names c.args.self.now.nets c.loop-k.k w.in-Some.name.now c.at.result
          c.number_in-number.result c.loop-k.list c.match-name.list c.loop-k.invariant (sym w.in-Some.ensures) c.at.ensures c.number_in-number.ensures
          (w.list-is ∙ w.in_ok-push_kept.ensures)
      | in_default w ↦ absurd (none_within c.args.self.now.names c.loop-k.k (omega (arith, c.requires, c.len-k-end.ensures, c.loop-k-test.true))
          w.in_default.ensures)
    ]

pub returns-clause-list : goal.returns-clause-list
returns-clause-list c =
    let whole = length_zip c.args.self.now.names c.args.self.now.nets c.requires in
    c.loop-k.invariant ∙ ap (λ ps. flat_map (kept c.args.numbers.now c.args.count) ps)
    (take_all c.loop-k.k (zip c.args.self.now.names c.args.self.now.nets) (omega (arith, whole)))

pub returns-clause-names : goal.returns-clause-names
returns-clause-names c = λ marks flat drivers t n.
    let whole = length_zip c.args.self.now.names c.args.self.now.nets c.requires in
    let list_is = c.loop-k.invariant ∙ ap (λ ps. flat_map (kept c.args.numbers.now c.args.count) ps)
    (take_all c.loop-k.k (zip c.args.self.now.names c.args.self.now.nets) (omega (arith, whole))) in
    subst (λ (l : List NetName). AreNetNames flat drivers (number_by drivers) l) (sym list_is)
    (net_names_are marks flat drivers c.args.numbers.now c.args.count c.args.self.now.names c.args.self.now.nets t n)
