use Rattle.std.proofs.Common.{◌≡◌, ◌∙◌, subst, ap, All, ℕ, List, false}
use Rattle.std.specs.Prelude.{Contains}
use Rattle.std.specs.List.{position}
use Rattle.link_defs.specs.declared.circuits.Part.{Part}
use Rattle.sdcv_base.specs.Seqs.{is_marked}
use Rattle.link_design.specs.Trees.{is_off_clock}
use Rattle.link_design.proofs.Clocked.{position_some, position_none, off_cause, row_is, clocked_is}
use Rattle.link_design.proofs.trees.check_clock.Goals as goal

pub returns-in-Some-clause-err : goal.returns-in-Some-clause-err
returns-in-Some-clause-err c =
    let (p, at, off) = position_some (is_off_clock c.args.clock.now.tree c.args.clock.now.odd) c.args.circuit.now.parts c.in-Some.place
    (c.in-Some.ensures ∙ ap (λ (ps : List Part). position (is_off_clock c.args.clock.now.tree c.args.clock.now.odd) ps) c.as_slice.ensures) in
    off_cause c.args.circuit.now c.args.clock.now.tree c.args.clock.now.odd c.args.clock.now.lost c.in-Some.place p c.requires at off

pub returns-in-Some-first_marked-clause-err : goal.returns-in-Some-first_marked-clause-err
returns-in-Some-first_marked-clause-err c =
    let none = position_none (is_off_clock c.args.clock.now.tree c.args.clock.now.odd) c.args.circuit.now.parts
    (c.in_default.ensures ∙ ap (λ (ps : List Part). position (is_off_clock c.args.clock.now.tree c.args.clock.now.odd) ps) c.as_slice.ensures) in
    let row = row_is c.args.circuit.now c.args.clock.now.tree c.args.clock.now.odd c.args.clock.now.lost c.requires none in
    let (has, hit) = c.in-Some-first_marked.ensures.some in
    let net = c.in-Some-first_marked.net in
    let there = subst (λ (ns : List ℕ). Contains ns net) (c.as_slice-2.ensures ∙ c.in_ok-data.ensures) has in
    (is_marked c.args.clock.now.odd net, there, row.on net hit)

pub returns-clause-ok : goal.returns-clause-ok
returns-clause-ok c =
    let none = position_none (is_off_clock c.args.clock.now.tree c.args.clock.now.odd) c.args.circuit.now.parts
    (c.in_default.ensures ∙ ap (λ (ps : List Part). position (is_off_clock c.args.clock.now.tree c.args.clock.now.odd) ps) c.as_slice.ensures) in
    let row = row_is c.args.circuit.now c.args.clock.now.tree c.args.clock.now.odd c.args.clock.now.lost c.requires none in
    clocked_is c.args.circuit.now c.args.clock.now.tree c.args.clock.now.odd row none
    (subst (λ (ns : List ℕ). All (λ (n : ℕ). is_marked c.args.clock.now.tree n ≡ false) ns) (c.as_slice-2.ensures ∙ c.in_ok-data.ensures)
    c.in_default-first_marked.ensures.none)

pub returns-clause-tree : goal.returns-clause-tree
returns-clause-tree c =
    row_is c.args.circuit.now c.args.clock.now.tree c.args.clock.now.odd c.args.clock.now.lost c.requires
    (position_none (is_off_clock c.args.clock.now.tree c.args.clock.now.odd) c.args.circuit.now.parts
    (c.in_default.ensures ∙ ap (λ (ps : List Part). position (is_off_clock c.args.clock.now.tree c.args.clock.now.odd) ps) c.as_slice.ensures))
