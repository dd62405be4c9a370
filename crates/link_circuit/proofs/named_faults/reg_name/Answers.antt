use Rattle.std.proofs.Common.{ℕ, List, ap, subst, sym, ◌∙◌}
use Rattle.std.specs.Prelude.{Option, IsSome}
use Rattle.std.specs.List.{position}
use Rattle.std.proofs.lemmas.Option.{slice_get_within}
use Rattle.link_items.specs.declared.made.LeafPlace.{LeafPlace}
use Rattle.link_circuit.specs.Names.{is_leaf_on, IsNameOn}
use Rattle.link_circuit.proofs.Finding.{leaf_found, leaf_name_is, clock_is}
use Rattle.link_circuit.proofs.named_faults.reg_name.Goals as goal

pub item-requires : goal.item-requires
item-requires c = let (p, clock, at, on, leaf) = c.requires in slice_get_within c.args.parts.now c.args.place p at

pub unwrap-at-requires : goal.unwrap-at-requires
unwrap-at-requires c =
    let (p, clock, at, on, leaf) = c.requires in
    let is = clock_is c.args.parts.now c.args.place clock p c.item.result.now c.clock_of-clock.result at on c.item.ensures c.clock_of-clock.ensures in
    let same = c.leaf_on.ensures ∙ ap (λ (xs : List LeafPlace). position (is_leaf_on c.clock_of-clock.result c.args.parts.now) xs) c.as_slice.ensures
    ∙ ap (λ (n : ℕ). position (is_leaf_on n c.args.parts.now) c.args.leaves.now) is in
    subst (λ (o : Option ℕ). IsSome o) (sym same) (leaf_found c.args.parts.now c.args.leaves.now clock leaf)

pub returns : goal.returns
returns c =
    let (p, clock, at, on, leaf) = c.requires in
    let is = clock_is c.args.parts.now c.args.place clock p c.item.result.now c.clock_of-clock.result at on c.item.ensures c.clock_of-clock.ensures in
    let same = sym c.unwrap-at.ensures ∙ c.leaf_on.ensures
    ∙ ap (λ (xs : List LeafPlace). position (is_leaf_on c.clock_of-clock.result c.args.parts.now) xs) c.as_slice.ensures
    ∙ ap (λ (n : ℕ). position (is_leaf_on n c.args.parts.now) c.args.leaves.now) is in
    subst (λ (n : List ℕ). IsNameOn c.args.parts.now c.args.leaves.now c.args.place n) (sym c.in_ok-name.ensures)
    (leaf_name_is c.args.parts.now c.args.leaves.now c.args.place clock c.unwrap-at.result p c.item-2.result.now at on same c.item-2.ensures)
