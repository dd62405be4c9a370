use Rattle.std.proofs.Common.{ℕ, sym, subst}
use Rattle.std.proofs.lemmas.Option.{slice_get_within}
use Rattle.link_design.specs.Lawful.{IsLawfulPart}
use Rattle.link_design.proofs.Readings.{part_lawful}
use Rattle.link_design.proofs.Walking.{visit_at, visit_more, visit_end}
use Rattle.link_design.proofs.walks.Walk.visit.Goals as goal

pub item-requires : goal.item-requires
item-requires c =
    let of = visit_at c.args.circuit.now c.args.readers.now.rows.items c.args.at c.loop-place.place-index c.at-net.result c.branch_of-branch.result
    c.args.self.now c.of_net-place-items.result.now c.requires.lawful c.requires.readers c.requires.walk c.at-net.ensures c.branch_of-branch.ensures
    c.of_net-place-items.ensures c.loop-place-test.true in
    slice_get_within c.args.circuit.now.parts _ of.p of.at

pub hand_on-requires-clause-part : goal.hand_on-requires-clause-part
hand_on-requires-clause-part c =
    subst (λ (n : ℕ). IsLawfulPart n c.item.result.now) (sym c.loop-place.invariant.walk.tree_len)
    (part_lawful c.args.circuit.now _ c.item.result.now c.requires.lawful c.item.ensures)

pub loop-place-preserved : goal.loop-place-preserved
loop-place-preserved c =
    let of = visit_at c.args.circuit.now c.args.readers.now.rows.items c.args.at c.loop-place.place-index c.at-net.result c.branch_of-branch.result
    c.args.self.now c.of_net-place-items.result.now c.requires.lawful c.requires.readers c.requires.walk c.at-net.ensures c.branch_of-branch.ensures
    c.of_net-place-items.ensures c.loop-place-test.true in
    let more = visit_more c.args.circuit.now c.args.readers.now.rows.items c.loop-place.place-index c.at-net.result c.branch_of-branch.result c.args.self.now
    c.loop-place.self c.hand_on.new.self c.of_net-place-items.result.now c.item.result.now of c.of_net-place-items.ensures c.loop-place-test.true
    c.item.ensures c.loop-place.invariant.walk c.loop-place.invariant.is c.in_ok-hand_on.ensures in
    record { walk = more.0; is = more.1 }

pub returns : goal.returns
returns c =
    visit_end c.args.circuit.now c.args.readers.now.rows.items c.args.at c.loop-place.place-index c.at-net.result c.branch_of-branch.result c.args.self.now
    c.loop-place.self c.of_net-place-items.result.now c.requires.lawful c.requires.readers c.requires.walk c.at-net.ensures c.branch_of-branch.ensures
    c.of_net-place-items.ensures c.loop-place-test.false c.loop-place.invariant.is
