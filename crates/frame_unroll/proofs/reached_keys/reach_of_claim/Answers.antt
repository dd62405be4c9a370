use Rattle.std.proofs.Common.{◌≡◌, sym, subst, arith, List, ◌+◌, Some}
use Rattle.std.specs.Prelude.{slice_get}
use Rattle.query_model.specs.declared.keys.Key.{Key}
use Rattle.query_model.proofs.Based.{in_place}
use Rattle.frame_unroll.specs.Origins.{claim_reads}
use Rattle.frame_unroll.proofs.KeyRange.{claim_keys_within}
use Rattle.frame_unroll.proofs.Reaching.{Reaches, reaches_first, reaches_more, reaches_all}
use Rattle.frame_unroll.proofs.reached_keys.reach_of_claim.Goals as goal

pub loop-next-init : goal.loop-next-init
loop-next-init c =
    let subject = c.args.subject.now in
    reaches_first (claim_reads subject.tables.now.coding subject.design.now subject.claim.now subject.moved c.args.cycles) c.args.found.now

pub add_claim_reads-requires-clause-early : goal.add_claim_reads-requires-clause-early
add_claim_reads-requires-clause-early c =
    let subject = c.args.subject.now in
    let is = c.requires.subject in
    let found = c.loop-next.found in
    let next = c.loop-next.next in
    let here : Key = c.key-key.result in
    let at : slice_get found next ≡ Some here = c.key-key.ensures in
    let within = claim_keys_within subject.tables.now.coding subject.design.now subject.claim.now subject.moved c.args.cycles c.args.found.now is.sound
    is.fits
    c.requires.within here (c.loop-next.invariant.only here (in_place here found next at)) in
    omega (arith, within.cycle, c.requires.cycles)

pub loop-next-preserved : goal.loop-next-preserved
loop-next-preserved c =
    let subject = c.args.subject.now in
    let reads = claim_reads subject.tables.now.coding subject.design.now subject.claim.now subject.moved c.args.cycles in
    let start = c.args.found.now in
    let found = c.loop-next.found in
    let next = c.loop-next.next in
    let here : Key = c.key-key.result in
    let at : slice_get found next ≡ Some here = c.key-key.ensures in
    subst (λ (keys : List Key). Reaches reads start keys (next + 1)) (sym c.in_ok-add_claim_reads.ensures)
    (reaches_more reads start found next here at c.loop-next.invariant)

pub returns : goal.returns
returns c =
    let subject = c.args.subject.now in
    reaches_all (claim_reads subject.tables.now.coding subject.design.now subject.claim.now subject.moved c.args.cycles) c.args.found.now
    c.loop-next.found c.loop-next.next (omega arith) c.loop-next.invariant
