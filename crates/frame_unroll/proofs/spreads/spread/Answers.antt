use Rattle.std.proofs.Common.{◌≡◌, ℕ, List, ap, arith, get_or, length, subst, Some}
use Rattle.std.specs.Prelude.{slice_get}
use Rattle.std.proofs.lemmas.Option.{slice_get-get_or}
use Rattle.frame_unroll.proofs.Listed.{listed_at}
use Rattle.frame_unroll.proofs.Spreading.{spreads_first, spreads_more, spreads_all}
use Rattle.frame_unroll.proofs.spreads.spread.Goals as goal

pub loop-next-init : goal.loop-next-init
loop-next-init c = spreads_first c.args.design.now c.args.sets.now c.args.layer c.args.found.now.keys c.requires.below

pub tell-requires-clause-net : goal.tell-requires-clause-net
tell-requires-clause-net c =
    let found = c.loop-next.found.keys in
    let next = c.loop-next.next in
    let here : ℕ = get_or c.as_slice.result.now next 0 in
    let at : slice_get found next ≡ Some here =
    subst (λ (keys : List ℕ). slice_get keys next ≡ Some here) c.as_slice.ensures.keys
    (slice_get-get_or c.as_slice.result.now next 0 (omega (arith, ap (length {A = ℕ}) c.as_slice.ensures.keys))) in
    c.loop-next.invariant.low here (listed_at found next here at)

pub loop-next-preserved : goal.loop-next-preserved
loop-next-preserved c =
    let found = c.loop-next.found.keys in
    let next = c.loop-next.next in
    let here : ℕ = get_or c.as_slice.result.now next 0 in
    let at : slice_get found next ≡ Some here =
    subst (λ (keys : List ℕ). slice_get keys next ≡ Some here) c.as_slice.ensures.keys
    (slice_get-get_or c.as_slice.result.now next 0 (omega (arith, ap (length {A = ℕ}) c.as_slice.ensures.keys))) in
    spreads_more c.args.design.now c.args.sets.now c.args.layer c.args.found.now.keys found c.tell.new.found.keys next here c.requires.sound at
    c.loop-next.invariant c.in_ok-tell.ensures

pub returns : goal.returns
returns c =
    spreads_all c.args.design.now c.args.sets.now c.args.layer c.args.found.now.keys c.loop-next.found.keys c.loop-next.next (omega arith)
    c.loop-next.invariant
