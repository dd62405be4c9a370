use Rattle.std.proofs.Common.{◌≡◌, ◌∙◌, ℕ, List, arith, length, map, subst}
use Rattle.std.specs.Prelude.{Contains}
use Rattle.frame_unroll.specs.Moves.{AreThose, rows_of}
use Rattle.frame_unroll.proofs.Moving.{AreMovedTo, starts_low, taken_low, taken_by, moved_first, moved_more, moved_all}
use Rattle.frame_unroll.proofs.moved_nets.MovedNets.of.Goals as goal

pub spread-requires-clause-below : goal.spread-requires-clause-below
spread-requires-clause-below c =
    let starts = c.deref.ensures.value ∙ c.in_ok-start_nets.ensures in
    starts_low c.args.design.now c.args.claim.now c.in_ok-first.first.keys c.requires.sound c.requires.fits.start
    (subst (λ (nets : List ℕ). AreThose (Contains nets) c.in_ok-first.first.keys) starts c.in_ok-first.ensures)

pub loop-l-init : goal.loop-l-init
loop-l-init c =
    let starts = c.deref.ensures.value ∙ c.in_ok-start_nets.ensures in
    rw (c.in_ok-push.ensures.items, c.new-layers.ensures.items) (moved_first c.args.design.now c.args.claim.now c.in_ok-first.first.keys c.spread.new.found.keys
    c.requires.sound c.requires.fits.start
    (subst (λ (nets : List ℕ). AreThose (Contains nets) c.in_ok-first.first.keys) starts c.in_ok-first.ensures) c.in_ok-spread.ensures)

pub spread-requires-in-loop-l-clause-below : goal.spread-requires-in-loop-l-clause-below
spread-requires-in-loop-l-clause-below c =
    let those = taken_by c.args.design.now c.args.claim.now c.loop-l.layers.items c.in_ok-next.next.keys c.loop-l.l c.deref-in-loop-l.result.now
    c.deref-in-loop-l.ensures.value c.in_ok-next.ensures in
    taken_low c.args.design.now c.args.claim.now (map (λ s. s.keys) c.loop-l.layers.items) c.in_ok-next.next.keys c.loop-l.l c.requires.sound
    c.loop-l.invariant those

pub loop-l-preserved : goal.loop-l-preserved
loop-l-preserved c =
    let those = taken_by c.args.design.now c.args.claim.now c.loop-l.layers.items c.in_ok-next.next.keys c.loop-l.l c.deref-in-loop-l.result.now
    c.deref-in-loop-l.ensures.value c.in_ok-next.ensures in
    rw c.in_ok-push-2.ensures.items (moved_more c.args.design.now c.args.claim.now c.loop-l.layers.items c.in_ok-next.next.keys c.loop-l.l
    c.spread-in-loop-l.new.found c.requires.sound c.loop-l.invariant those c.in_ok-spread-2.ensures)

pub returns : goal.returns
returns c =
    let d = c.args.design.now in
    let claim = c.args.claim.now in
    let rows = rows_of d.nets (map (λ s. s.keys) c.loop-l.layers.items) in
    let all : c.loop-l.l ≡ length claim.through = omega arith in
    moved_all d claim rows (subst (AreMovedTo d claim rows) all c.loop-l.invariant)
