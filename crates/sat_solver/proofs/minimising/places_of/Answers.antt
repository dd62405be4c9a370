use Rattle.std.proofs.Common.{◌≡◌, ◌∙◌, ◌<◌, true, take, ap, sym, arith}
use Rattle.std.proofs.lemmas.Bool.{ltb-true}
use Rattle.std.proofs.lemmas.List.{get_or_read}
use Rattle.std.proofs.lemmas.List.Elements.{All-push}
use Rattle.proof_log.specs.Literals.{negated}
use Rattle.proof_log.specs.Clauses.{is_set}
use Rattle.proof_log.proofs.Members.{is_set-at, is_set-take}
use Rattle.sat_solver.proofs.minimising.places_of.Goals as goal

pub place-place-requires : goal.place-place-requires
place-place-requires c =
    ap (is_set c.args.trail.now.lits) c.negated.ensures ∙ is_set-take c.args.start c.args.trail.now.lits (negated c.l-item.result)
    (c.requires c.l-item.result
    (ap (is_set c.args.lits.now) (get_or_read c.args.lits.now c.loop-l.l-index c.l-item.result (omega arith) c.l-item.is 0)
    ∙ is_set-at c.args.lits.now c.loop-l.l-index (omega arith)))

pub loop-l-preserved : goal.loop-l-preserved
loop-l-preserved c =
    let lits = c.args.trail.now.lits in
    let early : is_set (take c.args.start lits) (negated c.l-item.result) ≡ true =
    c.requires c.l-item.result
    (ap (is_set c.args.lits.now) (get_or_read c.args.lits.now c.loop-l.l-index c.l-item.result (omega arith) c.l-item.is 0)
    ∙ is_set-at c.args.lits.now c.loop-l.l-index (omega arith)) in
    let below : c.place-place.result < c.args.start =
    ltb-true c.place-place.result c.args.start
    (sym (c.place-place.ensures.front c.args.start) ∙ (ap (is_set (take c.args.start lits)) c.negated.ensures ∙ early)) in
    rw c.in_ok-push.ensures.items (All-push (λ n. n < c.args.start) c.loop-l.places.items c.place-place.result c.loop-l.invariant below)
