use Rattle.std.proofs.Common.{◌≡◌, ◌<◌, length, get_or, ap, ◌∙◌, arith}
use Rattle.std.proofs.lemmas.List.{get_or_read}
use Rattle.proof_log.specs.Clauses.{is_set}
use Rattle.proof_log.proofs.Members.{is_set-at}
use Rattle.sat_solver.proofs.Deciding.{AreWaiting-back}
use Rattle.sat_solver.proofs.activities.Activities.release.Goals as goal

pub release_one-requires : goal.release_one-requires
release_one-requires c =
    let lits = c.args.trail.now.lits in
    let place = c.loop-place.place in
    let within : place < length lits = omega (arith, c.loop-place-test.true, c.len-place-end.ensures.value) in
    let item : c.index-lits-place.result ≡ get_or lits place 0 =
    get_or_read c.lits.result.now place c.index-lits-place.result (omega (arith, within, ap length c.lits.ensures.value)) c.index-lits-place.is 0
    ∙ ap (λ xs. get_or xs place 0) c.lits.ensures.value in
    let v = c.lits-lits.ensures.in_vars c.index-lits-place.result (ap (is_set lits) item ∙ is_set-at lits place within) in
    (v.0, omega (arith, v.1, c.loop-place.invariant.vars, c.requires.vars))

pub returns : goal.returns
returns c =
    AreWaiting-back c.args.trail.now.vars c.args.trail.now.lits c.args.from c.args.self.now.waiting c.loop-place.self.waiting c.requires
    c.loop-place.invariant.vars c.loop-place.invariant.keeps
    (λ i low h. c.loop-place.invariant.back i low (omega (arith, h, c.loop-place-test.false, c.len-place-end.ensures.value)))
