use Rattle.std.proofs.Common.{◌<◌, ◌≡◌, ◌∙◌, Some, sym, arith, length, slice_get}
use Rattle.cnf_encode.proofs.Pushing.{pushed_more, numbered_at, numbered_there}
use Rattle.cnf_encode.proofs.point_rows.by_cycle.Goals as goal
use Rattle.cnf_encode.proofs.point_rows.by_cycle.Goals.{in-Some+in_ok-push_key, in_default}

pub loop-before-preserved : goal.loop-before-preserved
loop-before-preserved c =
    let keys = c.args.frames.now in
    let n = c.loop-before.before in
    let low : n < length keys = omega (arith, c.loop-before-test.true, c.vars-before-end.ensures.count) in
    elim c.match-key.branch [
      | in-Some+in_ok-push_key w ↦
          let at : slice_get keys n ≡ Some w.in-Some.key = sym (numbered_at keys n) ∙ sym c.key.ensures.value ∙ w.in-Some.is in
          rw (w.rows-is, w.in_ok-push_key.ensures) (pushed_more keys n w.in-Some.key c.args.places.now c.args.cycles _ at c.loop-before.invariant)
      | in_default w ↦ absurd (numbered_there keys n low (sym c.key.ensures.value ∙ w.in_default.is))
    ]
