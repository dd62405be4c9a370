use Rattle.std.proofs.Common.{◌≡◌, ◌<◌, length, arith, sym, ◌∙◌}
use Rattle.wave_signals.proofs.Splitting.{same_next, told_same}
use Rattle.wave_signals.proofs.groups.are_equal.Goals as goal

pub loop-place-preserved : goal.loop-place-preserved
loop-place-preserved c =
    let low : c.loop-place.place < length c.args.a.now = omega arith in
    let also : c.loop-place.place < length c.args.b.now = omega arith in
    let same : c.index-a-place.result ≡ c.index-b-place.result =
    sym c.as_bytes.ensures
    ∙ (told_same c.as_bytes.result.now c.as_bytes-in-loop-place.result.now c.if-ne.ensures ∙ c.as_bytes-in-loop-place.ensures) in
    same_next c.args.a.now c.args.b.now c.loop-place.place c.index-a-place.result c.index-b-place.result low also c.loop-place.invariant c.index-a-place.is
    c.index-b-place.is same
