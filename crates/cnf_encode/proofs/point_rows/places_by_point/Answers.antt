use Rattle.std.proofs.Common.{◌≡◌, ◌<◌, Some, length, slice_get, get_or}
use Rattle.std.proofs.lemmas.Option.{slice_get-get_or}
use Rattle.cnf_encode.proofs.Placing.{places_more, places_all}
use Rattle.cnf_encode.proofs.point_rows.places_by_point.Goals as goal

pub loop-k-preserved : goal.loop-k-preserved
loop-k-preserved c =
    let points = c.args.points.now in
    let k = c.loop-k.k in
    let low : k < length points = c.loop-k-test.true in
    let at : slice_get points k ≡ Some (get_or points k 0) = slice_get-get_or points k 0 low in
    rw c.put.ensures (places_more points c.args.size k (get_or points k 0) c.loop-k.places c.requires.once (c.requires.below k 0 low) at c.loop-k.invariant)

pub returns : goal.returns
returns c = places_all c.args.points.now c.args.size c.loop-k.k c.loop-k.places c.loop-k-test.false c.loop-k.invariant
