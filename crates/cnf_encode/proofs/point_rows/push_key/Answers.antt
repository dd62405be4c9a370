use Rattle.std.proofs.Common.{◌≡◌, ◌<◌, ◌∙◌, Some, None, arith, length}
use Rattle.std.proofs.lemmas.Option.{get_or_from_slice_get}
use Rattle.cnf_encode.specs.Placed.{place_of}
use Rattle.cnf_encode.proofs.Pushing.{pushed_at}
use Rattle.cnf_encode.proofs.point_rows.push_key.Goals as goal

pub returns-in_ok-push : goal.returns-in_ok-push
returns-in_ok-push c =
    let place : place_of c.args.places.now c.args.key.now.point ≡ Some c.in-Some.place = get_or_from_slice_get c.args.places.now c.args.key.now.point
    c.at.result None c.at.ensures ∙ c.in-Some.is in
    let low : c.args.key.now.cycle < length c.args.rows.now.items = omega (arith, c.if-key-len-2.true, c.len-then-key-len.ensures, c.args.rows.now.ok.0) in
    pushed_at (λ row. row.items) c.args.rows.now.items c.args.key.now.cycle c.in-Some.place (place_of c.args.places.now c.args.key.now.point)
    c.index_mut.result.now c.push.new.self low c.index_mut.ensures.value c.in_ok-push.ensures.items place

pub returns-in_default : goal.returns-in_default
returns-in_default c =
    let none : place_of c.args.places.now c.args.key.now.point ≡ None = get_or_from_slice_get c.args.places.now c.args.key.now.point c.at.result None
    c.at.ensures ∙ c.in_default.is in
    rw none
