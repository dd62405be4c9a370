use Rattle.std.proofs.Common.{arith, sym}
use Rattle.std.proofs.lemmas.Option.{slice_get_within}
use Rattle.case_objects.proofs.Numbering.{no_number, number_is, same_number}
use Rattle.case_objects.proofs.places.number_of.Goals as goal

pub returns-then-at-net : goal.returns-then-at-net
returns-then-at-net c =
    sym (number_is c.args.net c.args.nets.now c.loop-k.k c.at.result c.at.ensures (same_number c.at.result c.args.net c.if-at-net.true) c.loop-k.invariant)

pub returns : goal.returns
returns c =
    sym (no_number c.args.net c.args.nets.now (λ i n at.
    let within = slice_get_within c.args.nets.now i n at in
    let end = c.len-k-end.ensures in
    let past = c.loop-k-test.false in
    c.loop-k.invariant i n (omega (arith, within, end, past)) at))
