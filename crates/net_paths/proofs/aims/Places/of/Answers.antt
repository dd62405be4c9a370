use Rattle.std.proofs.Common.{arith, ◌≡◌, ◌≤◌, ◌∙◌, length, sym}
use Rattle.std.specs.Prelude.{None}
use Rattle.net_paths.specs.Aims.{place_of}
use Rattle.net_paths.proofs.Aiming.{is_none, places_more, places_all}
use Rattle.net_paths.proofs.aims.Places.of.Goals as goal

pub loop-k-preserved : goal.loop-k-preserved
loop-k-preserved c =
    let none : place_of c.loop-k.places c.at-end.result ≡ None = sym c.of_end.ensures ∙ is_none c.of_end.result (sym c.is_some.ensures ∙ c.if-is_some.false) in
    places_more c.args.design.now c.args.ends.now c.loop-k.k c.at-end.result c.loop-k.places c.put.new.self c.at-end.ensures none c.put.ensures
    c.loop-k.invariant

pub returns : goal.returns
returns c =
    let past : length c.args.ends.now ≤ c.loop-k.k = omega (arith, c.loop-k-test.false, c.len-k-end.ensures) in
    places_all c.args.design.now c.args.ends.now c.loop-k.k c.loop-k.places past c.loop-k.invariant
