use Rattle.std.proofs.Common.{arith, ◌≡◌, ◌∙◌, false, refl, sym}
use Rattle.case_objects.specs.declared.spots.Spot.{Spot}
use Rattle.case_objects.specs.Values.{has_no_place}
use Rattle.case_objects.proofs.Holding.{one_more, of_all, wasnt}
use Rattle.case_objects.proofs.places.have_places.Goals as goal

pub loop-k-preserved : goal.loop-k-preserved
loop-k-preserved c =
    one_more (λ (s : Spot). has_no_place c.args.scope.now.linked.now s ≡ false) c.args.spots.now c.loop-k.k c.item.result.now c.item.ensures
    c.loop-k.invariant (wasnt (has_no_place c.args.scope.now.linked.now c.item.result.now) (sym c.if-not-branch.false ∙ c.in_ok-has_place.ensures))

pub returns : goal.returns
returns c =
    let all = of_all (λ (s : Spot). has_no_place c.args.scope.now.linked.now s ≡ false) c.args.spots.now c.loop-k.k
    (omega (arith, c.loop-k-test.false, c.len-k-end.ensures)) c.loop-k.invariant in
    (λ is. all, λ has. refl)
