use Rattle.std.proofs.Common.{arith, ◌≡◌, ◌∙◌, ◌++◌, ◌+◌, List, true, false, take, map, flat_map, ap, sym, subst}
use Rattle.std.specs.Prelude.{All}
use Rattle.list_laws.proofs.Joining.{flat_next, pushed}
use Rattle.case_objects.specs.declared.spots.Spot.{Spot}
use Rattle.case_objects.specs.Values.{HasPlaces, has_no_place, object_values, value_on}
use Rattle.case_objects.proofs.Holding.{one_more}
use Rattle.case_objects.proofs.found.add_objects.Goals as goal

pub loop-k-preserved : goal.loop-k-preserved
loop-k-preserved c =
    let l = c.args.scope.now.linked.now in
    let o = c.item-object.result.now in
    let of = object_values l c.args.line c.args.value in
    let is : HasPlaces l o = record {
      some = λ none. absurd (let empty = c.is_empty.ensures.1 (c.in_ok-found.ensures ∙ none) in let bad : false ≡ true = sym c.if-is_empty.false
          ∙ empty in grind arith);
      placed = subst (All (λ (s : Spot). has_no_place l s ≡ false)) c.in_ok-found.ensures (c.in_ok-have_places.ensures.0 c.if-not-branch.false);
    } in
    record {
      values = pushed c.args.values.now c.loop-k.values c.add_values.new.values (of o) (flat_map of (take (c.loop-k.k + 1) c.args.objects.now))
          (flat_map of (take c.loop-k.k c.args.objects.now)) c.loop-k.invariant.values
          (c.in_ok-add_values.ensures ∙ ap (λ (spots : List Spot). c.loop-k.values ++ map (value_on l c.args.line c.args.value) spots) c.in_ok-found.ensures)
          (flat_next of c.args.objects.now c.loop-k.k o c.item-object.ensures);
      placed = one_more (HasPlaces l) c.args.objects.now c.loop-k.k o c.item-object.ensures c.loop-k.invariant.placed is;
    }
