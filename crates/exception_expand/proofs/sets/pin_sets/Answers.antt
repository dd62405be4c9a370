use Rattle.std.proofs.Common.{◌∙◌, ◌+◌, ◌++◌, ◌∷◌, [], List, take, map, flat_map, ap, sym}
use Rattle.net_model.specs.declared.claims.PinRef.{PinRef}
use Rattle.sdc_objects.specs.declared.things.Place.TheVariants.{Through}
use Rattle.sdc_objects.specs.Standing.{pins_of, through_column, warnings}
use Rattle.list_laws.proofs.Joining.{pushed, map_next, flat_next}
use Rattle.exception_expand.proofs.sets.pin_sets.Goals as goal

pub loop-k-preserved : goal.loop-k-preserved
loop-k-preserved c =
    let l = c.args.scope.now.linked.now in
    let script = c.args.scope.now.script.now in
    let of = pins_of l script in
    let told = warnings (through_column l) l script c.args.scope.now.strict Through in
    let xs = c.args.lists.now in
    let x = c.item.result.now in
    record {
      sets = c.in_ok-push.ensures.ok ∙ ap (λ (s : List (List PinRef)). s ++ c.in_ok-pin_set.field-0 ∷ []) c.loop-k.invariant.sets
          ∙ ap (λ (s : List PinRef). map of (take c.loop-k.k xs) ++ s ∷ []) c.in_ok-pin_set.ensures.set ∙ sym (map_next of xs c.loop-k.k x c.item.ensures);
      warnings = pushed c.args.warnings.now c.loop-k.warnings c.pin_set.new.warnings (told x) (flat_map told (take (c.loop-k.k + 1) xs))
          (flat_map told (take c.loop-k.k xs)) c.loop-k.invariant.warnings c.in_ok-pin_set.ensures.warnings (flat_next told xs c.loop-k.k x c.item.ensures);
    }
