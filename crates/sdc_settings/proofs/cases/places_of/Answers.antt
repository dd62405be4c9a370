use Rattle.std.proofs.Common.{arith, ◌≡◌, ◌∙◌, ◌<◌, ℕ, true, false, List, ◌++◌, length, ap, sym, subst}
use Rattle.std.specs.Prelude.{All}
use Rattle.std.specs.List.{flat_map}
use Rattle.std.proofs.lemmas.List.{take_all}
use Rattle.std.proofs.lemmas.List.Elements.{All-more}
use Rattle.std.proofs.lemmas.Option.{slice_get_within, get_or_from_slice_get}
use Rattle.script_types.specs.declared.objects.Object.{Object}
use Rattle.sdc_settings.specs.Inputs.{name_at}
use Rattle.sdc_settings.specs.Settings.{case_places, is_clock, IsCaseObject}
use Rattle.sdc_settings.proofs.Naming.{flat_next, All-flat_map, case_places_within}
use Rattle.sdc_settings.proofs.cases.places_of.Goals as goal

pub are_data-requires : goal.are_data-requires
are_data-requires c =
    subst (All (λ (place : ℕ). place < length c.args.inputs.now)) (sym c.in_ok-of_object.ensures)
    (case_places_within c.args.inputs.now c.args.clock.now c.item-object.result.now)

pub loop-k-preserved : goal.loop-k-preserved
loop-k-preserved c =
    let o : Object = c.item-object.result.now in
    let places : List ℕ → List ℕ = λ (l : List ℕ). l ++ case_places c.args.inputs.now c.args.clock.now o in
    let is : IsCaseObject c.args.inputs.now c.args.clock.now o = record {
      ports = sym c.is_case_object.ensures ∙ c.if-not-is_case_object.false;
      some = λ none. absurd (let empty = c.is_empty.ensures.1 (c.in_ok-of_object.ensures ∙ none) in let bad : false ≡ true = sym c.if-is_empty.false
          ∙ empty in grind arith);
      no_clock = subst (All (λ place. is_clock c.args.clock.now (name_at c.args.inputs.now place) ≡ false)) c.in_ok-of_object.ensures
          (c.are_data.ensures.0 c.if-not-are_data.false);
    } in
    record {
      places = c.in_ok-append.ensures ∙ ap (λ (l : List ℕ). c.loop-k.places ++ l) c.in_ok-of_object.ensures ∙ ap places c.loop-k.invariant.places
          ∙ flat_next (case_places c.args.inputs.now c.args.clock.now) c.args.objects.now c.loop-k.k o c.item-object.ensures;
      objects = All-more (IsCaseObject c.args.inputs.now c.args.clock.now) c.args.objects.now c.loop-k.k o
          (slice_get_within c.args.objects.now c.loop-k.k o c.item-object.ensures) c.loop-k.invariant.objects
          (subst (IsCaseObject c.args.inputs.now c.args.clock.now) (sym (get_or_from_slice_get c.args.objects.now c.loop-k.k o o c.item-object.ensures)) is);
    }

pub returns-clause-within : goal.returns-clause-within
returns-clause-within c =
    let value = c.loop-k.invariant.places ∙ ap (flat_map (case_places c.args.inputs.now c.args.clock.now))
    (take_all c.loop-k.k c.args.objects.now (omega (arith, c.loop-k-test.false, c.len-k-end.ensures))) in
    subst (All (λ (place : ℕ). place < length c.args.inputs.now)) (sym value)
    (All-flat_map (λ (place : ℕ). place < length c.args.inputs.now) (case_places c.args.inputs.now c.args.clock.now) c.args.objects.now
    (case_places_within c.args.inputs.now c.args.clock.now))
