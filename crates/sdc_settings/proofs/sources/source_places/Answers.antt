use Rattle.std.proofs.Common.{arith, ◌∙◌, ◌<◌, ℕ, List, ◌++◌, length, ap, sym, subst}
use Rattle.std.specs.Prelude.{All}
use Rattle.std.specs.List.{flat_map}
use Rattle.std.proofs.lemmas.List.{take_all}
use Rattle.sdc_settings.specs.Inputs.{port_places}
use Rattle.sdc_settings.proofs.Naming.{flat_next, All-flat_map, port_places_within}
use Rattle.sdc_settings.proofs.sources.source_places.Goals as goal

pub loop-k-preserved : goal.loop-k-preserved
loop-k-preserved c =
    c.in_ok-add_port_places.ensures ∙ ap (λ (l : List ℕ). l ++ port_places c.args.inputs.now c.item.result.now) c.loop-k.invariant
    ∙ flat_next (port_places c.args.inputs.now) c.args.source.now c.loop-k.k c.item.result.now c.item.ensures

pub returns-clause-within : goal.returns-clause-within
returns-clause-within c =
    let value = c.loop-k.invariant ∙ ap (flat_map (port_places c.args.inputs.now))
    (take_all c.loop-k.k c.args.source.now (omega (arith, c.loop-k-test.false, c.len-k-end.ensures))) in
    subst (All (λ (place : ℕ). place < length c.args.inputs.now)) (sym value)
    (All-flat_map (λ (place : ℕ). place < length c.args.inputs.now) (port_places c.args.inputs.now) c.args.source.now (port_places_within c.args.inputs.now))
