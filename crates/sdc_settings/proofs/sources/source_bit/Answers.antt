use Rattle.std.proofs.Common.{◌≡◌, ◌∙◌, true, false, map, refl, sym, ap, IfOk, subst}
use Rattle.std.specs.List.{list_all}
use Rattle.sdc_settings.specs.Inputs.{is_port_object, name_at}
use Rattle.sdc_settings.specs.Sources.{source_bit, source_names, one_name}
use Rattle.sdc_settings.proofs.sources.source_bit.Goals as goal

pub returns-then-not-are_ports : goal.returns-then-not-are_ports
unfolding source_bit
returns-then-not-are_ports c =
    let other : list_all is_port_object c.args.source.now ≡ false = sym c.are_ports.ensures ∙ c.if-not-are_ports.true in
    rw other refl

pub returns : goal.returns
unfolding source_bit
returns c =
    let ports : list_all is_port_object c.args.source.now ≡ true = sym c.are_ports.ensures ∙ c.if-not-are_ports.false in
    let names : map (name_at c.args.inputs.now) c.in_ok-places.places ≡ source_names c.args.inputs.now c.args.source.now =
    ap (map (name_at c.args.inputs.now)) c.in_ok-places.ensures.value in
    let is : one_name (map (name_at c.args.inputs.now) c.in_ok-places.places) ≡ source_bit c.args.inputs.now c.args.source.now =
    ap one_name names ∙ rw ports refl in
    subst (λ bit. IfOk c.one_name.result (λ found. found ≡ bit)) is c.one_name.ensures
