use Rattle.std.proofs.Common.{◌≡◌, ◌∙◌, ℕ, false, List, map, refl, sym, ap}
use Rattle.std.specs.Prelude.{Some, option_map, slice_get}
use Rattle.std.specs.List.{list_all}
use Rattle.std.specs.Str.{bytes_eq}
use Rattle.std.proofs.lemmas.Option.{slice_get-map}
use Rattle.sdc_settings.specs.Inputs.{name_at}
use Rattle.sdc_settings.proofs.Naming.{name_here}
use Rattle.sdc_settings.proofs.Sourcing.{first_name}
use Rattle.sdc_settings.proofs.sources.one_name.Goals as goal

pub returns-then-not-are_named : goal.returns-then-not-are_named
returns-then-not-are_named c =
    let inputs = c.args.inputs.now in
    let places = c.args.places.now in
    let name : List ℕ = c.item.result.now.name in
    let names : List (List ℕ) = map (name_at inputs) places in
    let here : slice_get names 0 ≡ Some name = slice_get-map (name_at inputs) places 0 ∙ ap (option_map (name_at inputs)) c.at.ensures
    ∙ ap (λ (n : List ℕ). Some n) (name_here inputs c.at.result c.item.result.now c.item.ensures) in
    let other : list_all (bytes_eq name) names ≡ false = sym c.are_named.ensures ∙ c.if-not-are_named.true in
    sym (first_name names name here ∙ rw other refl)
