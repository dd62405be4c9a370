-- The name of the top module.
use Rattle.std.proofs.Common.{◌≡◌, ◌∙◌, ℕ, Some, sym, ap}
use Rattle.std.specs.Prelude.{slice_get}
use Rattle.std.proofs.lemmas.Option.{same_Some}
use Rattle.netlist_types.specs.declared.sources.Source.{Source}
use Rattle.netlist_types.specs.declared.sources.Module.{Module}
use Rattle.link_tops.specs.Tops.{IsTop}
use Rattle.design_stages.specs.Designs.{first_name, top_name}

-- it is that of the module at the place of the top module
pub top_named : (s : Source) (place : ℕ) (m : Module) → IsTop s place → slice_get s.modules place ≡ Some m → m.name ≡ top_name s
unfolding top_name
top_named s place m (top, at, one) here =
    let same : m ≡ top = same_Some m top (sym here ∙ at) in ap (λ (x : Module). x.name) same ∙ sym (ap first_name one)
