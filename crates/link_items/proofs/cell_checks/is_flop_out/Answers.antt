use Rattle.std.proofs.Common.{rules, tests, ◌∙◌}
use Rattle.std.proofs.lemmas.Iterator.Search.{any_from_yields_List}
use Rattle.std.proofs.lemmas.Iterator.{YieldsList-from_slice}
use Rattle.std.specs.Str.{bytes_eq}
use Rattle.cell_types.specs.declared.libraries.FlopOut.{FlopOut}
use Rattle.link_items.proofs.Searching.{is_among_by}
use Rattle.link_items.proofs.cell_checks.is_flop_out.Goals as goal

pub returns : goal.returns
returns c =
    any_from_yields_List (λ (o : FlopOut). bytes_eq c.args.pin.now o.name) _ _ _ c.any.ensures.ran (YieldsList-from_slice c.args.outs.now cc)
    (λ x b q k. search (rules, tests)) ∙ is_among_by (λ (o : FlopOut). o.name) c.args.pin.now c.args.outs.now
