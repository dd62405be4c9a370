use Rattle.std.proofs.Common.{rules, tests, ◌∙◌}
use Rattle.std.proofs.lemmas.Iterator.Search.{any_from_yields_List}
use Rattle.std.proofs.lemmas.Iterator.{YieldsList-from_slice}
use Rattle.std.specs.Str.{bytes_eq}
use Rattle.netlist_types.specs.declared.sources.Port.{Port}
use Rattle.link_items.proofs.Searching.{is_among_by}
use Rattle.cut_source.proofs.stub_items.has_port.Goals as goal

pub returns : goal.returns
returns c =
    any_from_yields_List (λ (p : Port). bytes_eq c.args.name.now p.name) _ _ _ c.any.ensures.ran (YieldsList-from_slice c.args.ports.now cc)
    (λ x b q k. search (rules, tests)) ∙ is_among_by (λ (p : Port). p.name) c.args.name.now c.args.ports.now
