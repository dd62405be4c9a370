use Rattle.std.proofs.Common.{List, [], map, ap, ◌∙◌}
use Rattle.texts.specs.Names.{with_names}
use Rattle.netlist_types.specs.declared.sources.Module.{Module}
use Rattle.cell_types.specs.declared.libraries.Cell.{Cell}
use Rattle.link_items.specs.Tables.{module_names, cell_names}
use Rattle.link_items.proofs.Naming.{table_all}
use Rattle.link_items.proofs.netlists.Netlist.of.Goals as goal

pub invariant_of-result : goal.invariant_of-result
invariant_of-result c = record {
  lawful_source = c.requires.source;
  lawful_library = c.requires.library;
  module_table = c.in_ok-modules.ensures ∙ ap (λ (ms : List Module). with_names [] (map (λ (m : Module). m.name) ms)) c.as_slice.ensures
      ∙ table_all (module_names c.args.source.now) c.requires.source.names;
  cell_table = c.in_ok-cells.ensures ∙ ap (λ (cs : List Cell). with_names [] (map (λ (x : Cell). x.name) cs)) c.as_slice-2.ensures
      ∙ table_all (cell_names c.args.library.now) c.requires.library.names_differ;
}
