use Rattle.std.proofs.Common.{List, [], map, ap, sym, not, ◌∙◌}
use Rattle.texts.specs.Names.{with_names}
use Rattle.netlist_types.specs.declared.sources.Port.{Port}
use Rattle.link_items.specs.Pins.{port_names}
use Rattle.link_items.proofs.Naming.{is_among-table}
use Rattle.link_items.proofs.Searching.{stray}
use Rattle.link_items.proofs.module_checks.check_known.Goals as goal

pub returns-in-Some-clause-err : goal.returns-in-Some-clause-err
returns-in-Some-clause-err c =
    let conn = c.in-Some.conn.now in
    let made = c.in_ok-ports.ensures ∙ ap (λ (ps : List Port). with_names [] (map (λ (p : Port). p.name) ps)) c.as_slice.ensures in
    let same = is_among-table conn.pin c.in_ok-ports.ports (port_names c.args.body.now) made in (
      conn,
      c.in-Some.ensures.some.0,
      stray (port_names c.args.body.now) conn (ap not (sym same) ∙ c.in-Some.ensures.some.1),
      c.in_ok-name-in-Some.ensures,
    )

pub returns-clause-ok : goal.returns-clause-ok
returns-clause-ok c =
    let made = c.in_ok-ports.ensures ∙ ap (λ (ps : List Port). with_names [] (map (λ (p : Port). p.name) ps)) c.as_slice.ensures in
    λ k o within. ap not (sym (is_among-table _ c.in_ok-ports.ports (port_names c.args.body.now) made)) ∙ c.in-None.ensures.none k o within
