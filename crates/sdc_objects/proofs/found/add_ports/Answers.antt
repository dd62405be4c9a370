use Rattle.std.proofs.Common.{◌∙◌, sym, ap}
use Rattle.texts.specs.Names.{is_among}
use Rattle.sdc_objects.specs.Things.{ports_named}
use Rattle.list_laws.proofs.Joining.{added_nothing}
use Rattle.sdc_objects.proofs.Porting.{no_ports}
use Rattle.sdc_objects.proofs.found.add_ports.Goals as goal

pub returns-then-not-contains : goal.returns-then-not-contains
returns-then-not-contains c =
    let q = c.args.query.now in
    let names = c.args.scope.now.linked.now.names in
    added_nothing c.args.found.now (ports_named q names) (no_ports q names (c.is_exact.ensures.itself c.if-is_exact.true)
    (ap (is_among q.pattern) (sym c.requires.ports) ∙ sym c.contains.ensures ∙ c.if-not-contains.true))
