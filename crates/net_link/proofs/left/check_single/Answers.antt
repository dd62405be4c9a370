use Rattle.std.proofs.Common.{subst, sym}
use Rattle.link_defs.specs.declared.circuits.Circuit.{Circuit}
use Rattle.link_defs.specs.declared.cuts.CutItem.{CutItem}
use Rattle.link_defs.specs.declared.cuts.CutSource.{CutSource}
use Rattle.link_defs.specs.Circuits.{all_drivers}
use Rattle.link_design.specs.Lawful.{IsLawfulCircuit}
use Rattle.link_design.specs.Rows.{IsTwice}
use Rattle.link_design.specs.declared.faults.CircuitFault.{CircuitFault}
use Rattle.link_items.specs.Items.{module_at}
use Rattle.netlist_types.specs.declared.sources.Source.{Source}
use Rattle.std.proofs.Common.{List}
use Rattle.net_link.proofs.Leaving.{twice_there}
use Rattle.net_link.proofs.left.check_single.Goals as goal

abbrev source_of : Source → List CutItem → CutSource
source_of s items = record { source = s; items = items }

pub check_once-requires : goal.check_once-requires
check_once-requires c =
    let (items, o, j, is) = c.requires in subst (λ (k : Circuit). IsLawfulCircuit k) (sym is.circuit) is.lawful

pub net_name-requires-clause-scopes : goal.net_name-requires-clause-scopes
net_name-requires-clause-scopes c = let (items, o, j, is) = c.requires in is.below.are_scopes

pub net_name-requires-clause-net : goal.net_name-requires-clause-net
net_name-requires-clause-net c =
    let (items, o, j, is) = c.requires in
    let s = c.args.netlist.now.source.now in
    twice_there (source_of s items) c.args.netlist.now.library.now (module_at s c.args.top) o j c.args.judged.now c.in-Err-ManyDrivers.net is
    (subst (λ (e : CircuitFault). IsTwice (all_drivers c.args.judged.now.flat.circuit) e) c.in-Err-ManyDrivers.field-0-is c.in-Err-ManyDrivers.ensures.err)
