use Rattle.std.proofs.Common.{subst}
use Rattle.link_design.specs.Faults.{IsCause}
use Rattle.link_design.specs.declared.faults.CircuitFault.{CircuitFault}
use Rattle.link_design.specs.declared.faults.CircuitFault.TheVariants as circuit
use Rattle.link_defs.specs.declared.cuts.CutSource.{CutSource}
use Rattle.link_defs.specs.Flatten.{flat_of}
use Rattle.link_items.specs.Items.{module_at}
use Rattle.link_circuit.proofs.Finding.{named_below, net_below, name_below, limit_is, twice_is, leaf_there, off_named}
use Rattle.link_circuit.proofs.named_faults.named_fault.Goals as goal

pub net_name-requires-clause-net : goal.net_name-requires-clause-net
net_name-requires-clause-net c =
    let (items, j, below) = c.requires.circuit in
    let s : CutSource = record { source = c.args.netlist.now.source.now; items = items } in
    let lib = c.args.netlist.now.library.now in
    net_below s lib (module_at s.source c.args.top) c.args.options.now j c.args.c.now c.in-Undriven.net below
    (named_below s lib c.args.top c.args.options.now j c.args.c.now c.args.fault (circuit.Undriven c.in-Undriven.net) c.args.netlist.now.lawful_source
    c.args.netlist.now.lawful_library c.requires.top below c.requires.fine c.requires.cause c.in-Undriven.is)

pub net_name-requires-in-ManyDrivers-clause-net : goal.net_name-requires-in-ManyDrivers-clause-net
net_name-requires-in-ManyDrivers-clause-net c =
    let (items, j, below) = c.requires.circuit in
    let s : CutSource = record { source = c.args.netlist.now.source.now; items = items } in
    let lib = c.args.netlist.now.library.now in
    net_below s lib (module_at s.source c.args.top) c.args.options.now j c.args.c.now c.in-ManyDrivers.net below
    (named_below s lib c.args.top c.args.options.now j c.args.c.now c.args.fault (circuit.ManyDrivers c.in-ManyDrivers.net) c.args.netlist.now.lawful_source
    c.args.netlist.now.lawful_library c.requires.top below c.requires.fine c.requires.cause c.in-ManyDrivers.is)

pub net_name-requires-in-Loop-clause-net : goal.net_name-requires-in-Loop-clause-net
net_name-requires-in-Loop-clause-net c =
    let (items, j, below) = c.requires.circuit in
    let s : CutSource = record { source = c.args.netlist.now.source.now; items = items } in
    let lib = c.args.netlist.now.library.now in
    net_below s lib (module_at s.source c.args.top) c.args.options.now j c.args.c.now c.in-Loop.net below
    (named_below s lib c.args.top c.args.options.now j c.args.c.now c.args.fault (circuit.Loop c.in-Loop.net) c.args.netlist.now.lawful_source
    c.args.netlist.now.lawful_library c.requires.top below c.requires.fine c.requires.cause c.in-Loop.is)

pub net_name-requires-in-ClockAsData-clause-net : goal.net_name-requires-in-ClockAsData-clause-net
net_name-requires-in-ClockAsData-clause-net c =
    let (items, j, below) = c.requires.circuit in
    let s : CutSource = record { source = c.args.netlist.now.source.now; items = items } in
    let lib = c.args.netlist.now.library.now in
    net_below s lib (module_at s.source c.args.top) c.args.options.now j c.args.c.now c.in-ClockAsData.net below
    (named_below s lib c.args.top c.args.options.now j c.args.c.now c.args.fault (circuit.ClockAsData c.in-ClockAsData.net) c.args.netlist.now.lawful_source
    c.args.netlist.now.lawful_library c.requires.top below c.requires.fine c.requires.cause c.in-ClockAsData.is)

pub reg_name-requires : goal.reg_name-requires
reg_name-requires c =
    let (items, j, below) = c.requires.circuit in
    let s : CutSource = record { source = c.args.netlist.now.source.now; items = items } in
    let lib = c.args.netlist.now.library.now in
    let flat = flat_of s.source lib (module_at s.source c.args.top) in
    let cause = subst (λ (f : CircuitFault). IsCause c.args.c.now.circuit f) c.in-NotTheClock.is c.requires.cause in
    let (p, clock, at, on, off) = cause in
    leaf_there lib j.found flat c.args.c.now.circuit c.args.c.now.leaves c.in-NotTheClock.place clock p below.leaves at on
    (named_below s lib c.args.top c.args.options.now j c.args.c.now c.args.fault (circuit.NotTheClock c.in-NotTheClock.place)
    c.args.netlist.now.lawful_source c.args.netlist.now.lawful_library c.requires.top below c.requires.fine c.requires.cause c.in-NotTheClock.is)

pub returns-in_ok-net_name-in-ManyDrivers : goal.returns-in_ok-net_name-in-ManyDrivers
returns-in_ok-net_name-in-ManyDrivers c = λ items j below.
    let s : CutSource = record { source = c.args.netlist.now.source.now; items = items } in
    let lib = c.args.netlist.now.library.now in
    let top = module_at s.source c.args.top in
    twice_is s.source lib (flat_of s.source lib top) c.args.c.now.circuit c.args.fault c.in_ok-net_name-in-ManyDrivers.field-0 c.in-ManyDrivers.net
    c.requires.cause c.in-ManyDrivers.is
    (name_below s lib top c.args.options.now j c.args.c.now c.in_ok-net_name-in-ManyDrivers.field-0 c.in-ManyDrivers.net below
    c.in_ok-net_name-in-ManyDrivers.ensures)

pub returns-in_ok-name-in-NotTheClock : goal.returns-in_ok-name-in-NotTheClock
returns-in_ok-name-in-NotTheClock c = λ items j below.
    off_named c.args.netlist.now.library.now j.found c.args.c.now.circuit c.args.c.now.leaves c.in-NotTheClock.place
    c.in_ok-name-in-NotTheClock.name below.leaves
    (subst (λ (f : CircuitFault). IsCause c.args.c.now.circuit f) c.in-NotTheClock.is c.requires.cause) c.in_ok-name-in-NotTheClock.ensures

pub returns-in-Limit : goal.returns-in-Limit
returns-in-Limit c = λ items j below.
    let s = c.args.netlist.now.source.now in
    let lib = c.args.netlist.now.library.now in
    limit_is c.args.options.now.wide s lib (flat_of s lib (module_at s c.args.top)) c.args.c.now.circuit c.args.fault c.in-Limit.kind c.in-Limit.number
    c.requires.few c.requires.cause c.in-Limit.is
