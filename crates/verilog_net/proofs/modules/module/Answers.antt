use Rattle.std.proofs.Common.{◌≡◌, ℕ, length, Ok, refl}
use Rattle.netlist_types.specs.declared.sources.Module.{Module}
use Rattle.netlist_types.specs.declared.sources.Item.{Item}
use Rattle.netlist_types.specs.declared.sources.Item.TheVariants as item
use Rattle.verilog_net.specs.declared.hierarchies.Hierarchy.{Hierarchy}
use Rattle.std.proofs.lemmas.List.Elements.{All-weaker}
use Rattle.verilog_scope.specs.Scopes.{net_names}
use Rattle.verilog_scope.proofs.ScopeLemmas.{scope_is}
use Rattle.verilog_net.specs.Modules.{whole_module}
use Rattle.verilog_net.proofs.ItemLemmas.{IsGood}
use Rattle.verilog_net.proofs.ModuleLemmas.{IsModuleOf, module_is}
use Rattle.verilog_net.proofs.PortLemmas.{ports_below}
use Rattle.verilog_net.proofs.UsedLemmas.{IsItemBelow, standing_below}
use Rattle.verilog_net.proofs.modules.module.Goals as goal

-- the nets of a good item are below the count
good_below : (h : Hierarchy) (count : ℕ) (i : Item) → IsGood h count i → IsItemBelow count i
good_below h count (item.Inst cell name conns) good = good.1.0
good_below h count (item.Prim k name outs ins) good = good.1
good_below h count (item.Copy to from) good = good

pub with_used_nets-requires-clause-numbered : goal.with_used_nets-requires-clause-numbered
with_used_nets-requires-clause-numbered c =
    let is = scope_is c.args.decl c.args.scope.now c.requires in
    record { bases = is.bases; counted = is.counted }

pub with_used_nets-requires-clause-nets : goal.with_used_nets-requires-clause-nets
unfolding whole_module
with_used_nets-requires-clause-nets c =
    let h = c.args.hierarchy.now in
    let s = c.args.scope.now in
    let m = c.args.decl in
    let count = length (net_names s) in
    let x : Module = record { name = m.name; ports = c.in_ok-ports.ports; nets = net_names s; items = c.in_ok-items.items } in
    let made : whole_module h s m ≡ Ok x = rw (c.in_ok-ports.ensures, c.in_ok-items.ensures) refl in
    let is : IsModuleOf h s m x = module_is h s m x c.requires made in
    standing_below count x.ports x.items (ports_below m s is.scope x.ports is.ports)
    (All-weaker (IsGood h count) (IsItemBelow count) (good_below h count) x.items is.items)
