-- Modules, with nets in place of names.
use Rattle.std.specs.Prelude.{ℕ, List, [], ◌∷◌, ◌++◌, map, Option, Some, None, is_some, Result, Ok, Err}
use Rattle.texts.specs.Rules.{◌>>=◌}
use Rattle.netlist_types.specs.declared.sources.Dir.{Dir}
use Rattle.verilog_syntax.specs.declared.declarations.Spelled.{Spelled}
use Rattle.verilog_syntax.specs.declared.declarations.PortDecl.{PortDecl}
use Rattle.verilog_syntax.specs.declared.declarations.Head.{Head}
use Rattle.verilog_syntax.specs.declared.declarations.Head.TheVariants as head
use Rattle.verilog_syntax.specs.declared.declarations.ModuleDecl.{ModuleDecl}
use Rattle.netlist_types.specs.declared.faults.VerFault.{VerFault}
use Rattle.netlist_types.specs.declared.faults.VerFault.TheVariants as fault
use Rattle.verilog_scope.specs.declared.scopes.Scope.{Scope}
use Rattle.verilog_scope.specs.Folds.{fold_ok, fold_both}
use Rattle.verilog_scope.specs.Scopes.{decl_of, all_bits, net_names}
use Rattle.netlist_types.specs.declared.sources.Port.{Port}
use Rattle.netlist_types.specs.declared.sources.Module.{Module}
use Rattle.verilog_net.specs.declared.hierarchies.Hierarchy.{Hierarchy}
use Rattle.verilog_net.specs.Wires.{numbers}
use Rattle.verilog_net.specs.Items.{add_item}
use Rattle.verilog_net.specs.Uses.{with_used_nets}

abbrev pub port_as : Scope → List ℕ → Dir → Port
port_as scope n dir = record { name = n; dir = dir; bits = numbers (all_bits scope n); bus = is_some (decl_of scope n).range }

-- a name of the port list, of which a direction has to be declared
abbrev pub port_of : Scope → Spelled → Option Dir → Result Port VerFault
port_of scope s None = Err (fault.Syntax s.offset)
port_of scope s (Some dir) = Ok (port_as scope s.name dir)

unfoldable pub add_port : Scope → List Port → Spelled → Result (List Port) VerFault
add_port scope found s = port_of scope s (decl_of scope s.name).dir >>= λ p. Ok (found ++ p ∷ [])

-- the names of a port list, as they are spelled there
abbrev pub spelled : Head → List Spelled
spelled (head.Names list) = list
spelled (head.Ports ports) = map (λ (p : PortDecl). p.name) ports

abbrev pub ports_of : Scope → Head → Result (List Port) VerFault
ports_of scope h = fold_ok (add_port scope) [] (spelled h)

-- a module with all nets that stand in its text
unfoldable pub whole_module : Hierarchy → Scope → ModuleDecl → Result Module VerFault
whole_module h scope m =
    ports_of scope m.head >>= λ ports.
    fold_ok (add_item h scope) [] m.items >>= λ items.
    Ok (record { name = m.name; ports = ports; nets = net_names scope; items = items })

-- the module that declarations make: a net that stands in no port and in no item has no number
unfoldable pub module_made : Hierarchy → Scope → ModuleDecl → Result Module VerFault
module_made h scope m = whole_module h scope m >>= λ whole. Ok (with_used_nets whole)

unfoldable pub add_module : Hierarchy → List Module → Scope → ModuleDecl → Result (List Module) VerFault
add_module h found scope m = module_made h scope m >>= λ made. Ok (found ++ made ∷ [])

-- the modules of a text, each with its scope
abbrev pub modules_made : Hierarchy → List ModuleDecl → Result (List Module) VerFault
modules_made h ms = fold_both (add_module h) [] h.scopes ms
