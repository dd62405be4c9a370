-- The names of nets that stand in a module.
use Rattle.std.specs.Prelude.{ℕ, List, [], ◌∷◌, ◌++◌, map, flat_map, Some, None}
use Rattle.texts.specs.Names.{each_once}
use Rattle.verilog_syntax.specs.declared.declarations.Part.TheVariants.{Net, Bits}
use Rattle.verilog_syntax.specs.declared.declarations.PartDecl.{PartDecl}
use Rattle.verilog_syntax.specs.declared.declarations.TermDecl.{TermDecl}
use Rattle.verilog_syntax.specs.declared.declarations.ConnDecl.{ConnDecl}
use Rattle.verilog_syntax.specs.declared.declarations.InstDecl.{InstDecl}
use Rattle.verilog_syntax.specs.declared.declarations.PrimDecl.{PrimDecl}
use Rattle.verilog_syntax.specs.declared.declarations.AssignDecl.{AssignDecl}
use Rattle.verilog_syntax.specs.declared.declarations.PortDecl.{PortDecl}
use Rattle.verilog_syntax.specs.declared.declarations.Spelled.{Spelled}
use Rattle.verilog_syntax.specs.declared.declarations.Head.{Head}
use Rattle.verilog_syntax.specs.declared.declarations.Head.TheVariants as head
use Rattle.verilog_syntax.specs.declared.declarations.ItemDecl.{ItemDecl}
use Rattle.verilog_syntax.specs.declared.declarations.ItemDecl.TheVariants.{Ports, Nets, Assigns, Prims, Insts}
use Rattle.verilog_syntax.specs.declared.declarations.ModuleDecl.{ModuleDecl}

abbrev pub names_of_part : PartDecl → List (List ℕ)
names_of_part p = elim p.part [ Net name select ↦ name ∷ [] | Bits bits ↦ [] ]

abbrev pub names_of_parts : List PartDecl → List (List ℕ)
names_of_parts parts = flat_map names_of_part parts

abbrev pub names_of_term : TermDecl → List (List ℕ)
names_of_term t = names_of_parts t.parts

abbrev pub names_of_conn : ConnDecl → List (List ℕ)
names_of_conn c = elim c.parts [ None ↦ [] | Some parts ↦ names_of_parts parts ]

abbrev pub names_of_inst : InstDecl → List (List ℕ)
names_of_inst i = flat_map names_of_conn i.conns

abbrev pub names_of_prim : PrimDecl → List (List ℕ)
names_of_prim p = flat_map names_of_term p.outs ++ flat_map names_of_term p.ins

abbrev pub names_of_target : AssignDecl → List (List ℕ)
names_of_target a = names_of_term a.target

abbrev pub names_of_assign : AssignDecl → List (List ℕ)
names_of_assign a = names_of_term a.target ++ names_of_term a.value

abbrev pub names_of_ports : List PortDecl → List (List ℕ)
names_of_ports ports = map (λ (p : PortDecl). p.name.name) ports

-- the names of the port list, in their order
abbrev pub head_names : Head → List (List ℕ)
head_names (head.Names names) = map (λ (s : Spelled). s.name) names
head_names (head.Ports ports) = names_of_ports ports

-- the names that an item declares, or that stand in its expressions
abbrev pub names_in : ItemDecl → List (List ℕ)
names_in (Ports ports) = names_of_ports ports
names_in (Nets kind range names) = names
names_in (Assigns list) = flat_map names_of_assign list
names_in (Prims kind list) = flat_map names_of_prim list
names_in (Insts cell list) = flat_map names_of_inst list

-- the names of nets, each once, in the order in which they first stand in the module's text
abbrev pub standing : ModuleDecl → List (List ℕ)
standing m = each_once (head_names m.head ++ flat_map names_in m.items)

-- the names that are wires without a declaration: those in connections, in terminals and in the targets of assignments
abbrev pub implied_in : ItemDecl → List (List ℕ)
implied_in (Ports ports) = []
implied_in (Nets kind range names) = []
implied_in (Assigns list) = flat_map names_of_target list
implied_in (Prims kind list) = flat_map names_of_prim list
implied_in (Insts cell list) = flat_map names_of_inst list

abbrev pub implied : ModuleDecl → List (List ℕ)
implied m = flat_map implied_in m.items
