-- What is declared of each name of a module, once.
use Rattle.std.specs.Prelude.{ℕ, Bool, true, false, not, ◌&&◌, ◌||◌, if◌then◌else◌, List, [], ◌∷◌, ◌++◌, length, map, replicate, slice_set, slice_index_or}
use Rattle.std.specs.Prelude.{Option, Some, None, is_some, Result, Ok, Err}
use Rattle.texts.specs.Names.{is_among, place_of}
use Rattle.texts.specs.Rules.{◌>>=◌}
use Rattle.verilog_syntax.specs.declared.declarations.Range.{Range}
use Rattle.verilog_syntax.specs.declared.declarations.NetKind.{NetKind}
use Rattle.verilog_syntax.specs.declared.declarations.NetKind.TheVariants.{Wire, Supply0, Supply1}
use Rattle.verilog_syntax.specs.declared.declarations.PortDecl.{PortDecl}
use Rattle.verilog_syntax.specs.declared.declarations.Spelled.{Spelled}
use Rattle.verilog_syntax.specs.declared.declarations.PrimDecl.{PrimDecl}
use Rattle.verilog_syntax.specs.declared.declarations.InstDecl.{InstDecl}
use Rattle.verilog_syntax.specs.declared.declarations.Head.{Head}
use Rattle.verilog_syntax.specs.declared.declarations.Head.TheVariants as head
use Rattle.verilog_syntax.specs.declared.declarations.ItemDecl.{ItemDecl}
use Rattle.verilog_syntax.specs.declared.declarations.ItemDecl.TheVariants.{Ports, Nets, Assigns, Prims, Insts}
use Rattle.verilog_syntax.specs.declared.declarations.ModuleDecl.{ModuleDecl}
use Rattle.verilog_scope.specs.declared.decls.Decl.{Decl}
use Rattle.netlist_types.specs.declared.faults.VerFault.{VerFault}
use Rattle.netlist_types.specs.declared.faults.VerFault.TheVariants as fault
use Rattle.verilog_scope.specs.Folds.{fold_ok}
use Rattle.verilog_scope.specs.Ranges.{same_range}

-- the names with a further one, which has to be new
abbrev pub with_new : List (List ℕ) → List ℕ → Result (List (List ℕ)) VerFault
with_new names n = if is_among n names then Err (fault.TwiceName n) else Ok (names ++ n ∷ [])

-- of a name of which nothing is declared
abbrev pub blank : Decl
blank = record { dir = None; kind = None; range = None }

-- something is declared: a direction, or a kind of net
abbrev pub is_declared : Decl → Bool
is_declared d = is_some d.dir || is_some d.kind

-- what is declared of the name at a place
abbrev pub decl_at : List Decl → ℕ → Decl
decl_at decls place = slice_index_or decls place blank

abbrev pub is_wire : NetKind → Bool
is_wire Wire = true
is_wire Supply0 = false
is_wire Supply1 = false

-- a name may be declared once as a port and once as a net; if both, then as a wire, and with one range
abbrev pub takes_port : Decl → Option Range → Bool
takes_port d range = not (is_some d.dir) && elim d.kind [ None ↦ true | Some kind ↦ is_wire kind && same_range d.range range ]

abbrev pub takes_net : Decl → NetKind → Option Range → Bool
takes_net d kind range = not (is_some d.kind) && elim d.dir [ None ↦ true | Some dir ↦ is_wire kind && same_range d.range range ]

unfoldable pub declare_port : List (List ℕ) → List Decl → PortDecl → Result (List Decl) VerFault
declare_port names decls p =
    let place = place_of p.name.name names in let d = decl_at decls place in
    if takes_port d p.range then Ok (slice_set decls place (record { dir = Some p.dir; kind = d.kind; range = p.range }))
    else Err (fault.TwiceName p.name.name)

unfoldable pub declare_net : List (List ℕ) → NetKind → Option Range → List Decl → List ℕ → Result (List Decl) VerFault
declare_net names kind range decls n =
    let place = place_of n names in let d = decl_at decls place in
    if takes_net d kind range then Ok (slice_set decls place (record { dir = d.dir; kind = Some kind; range = range }))
    else Err (fault.TwiceName n)

-- a direction that is declared among the items is that of a name of the port list
unfoldable pub declare_listed : List (List ℕ) → List (List ℕ) → List Decl → PortDecl → Result (List Decl) VerFault
declare_listed names listed decls p = if is_among p.name.name listed then declare_port names decls p else Err (fault.Syntax p.name.offset)

unfoldable pub declare_item : List (List ℕ) → List (List ℕ) → List Decl → ItemDecl → Result (List Decl) VerFault
declare_item names listed decls (Ports ports) = fold_ok (declare_listed names listed) decls ports
declare_item names listed decls (Nets kind range list) = fold_ok (declare_net names kind range) decls list
declare_item names listed decls (Assigns list) = Ok decls
declare_item names listed decls (Prims kind list) = Ok decls
declare_item names listed decls (Insts cell list) = Ok decls

-- the ports that are declared in the port list
unfoldable pub declare_head : List (List ℕ) → List Decl → Head → Result (List Decl) VerFault
declare_head names decls (head.Names list) = Ok decls
declare_head names decls (head.Ports ports) = fold_ok (declare_port names) decls ports

-- what is declared of each of the names; those of the port list that have no direction there are listed
unfoldable pub declares : List (List ℕ) → List (List ℕ) → ModuleDecl → Result (List Decl) VerFault
declares names listed m =
    declare_head names (replicate (length names) blank) m.head >>= λ decls. fold_ok (declare_item names listed) decls m.items

-- the names of a port list of names, which differ; a port list of declarations lists none, and its names differ too
unfoldable pub listed_in : Head → Result (List (List ℕ)) VerFault
listed_in (head.Names list) = fold_ok with_new [] (map (λ (s : Spelled). s.name) list)
listed_in (head.Ports ports) = fold_ok with_new [] (map (λ (p : PortDecl). p.name.name) ports) >>= λ names. Ok []

-- the instances of a module with a further primitive or item, whose names have to be new
unfoldable pub with_prim : List (List ℕ) → PrimDecl → Result (List (List ℕ)) VerFault
with_prim found p = elim p.name [ None ↦ Ok found | Some name ↦ with_new found name ]

unfoldable pub with_insts : List (List ℕ) → ItemDecl → Result (List (List ℕ)) VerFault
with_insts found (Ports ports) = Ok found
with_insts found (Nets kind range list) = Ok found
with_insts found (Assigns list) = Ok found
with_insts found (Prims kind list) = fold_ok with_prim found list
with_insts found (Insts cell list) = fold_ok with_new found (map (λ (i : InstDecl). i.name) list)

abbrev pub inst_names : ModuleDecl → Result (List (List ℕ)) VerFault
inst_names m = fold_ok with_insts [] m.items
