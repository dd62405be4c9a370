-- The modules of a text by name, each with its scope.
use Rattle.std.specs.Prelude.{ℕ, Bool, true, not, ◌==◌, ◌&&◌, List, [], map, slice_get, Option, Some, None, is_some, Result, Ok}
use Rattle.texts.specs.Names.{place_of}
use Rattle.texts.specs.Rules.{◌>>=◌}
use Rattle.verilog_syntax.specs.declared.declarations.ModuleDecl.{ModuleDecl}
use Rattle.netlist_types.specs.declared.faults.VerFault.{VerFault}
use Rattle.verilog_scope.specs.declared.scopes.Scope.{Scope}
use Rattle.verilog_scope.specs.Folds.{fold_ok, each}
use Rattle.verilog_scope.specs.Ranges.{width}
use Rattle.verilog_scope.specs.Decls.{with_new}
use Rattle.verilog_scope.specs.Scopes.{scope_of, decl_of}
use Rattle.verilog_net.specs.declared.hierarchies.Hierarchy.{Hierarchy}

-- the scope of the module of that name, if the text has one
abbrev pub inner_of : Hierarchy → List ℕ → Option Scope
inner_of h cell = slice_get h.scopes (place_of cell h.names)

-- so many wires fit a pin: the width of a port of a module of the text, and one wire where the cell is none. A pin that is
-- no port of the module has no width
abbrev pub fits : Option Scope → List ℕ → ℕ → Bool
fits None pin count = count == 1
fits (Some inner) pin count = elim (decl_of inner pin).dir [ None ↦ true | Some dir ↦ count == width (decl_of inner pin).range ]

-- where the netlist is read wide, connections of an instance of no module of the text may have any width
abbrev pub takes_any_width : Bool → Option Scope → Bool
takes_any_width wide inner = wide && not (is_some inner)

-- the modules have names that differ, and each a scope
unfoldable pub hierarchy_of : Bool → List ModuleDecl → Result Hierarchy VerFault
hierarchy_of wide ms =
    fold_ok with_new [] (map (λ (m : ModuleDecl). m.name) ms) >>= λ names.
    each scope_of ms >>= λ scopes.
    Ok (record { names = names; scopes = scopes; wide = wide })
