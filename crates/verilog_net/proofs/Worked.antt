-- Connections of netlists that are read wide and of others, worked out by hand.
use Rattle.std.proofs.Common.{◌≡◌, ℕ, true, false, List, [], ◌∷◌, refl}
use Rattle.std.specs.Prelude.{codes, Ok, Err, Some, None}
use Rattle.std.specs.Fmt.{digits}
use Rattle.verilog_syntax.specs.declared.declarations.ConnDecl.{ConnDecl}
use Rattle.verilog_syntax.specs.declared.declarations.Part.TheVariants as part
use Rattle.netlist_types.specs.declared.faults.VerFault.TheVariants as fault
use Rattle.netlist_types.specs.declared.sources.Wire.TheVariants as wire
use Rattle.verilog_scope.specs.declared.scopes.Scope.{Scope}
use Rattle.verilog_scope.specs.Folds.{fold_ok}
use Rattle.verilog_net.specs.Items.{conn_of, conns_of, plain_conns}
use Rattle.verilog_net.specs.Spreads.{bit_conns, spread, add_spread, wide_conns}
use Rattle.verilog_net.specs.Wires.{add_part}

-- a scope without names, for expressions of constants
abbrev nothing : Scope
nothing = record { names = []; decls = []; implied = []; bases = [] }

-- the connection at offset 9 of this pin to 2'd2
abbrev to_two : List ℕ → ConnDecl
to_two pin = record { offset = 9; pin = pin; parts = Some (record { offset = 12; part = part.Bits (true ∷ false ∷ []) } ∷ []) }

-- an open one
abbrev opened : List ℕ → ConnDecl
opened pin = record { offset = 5; pin = pin; parts = None }

-- two bits at A are one bit at A[1], which is the more significant, and one at A[0]
two_bits_are_of_two_pins : spread (codes "A") (wire.Net 5 ∷ wire.Net 3 ∷ [])
    ≡ record { pin = codes "A[1]"; wires = Some (wire.Net 5 ∷ []) } ∷ record { pin = codes "A[0]"; wires = Some (wire.Net 3 ∷ []) } ∷ []
unfolding bit_conns digits
two_bits_are_of_two_pins = refl

-- one bit at A is one bit at A
one_bit_is_of_the_pin_itself : spread (codes "A") (wire.Net 5 ∷ []) ≡ record { pin = codes "A"; wires = Some (wire.Net 5 ∷ []) } ∷ []
one_bit_is_of_the_pin_itself = refl

-- read wide, a cell takes two bits at a pin
wide_cell_takes_two_bits : conns_of true nothing None (to_two (codes "A") ∷ []) ≡ Ok (
    record { pin = codes "A[1]"; wires = Some (wire.Const true ∷ []) } ∷ record { pin = codes "A[0]"; wires = Some (wire.Const false ∷ []) } ∷ [])
unfolding wide_conns fold_ok add_spread add_part bit_conns digits
wide_cell_takes_two_bits = refl

-- and else it does not
cell_takes_one_bit : conns_of false nothing None (to_two (codes "A") ∷ []) ≡ Err (fault.Width 9)
unfolding plain_conns fold_ok conn_of add_part
cell_takes_one_bit = refl

-- a pin that is named itself and by a wider one is named twice
pin_of_a_wide_connection_is_named_twice : conns_of true nothing None (opened (codes "A[1]") ∷ to_two (codes "A") ∷ [])
    ≡ Err (fault.TwiceName (codes "A[1]"))
unfolding wide_conns fold_ok add_spread add_part bit_conns digits
pin_of_a_wide_connection_is_named_twice = refl

-- an instance of a module of the text has the widths of its ports, also where the netlist is read wide
module_takes_the_same_read_wide : (inner : Scope) (cs : List ConnDecl) → conns_of true nothing (Some inner) cs ≡ conns_of false nothing (Some inner) cs
module_takes_the_same_read_wide inner cs = refl
