-- The bits of a run by their full names.
use Rattle.std.specs.Prelude.{ℕ, Bool, List, [], ◌∷◌, ◌++◌, map, flat_map, Option, Some, None}
use Rattle.net_model.specs.Cycles.{bit_at}
use Rattle.net_model.specs.declared.cycles.Cycle.{Cycle}
use Rattle.linked_types.specs.declared.names.CellName.{CellName}
use Rattle.linked_types.specs.declared.names.NetName.{NetName}
use Rattle.linked_types.specs.declared.names.Linked.{Linked}
use Rattle.wave_signals.specs.declared.bits.BitKind.{BitKind}
use Rattle.wave_signals.specs.declared.bits.BitKind.TheVariants.{Wire, Reg}
use Rattle.wave_signals.specs.declared.bits.NamedBit.{NamedBit}
use Rattle.wave_signals.specs.Numbered.{numbered}
use Rattle.named_runs.specs.declared.places.Place.{Place}
use Rattle.named_runs.specs.declared.places.Place.TheVariants as place

-- a bit of a cycle
abbrev pub place_bit : Place → Cycle → Bool
place_bit (place.Net n) c = bit_at c.nets n
place_bit (place.Reg r) c = bit_at c.bits r
place_bit (place.Input i) c = bit_at c.ins i

-- a bit with its name, and its value in each cycle of a run
abbrev pub named_bit : BitKind → List ℕ → List Cycle → Place → NamedBit
named_bit kind name run at = record { kind = kind; name = name; values = map (place_bit at) run }

-- a full name of a net, with the net's bits
abbrev pub net_bit : List Cycle → NetName → NamedBit
net_bit run n = named_bit Wire n.name run (place.Net n.net)

-- a cell that has a register, with the register's bits
abbrev pub reg_bits_if_any : List Cycle → List ℕ → Option ℕ → List NamedBit
reg_bits_if_any run name None = []
reg_bits_if_any run name (Some r) = named_bit Reg name run (place.Reg r) ∷ []

abbrev pub cell_bits : List Cycle → CellName → List NamedBit
cell_bits run c = reg_bits_if_any run c.name c.reg

-- all registers: each is that of one cell
abbrev pub reg_bits : List CellName → List Cycle → List NamedBit
reg_bits cells run = flat_map (cell_bits run) cells

-- all full names of nets, and all registers
abbrev pub named_bits : Linked → List Cycle → List NamedBit
named_bits l run = map (net_bit run) l.names.nets ++ reg_bits l.names.cells run

-- an input, given its number
abbrev pub input_bit : List Cycle → ℕ → List ℕ → List NamedBit
input_bit run number name = named_bit Wire name run (place.Input number) ∷ []

-- the inputs by their names
abbrev pub input_bits : List (List ℕ) → List Cycle → List NamedBit
input_bits names run = numbered (input_bit run) 0 names
