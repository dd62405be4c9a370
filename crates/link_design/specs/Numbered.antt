-- Nets by their numbers.
use Rattle.std.specs.Prelude.{ℕ, ◌<◌, length}
use Rattle.net_model.specs.Netlist.{AllBelow}
use Rattle.net_model.specs.declared.netlist.Gate.{Gate}
use Rattle.link_design.specs.declared.numbers.NetNumbers.{NetNumbers}
use Rattle.link_design.specs.Rows.{IsDriverRow}

-- the row is that of the drivers
abbrev pub IsNumbering : NetNumbers → Type 0
IsNumbering n = IsDriverRow n.drivers (length n.row) n.row

-- the nets of a gate are below a number
abbrev pub IsWithin : ℕ → Gate → Type 0
IsWithin nets g = AllBelow nets g.ins × (g.out < nets)
