-- What those who select by names may rely on, of a design with names, whatever gave them.
use Rattle.std.specs.Prelude.{◌≡◌, ℕ, ◌<◌, ◌==◌, Bool, false, ◌++◌, length, map, All, Option, Some, None, slice_get, count_by}
use Rattle.std.specs.List.{IsDistinct}
use Rattle.std.specs.Str.{bytes_eq}
use Rattle.net_model.specs.Netlist.{IsSound, AllBelow}
use Rattle.net_model.specs.declared.netlist.Design.{Design}
use Rattle.net_model.specs.declared.netlist.Gate.{Gate}
use Rattle.net_model.specs.declared.netlist.Reg.{Reg}
use Rattle.net_model.specs.declared.claims.PinRef.{PinRef}
use Rattle.net_model.specs.declared.claims.PinRef.TheVariants.{Net, GateIn, RegIn, OutPort}
use Rattle.linked_types.specs.declared.names.CellName.{CellName}
use Rattle.linked_types.specs.declared.names.PinName.{PinName}
use Rattle.linked_types.specs.declared.names.PinRole.{PinRole}
use Rattle.linked_types.specs.declared.names.PinRole.TheVariants as role
use Rattle.linked_types.specs.declared.names.NetName.{NetName}
use Rattle.linked_types.specs.declared.names.PortName.{PortName}
use Rattle.linked_types.specs.declared.names.Linked.{Linked}
use Rattle.linked_types.specs.Inputs.{input_names, output_names}

-- the pin is one of the design
abbrev pub IsPinOf : Design → PinRef → Type 0
IsPinOf d (Net n) = n < d.nets
IsPinOf d (GateIn k i) = (g : Gate) × (slice_get d.gates k ≡ Some g) × (i < length g.ins)
IsPinOf d (RegIn r i) = (reg : Reg) × (slice_get d.regs r ≡ Some reg) × (i < length reg.ins)
IsPinOf d (OutPort o) = o < length d.outputs

-- what a pin of a cell reads or drives is of the design
abbrev pub IsRoleOf : Design → PinRole → Type 0
IsRoleOf d role.Clock = Unit {0}
IsRoleOf d (role.Load pins) = All (IsPinOf d) pins
IsRoleOf d (role.Drive net) = net < d.nets
IsRoleOf d (role.Source input) = input < length d.inputs
IsRoleOf d (role.Sink output) = output < length d.outputs

-- so is the register of a cell, if it has one
abbrev pub IsRegOf : Design → Option ℕ → Type 0
IsRegOf d None = Unit {0}
IsRegOf d (Some r) = r < length d.regs

-- all places of a cell are of the design
pub record IsCellOf (d : Design) (c : CellName) : Type 0 where
  pub reg : IsRegOf d c.reg
  pub outs : AllBelow d.nets c.outs
  pub pins : All (λ (p : PinName). IsRoleOf d p.role) c.pins

-- the cell has that register
abbrev pub is_reg : ℕ → CellName → Bool
is_reg r c = elim c.reg [ None ↦ false | Some q ↦ q == r ]

-- every place is one of the design, each register is that of one cell, and no full name stands twice
pub record IsUsable (l : Linked) : Type 0 where
  pub sound : IsSound l.design
  pub cells : All (IsCellOf l.design) l.names.cells
  pub nets : All (λ (n : NetName). n.net < l.design.nets) l.names.nets
  pub each_reg : (r : ℕ) → r < length l.design.regs → count_by (is_reg r) l.names.cells ≡ 1
  pub ins : length (input_names l.names) ≡ length l.design.inputs
  pub outs : length (output_names l.names) ≡ length l.design.outputs
  pub cells_differ : IsDistinct bytes_eq (map (λ (c : CellName). c.name) l.names.cells)
  pub ports_differ : IsDistinct bytes_eq (map (λ (p : PortName). p.name) (l.names.ins ++ l.names.outs))
  pub nets_differ : IsDistinct bytes_eq (map (λ (n : NetName). n.name) l.names.nets)
