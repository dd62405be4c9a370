-- Which clauses over registers are meant.
use Rattle.std.specs.Prelude.{◌≡◌, ℕ, ◌≤◌, List, map, count_by, Contains}
use Rattle.std.specs.List.{AllZip}
use Rattle.std.specs.List.Sorted.{IsPermutation, IsStrictlyIncreasing}
use Rattle.sdcv_base.specs.declared.settings.Setting.{Setting}
use Rattle.net_model.specs.declared.invariants.StateLit.{StateLit}
use Rattle.net_model.specs.declared.invariants.InvClause.{InvClause}
use Rattle.linked_types.specs.declared.names.CellName.{CellName}
use Rattle.linked_types.specs.Usable.{is_reg}
use Rattle.assist_types.specs.declared.clauses.AssistClause.{AssistClause}
use Rattle.assist_types.specs.declared.faults.AssistFault.{AssistFault}
use Rattle.assist_types.specs.declared.faults.AssistFault.TheVariants as fault
use Rattle.assist_text.specs.Registers.{IsRegNamed}

-- no register is that of two cells
abbrev pub AreOnce : List CellName → Type 0
AreOnce cells = (reg : ℕ) → count_by (is_reg reg) cells ≤ 1

-- the literal says that the register of that name has that value
pub record IsLit (cells : List CellName) (s : Setting) (l : StateLit) : Type 0 where
  pub reg : IsRegNamed cells s.name l.reg
  pub value : l.value ≡ s.value

-- a literal for each setting, in their order
abbrev pub AreLits : List CellName → List Setting → List StateLit → Type 0
AreLits cells settings lits = AllZip (IsLit cells) settings lits

-- the clause has a literal for each setting, by ascending registers
pub record IsNamed (cells : List CellName) (c : AssistClause) (clause : InvClause) : Type 0 where
  pub found : List StateLit
  pub are : AreLits cells c.lits found
  pub moved : IsPermutation found clause.lits
  pub ascend : IsStrictlyIncreasing (map (λ (l : StateLit). l.reg) clause.lits)

abbrev pub AreNamed : List CellName → List AssistClause → List InvClause → Type 0
AreNamed cells assist clauses = AllZip (IsNamed cells) assist clauses

-- a setting has that name, and no cell with a register has it
abbrev pub HasUnknown : List CellName → List Setting → List ℕ → Type 0
HasUnknown cells settings name = (s : Setting) × Contains settings s × (s.name ≡ name) × ((reg : ℕ) → ¬ IsRegNamed cells name reg)

-- why a clause has no registers; want of memory alone is free
abbrev pub IsUnknownIn : List CellName → ℕ → List Setting → AssistFault → Type 0
IsUnknownIn cells line settings (fault.UnknownRegister number name) = (number ≡ line) × HasUnknown cells settings name
IsUnknownIn cells line settings fault.Memory = Unit {0}
IsUnknownIn cells line settings e = ⊥

-- why one of the clauses has none
abbrev pub IsUnknown : List CellName → List AssistClause → AssistFault → Type 0
IsUnknown cells assist (fault.UnknownRegister line name) = (c : AssistClause) × Contains assist c × (c.line ≡ line) × HasUnknown cells c.lits name
IsUnknown cells assist fault.Memory = Unit {0}
IsUnknown cells assist e = ⊥
