-- What is late in a cycle.
use Rattle.std.specs.Prelude.{◌≡◌, ℕ, ◌==◌, Bool, true, false, List, [], map, find, Option, Some, None, IfSome}
use Rattle.std.specs.List.{list_any}
use Rattle.net_model.specs.Judge.{start_bit}
use Rattle.net_model.specs.Layers.{IsLateCapture}
use Rattle.net_model.specs.Ternary.{IsTernaryCapture}
use Rattle.net_model.specs.declared.netlist.Design.{Design}
use Rattle.net_model.specs.declared.cycles.Cycle.{Cycle}
use Rattle.net_model.specs.declared.claims.Claim.{Claim}
use Rattle.net_model.specs.declared.terns.Tern.{Tern}
use Rattle.linked_types.specs.declared.names.CellName.{CellName}
use Rattle.linked_types.specs.declared.names.Names.{Names}
use Rattle.linked_types.specs.declared.names.NetName.{NetName}
use Rattle.linked_types.specs.declared.names.Linked.{Linked}
use Rattle.shown_runs.specs.Carried.{IsCarried}
use Rattle.shown_runs.specs.declared.lates.Late.{Late}

-- the cell drives the net
abbrev pub drives : ℕ → CellName → Bool
drives net c = list_any (λ (n : ℕ). n == net) c.outs

abbrev pub name_if_any : Option NetName → Option CellName → List ℕ
name_if_any (Some n) cell = n.name
name_if_any None (Some c) = c.name
name_if_any None None = []

-- the first full name of a net; one that has none is told by the first cell that drives it, as the enable of a clock gate is
abbrev pub first_name : Names → ℕ → List ℕ
first_name names net = name_if_any (find (λ (n : NetName). n.net == net) names.nets) (find (drives net) names.cells)

-- the nets of a path that carries the change, each by its first full name
pub record IsNamedPath (l : Linked) (claim : Claim) (c : Cycle) (stale : Bool) (names : List (List ℕ)) : Type 0 where
  pub nets : List ℕ
  pub carried : IsCarried l.design claim c stale nets
  pub by_name : names ≡ map (first_name l.names) nets

-- the ternary capture where hazards count, and else none
abbrev pub IsTernaryIf : Bool → Design → Claim → Cycle → Option Tern → Type 0
IsTernaryIf false d claim c value = value ≡ None
IsTernaryIf true d claim c None = ⊥
IsTernaryIf true d claim c (Some value) = IsTernaryCapture d claim c value

-- what is late in a cycle, given one across the start's change: the start's bit there, the late capture with it, the ternary
-- capture, and a path if one is told
pub record IsLateIn (l : Linked) (claim : Claim) (across now : Cycle) (t : Late) : Type 0 where
  pub other_is : t.other ≡ start_bit claim.start across
  pub is_late : IsLateCapture l.design claim now t.other t.captured
  pub is_ternary : IsTernaryIf claim.hazard l.design claim now t.ternary
  pub is_path : IfSome t.path (IsNamedPath l claim now t.other)
