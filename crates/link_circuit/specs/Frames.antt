-- The stack of the code as what is left of flattening.
use Rattle.std.specs.Prelude.{ℕ, suc, ◌<◌, ◌≤◌, ◌-◌, List, [], ◌∷◌, length, map, drop, Contains, slice_index_or}
use Rattle.netlist_types.specs.declared.sources.Source.{Source}
use Rattle.graph_order.specs.Needs.{needs_of}
use Rattle.link_defs.specs.Flatten.{Scope}
use Rattle.link_defs.specs.Hierarchy.{module_needs}
use Rattle.link_items.specs.declared.made.Instance.{Instance}
use Rattle.link_items.specs.Items.{scope_of}
use Rattle.link_circuit.specs.declared.frames.Frame.{Frame}
use Rattle.link_circuit.specs.Pending.{Pend}

-- the instance at a place
abbrev pub instance_at : List Instance → ℕ → Instance
instance_at scopes place = slice_index_or scopes place (record { prefix = []; body = 0; nets = []; depth = 0 })

abbrev pub scope_at : Source → List Instance → ℕ → Scope
scope_at s scopes place = scope_of s (instance_at scopes place)

-- the instance of a frame, with its items from the next one on
abbrev pub frame_pend : Source → List Instance → Frame → Pend
frame_pend s scopes f = record { scope = scope_at s scopes f.scope; items = drop f.next (scope_at s scopes f.scope).body.items }

abbrev pub pends : Source → List Instance → List Frame → List Pend
pends s scopes stack = map (frame_pend s scopes) stack

-- how deep instances may still stand in that on top of the stack
abbrev pub depth_left : Source → List Frame → ℕ
depth_left s stack = length s.modules - length stack

-- a number for each module, less for those that it has instances of
pub record AreRanks (s : Source) (rank : ℕ → ℕ) : Type 0 where
  pub falls : (place need : ℕ) → Contains (needs_of (module_needs s) place) need → need < length s.modules → rank need < rank place
  pub below : (place : ℕ) → place < length s.modules → rank place < length s.modules

-- modules have ranks where none contains itself
abbrev pub HasRanks : Source → Type 0
HasRanks s = (rank : ℕ → ℕ) × AreRanks s rank

-- no module of the stack has a rank above the depth that is left there
abbrev pub AreWithin : (ℕ → ℕ) → ℕ → List Instance → List Frame → Type 0
AreWithin rank depth scopes [] = Unit {0}
AreWithin rank depth scopes (f ∷ rest) = (rank (instance_at scopes f.scope).body ≤ depth) × AreWithin rank (suc depth) scopes rest
