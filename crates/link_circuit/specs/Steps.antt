-- What one step does.
use Rattle.std.specs.Prelude.{◌≡◌, ℕ, ◌+◌, ◌<◌, ◌≤◌, true, cond, List, [], ◌∷◌, ◌++◌, length, Option, Some, None}
use Rattle.sdcv_base.specs.declared.limits.LimitName.TheVariants as what
use Rattle.netlist_types.specs.declared.sources.Source.{Source}
use Rattle.netlist_types.specs.declared.sources.Item.{Item}
use Rattle.cell_types.specs.declared.libraries.Library.{Library}
use Rattle.linked_types.specs.declared.faults.LinkFault.{LinkFault}
use Rattle.linked_types.specs.declared.faults.LinkFault.TheVariants as fault
use Rattle.link_defs.specs.Faults.{is_instance}
use Rattle.link_defs.specs.Flatten.{Scope}
use Rattle.link_items.specs.declared.made.Instance.{Instance}
use Rattle.link_items.specs.Faults.{IsFaultless, IsCauseWithin}
use Rattle.link_items.specs.Items.{IsAdded, IsInner}
use Rattle.link_circuit.specs.declared.flats.Flattened.{Flattened}
use Rattle.link_circuit.specs.declared.frames.Frame.{Frame}

-- with one item more; the instance that it is, if it is one of a module, is not among the instances yet
pub record IsTaken (s : Source) (lib : Library) (scope : Scope) (i : Item) (inner : Option Instance) (old new : Flattened) : Type 0 where
  pub added : IsAdded s lib scope i old.made new.made
  pub inner_is : IsInner s scope i old.made.count inner
  pub faultless : IsFaultless s lib scope i
  pub scopes : new.scopes ≡ old.scopes
  pub instances : new.instances ≡ old.instances + cond (is_instance i) 1 0
  pub few : old.instances ≤ 1000000 → new.instances ≤ 1000000
  pub low : is_instance i ≡ true → scope.depth ≤ 256

-- an item is refused for a cause of its own, or it is an instance and there are as many as are allowed, or one that stands
-- too deep
pub data IsRefused (s : Source) (lib : Library) (scope : Scope) (i : Item) (instances : ℕ) (e : LinkFault) : Type 0 where
  By_item : IsCauseWithin s lib scope i e → IsRefused s lib scope i instances e
  By_count : e ≡ fault.Limit what.Instances 1000001 → is_instance i ≡ true → 1000000 ≤ instances → IsRefused s lib scope i instances e
  By_depth : e ≡ fault.Limit what.Hierarchy 257 → is_instance i ≡ true → 256 < scope.depth → IsRefused s lib scope i instances e

-- the item after this one
abbrev pub next_of : Frame → Frame
next_of f = record { scope = f.scope; next = f.next + 1 }

-- goes on with the item after this one, and before that with the instance that stands there
abbrev pub IsEntered : Frame → Option Instance → List Frame → Flattened → List Frame → Flattened → Type 0
IsEntered f None stack old stack2 new = (stack2 ≡ next_of f ∷ stack) × (new ≡ old)
IsEntered f (Some g) stack old stack2 new = (stack2 ≡ (record { scope = length old.scopes; next = 0 }) ∷ next_of f ∷ stack)
    × (new.scopes ≡ old.scopes ++ g ∷ []) × (new.made ≡ old.made) × (new.instances ≡ old.instances)
