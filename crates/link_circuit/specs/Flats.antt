-- What is made of a flat netlist, and why a source is not flattened.
use Rattle.std.specs.Prelude.{◌≡◌, ℕ, ◌<◌, ◌≤◌, true, List, [], ◌∷◌, length, map, flat_map, All, count_by}
use Rattle.netlist_types.specs.declared.sources.Source.{Source}
use Rattle.netlist_types.specs.declared.sources.Module.{Module}
use Rattle.cell_types.specs.declared.libraries.Library.{Library}
use Rattle.link_defs.specs.declared.circuits.Circuit.{Circuit}
use Rattle.linked_types.specs.declared.options.LinkOptions.{LinkOptions}
use Rattle.linked_types.specs.declared.faults.LinkFault.{LinkFault}
use Rattle.link_defs.specs.CellNames.{Leaf, leaves}
use Rattle.link_defs.specs.Faults.{IsFlatCause, is_counted}
use Rattle.link_defs.specs.Flatten.{Flat, Located, flat_of, numbers}
use Rattle.link_defs.specs.Hierarchy.{IsRecursive}
use Rattle.link_defs.specs.Parts.{parts_of}
use Rattle.link_items.specs.declared.made.Instance.{Instance}
use Rattle.link_items.specs.Faults.{IsFaultless}
use Rattle.link_items.specs.Items.{module_at, scope_of, AreLeavesAt}
use Rattle.link_circuit.specs.declared.flats.Flattened.{Flattened}

-- an instance of a module of the source, with a flat net for each net of the module
pub record IsScope (s : Source) (g : Instance) : Type 0 where
  pub body : g.body < length s.modules
  pub nets : length g.nets ≡ length (module_at s g.body).nets

abbrev pub AreScopes : Source → List Instance → Type 0
AreScopes s scopes = All (IsScope s) scopes

-- the instances, nets, parts and leaves of a flat netlist, and the number of its modules, cells and primitives
pub record IsFlattened (s : Source) (lib : Library) (flat : Flat) (f : Flattened) : Type 0 where
  pub scopes : map (scope_of s) f.scopes ≡ flat.scopes
  pub are_scopes : AreScopes s f.scopes
  pub count : f.made.count ≡ flat.count
  pub parts : f.made.parts ≡ flat_map (parts_of s lib) flat.items
  pub leaves : AreLeavesAt lib f.made.parts f.made.leaves (leaves s lib flat)
  pub instances : f.instances ≡ count_by is_counted flat.items

-- no item of the flat netlist is refused, there are no more instances than are allowed, and none stands too deep
pub record AreFine (s : Source) (lib : Library) (flat : Flat) : Type 0 where
  pub items : All (λ (at : Located). IsFaultless s lib at.scope at.item) flat.items
  pub few : count_by is_counted flat.items ≤ 1000000
  pub low : All (λ (at : Located). is_counted at ≡ true → at.scope.depth ≤ 256) flat.items

-- no module contains itself
abbrev pub IsUnrecursive : Source → Type 0
IsUnrecursive s = (name : List ℕ) → IsRecursive s name → ⊥

-- the refusal has its cause in a flat netlist, whatever is set from outside
abbrev pub IsCauseIn : Source → Library → Flat → LinkFault → Type 0
IsCauseIn s lib flat e = (o : LinkOptions) (top : Module) (found : List Leaf) (c : Circuit) → IsFlatCause s lib o top flat found c e

-- or in that below the module
abbrev pub IsCauseBelow : Source → Library → Module → LinkFault → Type 0
IsCauseBelow s lib top e = IsCauseIn s lib (flat_of s lib top) e

-- the top module alone
pub record IsStart (s : Source) (top : ℕ) (f : Flattened) : Type 0 where
  pub scopes : f.scopes ≡ (record { prefix = []; body = top; nets = numbers 0 (length (module_at s top).nets); depth = 0 }) ∷ []
  pub count : f.made.count ≡ length (module_at s top).nets
  pub parts : f.made.parts ≡ []
  pub leaves : f.made.leaves ≡ []
  pub instances : f.instances ≡ 0
