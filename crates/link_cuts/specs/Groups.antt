-- Cut instances by the module that they are cut out of.
use Rattle.std.specs.Prelude.{◌≡◌, ℕ, ◌+◌, ◌<◌, false, if◌then◌else◌, List, [], ◌∷◌, ◌++◌, length, map, All, None, slice_index, slice_index_or, slice_set}
use Rattle.std.specs.Str.{bytes_eq}
use Rattle.netlist_types.specs.declared.sources.Source.{Source}
use Rattle.link_defs.specs.declared.cuts.CutCell.{CutCell}
use Rattle.link_defs.specs.declared.cuts.CutItem.{CutItem}
use Rattle.link_defs.specs.declared.cuts.CutPin.{CutPin}
use Rattle.link_items.specs.declared.made.Instance.{Instance}
use Rattle.link_items.specs.Items.{module_at}

-- an instance of a module of the source, with a flat net for each net of the module
pub record IsPlaced (s : Source) (g : Instance) : Type 0 where
  pub body : g.body < length s.modules
  pub nets : length g.nets ≡ length (module_at s g.body).nets

-- the cut instance at a place
abbrev pub item_at : List CutItem → ℕ → CutItem
item_at items place = slice_index_or items place (record { «module» = []; cell = []; name = []; clocked = false; pins = []; fault = None })

-- the places of those of a module, from one on
abbrev pub group_from : ℕ → List CutItem → List ℕ → List ℕ
group_from place [] name = []
group_from place (x ∷ xs) name = if bytes_eq x.module name then place ∷ group_from (place + 1) xs name else group_from (place + 1) xs name

abbrev pub group_of : List CutItem → List ℕ → List ℕ
group_of items name = group_from 0 items name

-- a group for each of the modules of these names
pub record AreGroups (items : List CutItem) (names : List (List ℕ)) (groups : List (List ℕ)) : Type 0 where
  pub len : length groups ≡ length names
  pub each : (body : ℕ) → body < length names → slice_index_or groups body [] ≡ group_of items (slice_index_or names body [])

-- groups with a place more in one of them
abbrev pub with_place : List (List ℕ) → ℕ → ℕ → List (List ℕ)
with_place groups body place = slice_set groups body (slice_index_or groups body [] ++ place ∷ [])

-- a pin of a cut instance, by the flat nets of its module's nets
abbrev pub pin_on : List ℕ → CutPin → CutPin
pin_on nets p = record { name = p.name; way = p.way; net = slice_index nets p.net }

-- a cut instance, where its module stands
abbrev pub cell_on : Instance → CutItem → CutCell
cell_on g x = record { cell = x.cell; name = g.prefix ++ x.name; clocked = x.clocked; pins = map (pin_on g.nets) x.pins; fault = x.fault }

-- the place is one of an instance whose pins stand on nets below a number
pub record IsFitIn (nets : ℕ) (items : List CutItem) (place : ℕ) : Type 0 where
  pub there : place < length items
  pub pins : All (λ (p : CutPin). p.net < nets) (item_at items place).pins
