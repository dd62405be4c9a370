-- The library that a text is, and why a text is none.
use Rattle.std.specs.Prelude.{◌≡◌, ◌⊎◌, ℕ, Bool, true, false, ◌&&◌, ◌≤◌, if◌then◌else◌, List, [], ◌∷◌, length, map, take, slice_get, Option, Some, None}
use Rattle.std.specs.Prelude.{◌||◌, is_some, is_none, Result, Ok, Err}
use Rattle.std.specs.Option.{option_or}
use Rattle.texts.specs.Names.{is_among, are_distinct}
use Rattle.lib_func.specs.Functions.{function_of, is_deep}
use Rattle.lib_words.specs.declared.kinds.PartKind.{PartKind}
use Rattle.lib_words.specs.declared.kinds.PartKind.TheVariants as part
use Rattle.lib_words.specs.declared.kinds.AttributeKind.{AttributeKind}
use Rattle.lib_words.specs.declared.kinds.AttributeKind.TheVariants as attribute
use Rattle.lib_words.specs.declared.groups.Attribute.{Attribute}
use Rattle.lib_words.specs.declared.groups.Part.{Part}
use Rattle.lib_words.specs.declared.groups.CellGroup.{CellGroup}
use Rattle.lib_words.specs.declared.faults.GroupFault.TheVariants as group_fault
use Rattle.lib_words.specs.Groups as words
use Rattle.cell_types.specs.declared.libraries.Cell.{Cell}
use Rattle.cell_types.specs.declared.libraries.Library.{Library}
use Rattle.cell_lib.specs.declared.flaws.Flaw.{Flaw}
use Rattle.cell_lib.specs.declared.flaws.Flaw.TheVariants as flaws
use Rattle.cell_types.specs.declared.faults.LibFault.{LibFault}
use Rattle.cell_types.specs.declared.faults.LibFault.TheVariants as fault
use Rattle.cell_lib.specs.Pins.{has_unmodelled_group}
use Rattle.cell_lib.specs.Gates.{gate_of}
use Rattle.cell_lib.specs.Cells.{cell_of}

-- the attribute of such a group is read as a function
abbrev pub is_read : PartKind → AttributeKind → Bool
is_read part.Pin attribute.Function = true
is_read part.Ff attribute.ClockedOn = true
is_read part.Ff attribute.NextState = true
is_read part.Ff attribute.Clear = true
is_read part.Ff attribute.Preset = true
is_read _ _ = false

-- a quoted text that is read as a function and is none
abbrev pub is_broken : PartKind → Attribute → Bool
is_broken kind a = is_read kind a.kind && (a.value.is_quoted && is_none (function_of a.value.text))

-- a text, quoted or not, that is read as a function and is too deep
abbrev pub is_too_deep : PartKind → Attribute → Bool
is_too_deep kind a = is_read kind a.kind && is_deep a.value.text

abbrev pub has_flaw : Flaw → PartKind → Attribute → Bool
has_flaw flaws.Broken kind a = is_broken kind a
has_flaw flaws.Deep kind a = is_too_deep kind a

-- what f gives for the first for which it gives something
unfoldable pub first_of : {A B : Type 0} → (A → Option B) → List A → Option B
first_of f [] = None
first_of f (x ∷ xs) = option_or (f x) (first_of f xs)

-- the offset of the first text of a group that has the flaw
abbrev pub flawed : Flaw → PartKind → Attribute → Option ℕ
flawed flaw kind a = if has_flaw flaw kind a then Some a.value.offset else None

unfoldable pub flaw_in_part : Flaw → Part → Option ℕ
flaw_in_part flaw p = first_of (flawed flaw p.kind) p.attributes

abbrev pub flaw_in_parts : Flaw → List Part → Option ℕ
flaw_in_parts flaw parts = first_of (flaw_in_part flaw) parts

-- the same of a cell; beside a group that is not modelled, and in a clock gate, no function is read
unfoldable pub flaw_in_cell : Flaw → CellGroup → Option ℕ
flaw_in_cell flaw g = if has_unmodelled_group g.parts || is_some (gate_of g) then None else flaw_in_parts flaw g.parts

abbrev pub flaw_in : Flaw → List CellGroup → Option ℕ
flaw_in flaw groups = first_of (flaw_in_cell flaw) groups

-- the offset of the first quoted text that is read as a function and is none
abbrev pub broken_in : List CellGroup → Option ℕ
broken_in groups = flaw_in flaws.Broken groups

-- the offset of the first text that is read as a function and is too deep
abbrev pub deep_in : List CellGroup → Option ℕ
deep_in groups = flaw_in flaws.Deep groups

abbrev pub names : List CellGroup → List (List ℕ)
names groups = map (λ (g : CellGroup). g.name) groups

-- the cells, where each quoted function is one, none is too deep, and no two cells have one name
unfoldable pub cells_made : List CellGroup → Option (List Cell)
cells_made groups =
    if is_none (broken_in groups) && (is_none (deep_in groups) && are_distinct (names groups)) then Some (map cell_of groups) else None

-- the library that a text is
unfoldable pub library_of : List ℕ → Option (List Cell)
library_of text = elim (words.cells_of text) [ Ok groups ↦ cells_made groups | Err e ↦ None ]

-- two of these names are this one: at a place, and among those before it
abbrev pub StandsTwice : List ℕ → List (List ℕ) → Type 0
StandsTwice n names = (k : ℕ) × (slice_get names k ≡ Some n) × (is_among n (take k names) ≡ true)

-- the text stops being a library at the `{` of a group inside 256 others
abbrev pub IsDeepGroup : List ℕ → ℕ → Type 0
IsDeepGroup text place = (words.cells_of text ≡ Err (group_fault.Deep place)) × (place ≤ length text)

-- the first function of the text that is too deep begins at this place
abbrev pub HasDeepFunction : List ℕ → ℕ → Type 0
HasDeepFunction text place = (groups : List CellGroup) × (words.cells_of text ≡ Ok groups) × (deep_in groups ≡ Some place)

-- why a text is no library
abbrev pub Refuses : List ℕ → LibFault → Type 0
Refuses text (fault.Syntax place) = (library_of text ≡ None) × (words.cells_of text ≡ Err (group_fault.Syntax place)) × (place ≤ length text)
Refuses text (fault.Function place) = (library_of text ≡ None) × (groups : List CellGroup) × (words.cells_of text ≡ Ok groups) × (broken_in groups ≡ Some place)
Refuses text (fault.TwiceCell name) = (library_of text ≡ None) × (groups : List CellGroup) × (words.cells_of text ≡ Ok groups) × StandsTwice name (names groups)
Refuses text fault.Memory = Unit {0}
Refuses text (fault.Deep place) = (library_of text ≡ None) × (IsDeepGroup text place ⊎ HasDeepFunction text place)

-- the answer is the library that the text is, or why it is none
abbrev pub Reads : List ℕ → Result Library LibFault → Type 0
Reads text (Ok library) = library_of text ≡ Some library.cells
Reads text (Err e) = Refuses text e
