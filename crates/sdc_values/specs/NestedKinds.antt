-- The commands that may stand in brackets, by their names, and the options of a word.
use Rattle.std.specs.Prelude.{ℕ, Bool, true, false, not, ◌==◌, ◌&&◌, ◌||◌, if◌then◌else◌, List, [], ◌∷◌, slice_index, Option, Some, codes}
use Rattle.std.specs.Char.{is_ascii_digit}
use Rattle.std.specs.Str.{bytes_eq}
use Rattle.texts.specs.Fronts.{first}
use Rattle.texts.specs.Lookups.{in_table}
use Rattle.script_types.specs.declared.objects.Class.TheVariants as class
use Rattle.sdc_values.specs.declared.nested_kinds.Nesting.{Nesting}
use Rattle.sdc_values.specs.declared.nested_kinds.Nesting.TheVariants as forms
use Rattle.sdc_values.specs.declared.nested_kinds.NestedKind.{NestedKind}
use Rattle.sdc_values.specs.declared.nested_kinds.NestedKind.TheVariants.{List as JoinsLists, Get, AllInputs, AllOutputs, AllRegisters, AllClocks}

-- whether nested commands are read in the wide way
abbrev pub is_wide : Nesting → Bool
is_wide forms.Narrow = false
is_wide forms.Wide = true

-- in the wide way `concat` of Tcl, and `add_to_collection`, join what their words say, as a `list` does
abbrev pub joins_too : List ℕ → Bool
joins_too x = bytes_eq x (codes "concat") || bytes_eq x (codes "add_to_collection")

-- the nested commands whose words may be the patterns of a `get_` command in the wide way
abbrev pub lists_texts : List ℕ → Bool
lists_texts x = bytes_eq x (codes "list") || bytes_eq x (codes "concat")

-- SDC 2.1: the commands that give objects, and `list` of Tcl
unfoldable pub narrow_kind : List ℕ → Option NestedKind
narrow_kind x = in_table (
    (codes "list", JoinsLists)
    ∷ (codes "get_ports", Get class.Ports)
    ∷ (codes "get_cells", Get class.Cells)
    ∷ (codes "get_pins", Get class.Pins)
    ∷ (codes "get_nets", Get class.Nets)
    ∷ (codes "get_clocks", Get class.Clocks)
    ∷ (codes "all_inputs", AllInputs)
    ∷ (codes "all_outputs", AllOutputs)
    ∷ (codes "all_registers", AllRegisters)
    ∷ (codes "all_clocks", AllClocks)
    ∷ []) x

-- the command of this name that may stand in brackets
unfoldable pub nested_kind : Nesting → List ℕ → Option NestedKind
nested_kind nesting x = if is_wide nesting && joins_too x then Some JoinsLists else narrow_kind x

-- the option of `all_inputs` that leaves out the ports of clocks, in the wide way
abbrev pub is_no_clocks : List ℕ → Bool
is_no_clocks text = bytes_eq text (codes "-no_clocks")

-- the command that takes the second of two lists out of the first
abbrev pub is_removal : List ℕ → Bool
is_removal x = bytes_eq x (codes "remove_from_collection")

-- an option: a `-` with no digit after it
abbrev pub is_option : List ℕ → Bool
is_option text = first text == 45 && not (is_ascii_digit (slice_index text 1))

-- the options of a `get_` command: that its pattern matches below any part of a name, and one that changes nothing
abbrev pub is_hier : List ℕ → Bool
is_hier text = bytes_eq text (codes "-hierarchical") || bytes_eq text (codes "-hier")

abbrev pub is_quiet : List ℕ → Bool
is_quiet text = bytes_eq text (codes "-quiet")
