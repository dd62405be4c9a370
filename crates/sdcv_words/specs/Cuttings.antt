-- How the netlist is read: by a list of patterns of references that may be cut out, `PATTERN`, separated by commas, by the name of the
-- clock that is judged, and by that of the top module.
use Rattle.std.specs.Prelude.{ℕ, ◌==◌, ◌&&◌, ◌||◌, not, Bool, List, [], Option, None, Some, is_some, if◌then◌else◌}
use Rattle.std.specs.List.{list_all, slice_split}
use Rattle.texts.specs.Reads.{◌>>=◌}
use Rattle.run_options.specs.declared.netlists.NetlistForm.{NetlistForm}
use Rattle.run_options.specs.declared.netlists.NetlistForm.TheVariants.{Narrow, Wide}
use Rattle.sdcv_words.specs.Places.{is_value}
use Rattle.sdcv_words.specs.Skips.{is_empty}

abbrev pub has_text : List ℕ → Bool
has_text text = not (is_empty text)

-- the patterns that a list spells, if it can stand for a value and none of them is empty
unfoldable pub patterns_of : List ℕ → Option (List (List ℕ))
patterns_of text =
    let patterns = slice_split (λ b. b == 44) text in
    if is_value text && list_all has_text patterns then Some patterns else None

-- where no list stands, nothing may be cut out
abbrev pub free_of : Option (List ℕ) → Option (List (List ℕ))
free_of None = Some []
free_of (Some list) = patterns_of list

-- the name of a clock or a module, if a word gives one
abbrev pub name_of : Option (List ℕ) → Option (Option (List ℕ))
name_of None = Some None
name_of (Some name) = if is_value name then Some (Some name) else None

-- wide, with these texts
abbrev pub wide_by : Option (List ℕ) → Option (List ℕ) → Option (List ℕ) → Option NetlistForm
wide_by list clock top =
    free_of list >>= λ free.
    name_of clock >>= λ clock.
    name_of top >>= λ top.
    Some (Wide (record { top = top; free = free; clock = clock }))

-- how the netlist is read: wide where one of the texts stands
abbrev pub netlist_by : Option (List ℕ) → Option (List ℕ) → Option (List ℕ) → Option NetlistForm
netlist_by list clock top = if is_some list || (is_some clock || is_some top) then wide_by list clock top else Some Narrow
