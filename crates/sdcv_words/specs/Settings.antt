-- The list of values for ports: `NAME=0` or `NAME=1`, separated by commas.
use Rattle.std.specs.Prelude.{ℕ, ◌==◌, ◌-◌, Bool, true, false, List, [], ◌∷◌, ◌++◌, length, take, drop, codes, Option, None, Some, if◌then◌else◌}
use Rattle.std.specs.List.{list_any, slice_split}
use Rattle.std.specs.Str.{bytes_eq}
use Rattle.texts.specs.Reads.{◌>>=◌}
use Rattle.sdcv_base.specs.declared.settings.Setting.{Setting}
use Rattle.sdcv_words.specs.declared.settings.Part.{Part}

-- a part: its last two bytes are `=` and the value, and what stands before them is the name, which is not empty
unfoldable pub setting_in : List ℕ → Option (List ℕ × Bool)
setting_in text =
    let n = length text - 2 in
    if n == 0 then None
    else (if bytes_eq (drop n text) (codes "=0") then Some (take n text, false)
    else (if bytes_eq (drop n text) (codes "=1") then Some (take n text, true) else None))

-- one of the settings has this name
abbrev pub has_name : List ℕ → List Setting → Bool
has_name name settings = list_any (λ setting. bytes_eq setting.name name) settings

-- the settings with that of one part more; none where the part spells none, or one whose name another has
abbrev pub with_part : List Setting → List ℕ → Option (List Setting)
with_part settings text =
    setting_in text >>= λ part.
    if has_name part.0 settings then None else Some (settings ++ record { name = part.0; value = part.1 } ∷ [])

unfoldable pub with_parts : List Setting → List (List ℕ) → Option (List Setting)
with_parts settings [] = Some settings
with_parts settings (part ∷ parts) = with_part settings part >>= λ more. with_parts more parts

-- the settings that a list spells
abbrev pub settings_of : List ℕ → Option (List Setting)
settings_of text = with_parts [] (slice_split (λ b. b == 44) text)

abbrev pub seen_part : Part → List ℕ × Bool
seen_part part = (part.name.now, part.value)
