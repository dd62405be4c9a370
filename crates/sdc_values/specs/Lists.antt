-- Lists of patterns, as a text where objects are wanted is read.
use Rattle.std.specs.Prelude.{ℕ, zero, suc, ◌-◌, nat_lt, Bool, true, false, ◌==◌, ◌&&◌, ◌||◌, if◌then◌else◌, List, [], ◌∷◌, ◌++◌, length, take, drop}
use Rattle.std.specs.Prelude.{slice_index, slice_index_or, Option, Some, None, Result, Ok, Err}
use Rattle.std.specs.Char.{is_ascii_whitespace}
use Rattle.std.specs.List.{prefix_len}
use Rattle.texts.specs.Fronts.{first}
use Rattle.texts.specs.Reads.{◌>>=◌}
use Rattle.sdc_words.specs.Blanks.{is_next}
use Rattle.sdc_words.specs.Marks.{backslash, left_brace, right_brace}
use Rattle.script_types.specs.declared.faults.SdcFault.{SdcFault}
use Rattle.script_types.specs.declared.faults.SdcFault.TheVariants as fault
use Rattle.script_types.specs.declared.objects.Class.{Class}
use Rattle.script_types.specs.declared.objects.Class.TheVariants as class
use Rattle.script_types.specs.declared.objects.Object.{Object}
use Rattle.script_types.specs.declared.objects.Object.TheVariants.{Named}
use Rattle.sdc_values.specs.declared.values.Said.{Said}
use Rattle.sdc_values.specs.declared.values.Value.{Value}
use Rattle.sdc_values.specs.declared.values.Value.TheVariants.{Text, Objects}

-- Of the braces that are open a list tells, the innermost last, whether each opened a level of the list; a brace that did
-- not is a byte of an element.

-- the innermost open brace opened a level
abbrev pub is_level : List Bool → Bool
is_level braces = slice_index_or braces (length braces - 1) false

-- the braces around the innermost
abbrev pub outer : List Bool → List Bool
outer braces = take (length braces - 1) braces

-- the `}` of a level comes next
abbrev pub closes_level : List Bool → List ℕ → Bool
closes_level braces s = is_next right_brace s && is_level braces

-- an element or a level is over: at white space, at the end, and before the `}` of the level around it
abbrev pub is_over : List Bool → List ℕ → Bool
is_over braces s = (length s == 0 || is_ascii_whitespace (first s)) || closes_level braces s

-- the braces that are open after a byte of an element; outside all levels its braces do not count
unfoldable pub after_byte : List Bool → ℕ → List Bool
after_byte braces b =
    if length braces == 0 then braces
    else if b == left_brace then braces ++ false ∷ []
    else if b == right_brace then outer braces
    else braces

-- a byte of an element, the braces that are open after it, and what follows: a backslash gives the byte after it, and stays
-- at the end
unfoldable pub byte_of : List Bool → List ℕ → (ℕ × List Bool) × List ℕ
byte_of braces s =
    if is_next backslash s && nat_lt 1 (length s) then ((slice_index s 1, braces), drop 2 s)
    else ((first s, after_byte braces (first s)), drop 1 s)

-- an element, after the bytes found before; of at most n more
unfoldable pub element_from : ℕ → List Bool → List ℕ → List ℕ → (List ℕ × List Bool) × List ℕ
element_from zero braces found s = ((found, braces), s)
element_from (suc n) braces found s =
    if is_over braces s then ((found, braces), s)
    else let p = byte_of braces s in element_from n p.0.1 (found ++ p.0.0 ∷ []) p.1

-- one byte or more
unfoldable pub element_at : List Bool → List ℕ → (List ℕ × List Bool) × List ℕ
element_at braces s = let p = byte_of braces s in element_from (length p.1) p.0.1 (p.0.0 ∷ []) p.1

-- the query of a pattern
abbrev pub named : Class → Bool → List ℕ → Object
named class hier pattern = Named (record { class = class; hier = hier; pattern = pattern })

-- what follows white space
abbrev pub after_white : List ℕ → List ℕ
after_white s = drop (prefix_len is_ascii_whitespace s) s

-- where an element could begin: a `{`, which opens a level, the `}` of the innermost level, directly after which nothing
-- may stand, or an element
unfoldable pub item_at : Class → Bool → List Bool → List Object → List ℕ → Option ((List Bool × List Object) × List ℕ)
item_at class hier braces found s =
    if is_next left_brace s then Some ((braces ++ true ∷ [], found), drop 1 s)
    else if closes_level braces s then (if is_over (outer braces) (drop 1 s) then Some ((outer braces, found), drop 1 s) else None)
    else let e = element_at braces s in Some ((e.0.1, found ++ named class hier e.0.0 ∷ []), e.1)

-- the objects of a list's patterns, after those found before; of fewer than n braces and patterns
unfoldable pub items_from : Class → Bool → ℕ → List Bool → List Object → List ℕ → Option (List Object)
items_from class hier zero braces found t = None
items_from class hier (suc n) braces found t =
    let s = after_white t in
    if length s == 0 then (if length braces == 0 then Some found else None)
    else (item_at class hier braces found s >>= λ p. items_from class hier n p.0.0 p.0.1 p.1)

-- the objects that the patterns of a text name, in this class; nothing where a brace is not closed or not parted
unfoldable pub list_of : Class → Bool → List ℕ → Option (List Object)
list_of class hier text = items_from class hier (suc (length text)) [] [] text

-- the same, for a word at this offset
unfoldable pub list_at : ℕ → Class → Bool → List ℕ → Result (List Object) SdcFault
list_at offset class hier text = elim (list_of class hier text) [
  | Some objects ↦ Ok objects
  | None ↦ Err (fault.Syntax offset)
]

abbrev pub objects_by : ℕ → Value → Result (List Object) SdcFault
objects_by offset (Text text) = list_at offset class.Any false text
objects_by offset (Objects objects) = Ok objects

-- the objects that a word says, where objects are wanted
unfoldable pub objects_of : Said → Result (List Object) SdcFault
objects_of said = objects_by said.offset said.value
