-- The groups of a library: which of its cells, their parts and attributes are kept.
use Rattle.std.specs.Prelude.{ℕ, ◌-◌, ◌==◌, ◌&&◌, if◌then◌else◌, List, [], ◌∷◌, ◌++◌, length, Option, None, Some, Result, Ok, codes}
use Rattle.std.specs.Str.{bytes_eq}
use Rattle.lib_words.specs.Marks.{colon, comma, left_brace, left_paren, right_brace, right_paren, semicolon}
use Rattle.lib_words.specs.declared.kinds.PartKind.{PartKind}
use Rattle.lib_words.specs.declared.kinds.AttributeKind.{AttributeKind}
use Rattle.lib_words.specs.declared.faults.GroupFault.{GroupFault}
use Rattle.lib_words.specs.declared.groups.Attribute.{Attribute}
use Rattle.lib_words.specs.declared.groups.Part.{Part}
use Rattle.lib_words.specs.declared.groups.CellGroup.{CellGroup}
use Rattle.lib_words.specs.Kinds.{part_kind, attribute_kind}
use Rattle.lib_words.specs.Blanks.{after_blanks}
use Rattle.texts.specs.Rules.{◌>>=◌, most_nested}
use Rattle.lib_words.specs.Reads.{After, Rule, refused}
use Rattle.lib_words.specs.Tokens.{is_next, after_mark, mark_at, name_at}
use Rattle.lib_words.specs.Runs.{argument_at}
use Rattle.lib_words.specs.Values.{value_at}
use Rattle.lib_words.specs.Lists.{list_at}
use Rattle.lib_words.specs.Passes.{after_arguments, enter_at, passed_at}

-- arguments in parentheses
abbrev pub adds_name : List (List ℕ) → Rule (List (List ℕ))
adds_name found total s = argument_at total s >>= λ p. Ok (found ++ p.0 ∷ [], p.1)

unfoldable pub names_at : Rule (List (List ℕ))
names_at total s = mark_at left_paren total s >>= λ r. list_at right_paren comma adds_name [] total r

-- the statements of a group up to its `}`, with any number of `;` among them, where at most `room` groups stand one
-- inside the other, this one outermost
abbrev pub statements_at : {A : Type 0} → (ℕ → A → Rule A) → ℕ → A → Rule A
statements_at adds room found total s = list_at right_brace semicolon (adds (room - 1)) found total s

-- a simple attribute that counts begins here, after its name
abbrev pub attribute_before : List ℕ → List ℕ → Option AttributeKind
attribute_before name s = if is_next colon s then attribute_kind name else None

-- a group that counts begins here, after its name, if a `{` follows the arguments
abbrev pub part_before : List ℕ → List ℕ → Option PartKind
part_before name s = if is_next left_paren s then part_kind name else None

unfoldable pub attribute_at : AttributeKind → Rule Attribute
attribute_at kind total s = mark_at colon total s >>= λ r. value_at total r >>= λ v. Ok (record { kind = kind; value = v.0 }, v.1)

-- a statement of a part, with room for so many groups in it: an attribute that counts, or something to pass over
unfoldable pub adds_attribute : ℕ → List Attribute → Rule (List Attribute)
adds_attribute room found total s = name_at total s >>= λ n. elim (attribute_before n.0 n.1) [
  | Some kind ↦ attribute_at kind total n.1 >>= λ a. Ok (found ++ a.0 ∷ [], a.1)
  | None ↦ passed_at room total n.1 >>= λ r. Ok (found, r)
]

-- a part, after its name; where no `{` follows the arguments it is a complex attribute, and none is kept
unfoldable pub part_at : PartKind → ℕ → Rule (Option Part)
part_at kind room total s = names_at total s >>= λ n.
    if is_next left_brace n.1 then (enter_at room 0 total n.1 >>= λ r. statements_at adds_attribute room [] total r >>= λ a.
    Ok (Some (record { kind = kind; names = n.0; attributes = a.0 }), a.1))
    else Ok (None, n.1)

abbrev pub with_attribute : CellGroup → Attribute → CellGroup
with_attribute cell a = record cell { attributes = cell.attributes ++ a ∷ [] }

abbrev pub with_part : CellGroup → Option Part → CellGroup
with_part cell None = cell
with_part cell (Some p) = record cell { parts = cell.parts ++ p ∷ [] }

-- a statement of a cell: an attribute or a part that counts, or something to pass over
unfoldable pub adds_to_cell : ℕ → CellGroup → Rule CellGroup
adds_to_cell room cell total s = name_at total s >>= λ n. elim (attribute_before n.0 n.1) [
  | Some kind ↦ attribute_at kind total n.1 >>= λ a. Ok (with_attribute cell a.0, a.1)
  | None ↦ elim (part_before n.0 n.1) [
    | Some kind ↦ part_at kind room total n.1 >>= λ p. Ok (with_part cell p.0, p.1)
    | None ↦ passed_at room total n.1 >>= λ r. Ok (cell, r)
  ]
]

-- a cell's name: its only argument
abbrev pub only : List (List ℕ) → Option (List ℕ)
only [] = None
only (x ∷ []) = Some x
only (x ∷ y ∷ xs) = None

abbrev pub bare_cell : List ℕ → CellGroup
bare_cell name = record { name = name; attributes = []; parts = [] }

-- a cell, after the word `cell`; where no `{` follows the arguments it is a complex attribute, and none is kept
unfoldable pub cell_at : ℕ → Rule (Option CellGroup)
cell_at room total s = names_at total s >>= λ n.
    if is_next left_brace n.1 then elim (only n.0) [
      | Some name ↦ enter_at room 0 total n.1 >>= λ r. statements_at adds_to_cell room (bare_cell name) total r >>= λ c. Ok (Some c.0, c.1)
      | None ↦ refused total n.1
    ]
    else Ok (None, n.1)

abbrev pub with_cell : List CellGroup → Option CellGroup → List CellGroup
with_cell cells None = cells
with_cell cells (Some c) = cells ++ c ∷ []

-- a statement of the library: a cell, or something to pass over
unfoldable pub adds_cell : ℕ → List CellGroup → Rule (List CellGroup)
adds_cell room cells total s = name_at total s >>= λ n.
    if bytes_eq n.0 (codes "cell") && is_next left_paren n.1 then (cell_at room total n.1 >>= λ c. Ok (with_cell cells c.0, c.1))
    else (passed_at room total n.1 >>= λ r. Ok (cells, r))

-- the group `library`, in which so many groups may stand, one inside the other and itself among them
unfoldable pub library_at : ℕ → Rule (List CellGroup)
library_at room total s = name_at total s >>= λ n.
    if bytes_eq n.0 (codes "library") then (after_arguments total n.1 >>= λ a. enter_at room 0 total a >>= λ r. statements_at adds_cell room [] total r)
    else refused total s

-- after one `;` where one stands
abbrev pub after_semicolon : List ℕ → List ℕ
after_semicolon s = if is_next semicolon s then after_mark s else s

-- the text's end
unfoldable pub ended_at : ℕ → List ℕ → After
ended_at total s = let t = after_semicolon s in if length t == 0 then Ok t else refused total t

-- the cells of the library that a whole text is, or the fault that the text has
unfoldable pub cells_of : List ℕ → Result (List CellGroup) GroupFault
cells_of text =
    let total = length text in
    library_at most_nested total (after_blanks text) >>= λ cells. ended_at total cells.1 >>= λ t. Ok cells.0
