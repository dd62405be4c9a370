-- What the words of a line say.
use Rattle.std.proofs.Common.{◌≡◌, ℕ, Bool, true, false, List, [], ◌∷◌, ◌++◌, refl, Some, Ok, codes}
use Rattle.sdcv_base.specs.Steps.{after_all}
use Rattle.script_types.specs.declared.objects.Class.TheVariants.{Cells}
use Rattle.sdc_words.specs.declared.words.Piece.TheVariants.{Bytes}
use Rattle.sdc_words.specs.declared.words.Word.{Word}
use Rattle.sdc_words.specs.declared.words.Word.TheVariants.{Opens, Closes}
use Rattle.sdc_values.specs.declared.nested_kinds.Nesting.TheVariants.{Narrow}
use Rattle.sdc_values.specs.declared.gets.Level.TheVariants.{Own}
use Rattle.sdc_values.specs.declared.values.Said.{Said}
use Rattle.sdc_values.specs.declared.values.Value.TheVariants as value
use Rattle.sdc_values.specs.Gets.{asking_nothing, adds_text, adds_value, asked, adds_by, asks, get_from, get_at}
use Rattle.sdc_values.specs.Lines.{adds_word, said_from, said_words}
use Rattle.sdc_values.specs.Lists.{list_at}
use Rattle.sdc_values.specs.Nested.{name_at, objects_at, begins, enters, lists_from, nested_at}
use Rattle.sdc_values.specs.NestedKinds.{nested_kind, narrow_kind}
use Rattle.sdc_values.specs.Texts.{adds_piece, value_by}
use Rattle.sdc_values.specs.Variables.{Vars}
use Rattle.multicycle_text.specs.Scripts.{cell_named}
use Rattle.multicycle_text.proofs.LineShapes.{word_by, words_after_name}
use Rattle.multicycle_text.proofs.NameBytes.{IsName}
use Rattle.multicycle_text.proofs.NameLists.{name_list}

-- a word without variables has the value that it shows
bytes_value : (vars : Vars) (line offset : ℕ) (w : List ℕ) → value_by vars line offset (Bytes w ∷ []) ≡ Ok (value.Text w)
unfolding value_by after_all adds_piece
bytes_value vars line offset w = refl

-- a name is no option of get_cells
adds_name : (line offset : ℕ) (name : List ℕ) → IsName name
    → adds_text line offset asking_nothing name ≡ Ok (record { pattern = Some (record { offset = offset; text = name }); hier = false; level = Own; listed = [] })
unfolding adds_text
adds_name line offset name n = rw (n.is, n.no_dash) refl

-- `get_cells` of a name asks for the cell of that name
asked_name : (line offset : ℕ) (own name : List ℕ) → IsName name
    → asked line own Cells (record { pattern = Some (record { offset = offset; text = name }); hier = false; level = Own; listed = [] }) ≡ Ok (cell_named name)
unfolding asked list_at
asked_name line offset own name n = rw (name_list name n, list_at) refl

-- up to its `]`
get_name : (vars : Vars) (line place offset : ℕ) (own name : List ℕ) (ws : List Word) → IsName name
    → get_at Narrow vars line place own Cells (word_by offset name ∷ Closes ∷ ws) ≡ Ok (cell_named name, ws)
unfolding get_from asks adds_value adds_by
get_name vars line place offset own name ws n =
    rw (bytes_value vars line offset name, adds_name line offset name n, get_from) (rw (asked_name line offset own name n) refl)

-- `[get_cells {NAME}]` says the cell of that name
pub nested_name : (vars : Vars) (line place first second : ℕ) (name : List ℕ) (ws : List Word) → IsName name
    → nested_at Narrow vars line place (word_by first (codes "get_cells") ∷ word_by second name ∷ Closes ∷ ws) ≡ Ok (cell_named name, ws)
unfolding nested_at enters name_at begins objects_at nested_kind narrow_kind lists_from
nested_name vars line place first second name ws n =
    rw (bytes_value vars line first (codes "get_cells"), get_name vars line place second (codes "get_cells") name ws n, nested_at) refl

-- what the option says
abbrev pub said_option : (ℕ → ℕ) → Bool → List Said
said_option at false = []
said_option at true = record { offset = at 10; value = value.Text (codes "-hold") } ∷ []

-- what the two lists say
abbrev pub said_lists : (ℕ → ℕ) → List ℕ → List ℕ → List Said
said_lists at start end =
    record { offset = at 2; value = value.Text (codes "-from") }
    ∷ record { offset = at 3; value = value.Objects (cell_named start) }
    ∷ record { offset = at 6; value = value.Text (codes "-to") }
    ∷ record { offset = at 7; value = value.Objects (cell_named end) }
    ∷ []

-- what they say
abbrev pub said_after_name : (ℕ → ℕ) → List ℕ → Bool → List ℕ → List ℕ → List Said
said_after_name at number hold start end = record { offset = at 1; value = value.Text number } ∷ (said_option at hold ++ said_lists at start end)

-- so a line says its number, its options and its cells
pub line_said : (vars : Vars) (line : ℕ) (at : ℕ → ℕ) (number : List ℕ) (hold : Bool) (start end : List ℕ) → IsName start → IsName end
    → said_words Narrow vars line (words_after_name at number hold start end) ≡ Ok (said_after_name at number hold start end)
unfolding said_from adds_word value_by after_all adds_piece
line_said vars line at number false start end s e =
    rw (
      nested_name vars line (at 3) (at 4) (at 5) start
          (word_by (at 6) (codes "-to") ∷ Opens (at 7) ∷ word_by (at 8) (codes "get_cells") ∷ word_by (at 9) end ∷ Closes ∷ []) s,
      nested_name vars line (at 7) (at 8) (at 9) end [] e,
      said_from,
    ) refl
line_said vars line at number true start end s e =
    rw (
      nested_name vars line (at 3) (at 4) (at 5) start
          (word_by (at 6) (codes "-to") ∷ Opens (at 7) ∷ word_by (at 8) (codes "get_cells") ∷ word_by (at 9) end ∷ Closes ∷ []) s,
      nested_name vars line (at 7) (at 8) (at 9) end [] e,
      said_from,
    ) refl
