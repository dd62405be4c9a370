-- The exception that the words of a line make, and the command after which it stands.
use Rattle.std.proofs.Common.{◌≡◌, ℕ, Bool, true, false, ◌==◌, List, [], ◌∷◌, ◌++◌, refl, Some, Ok, codes}
use Rattle.std.specs.Char.{is_ascii_digit}
use Rattle.std.specs.List.{list_all}
use Rattle.std.proofs.lemmas.Bool.{and_parts}
use Rattle.sdcv_base.specs.declared.kinds.Edge.TheVariants.{Any}
use Rattle.sdcv_base.specs.Steps.{after_all}
use Rattle.script_types.specs.declared.scripts.What.{What}
use Rattle.script_types.specs.declared.scripts.What.TheVariants as what
use Rattle.sdc_values.specs.declared.values.Value.TheVariants.{Text as Text_value}
use Rattle.sdc_values.specs.Lines.{command_name}
use Rattle.sdc_values.specs.Lists.{objects_of}
use Rattle.sdc_values.specs.Texts.{adds_piece, value_by}
use Rattle.run_options.specs.declared.forms.ScriptForm.TheVariants.{Narrow}
use Rattle.sdc_text.specs.declared.heads.Head.{Head}
use Rattle.sdc_text.specs.declared.options.PathCommand.TheVariants.{Multicycle}
use Rattle.sdc_text.specs.declared.progresses.Progress.{Progress}
use Rattle.sdc_text.specs.declared.exceptions.Reading.{Reading}
use Rattle.sdc_text.specs.Exceptions.{adds_word, with_word, with_number, bare, begun, given, kind_of, beyond, claimed, concluded, exception_of}
use Rattle.sdc_text.specs.Kinds.{command_kind, narrow_kind}
use Rattle.sdc_text.specs.Options.{path_option, multicycle_option, common_option}
use Rattle.sdc_text.specs.Progresses.{after_kind, after_command, with_command}
use Rattle.multicycle_text.specs.Lines.{Setup}
use Rattle.multicycle_text.specs.Scripts.{cell_named, exception_by}
use Rattle.multicycle_text.proofs.NameBytes.{differs, IsName}
use Rattle.multicycle_text.proofs.LineShapes.{line_words}
use Rattle.multicycle_text.proofs.LineSays.{said_option, said_lists, said_after_name, line_said}
use Rattle.multicycle_text.proofs.Numbers.{Says, IsNumber}

-- a number begins with no `-`
number_no_dash : (head : ℕ) (tail : List ℕ) → list_all is_ascii_digit (head ∷ tail) ≡ true → (head == 45) ≡ false
number_no_dash head tail digits =
    let (here, more) = and_parts (is_ascii_digit head) (list_all is_ascii_digit tail) digits in
    differs is_ascii_digit head 45 refl here

-- the number of a multicycle path is taken
number_taken : (head : Head) (offset b : ℕ) (v : List ℕ) → (b == 45) ≡ false
    → adds_word (bare false Multicycle head) (record { offset = offset; value = Text_value (b ∷ v) })
    ≡ Ok (record (bare false Multicycle head) { number = Some (Text_value (b ∷ v)) })
unfolding adds_word with_word with_number
number_taken head offset b v no_dash = rw (no_dash, with_word) refl

-- what is known after all words
abbrev all_taken : Head → List ℕ → Bool → List ℕ → List ℕ → Reading
all_taken head number hold start end =
    record (bare false Multicycle head) { number = Some (Text_value number); from = Some (cell_named start); to = Some (cell_named end); has_hold = hold }

-- and so are the option and the two cells
cells_taken : (head : Head) (at : ℕ → ℕ) (number : List ℕ) (hold : Bool) (start end : List ℕ)
    → after_all adds_word (record (bare false Multicycle head) { number = Some (Text_value number) }) (said_option at hold ++ said_lists at start end)
    ≡ Ok (all_taken head number hold start end)
unfolding after_all adds_word with_word begun given path_option multicycle_option common_option objects_of
cells_taken head at number false start end = refl
cells_taken head at number true start end = refl

-- the exception of a line with this number
abbrev pub exception_with : List ℕ → ℕ → Bool → List ℕ → List ℕ → What
exception_with number k false start end = exception_by (Setup (record { k = k; start = start; end = end }))
exception_with number k true start end =
    what.Hold (record { number = Some number; edge = Any; from = Some (cell_named start); through = []; to = Some (cell_named end) })

-- these words together are an exception with this number
all_concluded : (head : Head) (number : List ℕ) (k : ℕ) (hold : Bool) (start end : List ℕ) → Says hold k number
    → concluded (all_taken head number hold start end) ≡ Ok (exception_with number k hold start end)
unfolding concluded claimed beyond kind_of
all_concluded head number k false start end value = rw (value, kind_of) refl
all_concluded head number k true start end value = rw (value, kind_of) refl

-- the words of a line make the exception that is meant
exception_said : (head : Head) (at : ℕ → ℕ) (b : ℕ) (v : List ℕ) (hold : Bool) (start end : List ℕ) (k : ℕ) → (b == 45) ≡ false
    → Says hold k (b ∷ v) → exception_of false Multicycle head (said_after_name at (b ∷ v) hold start end) ≡ Ok (exception_with (b ∷ v) k hold start end)
unfolding after_all
exception_said head at b v hold start end k no_dash value =
    rw (number_taken head (at 1) b v no_dash, cells_taken head at (b ∷ v) hold start end) (all_concluded head (b ∷ v) k hold start end value)

-- the command of a line is added to those before it
pub line_taken : (p : Progress) (line : ℕ) (at : ℕ → ℕ) (number : List ℕ) (hold : Bool) (start end : List ℕ) (k : ℕ) → IsNumber hold number k
    → IsName start → IsName end → after_command Narrow p (record { line = line; words = line_words at number hold start end })
    ≡ Ok (with_command p line (exception_with number k hold start end))
unfolding after_command command_name command_kind narrow_kind after_kind value_by after_all adds_piece
line_taken p line at number hold start end k n s e =
    let head : Head = record { line = line; name = codes "set_multicycle_path" } in
    let said = exception_said head at n.head n.tail hold start end k (number_no_dash n.head n.tail n.digits) (rw n.is at n.value) in
    rw (line_said p.variables line at number hold start end s e, after_kind) (rw (n.is, said) refl)
