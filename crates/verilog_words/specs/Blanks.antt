-- What is passed over between two tokens (IEEE 1364-2005, clauses 3.2, 3.3, 3.8 and 19).
use Rattle.std.specs.Prelude.{ℕ, zero, suc, Bool, not, ◌==◌, ◌&&◌, ◌+◌, nat_eq, if◌then◌else◌, List, [], ◌∷◌, length, drop, slice_index, codes}
use Rattle.std.specs.Char.{is_ascii_whitespace}
use Rattle.std.specs.List.{list_any, prefix_len, starts_with}
use Rattle.std.specs.Option.{option_map_or}
use Rattle.texts.specs.Fronts.{first, has_two, closed_by}
use Rattle.verilog_words.specs.Codes.{newline, left_paren, right_paren, slash, star}

abbrev pub is_in_line : ℕ → Bool
is_in_line b = not (b == newline)

-- the length of the line at the front, without its newline
abbrev pub line_len : List ℕ → ℕ
line_len s = prefix_len is_in_line s

-- the length of what two bytes open and `*` with this byte closes, and 0 where it is not closed
abbrev pub closed_len : ℕ → List ℕ → ℕ
closed_len close s = option_map_or (λ n. n + 2) (closed_by star close (drop 2 s)) 0

-- `(*`, which begins an attribute; `(*)` begins none
abbrev pub begins_attribute : List ℕ → Bool
begins_attribute s = has_two left_paren star s && not (slice_index s 2 == right_paren)

-- the directives that may stand in a netlist, by their word, whatever follows it
unfoldable pub begins_directive : List ℕ → Bool
begins_directive s = list_any (starts_with nat_eq s) (codes "`timescale" ∷ codes "`default_nettype" ∷ codes "`celldefine" ∷ codes "`endcelldefine"
    ∷ codes "`resetall" ∷ [])

-- the length of the piece at the front that is passed over, and 0 where none stands there: a byte of white space, a
-- comment, an attribute, or a directive where a line begins
unfoldable pub blank_len : Bool → List ℕ → ℕ
blank_len fresh s =
    if is_ascii_whitespace (first s) then 1
    else if has_two slash slash s then line_len s
    else if has_two slash star s then closed_len slash s
    else if begins_attribute s then closed_len right_paren s
    else if fresh && begins_directive s then line_len s
    else 0

-- after at most so many pieces, where a line begins or not; after a newline the next piece begins a line
unfoldable pub skipped : ℕ → Bool → List ℕ → List ℕ
skipped zero fresh s = s
skipped (suc n) fresh s = if blank_len fresh s == 0 then s else skipped n (first s == newline) (drop (blank_len fresh s) s)

-- after all of them: each has a byte at least
unfoldable pub after_blanks : Bool → List ℕ → List ℕ
after_blanks fresh s = skipped (length s) fresh s
