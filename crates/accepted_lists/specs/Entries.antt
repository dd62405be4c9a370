-- The entries of an accepted list: on pairs, and on notes.
use Rattle.std.specs.Prelude.{ℕ, ◌+◌, ◌-◌, ◌==◌, ◌&&◌, ◌||◌, Bool, false, nat_eq, nat_lt, List, [], ◌∷◌, ◌++◌, length, drop, codes, Option, Some, None, if◌then◌else◌}
use Rattle.std.specs.List.{position_from, starts_with}
use Rattle.std.specs.Str.{bytes_eq}
use Rattle.texts.specs.Reads.{◌>>=◌}
use Rattle.report_rows.specs.Words.{cut, word_at, is_word, part, joined, number_in}
use Rattle.report_rows.specs.declared.reports.Word.{Word}
use Rattle.report_rows.specs.declared.reports.Word.TheVariants.{Refuted, Undecided}
use Rattle.accepted_lists.specs.declared.pair_entries.PairEntry.{PairEntry}
use Rattle.accepted_lists.specs.declared.pair_entries.Terms.{Terms}
use Rattle.accepted_lists.specs.declared.pair_entries.GateWords.{GateWords}
use Rattle.accepted_lists.specs.declared.pair_entries.ShortWords.{ShortWords}

-- a word; an empty one is none
abbrev pub word_of : List ℕ → List (List ℕ)
word_of w = if length w == 0 then [] else w ∷ []

-- the words up to a `#`
unfoldable pub before_remark : List (List ℕ) → List (List ℕ)
before_remark [] = []
before_remark (w ∷ ws) = if bytes_eq w (codes "#") then [] else word_of w ++ before_remark ws

-- the words of a line; one that begins with `#` has none
abbrev pub entry_words : List ℕ → List (List ℕ)
entry_words line = if starts_with nat_eq line (codes "#") then [] else before_remark (cut line)

-- a verdict that can be accepted
unfoldable pub open_verdict : List ℕ → Option Word
open_verdict w = if bytes_eq w (codes "refuted") then Some Refuted else (if bytes_eq w (codes "undecided") then Some Undecided else None)

-- the words of a kind: `false ..` or `multi ..`
abbrev pub is_kind : List (List ℕ) → Bool
is_kind ws = is_word ws 0 (codes "false") || is_word ws 0 (codes "multi")

-- the entry on pairs from START to END, with a count and terms, of the kind that these words say and of this verdict
unfoldable pub entry_with : List (List ℕ) → Option ℕ → Terms → List (List ℕ) → Word → Option PairEntry
entry_with ws count terms kind verdict =
    if is_kind kind then Some (record {
      start = word_at ws 0;
      end = word_at ws 2;
      count = count;
      hazard = terms.hazard;
      lag = terms.lag;
      kind = joined kind;
      verdict = verdict;
    })
    else None

-- the first form is that of a gate's line: START `->` END COUNT VERDICT CAUSE.. `command` N KIND.. `first` M
abbrev pub is_gate_line : List (List ℕ) → Bool
is_gate_line ws = nat_lt 8 (length ws) && is_word ws (length ws - 2) (codes "first")

-- the place of the word `command` after a cause
unfoldable pub end_of_cause : List (List ℕ) → Option ℕ
end_of_cause ws = position_from (λ w. bytes_eq w (codes "command")) 6 (drop 6 ws)

-- no mode and no lag is asked for, and the kind follows from a place on
abbrev pub no_terms : ℕ → Terms
no_terms from = record { hazard = false; lag = None; from = from }

-- what such a line says before its kind
unfoldable pub gate_words : List (List ℕ) → Option GateWords
gate_words ws =
    number_in (word_at ws 3) >>= λ count. open_verdict (word_at ws 4) >>= λ verdict. end_of_cause ws >>= λ place.
    Some (record { count = count; verdict = verdict; from = place + 2 })

abbrev pub gate_entry : List (List ℕ) → Option PairEntry
gate_entry ws = gate_words ws >>= λ said. entry_with ws (Some said.count) (no_terms said.from) (part ws said.from (length ws - 2)) said.verdict

-- the second form: START `->` END, then where they are wanted COUNT, `hazard` and `lag` L, and at last KIND.. VERDICT
abbrev pub after_count : Option ℕ → ℕ
after_count None = 3
after_count (Some count) = 4

abbrev pub after_hazard : List (List ℕ) → ℕ → ℕ
after_hazard ws from = if is_word ws from (codes "hazard") then from + 1 else from

abbrev pub with_lag : List (List ℕ) → Bool → ℕ → Option Terms
with_lag ws hazard from =
    if is_word ws from (codes "lag") then (number_in (word_at ws (from + 1)) >>= λ lag. Some (record { hazard = hazard; lag = Some lag; from = from + 2 }))
    else Some (record { hazard = hazard; lag = None; from = from })

-- the mode and the lag that are asked for from a place on
abbrev pub terms_at : List (List ℕ) → ℕ → Option Terms
terms_at ws from = with_lag ws (is_word ws from (codes "hazard")) (after_hazard ws from)

-- what such a line says before and after its kind
unfoldable pub short_words : List (List ℕ) → Option ShortWords
short_words ws =
    open_verdict (word_at ws (length ws - 1)) >>= λ verdict. terms_at ws (after_count (number_in (word_at ws 3))) >>= λ terms.
    Some (record { verdict = verdict; count = number_in (word_at ws 3); terms = terms })

abbrev pub short_entry : List (List ℕ) → Option PairEntry
short_entry ws = short_words ws >>= λ said. entry_with ws said.count said.terms (part ws said.terms.from (length ws - 1)) said.verdict

-- an entry on pairs
abbrev pub pair_entry : List (List ℕ) → Option PairEntry
pair_entry ws = if is_gate_line ws then gate_entry ws else short_entry ws

-- after how many words those of a note begin: `command I line L` and `line L` may stand before them
abbrev pub place_length : List (List ℕ) → ℕ
place_length ws = if is_word ws 0 (codes "command") && is_word ws 2 (codes "line") then 4 else (if is_word ws 0 (codes "line") then 2 else 0)

-- the words of a note without its place: `warning ..`, `aside ..`, `unjudged ..` or `.. selects nothing`
abbrev pub says_note : List (List ℕ) → Bool
says_note ws =
    nat_lt 1 (length ws) && ((is_word ws 0 (codes "warning") || (is_word ws 0 (codes "aside") || is_word ws 0 (codes "unjudged")))
    || (is_word ws (length ws - 2) (codes "selects") && is_word ws (length ws - 1) (codes "nothing")))

abbrev pub is_note : List (List ℕ) → Bool
is_note ws = says_note (drop (place_length ws) ws)
