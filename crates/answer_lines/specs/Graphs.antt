-- The line of a graph that is saved.
use Rattle.std.specs.Prelude.{ℕ, List, codes, Option}
use Rattle.std.specs.Fmt.{decimal}
use Rattle.report_text.specs.Words.{number_text}
use Rattle.answer_lines.specs.Texts.{◌⁀◌, newline}

-- the number of the pair, how many inputs, latches and conjunctions its graph has, and how many nets are free, where cells may be cut out
abbrev pub aiger_line : ℕ → ℕ → ℕ → ℕ → Option ℕ → List ℕ
aiger_line number inputs latches gates free =
    codes "aiger pair " ⁀ decimal number ⁀ codes " inputs " ⁀ decimal inputs ⁀ codes " latches " ⁀ decimal latches ⁀ codes " gates " ⁀ decimal gates
    ⁀ number_text (codes "free") free ⁀ newline
