-- What a run is to do in the end.
use Rattle.std.specs.Prelude.{ℕ, ◌-◌, List, [], ◌++◌, ◌∷◌, length, take, codes, Option, None, Some}
use Rattle.judgements.specs.declared.judged.Judged.{Judged}
use Rattle.mcp_detect.specs.declared.detections.Detected.{Detected}
use Rattle.run_ends.specs.declared.statuses.Ending.{Ending}
use Rattle.run_ends.specs.declared.statuses.Ending.TheVariants as ending

-- the words name no command
abbrev pub usage_line : List ℕ
usage_line = codes "usage: sdcv verify V L S --out CERT | check V L S CERT | replay V L S REPORT PAIR | demo SEED SIZE | detect V L S --out SDC | aiger V L S PAIR --out FILE" ++ 10 ∷ []

-- how a run ends, what it saves and prints, and the verdicts and the found pairs that it hands out
pub record Outcome : Type 0 where
  pub ending : Ending
  pub saved : List (List ℕ × List ℕ)
  pub printed : List ℕ
  pub judged : Option Judged
  pub detected : Option Detected

-- a line without its newline
abbrev pub line_of : List ℕ → List ℕ
line_of line = take (length line - 1) line

-- the line of a run that ends with a refused text or a rejected certificate, of what is printed then
abbrev pub refusal_in : Ending → List ℕ → Option (List ℕ)
refusal_in ending.Done printed = None
refusal_in ending.Refuted printed = None
refusal_in ending.Undecided printed = None
refusal_in ending.Refused printed = Some (line_of printed)
refusal_in ending.Words printed = None
refusal_in ending.Rejected printed = Some (line_of printed)
refusal_in ending.Holds printed = None

-- the line that a run hands out, where it refuses or rejects
abbrev pub refusal_of : Outcome → Option (List ℕ)
refusal_of due = refusal_in due.ending due.printed

-- the run prints this, and does nothing else
abbrev pub prints : Ending → List ℕ → Outcome
prints how bytes = record { ending = how; saved = []; printed = bytes; judged = None; detected = None }

-- a text or a design is refused with its line
abbrev pub refused : List ℕ → Outcome
refused line = prints ending.Refused line

-- the words name no command: the usage line is printed
abbrev pub usage : Outcome
usage = prints ending.Words usage_line
