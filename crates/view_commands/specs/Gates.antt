-- What of a report stops a build, and the status of a program that prints it.
use Rattle.std.specs.Prelude.{◌≡◌, ◌⊎◌, ℕ, Bool, true, false, List, [], ◌∷◌, map, flat_map, slice_get, Option, Some, None, Ok, string_bytes}
use Rattle.std.specs.Option.{option_map}
use Rattle.report_rows.specs.Reads.{IsReport}
use Rattle.report_rows.specs.declared.reports.Report.{Report}
use Rattle.accepted_lists.specs.Days.{day_of}
use Rattle.accepted_lists.specs.InForce.{list_on, last_days}
use Rattle.accepted_lists.specs.Lists.{listed, IsListFault}
use Rattle.accepted_lists.specs.declared.days.Day.{Day}
use Rattle.accepted_lists.specs.declared.lists.LastDay.{LastDay}
use Rattle.accepted_lists.specs.declared.lists.ListLine.{ListLine}
use Rattle.accepted_lists.specs.declared.lists.ListFault.{ListFault}
use Rattle.report_groups.specs.Findings.{stopping, stopping_with, findings_text}
use Rattle.report_groups.specs.Remarks.{remarks_of, line_remark_text}
use Rattle.report_groups.specs.declared.findings.Finding.{Finding}
use Rattle.view_commands.specs.Lines.{IsListLine, undated_line}
use Rattle.view_commands.specs.declared.gates.Gated.{Gated}
use Rattle.view_commands.specs.declared.stops.Stop.{Stop}
use Rattle.view_commands.specs.declared.stops.Stop.TheVariants.{Words, Line, Refused, Memory}

-- 0 where nothing stops a build, and else 1
abbrev pub status_of : List Finding → ℕ
status_of [] = 0
status_of (f ∷ fs) = 1

abbrev pub status_by : Bool → ℕ
status_by true = 0
status_by false = 1

-- these findings stop a build: their lines are printed, and the status says whether there is one
pub record IsStoppedBy (found : List Finding) (g : Gated) : Type 0 where
  pub text : g.text.items ≡ findings_text found
  pub status : g.status ≡ status_of found

-- what stops a build of the report that a text is: all that is told of it but its justified groups
pub record IsGate (text : List ℕ) (g : Gated) : Type 0 where
  pub is : Report
  pub read : IsReport text is
  pub stops : IsStoppedBy (stopping is) g
  pub quiet : g.remarks ≡ []

-- what stops a build of a report beside what the lines of a list accept on a day, and what is to be told of these lines
pub record IsGateOf (today : Option Day) (name : List ℕ) (lines : List ListLine) (is : Report) (g : Gated) : Type 0 where
  pub stops : IsStoppedBy (stopping_with (list_on today lines) is) g
  pub remarked : map string_bytes g.remarks ≡ map (line_remark_text name) (remarks_of today lines is)

-- a day is given where a line has a last day
abbrev pub AreDated : Option Day → List ListLine → Type 0
AreDated (Some today) lines = Unit {0}
AreDated None lines = flat_map last_days lines ≡ []

-- the same of the texts of both; `name` is that of the list's file
pub record IsGateWith (today : Option Day) (text name accepted : List ℕ) (g : Gated) : Type 0 where
  pub is : Report
  pub lines : List ListLine
  pub read : IsReport text is
  pub is_list : listed accepted ≡ Ok lines
  pub dated : AreDated today lines
  pub gate : IsGateOf today name lines is g

-- the line of a text with this fault is told, or there was no memory for it
abbrev pub TellsFault : List ℕ → ListFault → Stop → Type 0
TellsFault name fault (Words why) = ⊥
TellsFault name fault (Line line) = ⊥
TellsFault name fault (Refused line) = IsListLine name fault (string_bytes line)
TellsFault name fault Memory = Unit {0}

-- a text of that name is no list
pub record IsNoList (name accepted : List ℕ) (stop : Stop) : Type 0 where
  pub fault : ListFault
  pub cause : IsListFault (listed accepted) fault
  pub told : TellsFault name fault stop

abbrev pub TellsDay : List ℕ → LastDay → Stop → Type 0
TellsDay name first (Words why) = ⊥
TellsDay name first (Line line) = ⊥
TellsDay name first (Refused line) = string_bytes line ≡ undated_line name first
TellsDay name first Memory = Unit {0}

-- no day is given, and a line has a last day: the first of them is told
pub record IsUndated (today : Option Day) (name accepted : List ℕ) (stop : Stop) : Type 0 where
  pub lines : List ListLine
  pub first : LastDay
  pub is_list : listed accepted ≡ Ok lines
  pub none : today ≡ None
  pub stands : slice_get (flat_map last_days lines) 0 ≡ Some first
  pub told : TellsDay name first stop

abbrev pub IsListStop : Option Day → List ℕ → List ℕ → Stop → Type 0
IsListStop today name accepted stop = IsNoList name accepted stop ⊎ IsUndated today name accepted stop

-- the text is a report, and what it is held against is refused
pub record IsAcceptedStop (today : Option Day) (text name accepted : List ℕ) (stop : Stop) : Type 0 where
  pub is : Report
  pub read : IsReport text is
  pub why : IsListStop today name accepted stop

-- the day that a word is, where there is one
abbrev pub today_of : Option (List ℕ) → Option (Option Day)
today_of None = Some None
today_of (Some word) = option_map Some (day_of word)
