-- What the parts of a run stand for before it prints.
use Rattle.std.specs.Prelude.{◌≡◌, ◌⊎◌, ℕ, Bool, true, false, List, [], ◌∷◌, take, Option, None, Some, Result, Ok, Err, Vec}
use Rattle.std.specs.declared.alloc.Global.{Global}
use Rattle.sdcv_base.specs.Hosts.{Files, grown, CountsOne}
use Rattle.sdcv_top.specs.declared.plans.SavedFile.{SavedFile}
use Rattle.sdcv_top.specs.declared.plans.Plan.{Plan}
use Rattle.sdcv_top.specs.declared.plans.Stop.{Stop}
use Rattle.sdcv_top.specs.declared.plans.Stop.TheVariants as stop
use Rattle.sdcv_top.specs.declared.rans.Ran.{Ran}
use Rattle.sdcv_top.specs.declared.reads.Answer.{Answer}
use Rattle.sdcv_top.specs.declared.reads.Answer.TheVariants as answer
use Rattle.run_ends.specs.declared.statuses.Status.{Status}
use Rattle.run_ends.specs.declared.statuses.Status.TheVariants as ended
use Rattle.run_ends.specs.Statuses.{status_of}
use Rattle.sdcv_top.specs.Outcomes.{Outcome, refusal_of, refused}
use Rattle.sdcv_top.specs.Reads.{ReadOf, Got, Text, Longer, Asked, IsTold, is_builtin, text_of}
use Rattle.netlist_types.specs.declared.sources.Source.{Source}
use Rattle.cell_types.specs.declared.libraries.Library.{Library}
use Rattle.run_options.specs.declared.forms.Forms.{Forms}
use Rattle.sdcv_words.specs.Commands.{Texts}
use Rattle.design_stages.specs.declared.designs.ReadTexts.{ReadTexts}
use Rattle.judgements.specs.Reports.{joined}
use Rattle.design_stages.specs.declared.refusals.Refusal.{Refusal}
use Rattle.design_stages.specs.declared.refusals.Refusal.TheVariants as refusal
use Rattle.design_stages.specs.Stages.{Found}
use Rattle.sdcv_top.specs.Stages.{Due}
use Rattle.sdcv_top.specs.Texts.{Netlist, Cells, Constraints, builtin_library}
use Rattle.sdcv_top.specs.Runs.{DueByReads, AskedSome}

-- the name and the bytes of a file that is saved, if there is one
abbrev pub saved_of : Option SavedFile → List (List ℕ × List ℕ)
saved_of None = []
saved_of (Some c) = (c.name.now, c.bytes.items) ∷ []

-- what is due by a plan
abbrev pub outcome_of : Plan → Outcome
outcome_of plan = record { ending = plan.ending; saved = saved_of plan.saved; printed = joined plan.lines.items; judged = plan.judged; detected = plan.detected }

-- what was saved, where the host tells it
abbrev pub Saved : Type 0
Saved = Option (List (List ℕ × List ℕ))

-- what a read answered
abbrev pub got : Answer → Got
got (answer.Text bytes) = Text bytes.items
got answer.Longer = Longer

-- a refusal stops the run
abbrev pub stop_of : Refusal → Stop
stop_of (refusal.Line line) = stop.Refused line
stop_of refusal.Memory = stop.Memory

-- the count of faults rose in what stopped for the host, and in nothing else
abbrev pub StopCounts : {T : Type 0} → ℕ → ℕ → Result T Stop → Type 0
StopCounts before now (Ok _) = now ≡ before
StopCounts before now (Err (stop.Refused line)) = now ≡ before
StopCounts before now (Err stop.HostFault) = CountsOne before now
StopCounts before now (Err stop.Memory) = now ≡ before

-- one file was read, and its read answered so
pub record IsRead (R : Got → Type 0) (file : ReadOf) (files : Option Files) (before now : Asked) : Type 0 where
  pub answer : Got
  pub told : IsTold files file answer
  pub asked : now ≡ grown before (file.name ∷ [])
  pub so : R answer

-- a read answered, or the run stops; a read refuses nothing by itself
abbrev pub AnswersRead : ReadOf → Option Files → Asked → Asked → Result Answer Stop → Type 0
AnswersRead file files before now (Ok answer) = IsTold files file (got answer) × (now ≡ grown before (file.name ∷ []))
AnswersRead file files before now (Err (stop.Refused line)) = ⊥
AnswersRead file files before now (Err stop.HostFault) = AskedSome (file ∷ []) before now
AnswersRead file files before now (Err stop.Memory) = AskedSome (file ∷ []) before now

-- a stage that reads one file found this, or the run stops
abbrev pub ReadFinds : {A : Type 0} → (Got → Found A → Type 0) → ReadOf → Option Files → Asked → Asked → Result A Stop → Type 0
ReadFinds R file files before now (Ok value) = IsRead (λ answer. R answer (Ok value)) file files before now
ReadFinds R file files before now (Err (stop.Refused line)) = IsRead (λ answer. R answer (Err line.items)) file files before now
ReadFinds R file files before now (Err stop.HostFault) = AskedSome (file ∷ []) before now
ReadFinds R file files before now (Err stop.Memory) = AskedSome (file ∷ []) before now

-- the bytes of what was read
abbrev pub items_of : Result (Vec ℕ Global) Stop → Result (List ℕ) Stop
items_of (Ok text) = Ok text.items
items_of (Err why) = Err why

-- the cells that are known without a file, or want of memory
abbrev pub IsBuiltin : Asked → Asked → Result Library Stop → Type 0
IsBuiltin before now (Ok library) = (library ≡ builtin_library) × (now ≡ before)
IsBuiltin before now (Err stop.Memory) = now ≡ before
IsBuiltin before now (Err why) = ⊥

-- the cells are those that are known without a file, and nothing is read; or those of the file
abbrev pub CellsFindIf : Bool → List ℕ → Option Files → Asked → Asked → Result Library Stop → Type 0
CellsFindIf true name files before now result = IsBuiltin before now result
CellsFindIf false name files before now result = ReadFinds Cells (text_of name) files before now result

abbrev pub CellsFind : List ℕ → Option Files → Asked → Asked → Result Library Stop → Type 0
CellsFind name = CellsFindIf (is_builtin name) name

-- the texts were read one after another, netlist and constraints in their forms, and stand for these
pub record AreRead (names : Texts) (forms : Forms) (files : Option Files) (before now : Asked) (t : ReadTexts) : Type 0 where
  pub after_netlist : Asked
  pub after_cells : Asked
  pub netlist : IsRead (λ answer. Netlist forms.netlist answer (Ok t.source)) (text_of names.netlist) files before after_netlist
  pub cells : CellsFind names.cells files after_netlist after_cells (Ok t.library)
  pub constraints : IsRead (λ answer. Constraints forms.script answer (Ok t.script)) (text_of names.constraints) files after_cells now
  pub forms_are : t.forms ≡ forms

-- the first text that is not found, and those before it
pub data StopsAt (names : Texts) (forms : Forms) (files : Option Files) (before now : Asked) (why : Stop) : Type 0 where
  AtNetlist : ReadFinds (Netlist forms.netlist) (text_of names.netlist) files before now (Err why) → StopsAt names forms files before now why
  AtCells : (mid : Asked) (source : Source) → IsRead (λ answer. Netlist forms.netlist answer (Ok source)) (text_of names.netlist) files before mid
      → CellsFind names.cells files mid now (Err why) → StopsAt names forms files before now why
  AtConstraints : (mid last : Asked) (source : Source) (library : Library)
      → IsRead (λ answer. Netlist forms.netlist answer (Ok source)) (text_of names.netlist) files before mid → CellsFind names.cells files mid last (Ok library)
      → ReadFinds (Constraints forms.script) (text_of names.constraints) files last now (Err why) → StopsAt names forms files before now why

-- the three texts are found, or the run stops at one of them
abbrev pub TextsFind : Texts → Forms → Option Files → Asked → Asked → Result ReadTexts Stop → Type 0
TextsFind names forms files before now (Ok t) = AreRead names forms files before now t
TextsFind names forms files before now (Err why) = StopsAt names forms files before now why

-- without a read, the stages made a plan of what is due, or refused the run with the line that is due, or memory was wanting
unfoldable pub IsPlanned : Due → Result Plan Refusal → Type 0
IsPlanned R (Ok plan) = R [] (outcome_of plan)
IsPlanned R (Err (refusal.Line line)) = R [] (refused line.items)
IsPlanned R (Err refusal.Memory) = Unit {0}

-- the stages made a plan of what is due, or refused the run with the line that is due, or the run stops
unfoldable pub Plans : Due → List ReadOf → Option Files → Asked → Asked → Result Plan Stop → Type 0
Plans R files_of files before now (Ok plan) = DueByReads R files_of files before now (outcome_of plan)
Plans R files_of files before now (Err (stop.Refused line)) = DueByReads R files_of files before now (refused line.items)
Plans R files_of files before now (Err stop.HostFault) = AskedSome files_of before now
Plans R files_of files before now (Err stop.Memory) = AskedSome files_of before now

-- the save failed, and nothing was saved and printed; or all was saved, and a front was printed
abbrev pub IsFront : Saved → Saved → Option (List ℕ) → Option (List ℕ) → List (List ℕ × List ℕ) → List ℕ → Type 0
IsFront saved saved_now printed printed_now due_saved due_printed =
    ((saved_now ≡ saved) × (printed_now ≡ printed))
    ⊎ ((saved_now ≡ grown saved due_saved) × ((n : ℕ) × (printed_now ≡ grown printed (take n due_printed))))

-- what is due was saved and then printed, or the host failed meanwhile
abbrev pub Outputs : {T E : Type 0} → Saved → Saved → Option (List ℕ) → Option (List ℕ) → List (List ℕ × List ℕ) → List ℕ → Result T E → Type 0
Outputs saved saved_now printed printed_now due_saved due_printed (Ok done) =
    (saved_now ≡ grown saved due_saved) × (printed_now ≡ grown printed due_printed)
Outputs saved saved_now printed printed_now due_saved due_printed (Err fault) = IsFront saved saved_now printed printed_now due_saved due_printed

-- all that is due was saved and printed
pub record DeliversAll (saved saved_now : Saved) (printed printed_now : Option (List ℕ)) (due : Outcome) (how : Status) : Type 0 where
  pub status : how ≡ status_of due.ending
  pub saved_is : saved_now ≡ grown saved due.saved
  pub printed_is : printed_now ≡ grown printed due.printed

-- the host failed: nothing was saved and printed, or all was saved and a front printed
pub record DeliversFront (saved saved_now : Saved) (printed printed_now : Option (List ℕ)) (due : Outcome) (how : Status) : Type 0 where
  pub status : how ≡ ended.HostFault
  pub front : IsFront saved saved_now printed printed_now due.saved due.printed

-- what is due was delivered so, and its verdicts, its found pairs and the line of its refusal are handed out
pub record Delivers (saved saved_now : Saved) (printed printed_now : Option (List ℕ)) (due : Outcome) (result : Ran) : Type 0 where
  pub judged : result.judged ≡ due.judged
  pub detected : result.detected ≡ due.detected
  pub refused_is : result.refused ≡ refusal_of due
  pub told : DeliversAll saved saved_now printed printed_now due result.status ⊎ DeliversFront saved saved_now printed printed_now due result.status
