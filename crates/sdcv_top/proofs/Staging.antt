-- How each stage leads to what is due: a stage that finds a value goes before what is due by it, and one that stops is the last.
use Rattle.std.proofs.Common.{◌≡◌, ℕ, Bool, true, false, List, [], ◌∷◌, ◌++◌, length, Option, Result, Ok, Err, refl, sym, subst, ◌∙◌, inl, inr}
use Rattle.sdcv_base.specs.Hosts.{Files}
use Rattle.cell_types.specs.declared.libraries.Library.{Library}
use Rattle.design_stages.specs.declared.refusals.Refusal.{Refusal}
use Rattle.design_stages.specs.declared.refusals.Refusal.TheVariants as refusal
use Rattle.netlist_types.specs.declared.sources.Source.{Source}
use Rattle.script_types.specs.declared.scripts.Script.{Script}
use Rattle.run_options.specs.declared.judging.Judging.{Judging}
use Rattle.design_stages.specs.declared.designs.ReadTexts.{ReadTexts}
use Rattle.run_options.specs.declared.resets.Reset.{Reset}
use Rattle.design_stages.specs.declared.designs.Designed.{Designed}
use Rattle.design_stages.specs.Designs.{Designs}
use Rattle.design_stages.specs.Stages.{Found, Finds}
use Rattle.run_options.specs.declared.forms.Forms.{Forms}
use Rattle.sdcv_words.specs.Commands.{Texts}
use Rattle.sdcv_top.specs.Due.{demo_reset, narrow_forms}
use Rattle.sdcv_top.specs.declared.plans.Plan.{Plan}
use Rattle.sdcv_top.specs.declared.plans.Stop.{Stop}
use Rattle.sdcv_top.specs.declared.plans.Stop.TheVariants as stop
use Rattle.sdcv_top.specs.Outcomes.{Outcome, refused}
use Rattle.sdcv_top.specs.Reads.{ReadOf, Got, Asked, text_of, is_builtin, cell_reads_if, cell_reads, text_reads}
use Rattle.sdcv_top.specs.Stages.{Due, After, AfterText, Last}
use Rattle.sdcv_top.specs.Texts.{Netlist, Cells, Constraints, AfterCellsIf, AfterCells, AfterTexts, builtin_library}
use Rattle.sdcv_top.specs.Runs.{DueByReads}
use Rattle.sdcv_top.specs.Plans.{outcome_of, stop_of, StopCounts, IsRead, ReadFinds, IsBuiltin, CellsFindIf, CellsFind}
use Rattle.sdcv_top.specs.Plans.{AreRead, StopsAt, AtNetlist, AtCells, AtConstraints, IsPlanned, Plans}
use Rattle.sdcv_top.proofs.Steps.{grown-nil, grown-more, asked_none, asked_more, asked_wider}

due_found : {A : Type 0} (R : Found A → Type 0) (next : A → Due) (files_of : List ReadOf) (files : Option Files) (before now : Asked) (due : Outcome)
    (value : A) → R (Ok value) → DueByReads (next value) files_of files before now due → DueByReads (After R next) files_of files before now due
unfolding After
due_found R next files_of files before now due value found rest =
    record { reads = rest.reads; told = rest.told; asked = rest.asked; is_due = inl (value, found, rest.is_due) }

-- a stage that reads nothing found a value
pub found_ok : {A : Type 0} (R : Found A → Type 0) (next : A → Due) (files_of : List ReadOf) (files : Option Files) (before now : Asked) (value : A)
    (result : Result Plan Stop) → R (Ok value) → Plans (next value) files_of files before now result
    → Plans (After R next) files_of files before now result
unfolding Plans
found_ok R next files_of files before now value (Ok plan) found rest =
    due_found R next files_of files before now (outcome_of plan) value found rest
found_ok R next files_of files before now value (Err (stop.Refused line)) found rest =
    due_found R next files_of files before now (refused line.items) value found rest
found_ok R next files_of files before now value (Err stop.HostFault) found rest = rest
found_ok R next files_of files before now value (Err stop.Memory) found rest = rest

-- a stage that reads nothing refused the run
pub found_err : {A : Type 0} (R : Found A → Type 0) (next : A → Due) (files_of : List ReadOf) (files : Option Files) (before now : Asked) (why : Refusal)
    → Finds R (Err why) → now ≡ before → Plans (After R next) files_of files before now (Err (stop_of why))
unfolding After Plans
found_err R next files_of files before now (refusal.Line line) found same =
    record { reads = []; told = tt; asked = same ∙ sym (grown-nil before); is_due = inr (line.items, found, refl, refl) }
found_err R next files_of files before now refusal.Memory found same = asked_none files_of before now same

due_read : {A : Type 0} (R : Got → Found A → Type 0) (next : A → Due) (file : ReadOf) (files_of : List ReadOf) (files : Option Files)
    (before mid now : Asked) (due : Outcome) (value : A) → IsRead (λ answer. R answer (Ok value)) file files before mid
    → DueByReads (next value) files_of files mid now due → DueByReads (AfterText R next) (file ∷ files_of) files before now due
unfolding AfterText After
due_read R next file files_of files before mid now due value read rest =
    record {
      reads = read.answer ∷ rest.reads;
      told = (read.told, rest.told);
      asked = grown-more file files_of (length rest.reads) before mid now read.asked rest.asked;
      is_due = inl (value, read.so, rest.is_due);
    }

read_before : {A : Type 0} (R : Got → Found A → Type 0) (next : A → Due) (file : ReadOf) (files_of : List ReadOf) (files : Option Files)
    (before mid now : Asked) (value : A) (result : Result Plan Stop) → IsRead (λ answer. R answer (Ok value)) file files before mid
    → Plans (next value) files_of files mid now result → Plans (AfterText R next) (file ∷ files_of) files before now result
unfolding Plans
read_before R next file files_of files before mid now value (Ok plan) read rest =
    due_read R next file files_of files before mid now (outcome_of plan) value read rest
read_before R next file files_of files before mid now value (Err (stop.Refused line)) read rest =
    due_read R next file files_of files before mid now (refused line.items) value read rest
read_before R next file files_of files before mid now value (Err stop.HostFault) read rest = asked_more file files_of before mid now read.asked rest
read_before R next file files_of files before mid now value (Err stop.Memory) read rest = asked_more file files_of before mid now read.asked rest

-- a stage that reads a text found a value, and the host tells the same files
pub read_ok : {A : Type 0} (R : Got → Found A → Type 0) (next : A → Due) (file : ReadOf) (files_of : List ReadOf) (files mid_files : Option Files)
    (before mid now : Asked) (value : A) (result : Result Plan Stop) → IsRead (λ answer. R answer (Ok value)) file files before mid
    → mid_files ≡ files → Plans (next value) files_of mid_files mid now result → Plans (AfterText R next) (file ∷ files_of) files before now result
read_ok R next file files_of files mid_files before mid now value result read same rest =
    read_before R next file files_of files before mid now value result read
    (subst (λ (f : Option Files). Plans (next value) files_of f mid now result) same rest)

-- a stage that reads a text stopped
pub read_err : {A : Type 0} (R : Got → Found A → Type 0) (next : A → Due) (file : ReadOf) (files_of : List ReadOf) (files : Option Files)
    (before now : Asked) (why : Stop) → ReadFinds R file files before now (Err why) → Plans (AfterText R next)
    (file ∷ files_of) files before now (Err why)
unfolding AfterText After Plans
read_err R next file files_of files before now (stop.Refused line) read =
    record { reads = read.answer ∷ []; told = (read.told, tt); asked = read.asked; is_due = inr (line.items, read.so, refl, refl) }
read_err R next file files_of files before now stop.HostFault some = asked_wider file files_of before now some
read_err R next file files_of files before now stop.Memory some = asked_wider file files_of before now some

-- the cells are found, and the host tells the same files
cells_if : (is : Bool) (name : List ℕ) (next : Library → Due) (more : List ReadOf) (files mid_files : Option Files) (before mid now : Asked)
    (library : Library) (result : Result Plan Stop) → CellsFindIf is name files before mid (Ok library) → mid_files ≡ files
    → Plans (next library) more mid_files mid now result
    → Plans (AfterCellsIf is next) (cell_reads_if is name ++ more) files before now result
unfolding AfterCellsIf
cells_if true name next more files mid_files before mid now library result (is, asked) same rest =
    let told = subst (λ (f : Option Files). Plans (next library) more f mid now result) same rest in
    let begun = subst (λ (o : Asked). Plans (next library) more files o now result) asked told in
    subst (λ (l : Library). Plans (next l) more files before now result) is begun
cells_if false name next more files mid_files before mid now library result read same rest =
    read_ok Cells next (text_of name) more files mid_files before mid now library result read same rest

pub cells_ok : (name : List ℕ) (next : Library → Due) (more : List ReadOf) (files mid_files : Option Files) (before mid now : Asked)
    (library : Library) (result : Result Plan Stop) → CellsFind name files before mid (Ok library) → mid_files ≡ files
    → Plans (next library) more mid_files mid now result → Plans (AfterCells name next) (cell_reads name ++ more) files before now result
unfolding AfterCells cell_reads
cells_ok name = cells_if (is_builtin name) name

-- the cells are not found
no_builtin : (name : List ℕ) (next : Library → Due) (more : List ReadOf) (files : Option Files) (before now : Asked) (why : Stop)
    → IsBuiltin before now (Err why) → Plans (AfterCellsIf true next) more files before now (Err why)
unfolding AfterCellsIf Plans
no_builtin name next more files before now (stop.Refused line) found = absurd found
no_builtin name next more files before now stop.HostFault found = absurd found
no_builtin name next more files before now stop.Memory same = asked_none more before now same

none_if : (is : Bool) (name : List ℕ) (next : Library → Due) (more : List ReadOf) (files : Option Files) (before now : Asked) (why : Stop)
    → CellsFindIf is name files before now (Err why) → Plans (AfterCellsIf is next) (cell_reads_if is name ++ more) files before now (Err why)
unfolding AfterCellsIf
none_if true name next more files before now why found = no_builtin name next more files before now why found
none_if false name next more files before now why read = read_err Cells next (text_of name) more files before now why read

pub cells_err : (name : List ℕ) (next : Library → Due) (more : List ReadOf) (files : Option Files) (before now : Asked) (why : Stop)
    → CellsFind name files before now (Err why) → Plans (AfterCells name next) (cell_reads name ++ more) files before now (Err why)
unfolding AfterCells cell_reads
cells_err name = none_if (is_builtin name) name

-- the three texts are found, and the host tells the same files
texts_as : (names : Texts) (forms : Forms) (next : ReadTexts → Due) (more : List ReadOf) (files mid_files : Option Files) (before mid now : Asked)
    (t : ReadTexts) (result : Result Plan Stop) → AreRead names forms files before mid t → mid_files ≡ files
    → Plans (next (record t { forms = forms })) more mid_files mid now result
    → Plans (AfterTexts names forms next) (text_reads names more) files before now result
unfolding AfterTexts text_reads
texts_as names forms next more files mid_files before mid now t result read same rest =
    read_ok (Netlist forms.netlist) _ _ _ files files before read.after_netlist now t.source result read.netlist refl
    (cells_ok names.cells _ _ files files read.after_netlist read.after_cells now t.library result read.cells refl
    (read_ok (Constraints forms.script) _ _ _ files mid_files read.after_cells mid now t.script result read.constraints same rest))

pub texts_ok : (names : Texts) (forms : Forms) (next : ReadTexts → Due) (more : List ReadOf) (files mid_files : Option Files)
    (before mid now : Asked) (t : ReadTexts) (result : Result Plan Stop) → AreRead names forms files before mid t → mid_files ≡ files
    → Plans (next t) more mid_files mid now result → Plans (AfterTexts names forms next) (text_reads names more) files before now result
texts_ok names forms next more files mid_files before mid now t result read same rest =
    texts_as names forms next more files mid_files before mid now t result read same
    (subst (λ (f : Forms). Plans (next (record t { forms = f })) more mid_files mid now result) read.forms_are rest)

-- the run stops at one of them
pub texts_err : (names : Texts) (forms : Forms) (next : ReadTexts → Due) (more : List ReadOf) (files : Option Files) (before now : Asked)
    (why : Stop) → StopsAt names forms files before now why → Plans (AfterTexts names forms next) (text_reads names more) files before now (Err why)
unfolding AfterTexts text_reads
texts_err names forms next more files before now why (AtNetlist stops) = read_err (Netlist forms.netlist) _ _ _ files before now why stops
texts_err names forms next more files before now why (AtCells mid source read stops) =
    read_ok (Netlist forms.netlist) _ _ _ files files before mid now source (Err why) read refl (cells_err names.cells _ _ files mid now why stops)
texts_err names forms next more files before now why (AtConstraints mid last source library read cells stops) =
    read_ok (Netlist forms.netlist) _ _ _ files files before mid now source (Err why) read refl
    (cells_ok names.cells _ _ files files mid last now library (Err why) cells refl
    (read_err (Constraints forms.script) _ _ _ files last now why stops))

-- what is planned without a read is planned
pub planned_ok : (R : Due) (files_of : List ReadOf) (files : Option Files) (before now : Asked) (plan : Plan) → IsPlanned R (Ok plan) → now ≡ before
    → Plans R files_of files before now (Ok plan)
unfolding IsPlanned Plans
planned_ok R files_of files before now plan is_due same =
    record { reads = []; told = tt; asked = same ∙ sym (grown-nil before); is_due = is_due }

pub planned_err : (R : Due) (files_of : List ReadOf) (files : Option Files) (before now : Asked) (why : Refusal) → IsPlanned R (Err why) → now ≡ before
    → Plans R files_of files before now (Err (stop_of why))
unfolding IsPlanned Plans
planned_err R files_of files before now (refusal.Line line) is_due same =
    record { reads = []; told = tt; asked = same ∙ sym (grown-nil before); is_due = is_due }
planned_err R files_of files before now refusal.Memory is_due same = asked_none files_of before now same

-- the run stops for want of memory
pub plan_memory : (R : Due) (files_of : List ReadOf) (files : Option Files) (before now : Asked) → now ≡ before
    → Plans R files_of files before now (Err stop.Memory)
unfolding Plans
plan_memory R files_of files before now same = asked_none files_of before now same

-- without a read: a stage found a value, and the rest is planned
pub after_ok : {A : Type 0} (R : Found A → Type 0) (next : A → Due) (value : A) (result : Result Plan Refusal) → R (Ok value)
    → IsPlanned (next value) result → IsPlanned (After R next) result
unfolding After IsPlanned
after_ok R next value (Ok plan) found rest = inl (value, found, rest)
after_ok R next value (Err (refusal.Line line)) found rest = inl (value, found, rest)
after_ok R next value (Err refusal.Memory) found rest = tt

-- and a stage refused the run
pub after_err : {A : Type 0} (R : Found A → Type 0) (next : A → Due) (why : Refusal) → Finds R (Err why) → IsPlanned (After R next) (Err why)
unfolding After IsPlanned
after_err R next (refusal.Line line) found = inr (line.items, found, refl, refl)
after_err R next refusal.Memory found = tt

-- a stage's error is the error of the run
pub stops : (R : Due) (files_of : List ReadOf) (files : Option Files) (before now : Asked) (result : Result Plan Stop) (why : Stop) → result ≡ Err why
    → Plans R files_of files before now (Err why) → Plans R files_of files before now result
stops R files_of files before now result why is plans = subst (λ (r : Result Plan Stop). Plans R files_of files before now r) (sym is) plans

-- without a read: memory was wanting
pub planned_memory : (R : Due) → IsPlanned R (Err refusal.Memory)
unfolding IsPlanned
planned_memory R = tt

-- the last stage made a plan of what is due
pub last_planned : (R : Outcome → Type 0) (plan : Plan) → R (outcome_of plan) → IsPlanned (Last R) (Ok plan)
unfolding IsPlanned
last_planned R plan is_due = (refl, is_due)

pub last_due : (R : Outcome → Type 0) (files_of : List ReadOf) (files : Option Files) (before now : Asked) (plan : Plan) → R (outcome_of plan)
    → now ≡ before → Plans (Last R) files_of files before now (Ok plan)
last_due R files_of files before now plan is_due same = planned_ok (Last R) files_of files before now plan (last_planned R plan is_due) same

-- the refusal of a stage is that of the run
pub planned_by : (R : Due) (result : Result Plan Refusal) (why : Refusal) → result ≡ Err why → IsPlanned R (Err why) → IsPlanned R result
planned_by R result why is planned = subst (λ (r : Result Plan Refusal). IsPlanned R r) (sym is) planned

-- the word `builtin` stands for the cells that are known without a file
pub cells_builtin : (name : List ℕ) (files : Option Files) (before : Asked) (library : Library) → is_builtin name ≡ true → library ≡ builtin_library
    → CellsFind name files before before (Ok library)
cells_builtin name files before library is same =
    subst (λ (b : Bool). CellsFindIf b name files before before (Ok library)) (sym is) (same, refl)

-- a text is read as an equal one is
pub finds_text : {A : Type 0} (R : List ℕ → Found A → Type 0) (text other : List ℕ) (result : Result A Refusal) → text ≡ other → Finds (R text) result
    → Finds (R other) result
finds_text {A} R text other result same found = subst (λ (t : List ℕ). Finds (R t) result) same found

-- a design is found over the cells that are known without a file, in the reset of generated designs
pub demo_designs : (source : Source) (library : Library) (script : Script) (reset : Reset) (judging : Judging) (result : Result Designed Refusal) → library ≡ builtin_library
    → reset ≡ demo_reset → Finds (Designs (record { source = source; library = library; script = script; forms = narrow_forms }) reset judging) result
    → Finds (Designs (record { source = source; library = builtin_library; script = script; forms = narrow_forms }) demo_reset judging) result
demo_designs source library script reset judging result cells held found =
    let with_cells = subst (λ (l : Library). Finds (Designs (record { source = source; library = l; script = script; forms = narrow_forms }) reset judging) result) cells found in
    subst (λ (r : Reset). Finds (Designs (record { source = source; library = builtin_library; script = script; forms = narrow_forms }) r judging) result) held with_cells

-- what is planned by a text is planned by an equal one
pub planned_text : (R : List ℕ → Due) (text other : List ℕ) (result : Result Plan Refusal) → text ≡ other → IsPlanned (R text) result
    → IsPlanned (R other) result
planned_text R text other result same planned = subst (λ (t : List ℕ). IsPlanned (R t) result) same planned

-- the count of faults in a run that stops
pub count_stops : {T : Type 0} (before mid now : ℕ) (result : Result T Stop) (why : Stop) → result ≡ Err why → mid ≡ before
    → StopCounts mid now (let r : Result T Stop = Err why in r) → StopCounts before now result
count_stops {T} before mid now result why is same counts =
    let here = subst (λ (n : ℕ). StopCounts n now (let r : Result T Stop = Err why in r)) same counts in
    subst (λ (r : Result T Stop). StopCounts before now r) (sym is) here

-- a stage that refuses the run counts no fault, and neither does want of memory
pub refusal_counts : {T : Type 0} (before now : ℕ) (result : Result T Stop) (why : Refusal) → result ≡ Err (stop_of why) → now ≡ before
    → StopCounts before now result
refusal_counts {T} before now result (refusal.Line line) is same = subst (λ (r : Result T Stop). StopCounts before now r) (sym is) same
refusal_counts {T} before now result refusal.Memory is same = subst (λ (r : Result T Stop). StopCounts before now r) (sym is) same

pub memory_counts : {T : Type 0} (before now : ℕ) (result : Result T Stop) → result ≡ Err stop.Memory → now ≡ before → StopCounts before now result
memory_counts {T} before now result is same = subst (λ (r : Result T Stop). StopCounts before now r) (sym is) same
