-- How the stages of two runs lead on whose reads begin alike, where the first one is not refused.
use Rattle.std.proofs.Common.{◌≡◌, ◌∙◌, ℕ, Bool, true, false, List, [], ◌∷◌, ◌++◌, Ok, Err, inl, inr, refl, ap, sym, subst}
use Rattle.std.proofs.lemmas.List.{append_assoc}
use Rattle.netlist_types.specs.declared.sources.Source.{Source}
use Rattle.cell_types.specs.declared.libraries.Library.{Library}
use Rattle.run_options.specs.declared.forms.Forms.{Forms}
use Rattle.script_types.specs.declared.scripts.Script.{Script}
use Rattle.fault_lines.specs.declared.sources.Origin.{Origin}
use Rattle.fault_lines.specs.declared.sources.Origin.TheVariants as origin
use Rattle.design_stages.specs.declared.designs.ReadTexts.{ReadTexts}
use Rattle.design_stages.specs.Stages.{Found}
use Rattle.sdcv_words.specs.Commands.{Texts as TextNames}
use Rattle.sdcv_top.specs.Outcomes.{Outcome, refused}
use Rattle.sdcv_top.specs.Reads.{Got, Text, Longer, is_builtin}
use Rattle.sdcv_top.specs.Stages.{Due, After, AfterText}
use Rattle.sdcv_top.specs.Texts.{Unless, Netlist, Cells, Constraints, AfterCellsIf, AfterCells, AfterTexts, builtin_library}
use Rattle.one_design.specs.Designs.{FindsOne}
use Rattle.one_design.proofs.Finding.{found_same, never_both}
use Rattle.one_design.proofs.Reading.{netlist_one, cells_one, constraints_one}
use Rattle.replay_law.proofs.Going.{goes_on, leads_on}

-- what is due is no refusal
abbrev pub IsNoRefusal : Outcome → Type 0
IsNoRefusal due = (line : List ℕ) → ¬ (due ≡ refused line)

-- a value that a stage found, after which this is due
pub record HasFound {A : Type 0} (Finds : Found A → Type 0) (next : A → Due) (reads : List Got) (due : Outcome) : Type 0 where
  pub value : A
  pub found : Finds (Ok value)
  pub goes : next value reads due

-- a stage led on with a value by the front of the reads, and some are left; any run whose reads have this front is led on with that
-- value, and what comes after it is left
pub record IsLed {A : Type 0} (stage : (A → Due) → Due) (next : A → Due) (reads : List Got) (due : Outcome) : Type 1 where
  pub value : A
  pub front : List Got
  pub rest : List Got
  pub parts : front ++ rest ≡ reads
  pub goes : next value rest due
  pub on : (other : A → Due) (more : List Got) (again : Outcome) → stage other (front ++ more) again → other value more again
  pub back : (other : A → Due) (more : List Got) (again : Outcome) → other value more again → stage other (front ++ more) again

-- a stage whose run is not refused found a value
pub has_found : {A : Type 0} (Finds : Found A → Type 0) (next : A → Due) (reads : List Got) (due : Outcome) → IsNoRefusal due
    → After Finds next reads due → HasFound Finds next reads due
unfolding After
has_found Finds next reads due well (inl (value, found, rest)) = record { value = value; found = found; goes = rest }
has_found Finds next reads due well (inr (line, found, none, refusal)) = absurd (well line refusal)

-- a stage that finds one value leads on with what it found
pub goes_same : {A : Type 0} (Finds : Found A → Type 0) (value : A) (other : A → Due) (reads : List Got) (again : Outcome) → FindsOne Finds
    → Finds (Ok value) → After Finds other reads again → other value reads again
goes_same {A} Finds value other reads again one found run =
    goes_on Finds other value reads again (λ (a : A) is. found_same value a (one value (Ok a) found is))
    (λ (line : List ℕ) is. never_both value line (one value (Err line) found is)) run

after_led : {A : Type 0} (Finds : Found A → Type 0) (next : A → Due) (reads : List Got) (due : Outcome) → FindsOne Finds → IsNoRefusal due
    → After Finds next reads due → IsLed (After Finds) next reads due
after_led Finds next reads due one well run =
    let here = has_found Finds next reads due well run in
    record {
      value = here.value;
      front = [];
      rest = reads;
      parts = refl;
      goes = here.goes;
      on = λ other more again run. goes_same Finds here.value other more again one here.found run;
      back = λ other more again run. leads_on Finds other here.value more again here.found run;
    }

-- so does one that reads a text
text_led : {A : Type 0} (Finds : Got → Found A → Type 0) (next : A → Due) (reads : List Got) (due : Outcome) → ((got : Got) → FindsOne (Finds got))
    → IsNoRefusal due → AfterText Finds next reads due → IsLed (AfterText Finds) next reads due
unfolding AfterText
text_led Finds next [] due one well run = absurd run
text_led Finds next (got ∷ reads) due one well run =
    let led = after_led (Finds got) next reads due (one got) well run in
    record {
      value = led.value;
      front = got ∷ led.front;
      rest = led.rest;
      parts = ap (λ (xs : List Got). got ∷ xs) led.parts;
      goes = led.goes;
      on = λ other more again run. led.on other more again run;
      back = λ other more again run. led.back other more again run;
    }

-- what is read of a text that is not too long is one, where its reader finds one
unless_one : {A : Type 0} (from : Origin) (Reads : List ℕ → Found A → Type 0) → ((text : List ℕ) → FindsOne (Reads text)) → (got : Got)
    → FindsOne (Unless from Reads got)
unless_one from Reads one (Text text) value found is also = one text value found is also
unless_one from Reads one Longer value found is also = absurd cc

-- the cells lead on so, whether a text of them is read or none
cells_led : (known : Bool) (next : Library → Due) (reads : List Got) (due : Outcome) → IsNoRefusal due → AfterCellsIf known next reads due
    → IsLed (AfterCellsIf known) next reads due
unfolding AfterCellsIf
cells_led true next reads due well run = record {
  value = builtin_library;
  front = [];
  rest = reads;
  parts = refl;
  goes = run;
  on = λ other more again run. run;
  back = λ other more again run. run;
}
cells_led false next reads due well run = text_led Cells next reads due (unless_one origin.Liberty _ cells_one) well run

named_cells_led : (name : List ℕ) (next : Library → Due) (reads : List Got) (due : Outcome) → IsNoRefusal due → AfterCells name next reads due
    → IsLed (AfterCells name) next reads due
unfolding AfterCells
named_cells_led name next reads due well run = cells_led (is_builtin name) next reads due well run

-- what is due after a netlist and its cells, and after the netlist alone
abbrev AfterTwo : Forms → (ReadTexts → Due) → Source → Library → Due
AfterTwo forms next source library =
    AfterText (Constraints forms.script) (λ (script : Script). next (record { source = source; library = library; script = script; forms = forms }))

abbrev AfterOne : List ℕ → Forms → (ReadTexts → Due) → Source → Due
AfterOne cells forms next source = AfterCells cells (AfterTwo forms next source)

-- three fronts of a list, one after another
three_parts : (a b c more : List Got) → (a ++ (b ++ c)) ++ more ≡ a ++ (b ++ (c ++ more))
three_parts a b c more = append_assoc a (b ++ c) more ∙ ap (λ (xs : List Got). a ++ xs) (append_assoc b c more)

-- three texts lead on with what is read of them
pub texts_led : (names : TextNames) (forms : Forms) (next : ReadTexts → Due) (reads : List Got) (due : Outcome) → IsNoRefusal due
    → AfterTexts names forms next reads due → IsLed (AfterTexts names forms) next reads due
unfolding AfterTexts
texts_led names forms next reads due well run =
    let first = text_led (Netlist forms.netlist) (AfterOne names.cells forms next) reads due (unless_one origin.Verilog _ (netlist_one forms.netlist)) well run in
    let second = named_cells_led names.cells (AfterTwo forms next first.value) first.rest due well first.goes in
    let third = text_led (Constraints forms.script) (λ (script : Script). next (record { source = first.value; library = second.value; script = script; forms = forms })) second.rest due
    (unless_one origin.Sdc _ (constraints_one forms.script)) well second.goes in
    let AfterThree : (ReadTexts → Due) → Script → Due =
    λ other script. other (record { source = first.value; library = second.value; script = script; forms = forms }) in
    record {
      value = record { source = first.value; library = second.value; script = third.value; forms = forms };
      front = first.front ++ (second.front ++ third.front);
      rest = third.rest;
      parts = three_parts first.front second.front third.front third.rest
          ∙ ap (λ (xs : List Got). first.front ++ (second.front ++ xs)) third.parts
          ∙ ap (λ (xs : List Got). first.front ++ xs) second.parts ∙ first.parts;
      goes = third.goes;
      on = λ other more again run.
          let parted = subst (λ (xs : List Got). AfterTexts names forms other xs again) (three_parts first.front second.front third.front more) run in
          let cells = first.on (AfterOne names.cells forms other) (second.front ++ (third.front ++ more)) again parted in
          let script = second.on (AfterTwo forms other first.value) (third.front ++ more) again cells in
          third.on (AfterThree other) more again script;
      back = λ other more again run.
          let script = third.back (AfterThree other) more again run in
          let cells = second.back (AfterTwo forms other first.value) (third.front ++ more) again script in
          let parted = first.back (AfterOne names.cells forms other) (second.front ++ (third.front ++ more)) again cells in
          subst (λ (xs : List Got). AfterTexts names forms other xs again) (sym (three_parts first.front second.front third.front more)) parted;
    }
