-- What is found of texts is one: of each text, and of a netlist, its cells and its constraints.
use Rattle.std.proofs.Common.{◌≡◌, ◌∙◌, ℕ, List, Option, Some, Result, Ok, Err, refl, sym, ap}
use Rattle.std.proofs.lemmas.Option.{none-some, same_Some}
use Rattle.verilog_net.specs.Sources.{source_of}
use Rattle.cell_types.specs.declared.libraries.Library.{Library}
use Rattle.cell_types.specs.declared.faults.LibFault.{LibFault}
use Rattle.cell_types.specs.declared.faults.LibFault.TheVariants as fault
use Rattle.cell_lib.specs.Texts.{library_of, Refuses, Reads}
use Rattle.sdc_text.specs.Scripts.{script_of}
use Rattle.fault_lines.specs.Sources.{verilog_line, liberty_line, sdc_line}
use Rattle.run_options.specs.declared.forms.Forms.{Forms}
use Rattle.run_options.specs.declared.forms.ScriptForm.{ScriptForm}
use Rattle.run_options.specs.declared.netlists.NetlistForm.{NetlistForm}
use Rattle.run_options.specs.declared.judging.Judging.{Judging}
use Rattle.run_options.specs.declared.resets.Reset.{Reset}
use Rattle.design_stages.specs.Stages.{Staged}
use Rattle.design_stages.specs.Texts.{Netlist, Cells, Constraints, is_wide}
use Rattle.one_design.specs.Designs.{FindsOne, DesignsOf}
use Rattle.one_design.proofs.Finding.{HasOne, staged_one, then_one, designs_one}

-- a stage that finds what is the one answer of a function finds one
answer_one : {A E : Type 0} (answer : Result A E) (line : E → Option (List ℕ)) → FindsOne (Staged (λ read. answer ≡ read) line)
answer_one {A} {E} answer line value (Ok other) is also =
    let both : (let r : Result A E = Ok other in r) ≡ Ok value = sym also ∙ is in
    let same : other ≡ value = cc in
    ap (λ (a : A). Ok a) same
answer_one {A} {E} answer line value (Err text) is (fault, refused, told) =
    let both : (let r : Result A E = Err fault in r) ≡ Ok value = sym refused ∙ is in
    absurd cc

-- a text is one library
library_same : (text : List ℕ) (x y : Library) → library_of text ≡ Some x.cells → library_of text ≡ Some y.cells → y ≡ x
library_same text x y first second =
    let cells : y.cells ≡ x.cells = same_Some y.cells x.cells (sym second ∙ first) in
    λ i. record { cells = cells i }

-- and a library is refused for want of memory alone
library_only : (text : List ℕ) (x : Library) (e : LibFault) → library_of text ≡ Some x.cells → Refuses text e → e ≡ fault.Memory
library_only text x (fault.Syntax place) is refused = absurd (none-some x.cells (sym refused.0 ∙ is))
library_only text x (fault.Function place) is refused = absurd (none-some x.cells (sym refused.0 ∙ is))
library_only text x (fault.TwiceCell name) is refused = absurd (none-some x.cells (sym refused.0 ∙ is))
library_only text x fault.Memory is refused = refl
library_only text x (fault.Deep place) is refused = absurd (none-some x.cells (sym refused.0 ∙ is))

library_once : (text : List ℕ) → HasOne (Reads text) fault.Memory
library_once text = record { same = library_same text; only = library_only text }

-- the netlist of a text is one
pub netlist_one : (form : NetlistForm) (text : List ℕ) → FindsOne (Netlist form text)
netlist_one form text = answer_one (source_of (is_wide form) text) verilog_line

-- so are its cells
pub cells_one : (text : List ℕ) → FindsOne (Cells text)
cells_one text = staged_one (Reads text) liberty_line fault.Memory refl (library_once text)

-- and its constraints
pub constraints_one : (form : ScriptForm) (text : List ℕ) → FindsOne (Constraints form text)
constraints_one form text = answer_one (script_of form text) sdc_line

-- and the design of three texts with its pairs
pub texts_one : (netlist cells constraints : List ℕ) (forms : Forms) (reset : Reset) (judging : Judging)
    → FindsOne (DesignsOf netlist cells constraints forms reset judging)
unfolding DesignsOf
texts_one netlist cells constraints forms reset judging =
    then_one (Netlist forms.netlist netlist) _ (netlist_one forms.netlist netlist)
    (λ source. then_one (Cells cells) _ (cells_one cells)
    (λ library. then_one (Constraints forms.script constraints) _ (constraints_one forms.script constraints)
    (λ script. designs_one (record { source = source; library = library; script = script; forms = forms }) reset judging)))
