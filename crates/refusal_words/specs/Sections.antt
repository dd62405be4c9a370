-- The parts of a run that refuse.
use Rattle.std.specs.Prelude.{ℕ, List, [], ◌∷◌, codes, find, Option}
use Rattle.std.specs.Option.{option_map}
use Rattle.std.specs.Str.{bytes_eq}
use Rattle.refusal_words.specs.declared.sections.FileNames.{FileNames as TheNames}
use Rattle.refusal_words.specs.declared.sections.Section.{Section as TheSection}
use Rattle.refusal_words.specs.declared.sections.Source.{Source}
use Rattle.refusal_words.specs.declared.sections.Source.TheVariants as source

-- the names of the files that a run reads, and the word that names the top module
pub record FileNames : Type 0 where
  pub netlist : List ℕ
  pub cells : List ℕ
  pub script : List ℕ
  pub further : List ℕ
  pub top : Option (List ℕ)

-- the same of the program, without its references
abbrev pub seen_names : TheNames → FileNames
seen_names n = record {
  netlist = n.netlist.now;
  cells = n.cells.now;
  script = n.script.now;
  further = n.further.now;
  top = option_map (λ t. t.now) n.top;
}

-- the word of a part, the file that its refusals are about, and its section of the page
pub record Section : Type 0 where
  pub word : List ℕ
  pub source : Source
  pub anchor : List ℕ

abbrev pub seen_section : TheSection → Section
seen_section s = record { word = s.word.now; source = s.source; anchor = s.anchor.now }

abbrev pub section : List ℕ → Source → List ℕ → Section
section word source anchor = record { word = word; source = source; anchor = anchor }

unfoldable pub section_rows : List Section
section_rows =
    section (codes "verilog") source.Netlist (codes "verilog")
    ∷ section (codes "liberty") source.Cells (codes "liberty")
    ∷ section (codes "sdc") source.Script (codes "sdc")
    ∷ section (codes "link") source.Netlist (codes "link")
    ∷ section (codes "expand") source.Script (codes "expand")
    ∷ section (codes "detect") source.Netlist (codes "detect")
    ∷ section (codes "mend") source.Script (codes "mend")
    ∷ section (codes "assist") source.Further (codes "assist")
    ∷ section (codes "cert") source.Further (codes "check")
    ∷ section (codes "rejected") source.Further (codes "check")
    ∷ section (codes "pair") source.Script (codes "replay")
    ∷ section (codes "stimulus") source.Further (codes "replay")
    ∷ section (codes "replay") source.Further (codes "replay")
    ∷ []

-- the row of a word
abbrev pub section_in : List Section → List ℕ → Option Section
section_in rows word = find (λ s. bytes_eq word s.word) rows

-- the name of a file
abbrev pub file_of : FileNames → Source → List ℕ
file_of names source.Netlist = names.netlist
file_of names source.Cells = names.cells
file_of names source.Script = names.script
file_of names source.Further = names.further
