-- How the three texts are read one after another, by a host that tells the same files meanwhile.
use Rattle.std.proofs.Common.{◌≡◌, Option, Result, Ok, Err, subst, sym, ◌∙◌}
use Rattle.sdcv_base.specs.Hosts.{Files}
use Rattle.netlist_types.specs.declared.sources.Source.{Source}
use Rattle.cell_types.specs.declared.libraries.Library.{Library}
use Rattle.design_stages.specs.declared.designs.ReadTexts.{ReadTexts}
use Rattle.run_options.specs.declared.forms.Forms.{Forms}
use Rattle.sdcv_words.specs.Commands.{Texts}
use Rattle.sdcv_top.specs.declared.plans.Stop.{Stop}
use Rattle.sdcv_top.specs.Reads.{Asked, text_of}
use Rattle.sdcv_top.specs.Texts.{Netlist, Constraints}
use Rattle.sdcv_top.specs.Plans.{IsRead, ReadFinds, CellsFind, AreRead, StopsAt, AtCells, AtConstraints, TextsFind}

-- all three are found
pub all_read : (names : Texts) (forms : Forms) (files one_files two_files : Option Files) (before one two now : Asked) (t : ReadTexts)
    → IsRead (λ answer. Netlist forms.netlist answer (Ok t.source)) (text_of names.netlist) files before one
    → one_files ≡ files → CellsFind names.cells one_files one two (Ok t.library)
    → two_files ≡ one_files → IsRead (λ answer. Constraints forms.script answer (Ok t.script)) (text_of names.constraints) two_files two now
    → t.forms ≡ forms → AreRead names forms files before now t
all_read names forms files one_files two_files before one two now t read same cells same_too script forms_are = record {
  after_netlist = one;
  after_cells = two;
  netlist = read;
  cells = subst (λ (f : Option Files). CellsFind names.cells f one two (Ok t.library)) same cells;
  constraints = subst (λ (f : Option Files). IsRead (λ answer. Constraints forms.script answer (Ok t.script)) (text_of names.constraints) f two now)
      (same_too ∙ same) script;
  forms_are = forms_are;
}

-- the cells are not found
pub no_cells : (names : Texts) (forms : Forms) (files one_files : Option Files) (before one now : Asked) (source : Source) (why : Stop)
    → IsRead (λ answer. Netlist forms.netlist answer (Ok source)) (text_of names.netlist) files before one
    → one_files ≡ files → CellsFind names.cells one_files one now (Err why) → StopsAt names forms files before now why
no_cells names forms files one_files before one now source why read same stops =
    AtCells one source read (subst (λ (f : Option Files). CellsFind names.cells f one now (Err why)) same stops)

-- the constraints are not found
pub no_constraints : (names : Texts) (forms : Forms) (files one_files two_files : Option Files) (before one two now : Asked) (source : Source) (library : Library)
    (why : Stop) → IsRead (λ answer. Netlist forms.netlist answer (Ok source)) (text_of names.netlist) files before one
    → one_files ≡ files → CellsFind names.cells one_files one two (Ok library)
    → two_files ≡ one_files → ReadFinds (Constraints forms.script) (text_of names.constraints) two_files two now (Err why) → StopsAt names forms files before now why
no_constraints names forms files one_files two_files before one two now source library why read same cells same_too stops =
    AtConstraints one two source library read (subst (λ (f : Option Files). CellsFind names.cells f one two (Ok library)) same cells)
    (subst (λ (f : Option Files). ReadFinds (Constraints forms.script) (text_of names.constraints) f two now (Err why)) (same_too ∙ same) stops)

-- an error is that of the read that stopped
pub texts_stop : (names : Texts) (forms : Forms) (files : Option Files) (before now : Asked) (result : Result ReadTexts Stop) (why : Stop) → result ≡ Err why
    → StopsAt names forms files before now why → TextsFind names forms files before now result
texts_stop names forms files before now result why is stops =
    subst (λ (r : Result ReadTexts Stop). TextsFind names forms files before now r) (sym is) stops
