-- What a report tells of a netlist and of a script beside its exceptions. A name is shown with a `?` for each byte outside 32 to 126.
use Rattle.std.specs.Prelude.{ℕ, ◌==◌, List, [], ◌∷◌, ◌++◌, map, codes, Option, None, Some, if◌then◌else◌}
use Rattle.std.specs.Fmt.{decimal}
use Rattle.sdcv_base.specs.Shown.{shown}
use Rattle.selected_types.specs.declared.notices.CutCells.{CutCells}
use Rattle.selected_types.specs.declared.notices.Skipped.{Skipped}
use Rattle.selected_types.specs.declared.notices.Unjudged.{Unjudged}
use Rattle.selected_types.specs.declared.notices.Notices.{Notices}
use Rattle.witness_replay.specs.StimulusTexts.{line_of}
use Rattle.report_text.specs.Words.{◌⁀◌, flag_text}

-- the top module or the clock is the one of this name, where it is asked for by it
abbrev pub named_text : List ℕ → List ℕ → List ℕ
named_text word name = word ⁀ codes " " ⁀ shown name

abbrev pub named_texts : List ℕ → Option (List ℕ) → List (List ℕ)
named_texts word None = []
named_texts word (Some name) = named_text word name ∷ []

-- so many cells of this reference are cut out; a path may lead through them where they are open
abbrev pub cut_text : CutCells → List ℕ
cut_text c = codes "cut " ⁀ shown c.cell ⁀ codes " " ⁀ decimal c.count ⁀ flag_text (codes " open") c.open

-- so many commands of this name are passed over
abbrev pub skipped_text : Skipped → List ℕ
skipped_text s = codes "skipped " ⁀ shown s.name ⁀ codes " " ⁀ decimal s.count

abbrev pub skipped_texts : Option (List Skipped) → List (List ℕ)
skipped_texts None = []
skipped_texts (Some skipped) = map skipped_text skipped

-- the command of this line and name is not judged
abbrev pub unjudged_text : Unjudged → List ℕ
unjudged_text u = codes "warning line " ⁀ decimal u.line ⁀ codes " unjudged " ⁀ shown u.name

-- the hold side of so many false paths is not judged, where there is any
abbrev pub hold_text : ℕ → List ℕ
hold_text count = codes "note hold side not judged commands " ⁀ decimal count

abbrev pub hold_texts : ℕ → List (List ℕ)
hold_texts count = if count == 0 then [] else hold_text count ∷ []

-- of a script: the commands that are passed over, those that are not judged, and the false paths whose hold side is not
abbrev pub script_texts : Notices → List (List ℕ)
script_texts n = skipped_texts n.skipped ++ (map unjudged_text n.unjudged ++ hold_texts n.hold_commands)

-- of a netlist: its top module, its clock, and the cells that are cut out, by reference
abbrev pub netlist_texts : Notices → List (List ℕ)
netlist_texts n = named_texts (codes "top") n.top ++ (named_texts (codes "clock") n.clock ++ map cut_text n.cuts)

-- all that is told: of the netlist, and then of the script
abbrev pub notice_texts : Notices → List (List ℕ)
notice_texts n = netlist_texts n ++ script_texts n

abbrev pub notice_lines : Notices → List (List ℕ)
notice_lines n = map line_of (notice_texts n)
