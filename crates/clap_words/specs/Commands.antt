-- The commands that words may name, each with its positions and its options.
use Rattle.std.specs.Prelude.{ℕ, List, [], ◌∷◌, map, codes}
use Rattle.clap_words.specs.declared.commands.Form.{Form}
use Rattle.clap_words.specs.declared.commands.Form.TheVariants.{Flag, Valued, Needed}
use Rattle.clap_words.specs.declared.commands.OptionRow.{OptionRow as TheOptionRow}
use Rattle.clap_words.specs.declared.commands.CommandRow.{CommandRow as TheCommandRow}

abbrev pub Text : Type 0
Text = List ℕ

-- an option: its id, and how it stands in the words
pub record OptionRow : Type 0 where
  pub id : Text
  pub form : Form

-- a command: its name, the ids of its positions in order, and its options
pub record CommandRow : Type 0 where
  pub name : Text
  pub positions : List Text
  pub options : List OptionRow

abbrev pub flag : Text → OptionRow
flag id = record { id = id; form = Flag }

abbrev pub valued : Text → OptionRow
valued id = record { id = id; form = Valued }

abbrev pub needed : Text → OptionRow
needed id = record { id = id; form = Needed }

abbrev pub verify_row : CommandRow
verify_row = record {
  name = codes "verify";
  positions = codes "V" ∷ codes "L" ∷ codes "S" ∷ [];
  options = needed (codes "out") ∷ flag (codes "hazard") ∷ valued (codes "lag") ∷ flag (codes "hold") ∷ valued (codes "free")
      ∷ valued (codes "clock") ∷ valued (codes "top") ∷ valued (codes "skip") ∷ flag (codes "strict") ∷ flag (codes "json")
      ∷ valued (codes "reset") ∷ valued (codes "reset-cycles") ∷ valued (codes "depth") ∷ valued (codes "budget")
      ∷ valued (codes "inv-depth") ∷ valued (codes "assist") ∷ [];
}

abbrev pub check_row : CommandRow
check_row = record {
  name = codes "check";
  positions = codes "V" ∷ codes "L" ∷ codes "S" ∷ codes "CERT" ∷ [];
  options = flag (codes "hazard") ∷ valued (codes "lag") ∷ flag (codes "hold") ∷ valued (codes "free")
      ∷ valued (codes "clock") ∷ valued (codes "top") ∷ valued (codes "skip") ∷ flag (codes "strict") ∷ valued (codes "reset")
      ∷ valued (codes "reset-cycles") ∷ [];
}

abbrev pub replay_row : CommandRow
replay_row = record {
  name = codes "replay";
  positions = codes "V" ∷ codes "L" ∷ codes "S" ∷ codes "REPORT" ∷ codes "PAIR" ∷ [];
  options = flag (codes "hazard") ∷ valued (codes "lag") ∷ flag (codes "hold") ∷ valued (codes "free")
      ∷ valued (codes "clock") ∷ valued (codes "top") ∷ valued (codes "skip") ∷ flag (codes "strict") ∷ valued (codes "reset")
      ∷ valued (codes "reset-cycles") ∷ [];
}

abbrev pub demo_row : CommandRow
demo_row = record { name = codes "demo"; positions = codes "SEED" ∷ codes "SIZE" ∷ []; options = [] }

abbrev pub detect_row : CommandRow
detect_row = record {
  name = codes "detect";
  positions = codes "V" ∷ codes "L" ∷ codes "S" ∷ [];
  options = needed (codes "out") ∷ flag (codes "hazard") ∷ valued (codes "free") ∷ valued (codes "clock") ∷ valued (codes "top")
      ∷ valued (codes "skip") ∷ valued (codes "reset") ∷ valued (codes "reset-cycles") ∷ valued (codes "depth") ∷ valued (codes "budget")
      ∷ valued (codes "inv-depth") ∷ valued (codes "bound") ∷ flag (codes "hold") ∷ [];
}

abbrev pub aiger_row : CommandRow
aiger_row = record {
  name = codes "aiger";
  positions = codes "V" ∷ codes "L" ∷ codes "S" ∷ codes "PAIR" ∷ [];
  options = needed (codes "out") ∷ flag (codes "symbols") ∷ valued (codes "lag") ∷ flag (codes "hold") ∷ valued (codes "free")
      ∷ valued (codes "clock") ∷ valued (codes "top") ∷ valued (codes "skip") ∷ flag (codes "strict") ∷ valued (codes "reset")
      ∷ valued (codes "reset-cycles") ∷ [];
}

abbrev pub mend_row : CommandRow
mend_row = record {
  name = codes "mend";
  positions = codes "V" ∷ codes "L" ∷ codes "S" ∷ [];
  options = needed (codes "out") ∷ flag (codes "hazard") ∷ valued (codes "lag") ∷ flag (codes "hold") ∷ valued (codes "free")
      ∷ valued (codes "clock") ∷ valued (codes "top") ∷ valued (codes "skip") ∷ flag (codes "strict") ∷ valued (codes "reset")
      ∷ valued (codes "reset-cycles") ∷ valued (codes "depth") ∷ valued (codes "budget") ∷ valued (codes "inv-depth") ∷ valued (codes "assist") ∷ [];
}

abbrev pub command_rows : List CommandRow
command_rows = verify_row ∷ check_row ∷ replay_row ∷ demo_row ∷ detect_row ∷ aiger_row ∷ mend_row ∷ []

-- a row of the program's table without its references
abbrev pub seen_option : TheOptionRow → OptionRow
seen_option row = record { id = row.id.now; form = row.form }

abbrev pub seen_row : TheCommandRow → CommandRow
seen_row row = record {
  name = row.name.now;
  positions = map (λ position. position.id.now) row.positions.now;
  options = map seen_option row.options.now;
}
