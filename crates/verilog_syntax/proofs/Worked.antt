-- Ports of netlists that are read wide and of others, worked out by hand.
use Rattle.std.proofs.Common.{◌≡◌, true, false, [], ◌∷◌, refl}
use Rattle.std.specs.Prelude.{codes, Ok, Err, Some, None}
use Rattle.texts.specs.Fronts.{closed_from}
use Rattle.netlist_types.specs.declared.sources.Dir.TheVariants as dir
use Rattle.verilog_words.specs.declared.faults.SyntaxFault.TheVariants.{Syntax, Unsupported}
use Rattle.verilog_words.specs.Blanks.{blank_len, after_blanks, begins_directive, skipped}
use Rattle.verilog_words.specs.Marks.{opens_list}
use Rattle.verilog_words.specs.Names.{name_at, identifier_len}
use Rattle.verilog_words.specs.Words.{word_of, module_word, gate_word, is_behaviour, is_strength}
use Rattle.verilog_syntax.specs.declared.declarations.Head.TheVariants as head
use Rattle.verilog_syntax.specs.Items.{supported_at}
use Rattle.verilog_syntax.specs.Lists.{list_from}
use Rattle.verilog_syntax.specs.Parts.{range_or_none}
use Rattle.verilog_syntax.specs.Ports.{next_dir, dir_at, turn_at, inherited_at, spelled_at, adds_port, listed_at, head_at}

-- inout is a direction of a netlist that is read wide, and of no other
inout_is_a_direction_of_a_wide_netlist : next_dir true (codes "inout v") ≡ Some dir.Inout
unfolding next_dir word_of module_word identifier_len
inout_is_a_direction_of_a_wide_netlist = refl

inout_is_no_direction_of_another : next_dir false (codes "inout v") ≡ None
unfolding next_dir word_of module_word identifier_len
inout_is_no_direction_of_another = refl

-- an item of a wide netlist may begin with it; where another begins with it, that is told as left out
item_of_a_wide_netlist_begins_with_inout : supported_at true 7 (codes "inout v") ≡ Ok (codes "inout v")
unfolding supported_at word_of module_word identifier_len
item_of_a_wide_netlist_begins_with_inout = refl

inout_is_left_out_of_another : supported_at false 7 (codes "inout v") ≡ Err (Unsupported 0 (codes "inout"))
unfolding supported_at word_of module_word identifier_len
inout_is_left_out_of_another = refl

-- (inout v): a port list of a wide netlist; of another it breaks the grammar at its first word
inout_port_is_declared : head_at true 9 (codes "(inout v)")
    ≡ Ok (head.Ports (record { dir = dir.Inout; range = None; name = record { offset = 7; name = codes "v" } } ∷ []), [])
unfolding head_at listed_at list_from adds_port inherited_at turn_at dir_at next_dir spelled_at range_or_none name_at opens_list word_of module_word gate_word is_behaviour is_strength identifier_len after_blanks skipped blank_len closed_from begins_directive
inout_port_is_declared = refl

inout_port_is_refused : head_at false 9 (codes "(inout v)") ≡ Err (Syntax 1)
unfolding head_at listed_at list_from next_dir spelled_at name_at opens_list word_of module_word gate_word is_behaviour is_strength identifier_len after_blanks skipped blank_len closed_from begins_directive
inout_port_is_refused = refl
