-- Refusals in words, worked by hand.
use Rattle.std.proofs.Common.{◌≡◌, ◌++◌, List, ℕ, refl}
use Rattle.std.specs.Fmt.{digits}
use Rattle.std.specs.Prelude.{codes, Option, None, Some}
use Rattle.refusal_words.specs.Causes.{filled}
use Rattle.refusal_words.specs.Designs.{design_rows, top_rows}
use Rattle.refusal_words.specs.Further.{further_rows}
use Rattle.refusal_words.specs.Numbers.{number_in}
use Rattle.refusal_words.specs.Sections.{FileNames, section_rows}
use Rattle.refusal_words.specs.Sources.{text_rows}
use Rattle.refusal_words.specs.Tellings.{
  told_refusal,
  told_text,
  cause_text,
  remedy_text,
  file_to_read,
  found_of,
  is_of_top,
  row_of,
  row_among,
  place_text,
  quote_text,
  quoted,
}

abbrev names : FileNames
names = record { netlist = codes "b.v"; cells = codes "c.lib"; script = codes "u2.sdc"; further = codes "more"; top = Some (codes "cpu") }

-- a line is told so, the text of its file being this
abbrev Tells : List ℕ → Option (List ℕ) → List ℕ → List ℕ → Type 0
Tells line text where_and_why what_to_do =
    told_refusal (codes "sdcv") names line text ≡ Some (codes "sdcv: " ++ where_and_why ++ codes "\nsdcv: " ++ what_to_do ++ codes "\n")

netlist_at : Tells (codes "refused verilog 1 Syntax 78") (Some (codes "module t (d, clk);\n  input d, clk;  wire[3:0] b;\n  DFF s (.D(d), .CK(clk), .Q(bd[5]));\nendmodule\n"))
    (codes "b.v:3:30: not of the grammar, or declared nowhere: \"bd[5]));\"")
    (codes "mend the text there (docs/REFUSALS.md#verilog)")
unfolding told_text cause_text remedy_text found_of is_of_top row_of row_among place_text quote_text quoted filled text_rows design_rows further_rows top_rows section_rows number_in digits
netlist_at = refl

netlist_unread : Tells (codes "refused verilog 1 Syntax 77") None
    (codes "b.v: byte 77: not of the grammar, or declared nowhere")
    (codes "mend the text there (docs/REFUSALS.md#verilog)")
unfolding told_text cause_text remedy_text found_of is_of_top row_of row_among place_text quote_text quoted filled text_rows design_rows further_rows top_rows section_rows number_in digits
netlist_unread = refl

netlist_word : Tells (codes "refused verilog 2 Unsupported 10 reg") (Some (codes "module t;\nreg\tq;"))
    (codes "b.v:2:1: reg is not read: \"reg?q;\"")
    (codes "synthesise or cut it (docs/REFUSALS.md#verilog)")
unfolding told_text cause_text remedy_text found_of is_of_top row_of row_among place_text quote_text quoted filled text_rows design_rows further_rows top_rows section_rows number_in digits
netlist_word = refl

netlist_long : Tells (codes "refused verilog 0 TooLong") None
    (codes "b.v: longer than its limit")
    (codes "split it (docs/REFUSALS.md#verilog)")
unfolding told_text cause_text remedy_text found_of is_of_top row_of row_among place_text quote_text quoted filled text_rows design_rows further_rows top_rows section_rows number_in digits
netlist_long = refl

cells_at_the_end : Tells (codes "refused liberty 1 Syntax 11") (Some (codes "library (a)"))
    (codes "c.lib:1:12: not of the grammar, at the end")
    (codes "close what stands open (docs/REFUSALS.md#liberty)")
unfolding told_text cause_text remedy_text found_of is_of_top row_of row_among place_text quote_text quoted filled text_rows design_rows further_rows top_rows section_rows number_in digits
cells_at_the_end = refl

cells_of_forty_bytes : Tells (codes "refused liberty 2 Function 0") (Some (codes "\"A A A A A A A A A A A A A A A A A A A +\" ;"))
    (codes "c.lib:1:1: no Boolean function: \"\"A A A A A A A A A A A A A A A A A A A +\"")
    (codes "write it with ! & | ^ and parentheses (docs/REFUSALS.md#liberty)")
unfolding told_text cause_text remedy_text found_of is_of_top row_of row_among place_text quote_text quoted filled text_rows design_rows further_rows top_rows section_rows number_in digits
cells_of_forty_bytes = refl

script_number : Tells (codes "refused sdc 5 BadNumber 2 17") None
    (codes "u2.sdc:2: the number 17")
    (codes "a multiplier is 1 to 16, a case value 0 or 1 (docs/REFUSALS.md#sdc)")
unfolding told_text cause_text remedy_text found_of is_of_top row_of row_among place_text quote_text quoted filled text_rows design_rows further_rows top_rows section_rows number_in digits
script_number = refl

script_variable : Tells (codes "refused sdc 3 UnknownVariable 4 p") None
    (codes "u2.sdc:4: p is set nowhere before")
    (codes "set it, or write \\$ (docs/REFUSALS.md#sdc)")
unfolding told_text cause_text remedy_text found_of is_of_top row_of row_among place_text quote_text quoted filled text_rows design_rows further_rows top_rows section_rows number_in digits
script_variable = refl

link_cell : Tells (codes "refused link 1 UnknownCell NAND2X1") None
    (codes "b.v: NAND2X1 is no module, and no cell of c.lib")
    (codes "give the library that has it, add the module or cut the cell (docs/REFUSALS.md#link)")
unfolding told_text cause_text remedy_text found_of is_of_top row_of row_among place_text quote_text quoted filled text_rows design_rows further_rows top_rows section_rows number_in digits
link_cell = refl

link_limit : Tells (codes "refused link 13 Limit nets 200001") None
    (codes "b.v: more than 200000 nets")
    (codes "verify a block (docs/REFUSALS.md#link)")
unfolding told_text cause_text remedy_text found_of is_of_top row_of row_among place_text quote_text quoted filled text_rows design_rows further_rows top_rows section_rows number_in digits
link_limit = refl

link_setting : Tells (codes "refused link 14 BadSetting rst") None
    (codes "b.v: rst is no data input bit")
    (codes "write each bit's name (docs/REFUSALS.md#link)")
unfolding told_text cause_text remedy_text found_of is_of_top row_of row_among place_text quote_text quoted filled text_rows design_rows further_rows top_rows section_rows number_in digits
link_setting = refl

link_top : Tells (codes "refused link 14 BadSetting cpu") None
    (codes "b.v: cpu is no module")
    (codes "name a module (docs/REFUSALS.md#link)")
unfolding told_text cause_text remedy_text found_of is_of_top row_of row_among place_text quote_text quoted filled text_rows design_rows further_rows top_rows section_rows number_in digits
link_top = refl

expand_clocks : Tells (codes "refused expand 1 TwoClocks 3 12") None
    (codes "u2.sdc:3: clocks on lines 3 and 12")
    (codes "judge one, cut the other (docs/REFUSALS.md#expand)")
unfolding told_text cause_text remedy_text found_of is_of_top row_of row_among place_text quote_text quoted filled text_rows design_rows further_rows top_rows section_rows number_in digits
expand_clocks = refl

expand_reset : Tells (codes "refused expand 4 CaseOnReset 5 rst_n") None
    (codes "u2.sdc:5: rst_n is a reset too")
    (codes "drop one (docs/REFUSALS.md#expand)")
unfolding told_text cause_text remedy_text found_of is_of_top row_of row_among place_text quote_text quoted filled text_rows design_rows further_rows top_rows section_rows number_in digits
expand_reset = refl

detect_pairs : Tells (codes "refused detect 1 Limit pairs 10001") None
    (codes "b.v: more than 10000 pairs")
    (codes "split the constraints (docs/REFUSALS.md#detect)")
unfolding told_text cause_text remedy_text found_of is_of_top row_of row_among place_text quote_text quoted filled text_rows design_rows further_rows top_rows section_rows number_in digits
detect_pairs = refl

mend_unread : Tells (codes "refused mend 1 Unread") None
    (codes "u2.sdc: the mended text is not read as meant")
    (codes "tell the project, with the three texts (docs/REFUSALS.md#mend)")
unfolding told_text cause_text remedy_text found_of is_of_top row_of row_among place_text quote_text quoted filled text_rows design_rows further_rows top_rows section_rows number_in digits
mend_unread = refl

assist_twice : Tells (codes "refused assist 2 Twice 7 r0") None
    (codes "more:7: the clause names r0 twice")
    (codes "drop one (docs/REFUSALS.md#assist)")
unfolding told_text cause_text remedy_text found_of is_of_top row_of row_among place_text quote_text quoted filled text_rows design_rows further_rows top_rows section_rows number_in digits
assist_twice = refl

assist_many : Tells (codes "refused assist 3 Many 8193") None
    (codes "more: more than 8192 clauses")
    (codes "leave some out (docs/REFUSALS.md#assist)")
unfolding told_text cause_text remedy_text found_of is_of_top row_of row_among place_text quote_text quoted filled text_rows design_rows further_rows top_rows section_rows number_in digits
assist_many = refl

cert_long : Tells (codes "refused cert 0 TooLong") None
    (codes "more: longer than its limit")
    (codes "split it (docs/REFUSALS.md#check)")
unfolding told_text cause_text remedy_text found_of is_of_top row_of row_among place_text quote_text quoted filled text_rows design_rows further_rows top_rows section_rows number_in digits
cert_long = refl

cert_form : Tells (codes "rejected 1 Form 12") (Some (codes "sdcv-cert 2\njunk\n"))
    (codes "more:2:1: rejected 1 Form 12: \"junk\"")
    (codes "take the texts and words of its run (docs/REFUSALS.md#check)")
unfolding told_text cause_text remedy_text found_of is_of_top row_of row_among place_text quote_text quoted filled text_rows design_rows further_rows top_rows section_rows number_in digits
cert_form = refl

cert_pair : Tells (codes "rejected 8 Pair 3 NotEmpty") None
    (codes "more: rejected 8 Pair 3 NotEmpty")
    (codes "take the texts and words of its run (docs/REFUSALS.md#check)")
unfolding told_text cause_text remedy_text found_of is_of_top row_of row_among place_text quote_text quoted filled text_rows design_rows further_rows top_rows section_rows number_in digits
cert_pair = refl

pair_number : Tells (codes "refused pair 1 NoPair 12") None
    (codes "u2.sdc: fewer than 12 pairs")
    (codes "take a number of the report (docs/REFUSALS.md#replay)")
unfolding told_text cause_text remedy_text found_of is_of_top row_of row_among place_text quote_text quoted filled text_rows design_rows further_rows top_rows section_rows number_in digits
pair_number = refl

stimulus_line : Tells (codes "refused stimulus 2 Form 40") None
    (codes "more:40: line 40 is none of a stimulus")
    (codes "take the block as printed (docs/REFUSALS.md#replay)")
unfolding told_text cause_text remedy_text found_of is_of_top row_of row_among place_text quote_text quoted filled text_rows design_rows further_rows top_rows section_rows number_in digits
stimulus_line = refl

replay_cycle : Tells (codes "refused replay 2 NotReset 0") None
    (codes "more: another value in cycle 0")
    (codes "take the texts and words of its run (docs/REFUSALS.md#replay)")
unfolding told_text cause_text remedy_text found_of is_of_top row_of row_among place_text quote_text quoted filled text_rows design_rows further_rows top_rows section_rows number_in digits
replay_cycle = refl

a_line_that_is_no_refusal : told_refusal (codes "sdcv") names (codes "accepted 9 of 9") None ≡ None
unfolding found_of is_of_top row_of row_among text_rows design_rows further_rows
a_line_that_is_no_refusal = refl

a_file_that_is_read_again : file_to_read names (codes "refused sdc 1 Syntax 4") ≡ Some (codes "u2.sdc")
unfolding found_of is_of_top row_of row_among text_rows design_rows further_rows section_rows
a_file_that_is_read_again = refl

a_line_is_told_without_its_text : file_to_read names (codes "refused sdc 5 BadNumber 2 17") ≡ None
unfolding found_of is_of_top row_of row_among text_rows design_rows further_rows section_rows
a_line_is_told_without_its_text = refl
