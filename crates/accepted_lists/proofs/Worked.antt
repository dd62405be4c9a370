-- Lines of a list, and what they accept, worked out by hand.
use Rattle.std.proofs.Common.{◌≡◌, true, false, Some, None, refl}
use Rattle.std.specs.Prelude.{codes}
use Rattle.glob.specs.Match.{matches_whole, star}
use Rattle.report_rows.specs.Words.{number_in}
use Rattle.report_rows.specs.declared.reports.PairRow.{PairRow}
use Rattle.report_rows.specs.declared.reports.Word.TheVariants.{Refuted, Undecided}
use Rattle.accepted_lists.specs.Entries.{entry_words, before_remark, pair_entry, gate_words, short_words, entry_with, end_of_cause, open_verdict, is_note}
use Rattle.accepted_lists.specs.Accepted.{fits, is_count_within, said_in}
use Rattle.accepted_lists.specs.declared.pair_entries.PairEntry.{PairEntry}

abbrev both_bits : PairEntry
both_bits = record {
  start = codes "a_reg[*]";
  end = codes "odd_reg";
  count = Some 2;
  hazard = false;
  lag = None;
  kind = codes "multi 2";
  verdict = Refuted;
}

a_line_of_a_gate_is_an_entry : pair_entry (entry_words (codes "a_reg[*] -> odd_reg 2 refuted offset 0 command 3 multi 2 first 5")) ≡ Some both_bits
unfolding before_remark gate_words entry_with end_of_cause open_verdict number_in
a_line_of_a_gate_is_an_entry = refl

a_remark_is_left_out : pair_entry (entry_words (codes "m1/* -> y* 12 lag 2 false undecided  # late")) ≡ Some (record {
  start = codes "m1/*";
  end = codes "y*";
  count = Some 12;
  hazard = false;
  lag = Some 2;
  kind = codes "false";
  verdict = Undecided;
})
unfolding before_remark short_words entry_with open_verdict number_in
a_remark_is_left_out = refl

a_justified_pair_is_no_entry : pair_entry (entry_words (codes "a -> b false justified")) ≡ None
unfolding before_remark short_words open_verdict
a_justified_pair_is_no_entry = refl

abbrev third_bit : PairRow
third_bit = record {
  number = 7;
  command = 3;
  kind = codes "multi 2";
  start = codes "a_reg[2]";
  end = codes "odd_reg";
  verdict = Refuted;
  why = codes "offset 1";
}

a_bit_is_fitted : fits both_bits third_bit ≡ true
unfolding matches_whole star
a_bit_is_fitted = refl

a_group_that_grows_is_not_accepted : is_count_within (Some 2) 3 2 ≡ false
a_group_that_grows_is_not_accepted = refl

a_warning_is_a_note : is_note (entry_words (codes "command 1 line 2 warning nothing nosuch*")) ≡ true
unfolding before_remark
a_warning_is_a_note = refl

a_note_is_known_without_its_place : said_in (codes "command 1 line 2 warning nothing nosuch*") ≡ codes "warning nothing nosuch*"
a_note_is_known_without_its_place = refl

other_words_are_no_note : is_note (entry_words (codes "u_path a_reg")) ≡ false
unfolding before_remark
other_words_are_no_note = refl
