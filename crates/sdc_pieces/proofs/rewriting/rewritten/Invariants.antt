use Rattle.std.proofs.Common.{◌≡◌, ◌-◌, ◌++◌, length, drop}
use Rattle.sdc_words.specs.Commands.{text_of, left_of}
use Rattle.sdc_pieces.specs.Pieces.{rewritten}
use Rattle.sdc_pieces.proofs.PieceLemmas.{still}
use Rattle.sdc_pieces.proofs.rewriting.rewritten.Given as goal

abbrev pub invariant-loop-place : goal.invariant-loop-place
invariant-loop-place l = record {
  text : text_of l.commands ≡ l.text;
  told : rewritten l.text l.bodies ≡ l.new.items ++ still (length l.text - l.place) l.text (left_of l.commands) (drop l.place l.bodies);
}
