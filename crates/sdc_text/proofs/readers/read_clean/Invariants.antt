use Rattle.std.proofs.Common.{◌≡◌, ℕ, ◌<◌, length}
use Rattle.sdc_words.specs.Commands.{text_of, left_of}
use Rattle.sdc_text.specs.Scripts.{progress_of, progress_from}
use Rattle.sdc_text.proofs.readers.read_clean.Given as goal

abbrev pub invariant-commands : goal.invariant-commands
invariant-commands l = record {
  text : text_of l.commands ≡ l.text;
  told : (m : ℕ) × (length (left_of l.commands) < m) × (progress_of l.form l.text ≡ progress_from m l.form l.text l.progress (left_of l.commands));
}

abbrev pub decreases-commands : goal.decreases-commands
decreases-commands l = length (left_of l.commands)
