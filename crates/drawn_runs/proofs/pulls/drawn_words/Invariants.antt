use Rattle.std.proofs.Common.{◌≡◌, length}
use Rattle.drawn_runs.proofs.pulls.drawn_words.Given as goal

abbrev pub invariant-draws : goal.invariant-draws
invariant-draws l = length l.words ≡ l.counter
