use Rattle.std.proofs.Common.{◌≡◌, drop}
use Rattle.lib_words.specs.Runs.{run_len, run_from}
use Rattle.lib_words.proofs.runs.run_len.Given as goal

abbrev pub invariant-loop-i : goal.invariant-loop-i
invariant-loop-i l = run_len l.text ≡ run_from l.i (drop l.i l.text)
