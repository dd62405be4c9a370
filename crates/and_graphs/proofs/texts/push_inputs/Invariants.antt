use Rattle.std.proofs.Common.{◌≡◌, ◌++◌}
use Rattle.and_graphs.specs.Texts.{input_rows}
use Rattle.and_graphs.proofs.texts.push_inputs.Given as goal

abbrev pub invariant-loop-k : goal.invariant-loop-k
invariant-loop-k l = l.text.items ≡ l.fn.text.items ++ input_rows l.k
