use Rattle.std.proofs.Common.{◌≡◌, ◌++◌, take}
use Rattle.std.specs.List.{flat_map}
use Rattle.answer_lines.specs.Texts.{bytes_of_lines}
use Rattle.found_pairs.specs.Tellings.{pair_lines}
use Rattle.found_pairs.proofs.told_pairs.add_pairs.Given as goal

abbrev pub invariant-loop-pair : goal.invariant-loop-pair
invariant-loop-pair l = bytes_of_lines l.lines.items ≡ bytes_of_lines l.initial.lines.items ++ flat_map pair_lines (take l.pair-index l.tried)
