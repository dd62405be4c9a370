use Rattle.std.proofs.Common.{◌≡◌, take}
use Rattle.clap_words.specs.declared.apps.Aim.TheVariants.{Read}
use Rattle.clap_words.specs.Apps.{Makes, with_positions}
use Rattle.clap_words.proofs.apps.with_positions.Given as goal

abbrev pub invariant-loop-row : goal.invariant-loop-row
invariant-loop-row l = l.fn.aim ≡ Read → Makes l.fn.start (with_positions (take l.row-index l.positions)) l.command
