use Rattle.std.proofs.Common.{◌≡◌, take}
use Rattle.clap_words.specs.declared.apps.Aim.TheVariants.{Read}
use Rattle.clap_words.specs.Apps.{Makes, with_options}
use Rattle.clap_words.proofs.apps.with_options.Given as goal

abbrev pub invariant-loop-row : goal.invariant-loop-row
invariant-loop-row l = l.fn.aim ≡ Read → Makes l.fn.start (with_options (take l.row-index l.options)) l.command
