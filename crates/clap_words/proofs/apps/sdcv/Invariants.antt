use Rattle.std.proofs.Common.{◌≡◌, take}
use Rattle.clap_words.specs.declared.apps.Aim.TheVariants.{Read}
use Rattle.clap_words.specs.Apps.{IsCommand, top_app, with_commands}
use Rattle.clap_words.proofs.apps.sdcv.Given as goal

abbrev pub invariant-loop-row : goal.invariant-loop-row
invariant-loop-row l = l.fn.aim ≡ Read → IsCommand (with_commands (take l.row-index l.row-items) top_app) l.command
