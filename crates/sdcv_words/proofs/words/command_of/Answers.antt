use Rattle.std.proofs.Common.{◌≡◌, Option, map}
use Rattle.std.specs.Prelude.{IfSome, string_bytes}
use Rattle.std.specs.Option.{option_map}
use Rattle.std.proofs.lemmas.Result.{IfOk-weaker}
use Rattle.sdcv_words.specs.declared.commands.Command.{Command as TheCommand}
use Rattle.sdcv_words.specs.Commands.{seen_command}
use Rattle.sdcv_words.specs.Ranges.{IsInRange}
use Rattle.sdcv_words.specs.Words.{command}
use Rattle.sdcv_words.proofs.Ranges.{found_in_range}
use Rattle.sdcv_words.proofs.words.command_of.Goals as goal

pub returns-clause-in_range : goal.returns-clause-in_range
returns-clause-in_range c =
    let words = map string_bytes c.args.words.now in
    IfOk-weaker c.named.result (λ (found : Option TheCommand). option_map seen_command found ≡ command words)
    (λ (found : Option TheCommand). IfSome (option_map seen_command found) IsInRange)
    (λ found named. found_in_range words (option_map seen_command found) named) c.named.ensures
