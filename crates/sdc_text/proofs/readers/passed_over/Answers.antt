use Rattle.sdc_words.specs.Commands.{command_at, text_of, left_of}
use Rattle.sdc_text.proofs.ScriptLemmas.{if_passes}
use Rattle.sdc_text.proofs.readers.passed_over.Goals as goal

pub returns-in-Ok-Some : goal.returns-in-Ok-Some
returns-in-Ok-Some c =
    let read = command_at (text_of c.args.commands.now) (left_of c.args.commands.now) in
    if_passes c.args.form.now read c.args.progress.now c.in-Ok-Some.front (rw c.in-Ok-Some.field-0-is at c.in-Ok-Some.ensures)
    c.passes_over.result c.passes_over.ensures
