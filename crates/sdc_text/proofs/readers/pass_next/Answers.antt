use Rattle.sdc_words.specs.Commands.{text_of, left_of}
use Rattle.sdc_text.proofs.ScriptLemmas.{next_passed}
use Rattle.sdc_text.proofs.readers.pass_next.Goals as goal

pub returns-in_ok-push-in-Some-clause-value : goal.returns-in_ok-push-in-Some-clause-value
returns-in_ok-push-in-Some-clause-value c =
    next_passed c.args.form.now (text_of c.args.commands.now) c.args.progress.now c.push.new.self (left_of c.args.commands.now) _ c.in-Some.line _ c.args.what
    c.requires c.in_ok-line.ensures.value c.in-Some.is c.in_ok-push-in-Some.ensures
