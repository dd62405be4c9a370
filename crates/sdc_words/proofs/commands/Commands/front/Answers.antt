use Rattle.std.proofs.Common.{sym}
use Rattle.sdc_words.specs.Commands.{text_of, left_of}
use Rattle.sdc_words.proofs.CommandLemmas.{is_front}
use Rattle.sdc_words.proofs.commands.Commands.front.Goals as goal

pub returns : goal.returns
unfolding text_of left_of
returns c =
    let text = c.at_command-begin.ensures.text in
    is_front _ _ _ c.at_command-begin.result.line c.in_ok-first.first c.in_ok-one.field-0 _ _
    c.at_command-begin.ensures.left (rw text at c.at_command-begin.result.counted) (sym (rw c.rest.ensures at c.if-is_empty.ensures))
    (rw text at c.in_ok-first.ensures.value) c.in_ok-one.ensures
