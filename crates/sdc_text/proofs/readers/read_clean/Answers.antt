use Rattle.std.proofs.Common.{◌≡◌, ◌∙◌, arith, true, false, Ok}
use Rattle.std.proofs.lemmas.Result.{err_from_is_err_and}
use Rattle.sdc_words.specs.Commands.{left_of}
use Rattle.sdc_text.specs.Scripts.{next_at}
use Rattle.sdc_text.proofs.ScriptLemmas.{progress_ends, progress_more, progress_bad}
use Rattle.sdc_text.proofs.readers.read_clean.Goals as goal

pub returns-in_err-more : goal.returns-in_err-more
returns-in_err-more c =
    let (m, room, told) = c.commands.invariant.told in
    let p = err_from_is_err_and c.from_residual.result c.from_residual.ensures.1 in
    rw (p.1, p.2) (λ other. told ∙ progress_bad c.args.form.now c.args.text.now c.commands.progress (left_of c.commands.commands) m _ (omega arith)
    (rw c.commands.invariant.text at (c.in_err-more.ensures.value other)))

pub returns-then-not-more : goal.returns-then-not-more
returns-then-not-more c =
    let (m, room, told) = c.commands.invariant.told in
    let value = rw c.commands.invariant.text at c.in_ok-more.ensures.value in
    let good : next_at c.args.form.now c.args.text.now c.commands.progress (left_of c.commands.commands)
    ≡ Ok ((false, c.take_next.new.progress), left_of c.take_next.new.commands) = cc in
    told ∙ progress_ends c.args.form.now c.args.text.now c.commands.progress (left_of c.commands.commands) m _ _ (omega arith) good

pub commands-preserved : goal.commands-preserved
commands-preserved c =
    let (m, room, told) = c.commands.invariant.told in
    let value = rw c.commands.invariant.text at c.in_ok-more.ensures.value in
    let good : next_at c.args.form.now c.args.text.now c.commands.progress (left_of c.commands.commands)
    ≡ Ok ((true, c.take_next.new.progress), left_of c.take_next.new.commands) = cc in
    let less = c.in_ok-more.ensures.shorter c.if-not-more.false in
    let (n, one, step) = progress_more c.args.form.now c.args.text.now c.commands.progress (left_of c.commands.commands) m _ _ (omega arith) good in
    record {
      text = c.in_ok-more.ensures.text ∙ c.commands.invariant.text;
      told = (n, omega arith, told ∙ step);
    }
