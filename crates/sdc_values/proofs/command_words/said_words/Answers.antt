use Rattle.std.proofs.Common.{◌∙◌, ap, arith, drop}
use Rattle.std.proofs.lemmas.Result.{err_from_is_err_and}
use Rattle.std.proofs.lemmas.List.{at_drop_all, drop-drop, length-drop}
use Rattle.sdc_values.specs.Lines.{said_from}
use Rattle.sdc_values.proofs.LineLemmas.{said_none, said_more, said_bad}
use Rattle.sdc_values.proofs.command_words.said_words.Goals as goal

pub words-preserved : goal.words-preserved
words-preserved c =
    let (m, room, told) = c.words.invariant.told in
    let ws = c.args.words.now in
    let left = length-drop c.words.place ws in
    let some = c.in_ok-taken.ensures.some in
    let within = rw c.words_after.ensures at c.in_ok-taken.ensures.within in
    let (n, one, step) = said_more c.args.nesting c.args.vars.now c.args.line c.words.said m (drop c.words.place ws) c.add_word.new.said _ (omega arith) (omega arith)
    (rw c.words_after.ensures at c.in_ok-taken.ensures.value) in
    record {
      within = omega arith;
      told = (n, omega arith, told ∙ step ∙ ap (said_from n c.args.nesting c.args.vars.now c.args.line c.add_word.new.said) (drop-drop c.in_ok-taken.taken c.words.place ws));
    }

pub returns-in_err-taken : goal.returns-in_err-taken
returns-in_err-taken c =
    let (m, room, told) = c.words.invariant.told in
    let ws = c.args.words.now in
    let left = length-drop c.words.place ws in
    let p = err_from_is_err_and c.from_residual.result c.from_residual.ensures.1 in
    rw (p.1, p.2) (λ other. told ∙ said_bad c.args.nesting c.args.vars.now c.args.line c.words.said m (drop c.words.place ws) _ (omega arith) (omega arith)
    (rw c.words_after.ensures at (c.in_err-taken.ensures.value other)))

pub returns : goal.returns
returns c =
    let (m, room, told) = c.words.invariant.told in
    told ∙ at_drop_all (said_from m c.args.nesting c.args.vars.now c.args.line c.words.said) c.args.words.now c.words.place (omega arith)
    ∙ said_none c.args.nesting c.args.vars.now c.args.line c.words.said m
