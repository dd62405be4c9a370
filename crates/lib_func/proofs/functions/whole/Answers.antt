use Rattle.std.proofs.Common.{◌≡◌, ◌<◌, length, ap}
use Rattle.std.proofs.lemmas.Result.{err_from_is_err_and}
use Rattle.sdcv_base.specs.Cursors.{rest}
use Rattle.texts.specs.Rules.{most_nested}
use Rattle.lib_words.specs.Blanks.{after_space}
use Rattle.lib_func.proofs.ChainLemmas.{function_ends, function_trails}
use Rattle.lib_func.proofs.HeightLemmas.{function_fails}
use Rattle.lib_func.proofs.functions.whole.Goals as goal

pub returns-in_err-found : goal.returns-in_err-found
unfolding most_nested
returns-in_err-found c =
    let p = err_from_is_err_and c.from_residual.result c.from_residual.ensures.1 in
    rw (p.1, p.2) (function_fails most_nested c.args.text.now c.in_err-found.field-0.0 (rw c.new-c.ensures.rest at c.in_err-found.ensures.value))

pub returns-in-None : goal.returns-in-None
unfolding most_nested
returns-in-None c =
    let ended : length (after_space (rest c.chain.new.c)) ≡ 0 = rw (← c.skip_blanks.ensures.rest) (ap length c.in-None.ensures) in
    function_ends most_nested c.args.text.now _ _ (rw c.new-c.ensures.rest at c.in_ok-found.ensures.value) ended

pub returns-in-Some : goal.returns-in-Some
unfolding most_nested
returns-in-Some c =
    let more : 0 < length (after_space (rest c.chain.new.c)) = rw (← c.skip_blanks.ensures.rest) c.in-Some.ensures.0 in
    function_trails most_nested c.args.text.now _ _ (rw c.new-c.ensures.rest at c.in_ok-found.ensures.value) more
