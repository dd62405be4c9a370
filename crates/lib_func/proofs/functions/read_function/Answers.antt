use Rattle.std.proofs.Common.{◌≤◌, sym, arith}
use Rattle.texts.specs.Rules.{most_nested}
use Rattle.lib_func.specs.Trees.{height}
use Rattle.lib_func.proofs.HeightLemmas.{low_some, low_none, low_high}
use Rattle.lib_func.proofs.Growing.{function_same}
use Rattle.lib_func.proofs.functions.read_function.Goals as goal

pub returns-in-Ok-clause-low : goal.returns-in-Ok-clause-low
returns-in-Ok-clause-low c =
    let found = c.in-Ok.found in
    let measured = found.measured in
    let low = found.low in
    let fits : height found.expr ≤ most_nested = omega arith in
    sym (low_some c.args.text.now found.expr c.in-Ok.ensures fits)

pub returns-in-Ok-clause-same : goal.returns-in-Ok-clause-same
returns-in-Ok-clause-same c = function_same c.args.text.now c.in-Ok.found.expr c.in-Ok.ensures

pub returns-in-Err-NoFunction-clause-low : goal.returns-in-Err-NoFunction-clause-low
returns-in-Err-NoFunction-clause-low c = sym (low_none c.args.text.now (rw c.in-Err-NoFunction.field-0-is at c.in-Err-NoFunction.ensures))

pub returns-in-Err-Deep-clause-low : goal.returns-in-Err-Deep-clause-low
returns-in-Err-Deep-clause-low c = sym (low_high c.args.text.now (rw c.in-Err-Deep.field-0-is at c.in-Err-Deep.ensures))
