use Rattle.std.proofs.Common.{◌∙◌, arith}
use Rattle.std.proofs.lemmas.Result.{err_from_is_err_and}
use Rattle.std.proofs.lemmas.List.{at_drop_all}
use Rattle.sdcv_base.specs.Steps.{after_all}
use Rattle.sdcv_base.proofs.StepLemmas.{after_all_more, after_all_bad, after_all_none}
use Rattle.sdc_text.proofs.gathers.take_all.Goals as goal

pub loop-word-preserved : goal.loop-word-preserved
loop-word-preserved g c =
    c.loop-word.invariant
    ∙ after_all_more g.G.Gather.adds c.loop-word.found c.args.words.now c.loop-word.word-index
    c.word-item.result (omega arith) c.word-item.is _ c.in_ok-add.ensures

pub returns-in_err-add : goal.returns-in_err-add
returns-in_err-add g c =
    let p = err_from_is_err_and c.from_residual.result c.from_residual.ensures.1 in
    rw (p.1, p.2) (λ other. c.loop-word.invariant
    ∙ after_all_bad g.G.Gather.adds c.loop-word.found c.args.words.now c.loop-word.word-index
    c.word-item.result (omega arith) c.word-item.is _ (c.in_err-add.ensures other))

pub returns : goal.returns
returns g c =
    c.loop-word.invariant
    ∙ at_drop_all (after_all g.G.Gather.adds c.loop-word.found) c.args.words.now c.loop-word.word-index (omega arith)
    ∙ after_all_none g.G.Gather.adds c.loop-word.found
