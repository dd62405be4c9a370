use Rattle.std.proofs.Common.{◌∙◌, arith}
use Rattle.std.proofs.lemmas.Result.{err_from_is_err_and}
use Rattle.std.proofs.lemmas.List.{at_drop_all}
use Rattle.sdc_values.specs.Texts.{adds_piece}
use Rattle.sdcv_base.specs.Steps.{after_all}
use Rattle.sdcv_base.proofs.StepLemmas.{after_all_more, after_all_bad, after_all_none}
use Rattle.sdc_values.proofs.word_texts.joined.Goals as goal

pub loop-piece-preserved : goal.loop-piece-preserved
loop-piece-preserved c =
    c.loop-piece.invariant
    ∙ after_all_more (adds_piece c.args.vars.now c.args.line c.args.offset) c.loop-piece.found.items c.args.pieces.now c.loop-piece.piece-index
    c.piece-item.result (omega arith) c.piece-item.is _ c.in_ok-add_piece.ensures

pub returns-in_err-add_piece : goal.returns-in_err-add_piece
returns-in_err-add_piece c =
    let p = err_from_is_err_and c.from_residual.result c.from_residual.ensures.1 in
    rw (p.1, p.2) (λ other. c.loop-piece.invariant
    ∙ after_all_bad (adds_piece c.args.vars.now c.args.line c.args.offset) c.loop-piece.found.items c.args.pieces.now c.loop-piece.piece-index
    c.piece-item.result (omega arith) c.piece-item.is _ (c.in_err-add_piece.ensures other))

pub returns : goal.returns
returns c =
    let adds = adds_piece c.args.vars.now c.args.line c.args.offset in
    c.loop-piece.invariant
    ∙ at_drop_all (after_all adds c.loop-piece.found.items) c.args.pieces.now c.loop-piece.piece-index (omega arith)
    ∙ after_all_none adds c.loop-piece.found.items
