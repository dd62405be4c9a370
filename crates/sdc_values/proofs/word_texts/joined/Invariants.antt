use Rattle.std.proofs.Common.{◌≡◌, [], drop}
use Rattle.sdc_values.specs.Texts.{adds_piece}
use Rattle.sdcv_base.specs.Steps.{after_all}
use Rattle.sdc_values.proofs.word_texts.joined.Given as goal

abbrev pub invariant-loop-piece : goal.invariant-loop-piece
invariant-loop-piece l = after_all (adds_piece l.vars l.line l.offset) [] l.pieces ≡ after_all (adds_piece l.vars l.line l.offset) l.found.items
    (drop l.piece-index l.pieces)
