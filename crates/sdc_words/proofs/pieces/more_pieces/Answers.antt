use Rattle.std.proofs.Common.{◌∙◌, ap, length, refl, sym, arith}
use Rattle.std.proofs.lemmas.Result.{err_from_is_err_and}
use Rattle.sdcv_base.specs.Cursors.{rest, text_of}
use Rattle.sdc_words.proofs.ReadLemmas.{fails_through}
use Rattle.sdc_words.proofs.PieceLemmas.{pieces_over, pieces_stuck, pieces_more, pieces_bad}
use Rattle.sdc_words.proofs.pieces.more_pieces.Goals as goal

pub returns-then-is_over-clause-value : goal.returns-then-is_over-clause-value
returns-then-is_over-clause-value c =
    let (m, room, told) = c.pieces.invariant.told in
    let over = sym (rw c.rest-text.ensures at c.is_over.ensures) ∙ c.if-is_over.true in
    told ∙ pieces_over c.args.within c.pieces.is_slashed c.pieces.found _ _ m (omega arith) over

pub returns-then-is_empty-clause-value : goal.returns-then-is_empty-clause-value
returns-then-is_empty-clause-value c =
    let (m, room, told) = c.pieces.invariant.told in
    let on = sym (rw c.rest-text.ensures at c.is_over.ensures) ∙ c.if-is_over.false in
    let none = sym (rw c.rest-text.ensures at c.if-is_empty.ensures) in
    rw (c.refused.ensures, c.pieces.invariant.text) (
      told ∙ pieces_stuck c.args.within c.pieces.is_slashed c.pieces.found _ _ m (omega arith) on none,
      omega arith,
    )

pub returns-in_err-piece-clause-value : goal.returns-in_err-piece-clause-value
returns-in_err-piece-clause-value c =
    let (m, room, told) = c.pieces.invariant.told in
    let on = sym (rw c.rest-text.ensures at c.is_over.ensures) ∙ c.if-is_over.false in
    let full = sym (rw c.rest-text.ensures at c.if-is_empty.ensures) in
    let p = err_from_is_err_and c.from_residual.result c.from_residual.ensures.1 in
    rw (p.1, p.2) (fails_through _ _ (ap length c.pieces.invariant.text) c.in_err-piece.field-0.0 _ _ c.in_err-piece.ensures.value
    (λ why bad. told ∙ pieces_bad c.args.within c.pieces.is_slashed c.pieces.found (length (text_of c.args.c.now)) (rest c.pieces.c) m why
    (omega arith) on full (rw c.pieces.invariant.text at bad)))

pub pieces-preserved : goal.pieces-preserved
pieces-preserved c =
    let (m, room, told) = c.pieces.invariant.told in
    let on = sym (rw c.rest-text.ensures at c.is_over.ensures) ∙ c.if-is_over.false in
    let full = sym (rw c.rest-text.ensures at c.if-is_empty.ensures) in
    let less = c.in_ok-piece.ensures.shorter in
    let (n, one, step) = pieces_more c.args.within c.pieces.is_slashed c.pieces.found (length (text_of c.args.c.now)) (rest c.pieces.c) m _ _
    (omega arith) on full (rw c.pieces.invariant.text at c.in_ok-piece.ensures.value) in
    record {
      text = c.in_ok-piece.ensures.text ∙ c.pieces.invariant.text;
      within = omega arith;
      told = (n, omega arith, told ∙ step ∙ rw (c.has_two-is_slashed.ensures, c.rest-text.ensures, c.in_ok-push.ensures.ok) refl);
    }
