use Rattle.std.proofs.Common.{suc, ◌∙◌, ◌++◌, ◌∷◌, [], ap, length, refl, sym, arith}
use Rattle.std.proofs.lemmas.Result.{err_from_is_err_and}
use Rattle.sdcv_base.specs.Cursors.{rest, text_of}
use Rattle.sdc_words.specs.Pieces.{piece_at, pieces_after}
use Rattle.sdc_words.proofs.ReadLemmas.{fails_through, past_ok, past_err, of_past, bad_past}
use Rattle.sdc_words.proofs.PieceLemmas.{pieces_over, pieces_stuck, pieces_more, pieces_bad}
use Rattle.sdc_words.proofs.passes.pass_pieces.Goals as goal

pub returns-then-is_over-clause-value : goal.returns-then-is_over-clause-value
returns-then-is_over-clause-value c = λ found.
    let (m, more, room, told) = c.pieces.invariant.told found in
    let over = sym (rw c.rest-text.ensures at c.is_over.ensures) ∙ c.if-is_over.true in
    past_ok (pieces_after c.args.within found) _ _ _ _ (told ∙ pieces_over c.args.within c.pieces.is_slashed more _ _ m (omega arith) over)

pub returns-then-is_empty-clause-value : goal.returns-then-is_empty-clause-value
returns-then-is_empty-clause-value c = λ found.
    let (m, more, room, told) = c.pieces.invariant.told found in
    let on = sym (rw c.rest-text.ensures at c.is_over.ensures) ∙ c.if-is_over.false in
    let none = sym (rw c.rest-text.ensures at c.if-is_empty.ensures) in
    rw (c.refused.ensures, c.pieces.invariant.text) (
      past_err (pieces_after c.args.within found) _ _ _ (told ∙ pieces_stuck c.args.within c.pieces.is_slashed more _ _ m (omega arith) on none),
      omega arith,
    )

pub returns-in_err-pass_piece-clause-value : goal.returns-in_err-pass_piece-clause-value
returns-in_err-pass_piece-clause-value c = λ found.
    let (m, more, room, told) = c.pieces.invariant.told found in
    let on = sym (rw c.rest-text.ensures at c.is_over.ensures) ∙ c.if-is_over.false in
    let full = sym (rw c.rest-text.ensures at c.if-is_empty.ensures) in
    let p = err_from_is_err_and c.from_residual.result c.from_residual.ensures.1 in
    rw (p.1, p.2) (fails_through _ _ (ap length c.pieces.invariant.text) c.in_err-pass_piece.field-0.0 _ _ c.in_err-pass_piece.ensures.value
    (λ why bad. past_err (pieces_after c.args.within found) _ _ why (told
    ∙ pieces_bad c.args.within c.pieces.is_slashed more (length (text_of c.args.c.now)) (rest c.pieces.c) m why
    (omega arith) on full (bad_past (piece_at c.args.within) _ _ why (rw c.pieces.invariant.text at bad)))))

pub pieces-init : goal.pieces-init
pieces-init c = record { text = refl; within = omega arith; told = λ found. (suc (length (rest c.args.c.now)), found, omega arith, refl) }

pub pieces-preserved : goal.pieces-preserved
pieces-preserved c =
    let less = c.in_ok-pass_piece.ensures.shorter in
    record {
      text = c.in_ok-pass_piece.ensures.text ∙ c.pieces.invariant.text;
      within = omega arith;
      told = λ found.
          let (m, more, room, told) = c.pieces.invariant.told found in
          let on = sym (rw c.rest-text.ensures at c.is_over.ensures) ∙ c.if-is_over.false in
          let full = sym (rw c.rest-text.ensures at c.if-is_empty.ensures) in
          let (x, good) = of_past (piece_at c.args.within) _ _ _ (rw c.pieces.invariant.text at c.in_ok-pass_piece.ensures.value) in
          let (n, one, step) = pieces_more c.args.within c.pieces.is_slashed more (length (text_of c.args.c.now)) (rest c.pieces.c) m x _
          (omega arith) on full good in
          (n, more ++ x ∷ [], omega arith, told ∙ step ∙ rw (c.has_two-is_slashed.ensures, c.rest-text.ensures) refl);
    }
