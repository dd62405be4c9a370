use Rattle.std.proofs.Common.{◌≤◌, length, drop, sym, refl, ◌∙◌, arith, length-drop}
use Rattle.std.proofs.lemmas.List.{drop-drop}
use Rattle.lib_words.proofs.ValueLemmas.{value_stop, value_more}
use Rattle.lib_words.proofs.values.value_len.Goals as goal

pub pieces-init : goal.pieces-init
pieces-init c = record { within = omega arith; told = (length c.args.text.now, omega arith, refl) }

pub returns-then-piece-eq0-clause-value : goal.returns-then-piece-eq0-clause-value
returns-then-piece-eq0-clause-value c =
    let (m, room, told) = c.pieces.invariant.told in
    sym (told ∙ value_stop m c.pieces.len _ (rw c.after.ensures at (sym c.value_piece-piece.ensures.value) ∙ c.if-piece-eq0.true))

pub pieces-preserved : goal.pieces-preserved
pieces-preserved c =
    let (m, room, told) = c.pieces.invariant.told in
    let n = c.value_piece-piece.result in
    let left = length-drop c.pieces.len c.args.text.now in
    let within : n ≤ length (drop c.pieces.len c.args.text.now) = rw c.after.ensures at c.value_piece-piece.ensures.within in
    let (k, one, step) = value_more m c.pieces.len n _ (sym (rw c.after.ensures at c.value_piece-piece.ensures.value)) (omega arith) (omega arith) in
    record { within = omega arith; told = (k, omega arith, told ∙ step ∙ rw drop-drop refl) }
