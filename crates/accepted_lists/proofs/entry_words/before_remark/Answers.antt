use Rattle.std.proofs.Common.{◌∙◌, ap, sym, arith, get_or, List, [], ℕ}
use Rattle.std.specs.Borrow.{Bor}
use Rattle.std.specs.Str.{bytes_eq}
use Rattle.accepted_lists.proofs.Rests.{map_left, none_left}
use Rattle.accepted_lists.proofs.ListSteps.{words_end, words_remark, words_more}
use Rattle.accepted_lists.proofs.entry_words.before_remark.Goals as goal

pub returns-then-eq : goal.returns-then-eq
returns-then-eq c =
    let f = λ (t : Bor (List ℕ)). t.now in
    let d : Bor (List ℕ) = record { ref_ptr = (0, 0); now = [] } in
    words_remark _ _ _ _ _ c.loop-place.invariant (map_left f c.args.pieces.now c.loop-place.place d (omega arith))
    (ap (bytes_eq (get_or c.args.pieces.now c.loop-place.place d).now) (sym c.as_slice.ensures) ∙ sym c.if-eq.ensures)

pub loop-place-preserved : goal.loop-place-preserved
loop-place-preserved c =
    let f = λ (t : Bor (List ℕ)). t.now in
    let d : Bor (List ℕ) = record { ref_ptr = (0, 0); now = [] } in
    let next = map_left f c.args.pieces.now c.loop-place.place d (omega arith) in
    let other = ap (bytes_eq (get_or c.args.pieces.now c.loop-place.place d).now) (sym c.as_slice.ensures) ∙ sym c.if-eq.ensures in
    words_more _ _ _ _ _ _ c.loop-place.invariant next other c.in_ok-add_word.ensures

pub returns : goal.returns
returns c =
    words_end _ _ _ c.loop-place.invariant (none_left (λ (t : Bor (List ℕ)). t.now) c.args.pieces.now c.loop-place.place (omega arith))
