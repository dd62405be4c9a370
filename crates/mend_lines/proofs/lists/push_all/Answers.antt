use Rattle.std.proofs.Common.{◌≡◌, ◌∙◌, ◌++◌, ◌==◌, List, ℕ, length, refl, ap, arith, codes}
use Rattle.std.specs.Prelude.{Some, slice_get}
use Rattle.std.proofs.lemmas.Option.{slice_get_read}
use Rattle.mend_lines.specs.Lines.{pattern_of, next_text}
use Rattle.mend_lines.proofs.Joined.{joined_added, joined_none}
use Rattle.mend_lines.proofs.lists.push_all.Goals as goal

pub loop-place-init : goal.loop-place-init
loop-place-init c = joined_none (codes " ") c.args.text.now.items

pub loop-place-preserved : goal.loop-place-preserved
loop-place-preserved c =
    let k = c.loop-place.place in
    let xs = c.args.objects.now in
    let x = c.index-objects-place.result in
    let here : slice_get xs k ≡ Some x = slice_get_read xs (length xs) k x refl (omega arith) c.index-objects-place.is in
    joined_added (codes " ") pattern_of xs k x c.args.text.now.items c.loop-place.text.items c.push_next.new.text.items here c.loop-place.invariant
    (c.in_ok-push_next.ensures ∙ ap (λ (s : List ℕ). c.loop-place.text.items ++ next_text (codes " ") (k == 0) s) c.pattern_of.ensures)
