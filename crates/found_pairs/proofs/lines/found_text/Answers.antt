use Rattle.std.proofs.Common.{◌∙◌, [], ◌∷◌, List, ℕ, ◌++◌, ap, sym}
use Rattle.multicycle_text.specs.Lines.{lines_text}
use Rattle.found_pairs.specs.Lines.{lines_of, all_lines}
use Rattle.found_pairs.proofs.Writing.{lines_next}
use Rattle.found_pairs.proofs.lines.found_text.Goals as goal

pub loop-place-preserved : goal.loop-place-preserved
loop-place-preserved c =
    let next = lines_next c.args.hold c.args.detected.now.tried c.loop-place.place c.item.result.now c.item.ensures in
    c.in_ok-push_pair.ensures ∙ ap (λ (s : List ℕ). s ++ lines_text (all_lines c.args.hold (lines_of (c.item.result.now ∷ [])))) c.loop-place.invariant
    ∙ sym next
