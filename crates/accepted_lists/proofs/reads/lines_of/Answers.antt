use Rattle.std.proofs.Common.{◌∙◌, ◌+◌, ap, arith, List, [], ℕ}
use Rattle.std.specs.Borrow.{Bor}
use Rattle.accepted_lists.specs.Lists.{with_lines}
use Rattle.accepted_lists.proofs.Rests.{map_left, none_left}
use Rattle.accepted_lists.proofs.ListSteps.{with_lines-nil, lines_more, lines_stuck}
use Rattle.accepted_lists.proofs.reads.lines_of.Goals as goal

pub returns-then-not-branch-clause-err : goal.returns-then-not-branch-clause-err
returns-then-not-branch-clause-err c =
    let n = c.loop-place.place in let list = c.loop-place.lines in
    c.loop-place.invariant
    ∙ ap (with_lines (n + 1) list) (map_left (λ (t : Bor (List ℕ)). t.now) c.args.pieces.now n (record { ref_ptr = (0, 0); now = [] }) (omega arith))
    ∙ lines_stuck (n + 1) list c.add_line.new.lines _ _ c.in_ok-add_line.field-0 c.in_ok-add_line.ensures c.if-not-branch.true

pub loop-place-preserved : goal.loop-place-preserved
loop-place-preserved c =
    let n = c.loop-place.place in let list = c.loop-place.lines in
    c.loop-place.invariant
    ∙ ap (with_lines (n + 1) list) (map_left (λ (t : Bor (List ℕ)). t.now) c.args.pieces.now n (record { ref_ptr = (0, 0); now = [] }) (omega arith))
    ∙ lines_more (n + 1) list c.add_line.new.lines _ _ c.in_ok-add_line.field-0 c.in_ok-add_line.ensures c.if-not-branch.false

pub returns-clause-ok : goal.returns-clause-ok
returns-clause-ok c =
    c.loop-place.invariant
    ∙ ap (with_lines (c.loop-place.place + 1) c.loop-place.lines) (none_left (λ (t : Bor (List ℕ)). t.now) c.args.pieces.now c.loop-place.place (omega arith))
    ∙ with_lines-nil (c.loop-place.place + 1) c.loop-place.lines
