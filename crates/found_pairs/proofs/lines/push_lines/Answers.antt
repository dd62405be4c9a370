use Rattle.std.proofs.Common.{◌≡◌, ◌∙◌, ℕ, List, ◌++◌, ap}
use Rattle.multicycle_text.specs.Lines.{FoundLine, CheckLine, Setup, Hold, line_text}
use Rattle.found_pairs.specs.Lines as spec
use Rattle.found_pairs.proofs.Writing.{line_added, lines_added}
use Rattle.found_pairs.proofs.lines.push_lines.Goals as goal

line_by : ℕ → List ℕ → List ℕ → FoundLine
line_by k start end = record { k = k; start = start; end = end }

-- a line of the names that are lent is one of the pair's
of_pair : (check : FoundLine → CheckLine) (k : ℕ) (old new start end first last : List ℕ) → first ≡ start → last ≡ end
    → new ≡ old ++ line_text (check (line_by k first last)) → new ≡ old ++ line_text (check (line_by k start end))
of_pair check k old new start end first last from to pushed =
    pushed ∙ ap (λ (s : List ℕ). old ++ line_text (check (line_by k s last))) from ∙ ap (λ (s : List ℕ). old ++ line_text (check (line_by k start s))) to

pub returns-in_ok-push_hold_line : goal.returns-in_ok-push_hold_line
unfolding line_by
returns-in_ok-push_hold_line c =
    let tried = c.args.tried.now in
    let old = c.args.text.now.items in
    let one = c.push_line.new.text.items in
    let start = c.as_bytes-start.result.now in
    let end = c.as_bytes-end.result.now in
    let first = of_pair Setup tried.k old one tried.start tried.end start end c.as_bytes-start.ensures c.as_bytes-end.ensures c.in_ok-push_line.ensures in
    let second = of_pair Hold tried.k one c.push_hold_line.new.text.items tried.start tried.end start end c.as_bytes-start.ensures c.as_bytes-end.ensures
    c.in_ok-push_hold_line.ensures in
    lines_added (spec.line_of tried) old c.args.hold one c.push_hold_line.new.text.items c.if-hold.true first second

pub returns-else-hold : goal.returns-else-hold
unfolding line_by
returns-else-hold c =
    let tried = c.args.tried.now in
    let old = c.args.text.now.items in
    let start = c.as_bytes-start.result.now in
    let end = c.as_bytes-end.result.now in
    let first = of_pair Setup tried.k old c.push_line.new.text.items tried.start tried.end start end c.as_bytes-start.ensures c.as_bytes-end.ensures
    c.in_ok-push_line.ensures in
    line_added (spec.line_of tried) old c.args.hold c.push_line.new.text.items c.if-hold.false first
