use Rattle.std.proofs.Common.{◌≡◌, ◌∙◌, ◌+◌, ap, sym, arith, true, false, map, drop, List, [], ℕ, subst}
use Rattle.std.specs.Prelude.{IfErr, IfOk, Result, Ok}
use Rattle.std.specs.Borrow.{Bor}
use Rattle.std.proofs.lemmas.List.{drop-map}
use Rattle.report_rows.specs.Words.{texts}
use Rattle.report_rows.specs.Lines.{begins_total, with_line}
use Rattle.report_rows.specs.LineReports.{IsLineFault, with_total, with_lines}
use Rattle.report_rows.specs.declared.faults.ReportFault.{ReportFault}
use Rattle.report_rows.specs.declared.totals.Totalled.{Totalled}
use Rattle.report_rows.proofs.Lists.{map_left, none_left, none_after}
use Rattle.report_rows.proofs.LineSteps.{lines_end, lines_total, lines_more, lines_stuck, with_lines-nil}
use Rattle.report_rows.proofs.line_reports.add_lines.Goals as goal

pub returns-then-is_empty-clause-err : goal.returns-then-is_empty-clause-err
returns-then-is_empty-clause-err c =
    let n = c.loop-place.place in let found = c.loop-place.found in let lines = c.args.lines.now in
    let f = λ (t : Bor (List ℕ)). t.now in
    let rest = c.rest_from-others.ensures ∙ drop-map f (n + 1) lines in
    c.loop-place.invariant ∙ ap (with_lines (n + 2) found) (map_left f lines n (record { ref_ptr = (0, 0); now = [] }) (omega arith))
    ∙ lines_end (n + 2) found _ _ (none_after f _ _ true rest c.if-is_empty.ensures)

pub returns-then-begins_total-clause-ok : goal.returns-then-begins_total-clause-ok
returns-then-begins_total-clause-ok c =
    let n = c.loop-place.place in let found = c.loop-place.found in let lines = c.args.lines.now in
    let f = λ (t : Bor (List ℕ)). t.now in
    let rest = c.rest_from-others.ensures ∙ drop-map f (n + 1) lines in
    let said = ap texts c.deref.ensures.value ∙ c.in_ok-words.ensures in
    let again = ap texts c.deref-then-begins_total.ensures.value ∙ c.in_ok-words.ensures in
    let whole =
    c.loop-place.invariant ∙ ap (with_lines (n + 2) found) (map_left f lines n (record { ref_ptr = (0, 0); now = [] }) (omega arith))
    ∙ lines_total (n + 2) found _ _ (none_after f _ _ false rest c.if-is_empty.ensures) (ap begins_total (sym said) ∙ sym c.if-begins_total.ensures)
    ∙ ap (λ (ws : List (List ℕ)). with_total (n + 2) found ws (map f (drop (n + 1) lines))) (sym again)
    ∙ ap (λ (later : List (List ℕ)). with_total (n + 2) found (texts c.deref-then-begins_total.result.now) later) (sym rest) in
    subst (λ (x : Result Totalled ReportFault). IfOk c.with_total.result (λ all. x ≡ Ok all)) (sym whole) c.with_total.ensures.ok

pub returns-then-begins_total-clause-err : goal.returns-then-begins_total-clause-err
returns-then-begins_total-clause-err c =
    let n = c.loop-place.place in let found = c.loop-place.found in let lines = c.args.lines.now in
    let f = λ (t : Bor (List ℕ)). t.now in
    let rest = c.rest_from-others.ensures ∙ drop-map f (n + 1) lines in
    let said = ap texts c.deref.ensures.value ∙ c.in_ok-words.ensures in
    let again = ap texts c.deref-then-begins_total.ensures.value ∙ c.in_ok-words.ensures in
    let whole =
    c.loop-place.invariant ∙ ap (with_lines (n + 2) found) (map_left f lines n (record { ref_ptr = (0, 0); now = [] }) (omega arith))
    ∙ lines_total (n + 2) found _ _ (none_after f _ _ false rest c.if-is_empty.ensures) (ap begins_total (sym said) ∙ sym c.if-begins_total.ensures)
    ∙ ap (λ (ws : List (List ℕ)). with_total (n + 2) found ws (map f (drop (n + 1) lines))) (sym again)
    ∙ ap (λ (later : List (List ℕ)). with_total (n + 2) found (texts c.deref-then-begins_total.result.now) later) (sym rest) in
    subst (λ (x : Result Totalled ReportFault). IfErr c.with_total.result (IsLineFault x)) (sym whole) c.with_total.ensures.err

pub returns-then-not-branch-clause-err : goal.returns-then-not-branch-clause-err
returns-then-not-branch-clause-err c =
    let n = c.loop-place.place in let found = c.loop-place.found in let lines = c.args.lines.now in
    let f = λ (t : Bor (List ℕ)). t.now in
    let rest = c.rest_from-others.ensures ∙ drop-map f (n + 1) lines in
    let said = ap texts c.deref.ensures.value ∙ c.in_ok-words.ensures in
    let again = ap texts c.deref-in-loop-place.ensures.value ∙ c.in_ok-words.ensures in
    c.loop-place.invariant ∙ ap (with_lines (n + 2) found) (map_left f lines n (record { ref_ptr = (0, 0); now = [] }) (omega arith))
    ∙ lines_stuck (n + 2) found c.add_line.new.found _ _ c.in_ok-add_line.field-0 (none_after f _ _ false rest c.if-is_empty.ensures)
    (ap begins_total (sym said) ∙ sym c.if-begins_total.ensures) (c.in_ok-add_line.ensures ∙ ap (with_line (n + 2) found) again) c.if-not-branch.true

pub loop-place-preserved : goal.loop-place-preserved
loop-place-preserved c =
    let n = c.loop-place.place in let found = c.loop-place.found in let lines = c.args.lines.now in
    let f = λ (t : Bor (List ℕ)). t.now in
    let rest = c.rest_from-others.ensures ∙ drop-map f (n + 1) lines in
    let said = ap texts c.deref.ensures.value ∙ c.in_ok-words.ensures in
    let again = ap texts c.deref-in-loop-place.ensures.value ∙ c.in_ok-words.ensures in
    c.loop-place.invariant ∙ ap (with_lines (n + 2) found) (map_left f lines n (record { ref_ptr = (0, 0); now = [] }) (omega arith))
    ∙ lines_more (n + 2) found c.add_line.new.found _ _ c.in_ok-add_line.field-0 (none_after f _ _ false rest c.if-is_empty.ensures)
    (ap begins_total (sym said) ∙ sym c.if-begins_total.ensures) (c.in_ok-add_line.ensures ∙ ap (with_line (n + 2) found) again) c.if-not-branch.false
    ∙ ap (λ (m : ℕ). with_lines m c.add_line.new.found (map f (drop (n + 1) lines))) (omega arith)

pub returns-clause-err : goal.returns-clause-err
returns-clause-err c =
    c.loop-place.invariant ∙ ap (with_lines (c.loop-place.place + 2) c.loop-place.found) (none_left (λ (t : Bor (List ℕ)). t.now) c.args.lines.now c.loop-place.place (omega arith))
    ∙ with_lines-nil (c.loop-place.place + 2) c.loop-place.found
