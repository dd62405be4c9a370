use Rattle.std.proofs.Common.{◌≡◌, ◌∙◌, ◌++◌, ap, append_assoc, ℕ, List}
use Rattle.report_rows.specs.declared.reports.PairRow.{PairRow}
use Rattle.report_groups.specs.Differences as spec
use Rattle.report_groups.proofs.differences.difference_lines.Goals as goal

pub returns : goal.returns
returns c =
    let heads = spec.head_lines c.args.old.now.head c.args.new.now.head in
    let changes = spec.change_lines c.args.old.now.pairs c.args.new.now.pairs in
    let notes = spec.notes_lines c.args.old.now c.args.new.now in
    let first : c.add_heads.new.out ≡ heads = c.in_ok-add_heads.ensures ∙ ap (λ (o : List (List ℕ)). o ++ heads) c.new-out.ensures in
    let next : c.add_changes.new.out ≡ heads ++ changes =
    c.in_ok-add_changes.ensures ∙ ap (λ (o : List (List ℕ)). o ++ spec.change_lines c.as_slice.result.now c.as_slice-2.result.now) first
    ∙ ap (λ (rs : List PairRow). heads ++ spec.change_lines rs c.as_slice-2.result.now) c.as_slice.ensures
    ∙ ap (λ (rs : List PairRow). heads ++ spec.change_lines c.args.old.now.pairs rs) c.as_slice-2.ensures in
    c.in_ok-add_all_notes.ensures ∙ ap (λ (o : List (List ℕ)). o ++ notes) next ∙ append_assoc heads changes notes
