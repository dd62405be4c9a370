use Rattle.std.proofs.Common.{◌∙◌, ap, arith}
use Rattle.serde_json.specs.View.{view}
use Rattle.report_rows.specs.Members.{with_cut_data}
use Rattle.report_rows.proofs.Lists.{map_left, none_left}
use Rattle.report_rows.proofs.Steps.{all_more, all_none, all_done}
use Rattle.report_rows.proofs.json_netlists.add_cuts.Goals as goal

pub returns-then-not-branch : goal.returns-then-not-branch
returns-then-not-branch c =
    all_none with_cut_data _ c.loop-value.found c.add_cut_value.new.found _ _ _ c.in_ok-add_cut_value.field-0 c.loop-value.invariant
    (map_left view c.args.values.now c.loop-value.value-index c.value-item.result (omega arith))
    (c.in_ok-add_cut_value.ensures ∙ ap (λ v. with_cut_data c.loop-value.found (view v)) c.value-item.is) c.if-not-branch.true

pub loop-value-preserved : goal.loop-value-preserved
loop-value-preserved c =
    all_more with_cut_data _ c.loop-value.found c.add_cut_value.new.found _ _ _ c.in_ok-add_cut_value.field-0 c.loop-value.invariant
    (map_left view c.args.values.now c.loop-value.value-index c.value-item.result (omega arith))
    (c.in_ok-add_cut_value.ensures ∙ ap (λ v. with_cut_data c.loop-value.found (view v)) c.value-item.is) c.if-not-branch.false

pub returns : goal.returns
returns c =
    all_done with_cut_data _ c.loop-value.found _ c.loop-value.invariant
    (none_left view c.args.values.now c.loop-value.value-index (omega arith))
