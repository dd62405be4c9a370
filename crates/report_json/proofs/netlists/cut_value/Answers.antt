use Rattle.std.proofs.Common.{◌∙◌}
use Rattle.report_json.proofs.netlists.cut_value.Goals as goal

pub returns : goal.returns
returns c =
    c.into_value.ensures ∙ rw (c.in_ok-put_truth.ensures, c.in_ok-put_name.ensures, c.in_ok-put_count.ensures, c.new-object.ensures)
