use Rattle.std.proofs.Common.{◌∙◌, ap}
use Rattle.serde_json.specs.Data.{object}
use Rattle.report_json.proofs.Asking.{asked_placed}
use Rattle.report_json.proofs.reports.report_value.Goals as goal

pub returns : goal.returns
returns c =
    c.into_value.ensures ∙ rw (
      c.in_ok-put_asked.ensures,
      c.in_ok-put_total.ensures,
      c.in_ok-put_count-4.ensures,
      c.in_ok-put_pairs.ensures,
      c.in_ok-put_text.ensures,
      c.mode_text.ensures,
      c.in_ok-put_count-3.ensures,
      c.in_ok-put_count-2.ensures,
      c.in_ok-put_commands.ensures,
      c.in_ok-put_count.ensures,
      c.new-object.ensures,
    ) (ap object (asked_placed c.args.options.now c.args.notices.now _ _ _ _ _ _ _ _))
