use Rattle.std.proofs.Common.{◌∙◌}
use Rattle.report_json.proofs.commands.command_value.Goals as goal

pub returns : goal.returns
returns c =
    c.into_value.ensures ∙ rw (c.in_ok-put_what.ensures, c.in_ok-put_warnings.ensures, c.in_ok-put_count-3.ensures, c.pairs_of.ensures, c.in_ok-put_count-2.ensures, c.in_ok-put_count.ensures, c.new-object.ensures)
