use Rattle.std.proofs.Common.{◌∙◌}
use Rattle.report_json.proofs.pairs.pair_value.Goals as goal

pub returns : goal.returns
returns c =
    c.into_value.ensures ∙ rw (c.in_ok-put_why.ensures, c.in_ok-put_text.ensures, c.verdict_word.ensures, c.in_ok-put_evidence.ensures, c.in_ok-put_name-2.ensures, c.in_ok-put_count-2.ensures, c.in_ok-put_kind.ensures, c.in_ok-put_name.ensures, c.in_ok-put_count.ensures, c.new-object.ensures)
