use Rattle.cert_lines.proofs.Written.{head_line}
use Rattle.cert_lines.proofs.writing.push_head.Goals as goal

pub returns : goal.returns
returns c =
    head_line c.args.phase c.args.count c.args.out.now.items c.push_phase.new.out.items c.push_last_number.new.out.items c.in_ok-push_phase.ensures
    c.in_ok-push_last_number.ensures
