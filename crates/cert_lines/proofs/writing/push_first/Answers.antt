use Rattle.cert_lines.proofs.Written.{first_line}
use Rattle.cert_lines.proofs.writing.push_first.Goals as goal

pub returns : goal.returns
returns c =
    first_line c.args.version c.args.out.now.items c.extend_from_slice.new.self.items c.push_last_number.new.out.items
    c.in_ok-extend_from_slice.ensures.items c.in_ok-push_last_number.ensures
