use Rattle.cert_lines.proofs.Written.{inv_line}
use Rattle.cert_lines.proofs.writing.push_inv.Goals as goal

pub returns : goal.returns
returns c =
    inv_line c.args.head c.args.out.now.items c.extend_from_slice.new.self.items c.push_decimal.new.out.items c.push_last_number.new.out.items
    c.in_ok-extend_from_slice.ensures.items c.in_ok-push_decimal.ensures.ok c.in_ok-push_last_number.ensures
