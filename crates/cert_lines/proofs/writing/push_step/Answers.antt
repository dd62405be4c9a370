use Rattle.cert_lines.proofs.Written.{written_line}
use Rattle.cert_lines.proofs.writing.push_step.Goals as goal

pub returns : goal.returns
returns c =
    written_line c.args.step.now c.args.out.now.items c.extend_from_slice.new.self.items c.push_lits.new.out.items
    c.extend_from_slice-2.new.self.items c.push_hints.new.out.items c.extend_from_slice-3.new.self.items c.in_ok-extend_from_slice.ensures.items
    (rw c.as_slice.ensures at c.in_ok-push_lits.ensures) c.in_ok-extend_from_slice-2.ensures.items
    (rw c.as_slice-2.ensures at c.in_ok-push_hints.ensures) c.in_ok-extend_from_slice-3.ensures.items
