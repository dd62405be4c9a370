use Rattle.cert_lines.proofs.Written.{single_line, fixed_line, depth_line, end_line}
use Rattle.cert_lines.proofs.writing.push_section.Goals as goal

pub returns-in_ok-extend_from_slice-in-Single : goal.returns-in_ok-extend_from_slice-in-Single
returns-in_ok-extend_from_slice-in-Single c =
    rw c.in-Single.is
    (single_line c.in-Single.number c.args.out.now.items c.push_pair.new.out.items c.extend_from_slice.new.self.items
    c.in_ok-push_pair-in-Single.ensures c.in_ok-extend_from_slice-in-Single.ensures.items)

pub returns-in_ok-extend_from_slice-in-Fixed : goal.returns-in_ok-extend_from_slice-in-Fixed
returns-in_ok-extend_from_slice-in-Fixed c =
    rw c.in-Fixed.is
    (fixed_line c.in-Fixed.number c.args.out.now.items c.push_pair-in-Fixed.new.out.items c.extend_from_slice-in-Fixed.new.self.items
    c.in_ok-push_pair-in-Fixed.ensures c.in_ok-extend_from_slice-in-Fixed.ensures.items)

pub returns-in_ok-push_last_number-in-Depth : goal.returns-in_ok-push_last_number-in-Depth
returns-in_ok-push_last_number-in-Depth c =
    rw c.in-Depth.is
    (depth_line c.in-Depth.number c.in-Depth.depth c.args.out.now.items c.push_pair-in-Depth.new.out.items
    c.extend_from_slice-in-Depth.new.self.items c.push_last_number.new.out.items c.in_ok-push_pair-in-Depth.ensures
    c.in_ok-extend_from_slice-in-Depth.ensures.items c.in_ok-push_last_number-in-Depth.ensures)

pub returns-in_ok-extend_from_slice-in-End : goal.returns-in_ok-extend_from_slice-in-End
returns-in_ok-extend_from_slice-in-End c =
    rw c.in-End.is (end_line c.args.out.now.items c.extend_from_slice-in-End.new.self.items c.in_ok-extend_from_slice-in-End.ensures.items)
