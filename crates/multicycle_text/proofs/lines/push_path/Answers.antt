use Rattle.std.proofs.Common.{[], ◌∷◌, codes}
use Rattle.std.specs.Fmt.{decimal}
use Rattle.multicycle_text.proofs.Parts.{in_parts}
use Rattle.multicycle_text.proofs.lines.push_path.Goals as goal

pub returns : goal.returns
returns c =
    in_parts c.args.text.now.items c.extend_from_slice.new.self.items c.push_decimal.new.out.items c.extend_from_slice-2.new.self.items
    c.extend_from_slice-3.new.self.items c.extend_from_slice-4.new.self.items c.extend_from_slice-5.new.self.items c.extend_from_slice-6.new.self.items
    c.extend_from_slice-7.new.self.items (codes "set_multicycle_path ") (decimal c.args.number) c.args.option.now (codes " -from [get_cells {")
    c.args.start.now (codes "}] -to [get_cells {") c.args.end.now (125 ∷ 93 ∷ 10 ∷ []) c.in_ok-extend_from_slice.ensures.items
    (rw c.from.ensures at c.in_ok-push_decimal.ensures.ok) c.in_ok-extend_from_slice-2.ensures.items c.in_ok-extend_from_slice-3.ensures.items
    c.in_ok-extend_from_slice-4.ensures.items c.in_ok-extend_from_slice-5.ensures.items c.in_ok-extend_from_slice-6.ensures.items
    c.in_ok-extend_from_slice-7.ensures.items
