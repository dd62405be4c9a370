use Rattle.std.proofs.Common.{ℕ, List, ◌++◌, map, ap, ◌∙◌}
use Rattle.std.specs.Prelude.{zip}
use Rattle.linked_types.specs.declared.names.PinName.{PinName}
use Rattle.link_defs.specs.CellNames.{clock_role, tree_pins, input_roles, out_pins}
use Rattle.link_defs.specs.Circuits.{part_drives}
use Rattle.net_link.specs.Numbers.{number_in}
use Rattle.net_link.specs.Places.{drive_role}
use Rattle.net_link.proofs.Listed.{drives_are}
use Rattle.net_link.proofs.pins.data_pins.Goals as goal

pub returns : goal.returns
returns c =
    let n = c.args.n.now in
    let number = number_in n.numbers.now n.nets in
    let ins = input_roles number n.sources c.args.reg c.args.part.now 0 c.args.cell.now.inputs in
    let clocks = map clock_role (tree_pins c.args.cell.now.kind) in
    let outs = part_drives c.args.part.now in
    let first = c.in_ok-push_inputs.ensures ∙ ap (λ (ps : List PinName). ps ++ ins) c.new-list.ensures in
    let second = c.in_ok-push_tree.ensures ∙ ap (λ (ps : List PinName). ps ++ clocks) first in
    c.in_ok-push_drives.ensures ∙ ap (λ (ps : List PinName). ps ++ map drive_role (zip c.in_ok-outs.outs c.in_ok-nets.nets)) second
    ∙ ap (λ (ns : List (List ℕ)). (ins ++ clocks) ++ map drive_role (zip ns c.in_ok-nets.nets)) c.in_ok-outs.ensures
    ∙ ap (λ (ns : List ℕ). (ins ++ clocks) ++ map drive_role (zip (out_pins c.args.cell.now.kind) ns)) c.in_ok-nets.ensures
    ∙ ap (λ (ps : List PinName). (ins ++ clocks) ++ ps) (drives_are number (out_pins c.args.cell.now.kind) outs)
