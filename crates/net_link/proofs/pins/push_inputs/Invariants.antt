use Rattle.std.proofs.Common.{◌≡◌, ◌++◌, drop}
use Rattle.link_defs.specs.CellNames.{input_roles}
use Rattle.net_link.specs.Numbers.{number_in}
use Rattle.net_link.proofs.pins.push_inputs.Given as goal

abbrev pub invariant-loop-place : goal.invariant-loop-place
invariant-loop-place l =
    l.fn.list ++ input_roles (number_in l.n.numbers.now l.n.nets) l.n.sources l.reg l.part 0 l.names
    ≡ l.list ++ input_roles (number_in l.n.numbers.now l.n.nets) l.n.sources l.reg l.part l.place (drop l.place l.names)
