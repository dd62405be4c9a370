use Rattle.std.proofs.Common.{◌∙◌, ◌+◌, ◌++◌, ◌∷◌, [], List, drop, sym, ap, append-nil}
use Rattle.netlist_types.specs.declared.sources.Conn.{Conn}
use Rattle.verilog_net.specs.Spreads.{bit_conns}
use Rattle.verilog_net.proofs.SpreadLemmas.{bits_more, bits_end}
use Rattle.verilog_net.proofs.spreads.push_bits.Goals as goal

pub loop-place-preserved : goal.loop-place-preserved
loop-place-preserved c =
    let pin = c.args.pin.now in
    let ws = c.args.wires.now in
    let i = c.loop-place.place in
    ap (λ (l : List Conn). l ++ bit_conns pin (drop (i + 1) ws))
    (c.in_ok-push.ensures.ok ∙ ap (λ (x : Conn). c.loop-place.found ++ x ∷ []) c.in_ok-conn.ensures)
    ∙ bits_more pin ws i c.loop-place.found _ c.loop-place-test.true ∙ c.loop-place.invariant

pub returns : goal.returns
returns c =
    sym (append-nil c.loop-place.found)
    ∙ ap (λ (l : List Conn). c.loop-place.found ++ l) (sym (bits_end c.args.pin.now c.args.wires.now c.loop-place.place c.loop-place-test.false))
    ∙ c.loop-place.invariant
