use Rattle.std.proofs.Common.{false, sym, leb, length, arith}
use Rattle.query_model.specs.Keys.{key}
use Rattle.query_model.specs.Defined.{unit_if}
use Rattle.cnf_encode.proofs.Listing.{Lists-append, Lists-same, Closed-right, Closed-same}
use Rattle.cnf_encode.proofs.Inputs.{input_is, at_least, value_is}
use Rattle.cnf_encode.proofs.cycles.list_input.Goals as goal

pub list_setting-requires-2 : goal.list_setting-requires-2
list_setting-requires-2 c =
    let d = c.args.cone.now.design.now in
    let out = key c.args.cycle 0 0 c.at.result in
    record {
      closed = Closed-right (unit_if c.at-2.result false out) (unit_if c.at-3.result (leb c.args.cone.now.live c.args.cycle) out)
          (Closed-same (sym (input_is d c.args.cone.now.live c.args.cycle c.args.input c.at.result c.at-2.result c.at-3.result _
          (value_is d.fixed (length d.inputs) c.args.cone.now.fixed.now c.args.input c.at-2.result
          c.requires.cone.of.fixed c.at-2.ensures) (value_is d.resets (length d.inputs) c.args.cone.now.resets.now
          c.args.input c.at-3.result c.requires.cone.of.resets c.at-3.ensures) c.at.ensures (at_least c.args.cone.now.live c.args.cycle)))
          c.requires.closed);
    }

pub returns : goal.returns
returns c =
    let d = c.args.cone.now.design.now in
    Lists-same (input_is d c.args.cone.now.live c.args.cycle c.args.input c.at.result c.at-2.result c.at-3.result _
    (value_is d.fixed (length d.inputs) c.args.cone.now.fixed.now c.args.input c.at-2.result c.requires.cone.of.fixed
    c.at-2.ensures) (value_is d.resets (length d.inputs) c.args.cone.now.resets.now c.args.input c.at-3.result
    c.requires.cone.of.resets c.at-3.ensures) c.at.ensures (at_least c.args.cone.now.live c.args.cycle))
    (Lists-append c.in_ok-list_setting.ensures c.in_ok-list_setting-2.ensures)

pub at-requires-2 : goal.at-requires-2
at-requires-2 c = omega (arith, c.requires.cone.of.fixed.len, c.requires.input)

pub at-requires-3 : goal.at-requires-3
at-requires-3 c = omega (arith, c.requires.cone.of.resets.len, c.requires.input)
