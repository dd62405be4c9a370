use Rattle.std.proofs.Common.{arith, ◌∙◌, false, get_or}
use Rattle.net_paths.proofs.Levelling.{out_below}
use Rattle.net_paths.proofs.Growing.{seeded_first, seeded_out, growing_from_outs, raised_told, unchanged_noted}
use Rattle.net_paths.proofs.cones.Cone.put_outs.Goals as goal

pub loop-out-init : goal.loop-out-init
loop-out-init c = record {
  seeded = seeded_first c.args.launch.now.design.now c.args.launch.now.start.now c.args.launch.now.sets.now c.args.self.now c.requires.empty;
  place = c.requires.empty.told;
}

pub put_net-requires : goal.put_net-requires
put_net-requires c =
    let low = out_below c.args.launch.now.design.now.nets c.args.outs.now c.loop-out.out-index (record { net = 0; inverted = false }) c.loop-out-test.true
    c.requires.below in
    omega (arith, low, c.loop-out.invariant.seeded.noted.len)

pub loop-out-preserved : goal.loop-out-preserved
loop-out-preserved c = record {
  seeded = seeded_out c.args.launch.now.design.now c.args.launch.now.start.now c.args.launch.now.sets.now c.args.outs.now c.loop-out.out-index
      (record { net = 0; inverted = false }) c.loop-out.self c.put_net.new.self c.loop-out-test.true c.requires.outs c.requires.below
      c.loop-out.invariant.seeded c.in_ok-put_net.ensures.raised;
  place = raised_told (get_or c.args.outs.now c.loop-out.out-index (record { net = 0; inverted = false })).net _ c.loop-out.self c.put_net.new.self
      c.in_ok-put_net.ensures.raised ∙ c.loop-out.invariant.place;
}

pub returns-clause-growing : goal.returns-clause-growing
returns-clause-growing c =
    growing_from_outs c.args.launch.now.design.now c.args.launch.now.start.now c.args.launch.now.sets.now c.args.outs.now c.loop-out.out-index
    c.loop-out.self c.loop-out-test.false c.requires.outs c.loop-out.invariant.seeded

pub returns-clause-noted : goal.returns-clause-noted
returns-clause-noted c = c.loop-out.invariant.seeded.noted

pub returns-in_err-put_net-clause-noted : goal.returns-in_err-put_net-clause-noted
returns-in_err-put_net-clause-noted c =
    unchanged_noted c.args.launch.now.design.now.nets c.loop-out.self c.put_net.new.self c.loop-out.invariant.seeded.noted
    c.in_err-put_net.ensures.unchanged

pub returns-in_err-put_net-clause-place : goal.returns-in_err-put_net-clause-place
returns-in_err-put_net-clause-place c = c.in_err-put_net.ensures.unchanged.told ∙ c.loop-out.invariant.place
