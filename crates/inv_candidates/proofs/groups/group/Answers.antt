use Rattle.std.proofs.Common.{arith, ◌≡◌, ◌+◌, ◌∙◌, suc, length, length-append, ap, sym, subst}
use Rattle.net_model.specs.Netlist.{AllBelow}
use Rattle.inv_candidates.specs.Near.{FeedsSome}
use Rattle.inv_candidates.specs.Levels.{IsUpTo}
use Rattle.inv_candidates.proofs.Leading.{feeds_in_range}
use Rattle.inv_candidates.proofs.Growing.{below_grown}
use Rattle.inv_candidates.proofs.Grouping.{upto_more, group_from_upto, differ_in_order}
use Rattle.inv_candidates.proofs.Owning.{upto_first, own_in_range}
use Rattle.inv_candidates.proofs.groups.group.Goals as goal

pub loop-group-init : goal.loop-group-init
loop-group-init c =
    let d = c.args.design.now in
    let claim = c.args.claim.now in
    record {
      upto = (0, subst (IsUpTo d claim 0) (sym c.in_ok-group.ensures) (upto_first d claim));
      names = subst (AllBelow (length d.regs)) (sym c.in_ok-group.ensures) (own_in_range d claim.start claim.end c.requires.fits.start c.requires.fits.end_);
    }

pub returns-then-len-before-clause-group : goal.returns-then-len-before-clause-group
returns-then-len-before-clause-group c =
    let (level, upto) = c.loop-group.invariant.upto in
    group_from_upto c.args.design.now c.args.claim.now level c.loop-group.group c.add_level.new.group upto c.in_ok-add_level.ensures (omega arith)

pub returns-then-len-before-clause-differ : goal.returns-then-len-before-clause-differ
returns-then-len-before-clause-differ c =
    let (level, upto) = c.loop-group.invariant.upto in
    differ_in_order c.args.design.now c.args.claim.now c.add_level.new.group
    (upto_more c.args.design.now c.args.claim.now level c.loop-group.group c.add_level.new.group upto c.in_ok-add_level.ensures).ordered

pub returns-then-len-before-clause-names : goal.returns-then-len-before-clause-names
returns-then-len-before-clause-names c =
    let d = c.args.design.now in
    below_grown (FeedsSome d c.loop-group.group) (length d.regs) c.loop-group.group c.add_level.new.group (feeds_in_range d c.loop-group.group)
    c.loop-group.invariant.names c.in_ok-add_level.ensures

pub loop-group-preserved : goal.loop-group-preserved
loop-group-preserved c =
    let d = c.args.design.now in
    let (level, upto) = c.loop-group.invariant.upto in
    record {
      upto = (suc level, upto_more d c.args.claim.now level c.loop-group.group c.add_level.new.group upto c.in_ok-add_level.ensures);
      names = below_grown (FeedsSome d c.loop-group.group) (length d.regs) c.loop-group.group c.add_level.new.group (feeds_in_range d c.loop-group.group)
          c.loop-group.invariant.names c.in_ok-add_level.ensures;
    }

pub loop-group-smaller : goal.loop-group-smaller
loop-group-smaller c =
    let grown = c.in_ok-add_level.ensures in
    let len : length c.add_level.new.group ≡ length c.loop-group.group + length grown.more =
    ap length grown.whole ∙ length-append c.loop-group.group grown.more in
    omega (arith, len, grown.few)
