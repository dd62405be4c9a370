use Rattle.std.proofs.Common.{subst}
use Rattle.std.specs.Prelude.{Option}
use Rattle.net_link.specs.declared.left.CutOut.{CutOut}
use Rattle.net_link.specs.Left.{IsCutAs}
use Rattle.net_link.proofs.Further.{free_some, sinks_some}
use Rattle.net_link.proofs.links.cut_names_of.Goals as goal

pub pin_names-requires : goal.pin_names-requires
pin_names-requires c =
    let (own, left, is) = c.requires in
    (subst (λ (y : Option CutOut). IsCutAs own y left) c.in-Some.is is).0.free_at

pub returns-in_ok-cuts-in-Some-clause-free : goal.returns-in_ok-cuts-in-Some-clause-free
returns-in_ok-cuts-in-Some-clause-free c = λ own k is.
    free_some own k c.args.cut.now c.in-Some.x c.in_ok-free-in-Some.free c.in-Some.is is c.in_ok-free-in-Some.ensures

pub returns-in_ok-cuts-in-Some-clause-sinks : goal.returns-in_ok-cuts-in-Some-clause-sinks
returns-in_ok-cuts-in-Some-clause-sinks c = λ own k is.
    sinks_some own k c.args.cut.now c.in-Some.x c.in_ok-sinks-in-Some.sinks c.in-Some.is is c.in_ok-sinks-in-Some.ensures
