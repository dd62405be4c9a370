use Rattle.std.proofs.Common.{arith, ap}
use Rattle.std.specs.Prelude.{flat_map}
use Rattle.std.proofs.lemmas.List.{take_all}
use Rattle.query_model.proofs.Based.{in_place}
use Rattle.query_model.specs.Defined.{start_net}
use Rattle.cnf_encode.proofs.Listing.{Closed-flat, Lists-same}
use Rattle.cnf_encode.proofs.Covering.{Lists-flat_more}
use Rattle.cnf_encode.proofs.layers.list_start_nets.Goals as goal

pub list_start_net-requires : goal.list_start_net-requires
list_start_net-requires c =
    record {
      closed = Closed-flat (start_net c.args.cycle) c.args.starts.now c.at.result
          (in_place c.at.result c.args.starts.now c.loop-j.j c.at.ensures) c.requires.closed;
    }

pub loop-j-preserved : goal.loop-j-preserved
loop-j-preserved c =
    Lists-flat_more (start_net c.args.cycle) c.args.starts.now c.loop-j.j c.at.result c.at.ensures c.loop-j.invariant c.in_ok-list_start_net.ensures

pub returns : goal.returns
returns c = Lists-same (ap (flat_map (start_net c.args.cycle)) (take_all c.loop-j.j c.args.starts.now (omega arith))) c.loop-j.invariant
