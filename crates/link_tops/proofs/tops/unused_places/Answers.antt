use Rattle.std.proofs.Common.{List, subst, arith}
use Rattle.std.specs.Prelude.{filter}
use Rattle.std.proofs.lemmas.List.{take_all}
use Rattle.netlist_types.specs.declared.sources.Module.{Module}
use Rattle.link_tops.specs.Tops.{AreAt, is_unused}
use Rattle.link_tops.proofs.Topping.{places_more}
use Rattle.link_tops.proofs.tops.unused_places.Goals as goal

pub loop-k-preserved : goal.loop-k-preserved
loop-k-preserved c =
    places_more c.args.modules.now c.args.used.now c.loop-k.places c.push_unused.new.places c.loop-k.k c.item.result.now c.contains-is_used.result
    c.item.ensures c.contains-is_used.ensures c.in_ok-push_unused.ensures c.loop-k.invariant

pub returns : goal.returns
returns c =
    subst (λ (ms : List Module). AreAt c.args.modules.now c.loop-k.places (filter (is_unused c.args.used.now) ms))
    (take_all c.loop-k.k c.args.modules.now (omega arith)) c.loop-k.invariant
