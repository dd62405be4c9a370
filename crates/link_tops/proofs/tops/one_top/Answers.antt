use Rattle.std.proofs.Common.{List, length, ap, arith}
use Rattle.netlist_types.specs.declared.sources.Module.{Module}
use Rattle.link_tops.proofs.Topping.{top_at, places_len, unused_are}
use Rattle.link_tops.proofs.tops.one_top.Goals as goal

pub returns-then-len-eq1-clause-ok : goal.returns-then-len-eq1-clause-ok
returns-then-len-eq1-clause-ok c =
    top_at c.args.source.now c.in_ok-used.used c.in_ok-places.places c.at.result c.in_ok-used.ensures c.in_ok-places.ensures
    (omega arith) c.at.ensures

pub returns-clause-err : goal.returns-clause-err
returns-clause-err c =
    let len = places_len c.args.source.now.modules c.in_ok-places.places _ c.in_ok-places.ensures in
    let all = ap (λ (ms : List Module). length ms) (unused_are c.args.source.now c.in_ok-used.used c.in_ok-used.ensures) in
    (omega (arith, len, all), omega arith)
