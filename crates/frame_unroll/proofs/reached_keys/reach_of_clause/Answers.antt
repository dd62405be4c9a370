use Rattle.std.proofs.Common.{◌≡◌, ◌∙◌, ap, sym, subst, arith, List, ◌+◌, Some}
use Rattle.std.specs.Prelude.{slice_get}
use Rattle.net_model.specs.declared.netlist.Design.{Design}
use Rattle.query_model.specs.declared.keys.Key.{Key}
use Rattle.frame_unroll.specs.Origins.{clause_origin, clause_reads, reads_of_origin}
use Rattle.frame_unroll.specs.Found.{IsOriginIn, with_keys}
use Rattle.frame_unroll.specs.declared.origins.Origin.{Origin}
use Rattle.frame_unroll.proofs.OriginRange.{clause_origin_in}
use Rattle.frame_unroll.proofs.Reaching.{Reaches, reaches_first, reaches_more, reaches_all}
use Rattle.frame_unroll.proofs.reached_keys.reach_of_clause.Goals as goal

pub loop-next-init : goal.loop-next-init
loop-next-init c = reaches_first (clause_reads c.args.tables.now.coding c.args.tables.now.design c.args.cycles) c.args.found.now

pub add_base_reads-requires-clause-origin : goal.add_base_reads-requires-clause-origin
add_base_reads-requires-clause-origin c =
    let d = c.args.tables.now.design in
    let here : Key = c.key-key.result in
    let is : c.clause_origin-origin.result ≡ clause_origin d c.args.cycles here =
    c.clause_origin-origin.ensures ∙ ap (λ (e : Design). clause_origin e c.args.cycles here) c.design.ensures in
    subst (IsOriginIn d) (sym is) (clause_origin_in d c.args.cycles here)

pub loop-next-preserved : goal.loop-next-preserved
loop-next-preserved c =
    let t = c.args.tables.now in
    let reads = clause_reads t.coding t.design c.args.cycles in
    let start = c.args.found.now in
    let found = c.loop-next.found in
    let next = c.loop-next.next in
    let here : Key = c.key-key.result in
    let at : slice_get found next ≡ Some here = c.key-key.ensures in
    let is : c.clause_origin-origin.result ≡ clause_origin t.design c.args.cycles here =
    c.clause_origin-origin.ensures ∙ ap (λ (e : Design). clause_origin e c.args.cycles here) c.design.ensures in
    let added = c.in_ok-add_base_reads.ensures
    ∙ ap (λ (o : Origin). with_keys found (reads_of_origin t.coding t.design here o)) is in
    subst (λ (keys : List Key). Reaches reads start keys (next + 1)) (sym added)
    (reaches_more reads start found next here at c.loop-next.invariant)

pub returns : goal.returns
returns c = reaches_all (clause_reads c.args.tables.now.coding c.args.tables.now.design c.args.cycles) c.args.found.now c.loop-next.found
    c.loop-next.next (omega arith) c.loop-next.invariant
