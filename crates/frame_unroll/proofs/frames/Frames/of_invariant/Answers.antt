use Rattle.std.proofs.Common.{◌≡◌, ◌∙◌, refl, sym, subst, ap, slice_get, Some, [], List}
use Rattle.std.proofs.lemmas.Option.{get_or_from_slice_get}
use Rattle.std.proofs.lemmas.Result.{IfOk-weaker}
use Rattle.net_model.specs.declared.netlist.Design.{Design}
use Rattle.net_model.specs.declared.invariants.InvClause.{InvClause}
use Rattle.net_model.specs.Queries.{Query, Breaks, clause_query}
use Rattle.query_model.specs.Formula.{definitions, asked_clauses, AreNeeded}
use Rattle.query_model.specs.declared.keys.Key.{Key}
use Rattle.query_model.specs.declared.keys.KeyLit.{KeyLit}
use Rattle.frame_unroll.specs.Framed.{AreFramesOf}
use Rattle.frame_unroll.proofs.frames.Frames.of_invariant.Goals as goal

pub returns : goal.returns
returns c =
    let t = c.args.tables.now in
    let coding = t.coding in
    let d = c.design-design.result.now in
    let of_design : d ≡ t.design = c.design-design.ensures in
    let asked = c.in_ok-asked.asked in
    let Needed : List Key → Type 0 = λ keys. (p : Query) (clause : InvClause) → p.design ≡ t.design → p.cycles ≡ c.clause_span-span.result.cycles
    → p.question ≡ Breaks clause → AreNeeded (definitions coding p []) asked keys in
    let Framed : List Key → Type 0 = λ keys. (clause : InvClause) → slice_get c.args.inv.now c.args.place ≡ Some clause
    → AreFramesOf coding (clause_query t.design c.args.inv.now clause c.args.phase c.args.depth) keys in
    let framed : (keys : List Key) → Needed keys → Framed keys = λ keys needed clause at.
    let same : c.index-inv-place.result ≡ clause = c.index-inv-place.is ∙ get_or_from_slice_get c.args.inv.now c.args.place clause
    c.index-inv-place.result at in
    let q = clause_query d c.args.inv.now clause c.args.phase c.args.depth in
    let asks : asked ≡ asked_clauses q = c.in_ok-asked.ensures.asked
    ∙ ap (λ (x : InvClause). asked_clauses (clause_query d c.args.inv.now x c.args.phase c.args.depth)) same in
    subst (λ (e : Design). AreFramesOf coding (clause_query e c.args.inv.now clause c.args.phase c.args.depth) keys) of_design (record {
      moved = [];
      are_moved = refl;
      are_needed = subst (λ (ls : List (List KeyLit)). AreNeeded (definitions coding q []) ls keys) asks
          (needed q clause of_design (sym c.clause_span-span.ensures.cycles) refl);
    }) in
    IfOk-weaker c.by_clause.result Needed Framed framed c.by_clause.ensures
