use Rattle.std.proofs.Common.{◌≡◌, ◌∙◌, ap, sym, subst, [], List, ℕ}
use Rattle.std.proofs.lemmas.Result.{IfOk-weaker}
use Rattle.net_model.specs.Netlist.{IsSound}
use Rattle.net_model.specs.declared.netlist.Design.{Design}
use Rattle.net_model.specs.declared.invariants.InvClause.{InvClause}
use Rattle.net_model.specs.Queries.{Query, Breaks}
use Rattle.query_model.specs.Formula.{definitions, AreNeeded}
use Rattle.query_model.specs.declared.keys.Key.{Key}
use Rattle.frame_unroll.specs.Origins.{clause_reads}
use Rattle.frame_unroll.specs.Found.{with_clauses, AreKeysWithin, AreReached, AreAscending}
use Rattle.frame_unroll.proofs.KeyRange.{clause_keys_within}
use Rattle.frame_unroll.proofs.Needed.{start_within, small_within, needed_from_reached}
use Rattle.frame_unroll.proofs.Using.{clause_reads_used, clause_used_read}
use Rattle.frame_unroll.proofs.frames.Frames.by_clause.Goals as goal

pub in_order-requires : goal.in_order-requires
in_order-requires c k has =
    let coding = c.args.tables.now.coding in
    let d = c.args.tables.now.design in
    let asked = c.args.asked.now in
    let start = c.in_ok-add_clauses.ensures ∙ ap (λ (keys : List Key). with_clauses keys asked) c.in_ok-found.ensures in
    let within = subst (AreKeysWithin d c.args.cycles) (sym start) (start_within d c.args.cycles asked c.requires.within) in
    small_within d c.args.cycles k c.requires.sound c.requires.cycles
    (clause_keys_within coding d c.args.cycles c.add_clauses.new.found c.requires.sound within k (c.in_ok-reach_of_clause.ensures.only k has))

pub returns : goal.returns
returns c =
    let coding = c.args.tables.now.coding in
    let d = c.args.tables.now.design in
    let cycles = c.args.cycles in
    let asked = c.args.asked.now in
    let found = c.reach_of_clause.new.found in
    let start = c.in_ok-add_clauses.ensures ∙ ap (λ (keys : List Key). with_clauses keys asked) c.in_ok-found.ensures in
    let reached = subst (λ (keys : List Key). AreReached (clause_reads coding d cycles) keys found) start c.in_ok-reach_of_clause.ensures in
    let needed : (keys : List Key) → AreAscending found keys → (q : Query) (clause : InvClause) → q.design ≡ d → q.cycles ≡ cycles
    → q.question ≡ Breaks clause → AreNeeded (definitions coding q []) asked keys =
    λ keys sorted q clause of_design of_cycles asks.
    let there = subst (λ (e : Design). AreReached (clause_reads coding e q.cycles) (with_clauses [] asked) found) (sym of_design)
    (subst (λ (n : ℕ). AreReached (clause_reads coding d n) (with_clauses [] asked) found) (sym of_cycles) reached) in
    needed_from_reached (definitions coding q []) asked (clause_reads coding q.design q.cycles) found keys
    (clause_reads_used coding q clause [] asks) (clause_used_read coding q clause [] (subst IsSound (sym of_design) c.requires.sound) asks) there sorted in
    IfOk-weaker c.in_order.result (AreAscending found) (λ keys. (q : Query) (clause : InvClause) → q.design ≡ d → q.cycles ≡ cycles
    → q.question ≡ Breaks clause → AreNeeded (definitions coding q []) asked keys) needed c.in_order.ensures
