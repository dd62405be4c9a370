use Rattle.std.proofs.Common.{◌≡◌, ◌∙◌, ap, sym, subst, [], List, ℕ}
use Rattle.std.proofs.lemmas.Result.{IfOk-weaker}
use Rattle.net_model.specs.Netlist.{IsSound}
use Rattle.net_model.specs.Fits.{Fits}
use Rattle.net_model.specs.declared.netlist.Design.{Design}
use Rattle.net_model.specs.Queries.{Query, Violates}
use Rattle.query_model.specs.Formula.{definitions, AreNeeded}
use Rattle.query_model.specs.declared.keys.Key.{Key}
use Rattle.frame_unroll.specs.Origins.{claim_reads}
use Rattle.frame_unroll.specs.Found.{with_clauses, AreKeysWithin, AreReached, AreAscending}
use Rattle.frame_unroll.proofs.KeyRange.{claim_keys_within}
use Rattle.frame_unroll.proofs.Needed.{start_within, small_within, needed_from_reached}
use Rattle.frame_unroll.proofs.UsingLate.{reads_used}
use Rattle.frame_unroll.proofs.UsedRead.{used_read}
use Rattle.frame_unroll.proofs.frames.Frames.by_claim.Goals as goal

pub reach_of_claim-requires-clause-within : goal.reach_of_claim-requires-clause-within
reach_of_claim-requires-clause-within c =
    let d = c.args.subject.now.design.now in
    let asked = c.args.asked.now in
    let start = c.in_ok-add_clauses.ensures ∙ ap (λ (keys : List Key). with_clauses keys asked) c.in_ok-found.ensures in
    subst (AreKeysWithin d c.args.cycles) (sym start) (start_within d c.args.cycles asked c.requires.within)

pub in_order-requires : goal.in_order-requires
in_order-requires c k has =
    let coding = c.args.subject.now.tables.now.coding in
    let d = c.args.subject.now.design.now in
    let claim = c.args.subject.now.claim.now in
    let asked = c.args.asked.now in
    let is = c.requires.subject in
    let start = c.in_ok-add_clauses.ensures ∙ ap (λ (keys : List Key). with_clauses keys asked) c.in_ok-found.ensures in
    let within = subst (AreKeysWithin d c.args.cycles) (sym start) (start_within d c.args.cycles asked c.requires.within) in
    small_within d c.args.cycles k is.sound c.requires.cycles
    (claim_keys_within coding d claim c.args.subject.now.moved c.args.cycles c.add_clauses.new.found is.sound is.fits within k
    (c.in_ok-reach_of_claim.ensures.only k has))

pub returns : goal.returns
returns c =
    let coding = c.args.subject.now.tables.now.coding in
    let d = c.args.subject.now.design.now in
    let claim = c.args.subject.now.claim.now in
    let moved = c.args.subject.now.moved in
    let cycles = c.args.cycles in
    let asked = c.args.asked.now in
    let found = c.reach_of_claim.new.found in
    let start = c.in_ok-add_clauses.ensures ∙ ap (λ (keys : List Key). with_clauses keys asked) c.in_ok-found.ensures in
    let reached = subst (λ (keys : List Key). AreReached (claim_reads coding d claim moved cycles) keys found) start c.in_ok-reach_of_claim.ensures in
    let needed : (keys : List Key) → AreAscending found keys → (q : Query) (offset clean : ℕ) → q.design ≡ d → q.cycles ≡ cycles
    → q.question ≡ Violates claim offset clean → AreNeeded (definitions coding q moved) asked keys =
    λ keys sorted q offset clean of_design of_cycles asks.
    let sound = subst IsSound (sym of_design) c.requires.subject.sound in
    let fits = subst (λ (e : Design). Fits e claim) (sym of_design) c.requires.subject.fits in
    let there = subst (λ (e : Design). AreReached (claim_reads coding e claim moved q.cycles) (with_clauses [] asked) found) (sym of_design)
    (subst (λ (n : ℕ). AreReached (claim_reads coding d claim moved n) (with_clauses [] asked) found) (sym of_cycles) reached) in
    needed_from_reached (definitions coding q moved) asked (claim_reads coding q.design claim moved q.cycles) found keys
    (reads_used coding q claim offset clean moved sound fits asks) (used_read coding q claim offset clean moved sound fits asks) there sorted in
    IfOk-weaker c.in_order.result (AreAscending found) (λ keys. (q : Query) (offset clean : ℕ) → q.design ≡ d → q.cycles ≡ cycles
    → q.question ≡ Violates claim offset clean → AreNeeded (definitions coding q moved) asked keys) needed c.in_order.ensures
