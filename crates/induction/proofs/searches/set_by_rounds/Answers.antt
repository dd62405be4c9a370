use Rattle.std.proofs.Common.{◌≡◌, ◌^◌, ◌<◌, List, All, length, map, ap, subst, sym, arith}
use Rattle.net_model.specs.declared.invariants.InvClause.{InvClause}
use Rattle.net_model.specs.Fits.{NamesRegs}
use Rattle.verdicts.specs.Kept.{IsKeptSet}
use Rattle.verdict_types.specs.Forms.{IsSetInForm}
use Rattle.verdict_types.specs.declared.kept.InvProof.{InvProof}
use Rattle.verdict_types.specs.declared.kept.InvSet.{InvSet}
use Rattle.verdict_types.specs.declared.kept.InvSpent.{InvSpent}
use Rattle.induction.specs.Members.{clause_of}
use Rattle.induction.specs.Pools.{IsSearch, AreBased}
use Rattle.induction.specs.Steps.{AreStepsRefuted}
use Rattle.induction.specs.declared.members.Member.{Member}
use Rattle.induction.proofs.Rounding.{refuted_round, broken_round, spent_round, answered_low, spent_low, members_low, round_broken, round_less}
use Rattle.induction.proofs.Rounding.{based_holding, spent_members, spent_based, spent_less}
use Rattle.induction.proofs.Ending.{all_left, search_done, done_in_form}
use Rattle.induction.proofs.searches.set_by_rounds.Goals as goal

pub ask_steps-requires-clause-names : goal.ask_steps-requires-clause-names
ask_steps-requires-clause-names c =
    let d = c.args.design.now in
    subst (All (NamesRegs d)) (sym c.in_ok-clauses.ensures)
    (all_left (NamesRegs d) d c.args.depth c.args.budget c.args.candidates.now (map clause_of c.loop-spent.members) c.loop-spent.spent c.requires.names
    c.loop-spent.invariant.search)

pub returns-in-Refuted-clause-kept : goal.returns-in-Refuted-clause-kept
returns-in-Refuted-clause-kept c =
    let d = c.args.design.now in
    let depth = c.args.depth in
    let budget = c.args.budget in
    let candidates = c.args.candidates.now in
    let members = c.loop-spent.members in
    let spent = c.loop-spent.spent in
    let steps = c.in-Refuted.steps in
    let clauses = c.in_ok-clauses.clauses in
    let same : clauses ≡ map clause_of members = c.in_ok-clauses.ensures in
    let refuted = subst (λ (xs : List InvClause). AreStepsRefuted d xs depth (length xs) steps) same
    (refuted_round d clauses depth budget c.in_ok-steps.field-0 steps c.in-Refuted.is c.in_ok-steps.ensures) in
    let set : List InvClause → List InvProof → InvSet =
    λ (ks : List InvClause) (ps : List InvProof). record { depth = depth; kept = ks; proofs = ps; spent = spent } in
    subst (λ (ks : List InvClause). IsKeptSet d depth budget candidates (set ks c.in_ok-proofs-in-Refuted.proofs)) (sym same)
    (subst (λ (ps : List InvProof). IsKeptSet d depth budget candidates (set (map clause_of members) ps)) (sym c.in_ok-proofs-in-Refuted.ensures)
    (search_done d depth budget candidates members spent steps c.requires.deep c.loop-spent.invariant.based refuted
    c.loop-spent.invariant.search))

pub returns-in-Refuted-clause-names : goal.returns-in-Refuted-clause-names
returns-in-Refuted-clause-names c =
    let d = c.args.design.now in
    subst (All (NamesRegs d)) (sym c.in_ok-clauses.ensures)
    (all_left (NamesRegs d) d c.args.depth c.args.budget c.args.candidates.now (map clause_of c.loop-spent.members) c.loop-spent.spent c.requires.names
    c.loop-spent.invariant.search)

pub returns-in-Refuted-clause-in_form : goal.returns-in-Refuted-clause-in_form
returns-in-Refuted-clause-in_form c all =
    let d = c.args.design.now in
    let depth = c.args.depth in
    let budget = c.args.budget in
    let candidates = c.args.candidates.now in
    let members = c.loop-spent.members in
    let spent = c.loop-spent.spent in
    let steps = c.in-Refuted.steps in
    let clauses = c.in_ok-clauses.clauses in
    let same : clauses ≡ map clause_of members = c.in_ok-clauses.ensures in
    let refuted = subst (λ (xs : List InvClause). AreStepsRefuted d xs depth (length xs) steps) same
    (refuted_round d clauses depth budget c.in_ok-steps.field-0 steps c.in-Refuted.is c.in_ok-steps.ensures) in
    let set : List InvClause → List InvProof → InvSet =
    λ (ks : List InvClause) (ps : List InvProof). record { depth = depth; kept = ks; proofs = ps; spent = spent } in
    let few : length (map clause_of members) < 2 ^ 63 = omega (arith, ap length same, ap length c.as_slice-kept.ensures) in
    subst (λ (ks : List InvClause). IsSetInForm (set ks c.in_ok-proofs-in-Refuted.proofs)) (sym same)
    (subst (λ (ps : List InvProof). IsSetInForm (set (map clause_of members) ps)) (sym c.in_ok-proofs-in-Refuted.ensures)
    (done_in_form d depth budget candidates members spent steps c.requires.deep c.requires.few few c.loop-spent.invariant.based
    refuted c.loop-spent.invariant.search all))

pub holding_in-members-requires : goal.holding_in-members-requires
holding_in-members-requires c =
    let d = c.args.design.now in
    let clauses = c.in_ok-clauses.clauses in
    let place = c.in-Broken.place in
    let answered = broken_round d clauses c.args.depth c.args.budget c.in_ok-steps.field-0 place c.in-Broken.stretch c.in-Broken.is c.in_ok-steps.ensures in
    let low = members_low c.loop-spent.members clauses place c.in_ok-clauses.ensures (answered_low d clauses c.args.depth place c.in-Broken.stretch answered) in
    omega (arith, low)

pub loop-spent-smaller-in-Broken-1 : goal.loop-spent-smaller-in-Broken-1
loop-spent-smaller-in-Broken-1 c =
    let d = c.args.design.now in
    let clauses = c.in_ok-clauses.clauses in
    let members = c.loop-spent.members in
    let place = c.in-Broken.place in
    let answered = broken_round d clauses c.args.depth c.args.budget c.in_ok-steps.field-0 place c.in-Broken.stretch c.in-Broken.is c.in_ok-steps.ensures in
    subst (λ (ms : List Member). length ms < length members) (sym c.holding_in-members.ensures)
    (round_less d c.args.depth place clauses members c.in-Broken.stretch c.item.result.now c.in_ok-clauses.ensures answered c.item.ensures)

pub loop-spent-preserved-in-Broken-1 : goal.loop-spent-preserved-in-Broken-1
loop-spent-preserved-in-Broken-1 c =
    let d = c.args.design.now in
    let depth = c.args.depth in
    let clauses = c.in_ok-clauses.clauses in
    let members = c.loop-spent.members in
    let place = c.in-Broken.place in
    let answered = broken_round d clauses depth c.args.budget c.in_ok-steps.field-0 place c.in-Broken.stretch c.in-Broken.is c.in_ok-steps.ensures in
    record {
      search =
          subst (λ (ms : List Member). IsSearch d depth c.args.budget c.args.candidates.now (map clause_of ms) c.loop-spent.spent)
          (sym c.holding_in-members.ensures)
          (round_broken d depth c.args.budget place c.args.candidates.now clauses members c.loop-spent.spent c.in-Broken.stretch c.item.result.now
          c.in_ok-clauses.ensures answered c.item.ensures c.loop-spent.invariant.search);
      based =
          subst (AreBased d depth) (sym c.holding_in-members.ensures)
          (based_holding d depth place c.item.result.now members c.loop-spent.invariant.based);
    }

pub take_out-clause-requires : goal.take_out-clause-requires
take_out-clause-requires c =
    let d = c.args.design.now in
    let clauses = c.in_ok-clauses.clauses in
    let place = c.in-Spent.place in
    let spends = spent_round d clauses c.args.depth c.args.budget c.in_ok-steps.field-0 place c.in-Spent.log c.in-Spent.is c.in_ok-steps.ensures in
    members_low c.loop-spent.members clauses place c.in_ok-clauses.ensures (spent_low d clauses c.args.depth place c.args.budget c.in-Spent.log spends)

pub loop-spent-smaller : goal.loop-spent-smaller
loop-spent-smaller c =
    let d = c.args.design.now in
    let clauses = c.in_ok-clauses.clauses in
    let place = c.in-Spent.place in
    let spends = spent_round d clauses c.args.depth c.args.budget c.in_ok-steps.field-0 place c.in-Spent.log c.in-Spent.is c.in_ok-steps.ensures in
    let low = members_low c.loop-spent.members clauses place c.in_ok-clauses.ensures
    (spent_low d clauses c.args.depth place c.args.budget c.in-Spent.log spends) in
    spent_less place c.loop-spent.members c.take_out-clause.result.1 low c.take_out-clause.ensures.others

pub loop-spent-preserved : goal.loop-spent-preserved
loop-spent-preserved c =
    let d = c.args.design.now in
    let depth = c.args.depth in
    let budget = c.args.budget in
    let candidates = c.args.candidates.now in
    let clauses = c.in_ok-clauses.clauses in
    let members = c.loop-spent.members in
    let others = c.take_out-clause.result.1 in
    let place = c.in-Spent.place in
    let log = c.in-Spent.log in
    let spends = spent_round d clauses depth budget c.in_ok-steps.field-0 place log c.in-Spent.is c.in_ok-steps.ensures in
    let low = members_low members clauses place c.in_ok-clauses.ensures (spent_low d clauses depth place budget log spends) in
    record {
      search =
          subst (λ (ss : List InvSpent). IsSearch d depth budget candidates (map clause_of others) ss) (sym c.in_ok-push-in-Spent.ensures.ok)
          (spent_members d depth budget place candidates clauses members others c.loop-spent.spent c.take_out-clause.result.0 log
          c.in_ok-clauses.ensures c.take_out-clause.ensures.clause spends c.take_out-clause.ensures.others c.loop-spent.invariant.search);
      based = spent_based d depth place members others low c.take_out-clause.ensures.others c.loop-spent.invariant.based;
    }
