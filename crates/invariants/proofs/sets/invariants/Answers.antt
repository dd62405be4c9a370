use Rattle.std.proofs.Common.{ℕ, sym, subst}
use Rattle.std.specs.Prelude.{All}
use Rattle.net_model.specs.Fits.{NamesRegs}
use Rattle.verdicts.specs.Logs.{own_coding}
use Rattle.verdicts.specs.Certified.{ProveKept}
use Rattle.verdict_types.specs.Forms.{IsKeptClause}
use Rattle.invariants.proofs.Surviving.{All-tried, StandOnce-tried, kept_all, entries_hold}
use Rattle.invariants.proofs.sets.invariants.Goals as goal

pub with_more-requires : goal.with_more-requires
with_more-requires c = record { once = c.in_ok-own.ensures.once }

pub greatest_set-requires-clause-names : goal.greatest_set-requires-clause-names
greatest_set-requires-clause-names c =
    let d = c.args.design.now in
    All-tried (NamesRegs d) d c.args.depth c.in_ok-clauses.clauses c.in_ok-left.left c.in_ok-left.ensures
    (c.in_ok-clauses.ensures.names d c.in_ok-own.ensures.names c.requires.extra_names)

pub greatest_set-requires-clause-once : goal.greatest_set-requires-clause-once
greatest_set-requires-clause-once c =
    let d = c.args.design.now in
    StandOnce-tried d c.args.depth c.in_ok-clauses.clauses c.in_ok-left.left c.in_ok-left.ensures c.in_ok-clauses.ensures.once

pub returns-clause-kept : goal.returns-clause-kept
returns-clause-kept c =
    let d = c.args.design.now in
    let clauses = c.in_ok-clauses.clauses in
    let left = c.in_ok-left.left in
    let set = c.in_ok-set.set in
    let kept = c.in_ok-set.ensures.kept in
    record {
      own = c.in_ok-own.own;
      of_claims = c.in_ok-own.ensures.candidates;
      candidates = clauses;
      assisted = c.in_ok-clauses.ensures.added;
      kept = kept_all d c.args.depth c.args.budget clauses left set c.in_ok-left.ensures kept;
      drawn = entries_hold d c.args.depth c.args.budget clauses left set c.in_ok-left.ensures kept;
    }

pub returns-clause-met : goal.returns-clause-met
returns-clause-met c = c.in_ok-set.ensures.kept.met

pub returns-clause-proved : goal.returns-clause-proved
returns-clause-proved c =
    let set = c.in_ok-set.set in
    let kept = c.in_ok-set.ensures.kept in
    subst (λ (n : ℕ). ProveKept own_coding c.args.design.now set.kept n set.proofs) (sym kept.at_depth) kept.proofs

pub returns-clause-in_form : goal.returns-clause-in_form
returns-clause-in_form c =
    let d = c.args.design.now in
    c.in_ok-set.ensures.in_form
    (All-tried IsKeptClause d c.args.depth c.in_ok-clauses.clauses c.in_ok-left.left c.in_ok-left.ensures
    (c.in_ok-clauses.ensures.in_form c.in_ok-own.ensures.in_form c.requires.extra_form))
