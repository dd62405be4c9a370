use Rattle.std.proofs.Common.{arith, refl}
use Rattle.net_model.specs.Fits.{NamesRegs}
use Rattle.inv_candidates.specs.Clauses.{group_clauses}
use Rattle.inv_candidates.specs.Candidates.{Adds_group, Adds_none, Is_full}
use Rattle.inv_candidates.proofs.Adding.{adds_all}
use Rattle.inv_candidates.proofs.Standing.{group_names}
use Rattle.inv_candidates.proofs.lists.add_claim.Goals as goal

pub returns-then-len-ge-MOST_CLAUSES-clause-added : goal.returns-then-len-ge-MOST_CLAUSES-clause-added
returns-then-len-ge-MOST_CLAUSES-clause-added c = Is_full (omega arith) refl

pub returns-then-not-is_judged-clause-added : goal.returns-then-not-is_judged-clause-added
returns-then-not-is_judged-clause-added c =
    Adds_none (omega arith) (λ judged. let yes = c.is_judged.ensures.1 judged in absurd (let no = c.if-not-is_judged.true in cc)) refl

pub returns-clause-added : goal.returns-clause-added
returns-clause-added c =
    Adds_group c.in_ok-group.group (omega arith) (c.is_judged.ensures.0 c.if-not-is_judged.false) c.in_ok-group.ensures.group c.in_ok-add_group.ensures

pub returns-clause-names : goal.returns-clause-names
returns-clause-names c =
    let d = c.args.design.now in
    let group = c.in_ok-group.group in
    adds_all (NamesRegs d) c.args.listing.now (group_clauses group) c.add_group.new.self c.in_ok-add_group.ensures c.requires.names
    (group_names d group c.in_ok-group.ensures.names)
