use Rattle.std.proofs.Common.{arith, All, sym, subst}
use Rattle.std.proofs.lemmas.List.Elements.{All-nil, All-take}
use Rattle.net_model.specs.Fits.{Fits}
use Rattle.net_model.proofs.Settling.{All-at}
use Rattle.net_model.specs.Fits.{NamesRegs}
use Rattle.verdicts.specs.Inductive.{StandOnce}
use Rattle.inv_candidates.specs.Candidates.{IsListedTo}
use Rattle.inv_candidates.proofs.Claiming.{listed_first, listed_next, candidates_from, once_from}
use Rattle.inv_candidates.proofs.Shaping.{candidates_in_form}
use Rattle.inv_candidates.proofs.lists.candidates.Goals as goal

pub loop-k-init : goal.loop-k-init
loop-k-init c = record {
  listed = subst (IsListedTo c.args.design.now c.args.claims.now 0) (sym c.new-listing.ensures) (listed_first c.args.design.now c.args.claims.now);
  names = subst (All (NamesRegs c.args.design.now)) (sym c.new-listing.ensures) (All-nil (NamesRegs c.args.design.now));
}

pub add_claim-requires-clause-fits : goal.add_claim-requires-clause-fits
add_claim-requires-clause-fits c =
    All-at (Fits c.args.design.now) c.args.claims.now c.loop-k.k c.item.result.now c.item.ensures c.requires.fit

pub loop-k-preserved : goal.loop-k-preserved
loop-k-preserved c = record {
  listed = listed_next c.args.design.now c.args.claims.now c.loop-k.k c.item.result.now c.loop-k.listing c.add_claim.new.listing c.item.ensures
      c.in_ok-add_claim.ensures.added c.loop-k.invariant.listed;
  names = c.in_ok-add_claim.ensures.names;
}

pub returns-clause-candidates : goal.returns-clause-candidates
returns-clause-candidates c =
    candidates_from c.args.design.now c.args.claims.now c.loop-k.k c.loop-k.listing c.in_ok-clauses.clauses (omega arith) c.in_ok-clauses.ensures
    c.loop-k.invariant.listed

pub returns-clause-names : goal.returns-clause-names
returns-clause-names c =
    let d = c.args.design.now in
    subst (All (NamesRegs d)) (sym c.in_ok-clauses.ensures) (All-take (NamesRegs d) 8192 c.loop-k.listing c.loop-k.invariant.names)

pub returns-clause-once : goal.returns-clause-once
returns-clause-once c =
    subst StandOnce (sym c.in_ok-clauses.ensures)
    (once_from c.args.design.now c.args.claims.now c.loop-k.k 8192 c.loop-k.listing c.loop-k.invariant.listed)

pub returns-clause-in_form : goal.returns-clause-in_form
returns-clause-in_form c =
    let d = c.args.design.now in
    let claims = c.args.claims.now in
    let clauses = c.in_ok-clauses.clauses in
    candidates_in_form d claims clauses c.requires.sound
    (candidates_from d claims c.loop-k.k c.loop-k.listing clauses (omega arith) c.in_ok-clauses.ensures c.loop-k.invariant.listed)
    (subst (All (NamesRegs d)) (sym c.in_ok-clauses.ensures) (All-take (NamesRegs d) 8192 c.loop-k.listing c.loop-k.invariant.names))
