use Rattle.std.proofs.Common.{All}
use Rattle.net_model.specs.Fits.{NamesRegs}
use Rattle.inv_candidates.specs.Candidates.{IsListedTo}
use Rattle.inv_candidates.proofs.lists.candidates.Given as goal

abbrev pub invariant-loop-k : goal.invariant-loop-k
invariant-loop-k l = record {
  listed : IsListedTo l.design l.claims l.k l.listing;
  names : All (NamesRegs l.design) l.listing;
}
