use Rattle.std.proofs.Common.{List, subst}
use Rattle.std.specs.List.{All}
use Rattle.proof_log.specs.declared.derivations.DerivStep.{DerivStep}
use Rattle.cert_text.specs.Found.{HasSmallHints}
use Rattle.cert_text.proofs.FoundLemmas.{found_writable}
use Rattle.cert_text.proofs.writing.push_found.Goals as goal

pub returns-clause-fits : goal.returns-clause-fits
returns-clause-fits c =
    let N : List DerivStep → Type 0 = All HasSmallHints in
    found_writable c.args.derivation.now c.requires (subst N c.as_slice.ensures c.in_ok-check_steps.ensures)
