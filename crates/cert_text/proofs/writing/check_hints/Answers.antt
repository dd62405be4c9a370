use Rattle.std.proofs.Common.{◌<◌, ◌^◌, ℕ, List, subst, arith}
use Rattle.std.specs.List.{All}
use Rattle.std.proofs.lemmas.List.{take_all}
use Rattle.std.proofs.lemmas.List.Elements.{All-more}
use Rattle.cert_text.proofs.writing.check_hints.Goals as goal

abbrev small : ℕ → Type 0
small h = h < 2 ^ 63

pub loop-hint-preserved : goal.loop-hint-preserved
loop-hint-preserved c = All-more small c.args.hints.now c.loop-hint.hint-index 0 (omega arith) c.loop-hint.invariant (omega arith)

pub returns : goal.returns
returns c =
    let N : List ℕ → Type 0 = All small in
    subst N (take_all c.loop-hint.hint-index c.args.hints.now (omega arith)) c.loop-hint.invariant
