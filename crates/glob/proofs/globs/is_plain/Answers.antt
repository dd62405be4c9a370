use Rattle.std.proofs.Common.{arith, ◌≡◌, ◌∙◌, ◌≤◌, ℕ, List, length, ap}
use Rattle.std.specs.List.{list_any}
use Rattle.std.proofs.lemmas.List.{drop_all}
use Rattle.glob.specs.Plain.{is_wild}
use Rattle.glob.proofs.Plain.{matches_itself_alone}
use Rattle.glob.proofs.globs.is_plain.Goals as goal

pub returns-clause-itself : goal.returns-clause-itself
returns-clause-itself c = λ is.
    let past : length c.args.pattern.now ≤ c.loop-byte.byte-index = omega (arith, c.loop-byte-test.false) in
    matches_itself_alone c.args.pattern.now (c.loop-byte.invariant ∙ ap (λ (l : List ℕ). list_any is_wild l)
    (drop_all c.loop-byte.byte-index c.args.pattern.now past))
