use Rattle.std.proofs.Common.{◌≡◌, ◌∙◌, ℕ, true, List, ◌++◌, ap, sym}
use Rattle.found_pairs.specs.Lines as spec
use Rattle.found_pairs.proofs.Writing.{lines_alone}
use Rattle.found_pairs.proofs.lines.push_pair.Goals as goal

pub returns-in_ok-push_lines : goal.returns-in_ok-push_lines
returns-in_ok-push_lines c =
    let tried = c.args.tried.now in
    let is : spec.is_written tried ≡ true = cc in
    c.in_ok-push_lines.ensures ∙ ap (λ (s : List ℕ). c.args.text.now.items ++ s) (sym (lines_alone c.args.hold tried is))
