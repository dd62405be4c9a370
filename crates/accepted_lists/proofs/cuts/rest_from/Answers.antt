use Rattle.std.proofs.Common.{◌∙◌, ap, arith, drop, length-drop, List, ℕ, sym}
use Rattle.std.specs.Borrow.{Bor}
use Rattle.std.proofs.lemmas.List.{drop-map, drop_min, take_all}
use Rattle.report_rows.specs.Words.{texts}
use Rattle.accepted_lists.proofs.cuts.rest_from.Goals as goal

pub returns : goal.returns
returns c =
    let ws = c.args.words.now in
    ap texts (take_all _ (drop c.min.result ws) (omega (arith, length-drop c.min.result ws)) ∙ ap (λ n. drop n ws) c.min.ensures ∙ drop_min c.args.from ws)
    ∙ sym (drop-map (λ (t : Bor (List ℕ)). t.now) c.args.from ws)
