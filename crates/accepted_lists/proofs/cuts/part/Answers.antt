use Rattle.std.proofs.Common.{◌∙◌, ◌-◌, ap, take, List, ℕ, sym}
use Rattle.std.specs.Borrow.{Bor}
use Rattle.std.proofs.lemmas.List.{take-map, take_min}
use Rattle.report_rows.specs.Words.{texts}
use Rattle.accepted_lists.proofs.cuts.part.Goals as goal

pub returns : goal.returns
returns c =
    let rest = c.rest_from-rest.result.now in
    ap texts (ap (λ n. take n rest) c.min.ensures ∙ take_min c.saturating_sub.result rest)
    ∙ sym (take-map (λ (t : Bor (List ℕ)). t.now) c.saturating_sub.result rest)
    ∙ ap (λ n. take n (texts rest)) c.saturating_sub.ensures ∙ ap (take (c.args.upto - c.args.from)) c.rest_from-rest.ensures
