use Rattle.std.proofs.Common.{◌+◌, ◌∙◌, List, ℕ, ap, sym, drop}
use Rattle.glob.specs.Match.{star, matches_whole}
use Rattle.glob.proofs.Laying.{whole_before_star}
use Rattle.glob.proofs.globs.matches_whole.Goals as goal

pub returns-in-Star : goal.returns-in-Star
returns-in-Star c =
    c.matches_after_star.ensures ∙ ap (λ (l : List ℕ). star (matches_whole l) c.after.result.now) c.past.ensures
    ∙ ap (star (matches_whole (drop (c.in-Star.count + 1) c.args.pattern.now))) c.after.ensures
    ∙ sym (whole_before_star c.args.pattern.now c.args.name.now c.in-Star.count c.in-Star.ensures)
