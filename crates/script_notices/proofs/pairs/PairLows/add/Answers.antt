use Rattle.std.proofs.Common.{◌≡◌, ◌∙◌, ℕ, List, Some, sym, ap, ap₂, cond}
use Rattle.std.specs.Map.{lookup}
use Rattle.script_notices.specs.declared.pairs.Ends.{Ends}
use Rattle.script_notices.specs.Tables.{lesser, multiplier, ends_of, is_ends, low_in}
use Rattle.script_notices.proofs.Lowering.{lowered_by}
use Rattle.script_notices.proofs.Crossing.{same_ends, written}
use Rattle.script_notices.proofs.pairs.PairLows.add.Goals as goal

pub returns-in_ok-insert : goal.returns-in_ok-insert
returns-in_ok-insert c =
    let low = multiplier c.args.claim.now.kind in
    let found : c.low.result ≡ low_in c.args.self.now (ends_of c.args.claim.now) = c.low.ensures ∙ ap (low_in c.args.self.now) c.of-ends.ensures in
    let is : lesser (low_in c.args.self.now (ends_of c.args.claim.now)) low ≡ Some c.in-Some.low =
    sym (ap₂ lesser found c.multiplier.ensures) ∙ sym c.lesser.ensures ∙ c.in-Some.is in
    let old : c.self.inside.lows.entries ≡ c.args.self.now = cc in
    lowered_by is_ends same_ends c.args.self.now c.insert.new.self.entries (ends_of c.args.claim.now) low c.in-Some.low is
    (λ q. written c.self.inside.lows.entries c.insert.new.self.entries c.of-ends.result c.in-Some.low c.in_ok-insert.ensures.updates.0 q
    ∙ ap₂ (λ (key : Ends) (es : List (Ends × ℕ)). cond (is_ends key q) (Some c.in-Some.low) (lookup (is_ends q) es)) c.of-ends.ensures old)
