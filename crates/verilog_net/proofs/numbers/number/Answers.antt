use Rattle.std.proofs.Common.{◌≡◌, ◌<◌, ◌≤◌, ℕ, List, Result, Ok, Err, length, get_or}
use Rattle.std.specs.Result.{MatchResult}
use Rattle.std.proofs.lemmas.List.Sorted.{searched}
use Rattle.verilog_net.proofs.UseLemmas.{not_falling, number_at, number_past}
use Rattle.verilog_net.proofs.numbers.number.Goals as goal

-- what a search found among these numbers
abbrev Found : List ℕ → ℕ → Result ℕ ℕ → Type 0
Found used net r = MatchResult r (λ i. (i < length used) × (get_or used i 0 ≡ net))
    (λ i. (i ≤ length used) × ((k : ℕ) → k < i → get_or used k 0 < net) × ((k : ℕ) → i ≤ k → k < length used → net < get_or used k 0))

pub returns-in-Ok : goal.returns-in-Ok
returns-in-Ok c =
    let used = c.args.used.now in
    let net = c.args.net in
    let all : Found used net c.binary_search.result =
    searched used net c.binary_search.result c.binary_search.ensures.position (not_falling used c.requires) in
    let here : Found used net (Ok c.in-Ok.place) = rw c.in-Ok.is at all in
    number_at used net c.in-Ok.place c.requires here.0 here.1

pub returns-in-Err : goal.returns-in-Err
returns-in-Err c =
    let used = c.args.used.now in
    let net = c.args.net in
    let all : Found used net c.binary_search.result =
    searched used net c.binary_search.result c.binary_search.ensures.position (not_falling used c.requires) in
    let here : Found used net (Err c.in-Err.field-0) = rw c.in-Err.is at all in
    number_past used net c.in-Err.field-0 here.1 here.2
