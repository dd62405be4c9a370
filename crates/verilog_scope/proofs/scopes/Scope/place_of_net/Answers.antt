use Rattle.std.proofs.Common.{arith, ◌≡◌, ◌≤◌, ◌<◌, ◌+◌, ◌-◌, ℕ, List, Result, Ok, Err, length, get_or, inl, inr}
use Rattle.std.specs.Result.{MatchResult}
use Rattle.std.proofs.lemmas.Bool.{cases_lt}
use Rattle.std.proofs.lemmas.List.Sorted.{searched}
use Rattle.verilog_scope.proofs.NumberLemmas.{some_name, first_base, bases_rise, base_after, bit_of}
use Rattle.verilog_scope.proofs.scopes.Scope.place_of_net.Goals as goal

-- what a search found among these bases
abbrev Found : List ℕ → ℕ → Result ℕ ℕ → Type 0
Found bases net r = MatchResult r (λ i. (i < length bases) × (get_or bases i 0 ≡ net))
    (λ i. (i ≤ length bases) × ((k : ℕ) → k < i → get_or bases k 0 < net) × ((k : ℕ) → i ≤ k → k < length bases → net < get_or bases k 0))

pub overflow_sub-result : goal.overflow_sub-result
overflow_sub-result c =
    let s = c.args.self.now in
    let net = c.args.net in
    let all : Found s.bases net c.binary_search.result =
    rw c.as_slice.ensures at (searched c.as_slice.result.now net c.binary_search.result c.binary_search.ensures.position (rw c.as_slice.ensures
    (bases_rise s c.requires.numbered))) in
    let here : Found s.bases net (Err c.in-Err.after) = rw c.in-Err.is at all in
    let some = some_name s c.requires.numbered net c.requires.net in
    let first = first_base s c.requires.numbered net c.requires.net in
    elim (cases_lt 0 c.in-Err.after) [
      | inl more ↦ omega arith
      | inr none ↦ let above = here.2 0 none some in absurd (omega arith)
    ]

pub returns-in-Ok : goal.returns-in-Ok
returns-in-Ok c =
    let s = c.args.self.now in
    let net = c.args.net in
    let all : Found s.bases net c.binary_search.result =
    rw c.as_slice.ensures at (searched c.as_slice.result.now net c.binary_search.result c.binary_search.ensures.position (rw c.as_slice.ensures
    (bases_rise s c.requires.numbered))) in
    let here : Found s.bases net (Ok c.in-Ok.place) = rw c.in-Ok.is at all in
    let k = c.in-Ok.place in
    bit_of s c.requires.numbered k net c.requires.net here.0 (omega (arith, here.1))
    (λ more. let next = base_after s c.requires.numbered k more in omega (arith, here.1))

pub returns-in-Err : goal.returns-in-Err
returns-in-Err c =
    let s = c.args.self.now in
    let net = c.args.net in
    let all : Found s.bases net c.binary_search.result =
    rw c.as_slice.ensures at (searched c.as_slice.result.now net c.binary_search.result c.binary_search.ensures.position (rw c.as_slice.ensures
    (bases_rise s c.requires.numbered))) in
    let here : Found s.bases net (Err c.in-Err.after) = rw c.in-Err.is at all in
    let i = c.in-Err.after in
    let positive : 1 ≤ i = overflow_sub-result c in
    let under = here.1 (i - 1) (omega arith) in
    let upto = here.0 in
    bit_of s c.requires.numbered (i - 1) net c.requires.net (omega arith) (omega arith)
    (λ more. let next : (i - 1) + 1 ≡ i = omega arith in rw next (here.2 i (omega arith) (omega arith)))
