use Rattle.std.proofs.Common.{◌≡◌, ◌∙◌, true, Some, None, inr, sym}
use Rattle.std.proofs.lemmas.Result.{err_from_is_err_and}
use Rattle.texts.specs.Names.{are_distinct}
use Rattle.cell_lib.specs.Texts.{broken_in, deep_in, names, StandsTwice}
use Rattle.cell_lib.proofs.Inversions.{match_some, match_none}
use Rattle.cell_lib.proofs.TextLemmas.{made_of, broken_makes_none, deep_makes_none, none_left, twice_makes_none, twice_differ}
use Rattle.cell_lib.proofs.TextLemmas.{made_all, made_lawful}
use Rattle.cell_lib.proofs.readers.read_lib.Goals as goal

pub returns-in_err-groups-clause-value : goal.returns-in_err-groups-clause-value
returns-in_err-groups-clause-value c =
    let p = err_from_is_err_and c.from_residual.result c.from_residual.ensures.1 in
    rw (p.1, p.2) c.in_err-groups.ensures.refused

pub returns-in-Some-clause-value : goal.returns-in-Some-clause-value
returns-in-Some-clause-value c =
    let groups = c.in_ok-groups.groups in
    let here : broken_in groups ≡ Some c.in-Some.place = rw c.as_slice.ensures at (sym c.in_ok-broken.ensures ∙ c.in-Some.is) in
    (made_of c.args.text.now groups c.in_ok-groups.ensures.groups ∙ broken_makes_none groups c.in-Some.place here, groups, c.in_ok-groups.ensures.groups, here)

pub returns-in-Some-deep-clause-value : goal.returns-in-Some-deep-clause-value
returns-in-Some-deep-clause-value c =
    let groups = c.in_ok-groups.groups in
    let whole : broken_in groups ≡ None = rw c.as_slice.ensures at (sym c.in_ok-broken.ensures ∙ none_left c.in_ok-broken.broken c.in_default.not-Some) in
    let here : deep_in groups ≡ Some c.in-Some-deep.place = rw c.as_slice-2.ensures at (sym c.in_ok-deep.ensures ∙ c.in-Some-deep.is) in (
      made_of c.args.text.now groups c.in_ok-groups.ensures.groups ∙ deep_makes_none groups c.in-Some-deep.place whole here,
      inr (groups, c.in_ok-groups.ensures.groups, here),
    )

pub returns-in-Some-twice-clause-value : goal.returns-in-Some-twice-clause-value
returns-in-Some-twice-clause-value c =
    let groups = c.in_ok-groups.groups in
    let name = c.in-Some-twice.name in
    let whole : broken_in groups ≡ None = rw c.as_slice.ensures at (sym c.in_ok-broken.ensures ∙ none_left c.in_ok-broken.broken c.in_default.not-Some) in
    let low : deep_in groups ≡ None = rw c.as_slice-2.ensures at (sym c.in_ok-deep.ensures ∙ none_left c.in_ok-deep.deep c.in_default-deep.not-Some) in
    let found : StandsTwice name (names c.as_slice-3.result.now) = match_some (are_distinct (names c.as_slice-3.result.now) ≡ true)
    (λ n. StandsTwice n (names c.as_slice-3.result.now)) c.in_ok-twice.twice name c.in-Some-twice.is c.in_ok-twice.ensures in
    let stands : StandsTwice name (names groups) = rw c.as_slice-3.ensures at found in (
      made_of c.args.text.now groups c.in_ok-groups.ensures.groups ∙ twice_makes_none groups whole low (twice_differ name (names groups) stands),
      groups,
      c.in_ok-groups.ensures.groups,
      stands,
    )

pub returns-clause-value : goal.returns-clause-value
returns-clause-value c =
    let groups = c.in_ok-groups.groups in
    let whole : broken_in groups ≡ None = rw c.as_slice.ensures at (sym c.in_ok-broken.ensures ∙ none_left c.in_ok-broken.broken c.in_default.not-Some) in
    let low : deep_in groups ≡ None = rw c.as_slice-2.ensures at (sym c.in_ok-deep.ensures ∙ none_left c.in_ok-deep.deep c.in_default-deep.not-Some) in
    let found = match_none (are_distinct (names c.as_slice-3.result.now) ≡ true) (λ n. StandsTwice n (names c.as_slice-3.result.now))
    c.in_ok-twice.twice c.in_default-twice.not-Some c.in_ok-twice.ensures in
    let differ : are_distinct (names groups) ≡ true = rw c.as_slice-3.ensures at found in
    rw (c.in_ok-cells.ensures, c.as_slice-4.ensures) (made_of c.args.text.now groups c.in_ok-groups.ensures.groups ∙ made_all groups whole low differ)

pub returns-clause-lawful : goal.returns-clause-lawful
returns-clause-lawful c =
    let groups = c.in_ok-groups.groups in
    let found = match_none (are_distinct (names c.as_slice-3.result.now) ≡ true) (λ n. StandsTwice n (names c.as_slice-3.result.now))
    c.in_ok-twice.twice c.in_default-twice.not-Some c.in_ok-twice.ensures in
    let differ : are_distinct (names groups) ≡ true = rw c.as_slice-3.ensures at found in
    rw (c.in_ok-cells.ensures, c.as_slice-4.ensures) (made_lawful groups differ)
