use Rattle.std.proofs.Common.{[], ◌∷◌, refl, arith}
use Rattle.std.specs.Prelude.{codes}
use Rattle.std.specs.Fmt.{decimal}
use Rattle.std.proofs.lemmas.Result.{err_from_is_err_and}
use Rattle.cert_words.proofs.LineLemmas.{at_next, stop_part, stop_end, whole, not_cut}
use Rattle.cert_lines.specs.SectionWords.{section_of}
use Rattle.cert_lines.specs.declared.sections.Section.TheVariants.{Single, End}
use Rattle.cert_lines.proofs.KindLemmas.{section_kind}
use Rattle.cert_lines.proofs.PartLemmas.{first_in, first_rest, first_onto, end_end, number_in, how_in, how_onto, pair_end}
use Rattle.cert_lines.proofs.sections.read_section.Goals as goal

pub returns-in_err-take_first-clause-err : goal.returns-in_err-take_first-clause-err
returns-in_err-take_first-clause-err c =
    let p = err_from_is_err_and c.from_residual.result c.from_residual.ensures.1 in
    rw (p.1, p.2)
    (stop_part section_kind c.new-words.ensures c.in_err-take_first.ensures.err first_in first_rest (λ pair any. first_onto pair))

pub returns-in_err-take_end-clause-err : goal.returns-in_err-take_end-clause-err
returns-in_err-take_end-clause-err c =
    let first = rw c.if-not-branch.true at c.in_ok-take_first.ensures.ok in
    let at1 = at_next c.new-words.ensures first in
    let p = err_from_is_err_and c.from_residual-in_err-take_end.result c.from_residual-in_err-take_end.ensures.1 in
    rw (p.1, p.2)
    (stop_end section_kind at1 c.in_err-take_end.ensures.err end_end)

pub returns-then-not-branch-clause-ok : goal.returns-then-not-branch-clause-ok
returns-then-not-branch-clause-ok c =
    let first = rw c.if-not-branch.true at c.in_ok-take_first.ensures.ok in
    let at1 = at_next c.new-words.ensures first in
    whole End at1 c.in_ok-take_end.ensures.ok refl tt

pub returns-then-not-branch-clause-whole : goal.returns-then-not-branch-clause-whole
returns-then-not-branch-clause-whole c =
    let first = rw c.if-not-branch.true at c.in_ok-take_first.ensures.ok in
    let at1 = at_next c.new-words.ensures first in
    not_cut at1 c.in_ok-take_end.ensures.ok

pub returns-in_err-number-clause-err : goal.returns-in_err-number-clause-err
returns-in_err-number-clause-err c =
    let first = rw c.if-not-branch.false at c.in_ok-take_first.ensures.ok in
    let at1 = at_next c.new-words.ensures first in
    let p = err_from_is_err_and c.from_residual-in_err-number.result c.from_residual-in_err-number.ensures.1 in
    rw (p.1, p.2)
    (stop_part section_kind at1 c.in_err-number.ensures.err number_in (λ n. codes "single" ∷ []) (λ n within. (Single n, omega arith, refl)))

pub returns-in_err-how-clause-err : goal.returns-in_err-how-clause-err
returns-in_err-how-clause-err c =
    let first = rw c.if-not-branch.false at c.in_ok-take_first.ensures.ok in
    let at1 = at_next c.new-words.ensures first in
    let at2 = at_next at1 c.in_ok-number.ensures.ok.1 in
    let number = c.in_ok-number.number in
    let p = err_from_is_err_and c.from_residual-in_err-how.result c.from_residual-in_err-how.ensures.1 in
    rw (p.1, p.2)
    (stop_part section_kind at2 c.in_err-how.ensures.err (how_in (decimal number)) (λ h. [])
    (λ h fits. let onto = how_onto number c.in_ok-number.ensures.ok.0 h fits in (section_of number h, onto.0, onto.1)))

pub returns-in_err-take_end-2-clause-err : goal.returns-in_err-take_end-2-clause-err
returns-in_err-take_end-2-clause-err c =
    let first = rw c.if-not-branch.false at c.in_ok-take_first.ensures.ok in
    let at1 = at_next c.new-words.ensures first in
    let at2 = at_next at1 c.in_ok-number.ensures.ok.1 in
    let at3 = at_next at2 c.in_ok-how.ensures.ok.1 in
    let p = err_from_is_err_and c.from_residual-in_err-take_end-2.result c.from_residual-in_err-take_end-2.ensures.1 in
    rw (p.1, p.2)
    (stop_end section_kind at3 c.in_err-take_end-2.ensures.err (pair_end (decimal c.in_ok-number.number) c.in_ok-how.how))

pub returns-clause-ok : goal.returns-clause-ok
returns-clause-ok c =
    let first = rw c.if-not-branch.false at c.in_ok-take_first.ensures.ok in
    let at1 = at_next c.new-words.ensures first in
    let at2 = at_next at1 c.in_ok-number.ensures.ok.1 in
    let at3 = at_next at2 c.in_ok-how.ensures.ok.1 in
    let onto = how_onto c.in_ok-number.number c.in_ok-number.ensures.ok.0 c.in_ok-how.how c.in_ok-how.ensures.ok.0 in
    rw c.section_of.ensures (whole (section_of c.in_ok-number.number c.in_ok-how.how) at3 c.in_ok-take_end-2.ensures.ok onto.1 onto.0)

pub returns-clause-whole : goal.returns-clause-whole
returns-clause-whole c =
    let first = rw c.if-not-branch.false at c.in_ok-take_first.ensures.ok in
    let at1 = at_next c.new-words.ensures first in
    let at2 = at_next at1 c.in_ok-number.ensures.ok.1 in
    let at3 = at_next at2 c.in_ok-how.ensures.ok.1 in
    not_cut at3 c.in_ok-take_end-2.ensures.ok
