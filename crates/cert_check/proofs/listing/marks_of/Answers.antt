use Rattle.std.proofs.Common.{◌∙◌, ◌+◌, Some, length, take, ap, subst, sym, arith}
use Rattle.cert_values.specs.Certs.{listed_numbers}
use Rattle.cert_defs.proofs.Numbering.{number_at}
use Rattle.cert_check.specs.Listing.{AreMarksOf}
use Rattle.cert_check.proofs.Listings.{number_known, twice_of, marks_next}
use Rattle.cert_check.proofs.listing.marks_of.Goals as goal

pub overflow_sub-place : goal.overflow_sub-place
overflow_sub-place c = (number_known c.args.claims.now c.args.pairs.now c.loop-k.k c.item.result.now c.requires.known c.item.ensures).0

pub at-requires : goal.at-requires
at-requires c =
    let known = number_known c.args.claims.now c.args.pairs.now c.loop-k.k c.item.result.now c.requires.known c.item.ensures in
    omega (arith, known.0, known.1, c.loop-k.invariant.as_many)

pub returns-then-at-clause-err : goal.returns-then-at-clause-err
returns-then-at-clause-err c =
    let known = number_known c.args.claims.now c.args.pairs.now c.loop-k.k c.item.result.now c.requires.known c.item.ensures in
    twice_of (length c.args.claims.now) (listed_numbers c.args.pairs.now) c.loop-k.marks c.loop-k.k c.item.result.now.number c.loop-k.invariant
    (number_at c.args.pairs.now c.loop-k.k c.item.result.now c.item.ensures) known.0 (c.at.ensures ∙ ap Some c.if-at.true)

pub put-requires : goal.put-requires
put-requires c =
    let known = number_known c.args.claims.now c.args.pairs.now c.loop-k.k c.item.result.now c.requires.known c.item.ensures in
    omega (arith, known.0, known.1, c.loop-k.invariant.as_many)

pub loop-k-preserved : goal.loop-k-preserved
loop-k-preserved c =
    let known = number_known c.args.claims.now c.args.pairs.now c.loop-k.k c.item.result.now c.requires.known c.item.ensures in
    subst (AreMarksOf (length c.args.claims.now) (take (c.loop-k.k + 1) (listed_numbers c.args.pairs.now))) (sym c.put.ensures)
    (marks_next (length c.args.claims.now) (listed_numbers c.args.pairs.now) c.loop-k.marks c.loop-k.k c.item.result.now.number c.loop-k.invariant
    (number_at c.args.pairs.now c.loop-k.k c.item.result.now c.item.ensures) known.0 known.1 (c.at.ensures ∙ ap Some c.if-at.false))
