use Rattle.std.proofs.Common.{◌≡◌, ◌≤◌, ℕ, get_or, subst, arith}
use Rattle.std.proofs.lemmas.Option.{get_or_from_slice_get, slice_get_within}
use Rattle.texts.specs.Names.{place_of}
use Rattle.texts.proofs.NameLemmas.{distinct_by_test}
use Rattle.link_cuts.proofs.Counted.{count_fits, counts_put, counts_same, counts_all}
use Rattle.link_cuts.proofs.references.counts_of.Goals as goal
use Rattle.link_cuts.proofs.references.counts_of.Goals.{then-place-len, else-place-len}

pub overflow_add-count : goal.overflow_add-count
overflow_add-count c =
    let counts = c.loop-k.counts in
    let own = c.place-place.result in
    let value : get_or counts own 0 ≡ c.at-count.result = get_or_from_slice_get counts own c.at-count.result 0 c.at-count.ensures in
    let most = count_fits c.args.cells.now c.loop-k.k c.args.references.now counts own (omega arith)
    (slice_get_within counts own c.at-count.result c.at-count.ensures) c.loop-k.invariant in
    omega (arith, value, most)

pub loop-k-preserved : goal.loop-k-preserved
loop-k-preserved c =
    let cells = c.args.cells.now in
    let names = c.args.references.now in
    let counts = c.loop-k.counts in
    let x = c.item.result.now in
    let apart = distinct_by_test names c.requires in
    elim c.if-place-len.branch [
      | then-place-len w ↦
          rw (w.counts-is, w.put.ensures) (counts_put cells c.loop-k.k x names counts c.place-place.result w.at-count.result c.item.ensures apart
          c.place-place.ensures w.at-count.ensures c.loop-k.invariant)
      | else-place-len w ↦
          rw w.counts-is (counts_same cells c.loop-k.k x names counts c.item.ensures apart
          (let past = w.if-place-len.false in omega (arith, past, c.len-in-loop-k.ensures, c.place-place.ensures)) c.loop-k.invariant)
    ]

pub returns : goal.returns
returns c = counts_all c.args.cells.now c.loop-k.k c.args.references.now c.loop-k.counts (omega arith) c.loop-k.invariant
