use Rattle.std.proofs.Common.{◌≡◌, ap, sym, subst, arith, List, OnOk}
use Rattle.query_model.specs.declared.keys.Key.{Key}
use Rattle.frame_unroll.specs.Found.{IsOriginIn, IsOriginAt, with_keys}
use Rattle.frame_unroll.proofs.OriginRange.{claim_origin_in, claim_origin_at}
use Rattle.frame_unroll.proofs.Rows.{late_reads_at}
use Rattle.frame_unroll.proofs.found_keys.add_claim_reads.Goals as goal

pub add_cycle_reads-requires-clause-origin : goal.add_cycle_reads-requires-clause-origin
add_cycle_reads-requires-clause-origin c =
    let d = c.args.subject.now.design.now in
    let claim = c.args.subject.now.claim.now in
    subst (IsOriginIn d) (sym c.claim_origin-origin.ensures)
    (claim_origin_in d claim c.args.subject.now.moved c.args.cycles c.args.key c.requires.subject.fits (omega arith))

pub add_late_reads-requires-clause-origin : goal.add_late_reads-requires-clause-origin
add_late_reads-requires-clause-origin c =
    let d = c.args.subject.now.design.now in
    let claim = c.args.subject.now.claim.now in
    subst (IsOriginAt d claim c.args.key.layer) (sym c.claim_origin-origin.ensures)
    (claim_origin_at d claim c.args.subject.now.moved c.args.cycles c.args.key c.requires.subject.fits (omega arith))

pub returns-else-key-eq0 : goal.returns-else-key-eq0
returns-else-key-eq0 c =
    let d = c.args.subject.now.design.now in
    let claim = c.args.subject.now.claim.now in
    let reads = late_reads_at c.args.subject.now.tables.now.coding d claim c.args.subject.now.moved c.args.cycles c.args.key c.claim_origin-origin.result
    (omega arith)
    c.claim_origin-origin.ensures in
    subst (λ (keys : List Key). OnOk c.add_late_reads.result (c.add_late_reads.new.found ≡ keys)) (ap (with_keys c.args.found.now) reads)
    c.add_late_reads.ensures
