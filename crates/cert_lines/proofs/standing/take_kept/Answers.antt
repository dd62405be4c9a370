use Rattle.sdcv_base.specs.Cursors.{rest, place_of}
use Rattle.cert_lines.specs.Kinds.{kept_words, IsKept}
use Rattle.cert_lines.proofs.KindLemmas.{kept_kind}
use Rattle.cert_lines.proofs.LineTexts.{line_read, line_fault}
use Rattle.cert_lines.proofs.Shortest.{one_state, one_state_fits}
use Rattle.cert_lines.proofs.standing.take_kept.Goals as goal

pub skip-requires : goal.skip-requires
skip-requires c =
    let read =
    line_read (IsKept c.args.long) kept_words (rest c.args.cursor.now) c.next_line-line.result.text.now
    (place_of c.args.cursor.now) c.next_line-line.result.at c.next_line-line.result.end c.next_line-line.result.cut c.in-Ok.value
    c.next_line-line.ensures c.in-Ok.ensures.whole c.in-Ok.ensures.ok in
    read.some

pub returns-in-Ok-clause-ok : goal.returns-in-Ok-clause-ok
returns-in-Ok-clause-ok c =
    let read =
    line_read (IsKept c.args.long) kept_words (rest c.args.cursor.now) c.next_line-line.result.text.now
    (place_of c.args.cursor.now) c.next_line-line.result.at c.next_line-line.result.end c.next_line-line.result.cut c.in-Ok.value
    c.next_line-line.ensures c.in-Ok.ensures.whole c.in-Ok.ensures.ok in
    (read.fits, rw c.skip.ensures.rest read.is)

pub returns-in-Err-clause-err : goal.returns-in-Err-clause-err
returns-in-Err-clause-err c =
    rw c.fault_of.ensures
    (line_fault (IsKept c.args.long) kept_words (kept_kind c.args.long) one_state (one_state_fits c.args.long)
    (rest c.args.cursor.now) c.next_line-line.result.text.now
    (place_of c.args.cursor.now) c.next_line-line.result.at c.next_line-line.result.end c.next_line-line.result.cut c.next_line-line.ensures
    c.in-Err.stop c.in-Err.ensures.err)
