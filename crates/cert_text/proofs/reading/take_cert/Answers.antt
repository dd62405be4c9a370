use Rattle.std.proofs.Common.{◌∙◌, Bool, subst}
use Rattle.std.proofs.lemmas.Result.{err_from_is_err_and}
use Rattle.sdcv_base.specs.Cursors.{rest, place_of}
use Rattle.cert_lines.specs.Kinds.{text_of, kept_words, IsKept}
use Rattle.cert_lines.specs.Texts.{AreMany, many_text, IsFault}
use Rattle.cert_text.proofs.CertTexts.{first_fault, head_fault, kept_fault, proofs_fault, tail_fault, cert_read, head_front}
use Rattle.cert_text.proofs.CertTexts.{kept_front, proofs_front}
use Rattle.cert_text.proofs.reading.take_cert.Goals as goal

pub returns-in_err-version-clause-err : goal.returns-in_err-version-clause-err
returns-in_err-version-clause-err c =
    let p = err_from_is_err_and c.from_residual.result c.from_residual.ensures.1 in
    rw (p.1, p.2) (first_fault (rest c.args.cursor.now) (place_of c.args.cursor.now) c.in_err-version.field-0.0 c.in_err-version.ensures.err)

pub returns-in_err-head-clause-err : goal.returns-in_err-head-clause-err
returns-in_err-head-clause-err c =
    let p = err_from_is_err_and c.from_residual-in_err-head.result c.from_residual-in_err-head.ensures.1 in
    let v = c.in_ok-version.version in
    let fv = c.in_ok-version.ensures.ok.0 in
    let b1 = c.in_ok-version.ensures.ok.1 in
    rw (p.1, p.2)
    (head_fault v fv (rest c.take_first.new.cursor) (rest c.args.cursor.now) (place_of c.take_first.new.cursor)
    (place_of c.args.cursor.now) b1 c.in_ok-version.ensures.place c.in_err-head.field-0.0 c.in_err-head.ensures.err)

pub returns-in_err-kept-clause-err : goal.returns-in_err-kept-clause-err
returns-in_err-kept-clause-err c =
    let p = err_from_is_err_and c.from_residual-in_err-kept.result c.from_residual-in_err-kept.ensures.1 in
    let v = c.in_ok-version.version in
    let fv = c.in_ok-version.ensures.ok.0 in
    let b1 = c.in_ok-version.ensures.ok.1 in
    let b2 = head_front v c.in_ok-head.head (rest c.args.cursor.now) (rest c.take_first.new.cursor) (rest c.take_inv.new.cursor) b1 c.in_ok-head.ensures.ok.1 in
    rw (p.1, p.2)
    (kept_fault v fv c.in_ok-head.head c.in_ok-head.ensures.ok.0 (rest c.take_inv.new.cursor) (rest c.args.cursor.now) (place_of c.take_inv.new.cursor)
    (place_of c.args.cursor.now) b2
    (c.in_ok-head.ensures.place ∙ c.in_ok-version.ensures.place) c.in_err-kept.field-0.0
    (subst
    (λ (long : Bool). IsFault (AreMany c.in_ok-head.head.count (IsKept long)) (many_text (text_of kept_words)) (rest c.take_inv.new.cursor)
    (place_of c.take_inv.new.cursor) c.in_err-kept.field-0.0) c.may_be_long.ensures c.in_err-kept.ensures.err))

pub returns-in_err-proofs-clause-err : goal.returns-in_err-proofs-clause-err
returns-in_err-proofs-clause-err c =
    let p = err_from_is_err_and c.from_residual-in_err-proofs.result c.from_residual-in_err-proofs.ensures.1 in
    let v = c.in_ok-version.version in
    let fv = c.in_ok-version.ensures.ok.0 in
    let fk =
    subst (λ (long : Bool). AreMany c.in_ok-head.head.count (IsKept long) c.in_ok-kept.kept) c.may_be_long.ensures c.in_ok-kept.ensures.ok.0 in
    let b1 = c.in_ok-version.ensures.ok.1 in
    let b2 = head_front v c.in_ok-head.head (rest c.args.cursor.now) (rest c.take_first.new.cursor) (rest c.take_inv.new.cursor) b1 c.in_ok-head.ensures.ok.1 in
    let b3 =
    kept_front v c.in_ok-head.head c.in_ok-kept.kept (rest c.args.cursor.now) (rest c.take_inv.new.cursor)
    (rest c.take_clauses.new.cursor) b2 c.in_ok-kept.ensures.ok.1 in
    rw (p.1, p.2)
    (proofs_fault v fv c.in_ok-head.head c.in_ok-head.ensures.ok.0 c.in_ok-kept.kept fk (rest c.take_clauses.new.cursor)
    (rest c.args.cursor.now) (place_of c.take_clauses.new.cursor) (place_of c.args.cursor.now) b3
    (c.in_ok-kept.ensures.place ∙ c.in_ok-head.ensures.place ∙ c.in_ok-version.ensures.place) c.in_err-proofs.field-0.0
    c.in_err-proofs.ensures.err)

pub returns-in_err-pairs-clause-err : goal.returns-in_err-pairs-clause-err
returns-in_err-pairs-clause-err c =
    let p = err_from_is_err_and c.from_residual-in_err-pairs.result c.from_residual-in_err-pairs.ensures.1 in
    let v = c.in_ok-version.version in
    let fv = c.in_ok-version.ensures.ok.0 in
    let fk =
    subst (λ (long : Bool). AreMany c.in_ok-head.head.count (IsKept long) c.in_ok-kept.kept) c.may_be_long.ensures c.in_ok-kept.ensures.ok.0 in
    let b1 = c.in_ok-version.ensures.ok.1 in
    let b2 = head_front v c.in_ok-head.head (rest c.args.cursor.now) (rest c.take_first.new.cursor) (rest c.take_inv.new.cursor) b1 c.in_ok-head.ensures.ok.1 in
    let b3 =
    kept_front v c.in_ok-head.head c.in_ok-kept.kept (rest c.args.cursor.now) (rest c.take_inv.new.cursor)
    (rest c.take_clauses.new.cursor) b2 c.in_ok-kept.ensures.ok.1 in
    let b4 =
    proofs_front v c.in_ok-head.head c.in_ok-kept.kept c.in_ok-proofs.proofs (rest c.args.cursor.now) (rest c.take_clauses.new.cursor)
    (rest c.take_proofs.new.cursor) b3 c.in_ok-proofs.ensures.ok.1 in
    rw (p.1, p.2)
    (tail_fault v fv c.in_ok-head.head c.in_ok-head.ensures.ok.0 c.in_ok-kept.kept fk c.in_ok-proofs.proofs
    c.in_ok-proofs.ensures.ok.0
    (rest c.take_proofs.new.cursor) (rest c.args.cursor.now) (place_of c.take_proofs.new.cursor) (place_of c.args.cursor.now) b4
    (c.in_ok-proofs.ensures.place ∙ c.in_ok-kept.ensures.place ∙ c.in_ok-head.ensures.place ∙ c.in_ok-version.ensures.place)
    c.in_err-pairs.field-0.0 c.in_err-pairs.ensures.err)

pub returns-clause-ok : goal.returns-clause-ok
returns-clause-ok c =
    let v = c.in_ok-version.version in
    let fv = c.in_ok-version.ensures.ok.0 in
    let fk =
    subst (λ (long : Bool). AreMany c.in_ok-head.head.count (IsKept long) c.in_ok-kept.kept) c.may_be_long.ensures c.in_ok-kept.ensures.ok.0 in
    let b1 = c.in_ok-version.ensures.ok.1 in
    let r =
    cert_read v c.in_ok-head.head c.in_ok-kept.kept c.in_ok-proofs.proofs c.in_ok-pairs.pairs (rest c.args.cursor.now)
    (rest c.take_first.new.cursor) (rest c.take_inv.new.cursor) (rest c.take_clauses.new.cursor) (rest c.take_proofs.new.cursor)
    (rest c.take_pairs.new.cursor) fv c.in_ok-head.ensures.ok.0 fk c.in_ok-proofs.ensures.ok.0 c.in_ok-pairs.ensures.ok.0 b1
    c.in_ok-head.ensures.ok.1 c.in_ok-kept.ensures.ok.1 c.in_ok-proofs.ensures.ok.1 c.in_ok-pairs.ensures.ok.1 in
    (r.fits, r.is)
