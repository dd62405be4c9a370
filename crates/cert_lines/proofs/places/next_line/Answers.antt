use Rattle.std.proofs.Common.{sym, ◌∙◌}
use Rattle.sdcv_base.specs.Cursors.{place_of}
use Rattle.cert_lines.proofs.LineTexts.{next_line_is}
use Rattle.cert_lines.proofs.places.next_line.Goals as goal

pub returns : goal.returns
returns c =
    rw (sym c.rest-text.ensures)
    (next_line_is c.rest-text.result.now c.line_len-len.result
    (place_of c.args.cursor.now) c.place.result c.place-2.result c.line_len-len.ensures.value c.line_len-len.ensures.within c.place.ensures.value
    (c.place-2.ensures.value ∙ c.skip.ensures.place))
