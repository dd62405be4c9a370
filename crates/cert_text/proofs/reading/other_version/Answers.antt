use Rattle.std.proofs.Common.{◌≡◌, ◌++◌, sym, ◌∙◌}
use Rattle.std.specs.Prelude.{codes}
use Rattle.std.proofs.lemmas.Bool.Decides.{Decides-eqb}
use Rattle.std.proofs.lemmas.Slice.Eq.{strip_prefix_is}
use Rattle.sdcv_base.specs.Cursors.{place_of}
use Rattle.cert_words.proofs.RowLemmas.{never}
use Rattle.cert_text.proofs.VersionLemmas.{no_prefix, cut_off, no_number, version_known, version_other}
use Rattle.cert_text.proofs.reading.other_version.Goals as goal

pub returns-in_default : goal.returns-in_default
returns-in_default c =
    let is = strip_prefix_is Decides-eqb c.args.bytes.now (codes "sdcv-cert ") c.strip_prefix.result c.strip_prefix.ensures.cases in
    no_prefix c.args.bytes.now (rw c.in_default.is at is)

pub returns-then-line : goal.returns-then-line
returns-then-line c =
    let is = strip_prefix_is Decides-eqb c.args.bytes.now (codes "sdcv-cert ") c.strip_prefix.result c.strip_prefix.ensures.cases in
    let cut : c.args.bytes.now ≡ codes "sdcv-cert " ++ c.in-Some.rest.now = rw c.in-Some.is at is in
    let next = rw c.new.ensures.rest at c.next_line-line.ensures in
    cut_off c.args.bytes.now c.in-Some.rest.now c.next_line-line.result.text.now
    (place_of c.new.result) c.next_line-line.result.at c.next_line-line.result.end c.next_line-line.result.cut cut next c.if-line.true

pub returns-in_default-number_of : goal.returns-in_default-number_of
returns-in_default-number_of c =
    let is = strip_prefix_is Decides-eqb c.args.bytes.now (codes "sdcv-cert ") c.strip_prefix.result c.strip_prefix.ensures.cases in
    let cut : c.args.bytes.now ≡ codes "sdcv-cert " ++ c.in-Some.rest.now = rw c.in-Some.is at is in
    let next = rw c.new.ensures.rest at c.next_line-line.ensures in
    no_number c.args.bytes.now c.in-Some.rest.now c.next_line-line.result.text.now
    (place_of c.new.result) c.next_line-line.result.at c.next_line-line.result.end c.next_line-line.result.cut cut next c.if-line.false
    (rw c.in_default-number_of.is at c.number_of.ensures)

pub returns-then-is_version : goal.returns-then-is_version
returns-then-is_version c =
    let is = strip_prefix_is Decides-eqb c.args.bytes.now (codes "sdcv-cert ") c.strip_prefix.result c.strip_prefix.ensures.cases in
    let cut : c.args.bytes.now ≡ codes "sdcv-cert " ++ c.in-Some.rest.now = rw c.in-Some.is at is in
    let next = rw c.new.ensures.rest at c.next_line-line.ensures in
    let word = rw c.in-Some-number_of.is at c.number_of.ensures in
    version_known c.args.bytes.now c.in-Some.rest.now c.next_line-line.result.text.now
    (place_of c.new.result) c.next_line-line.result.at c.next_line-line.result.end c.next_line-line.result.cut c.in-Some-number_of.version cut
    next c.if-line.false word.0 word.1 (c.is_version.ensures.0 c.if-is_version.true)

pub returns : goal.returns
returns c =
    let is = strip_prefix_is Decides-eqb c.args.bytes.now (codes "sdcv-cert ") c.strip_prefix.result c.strip_prefix.ensures.cases in
    let cut : c.args.bytes.now ≡ codes "sdcv-cert " ++ c.in-Some.rest.now = rw c.in-Some.is at is in
    let next = rw c.new.ensures.rest at c.next_line-line.ensures in
    let word = rw c.in-Some-number_of.is at c.number_of.ensures in
    version_other c.args.bytes.now c.in-Some.rest.now c.next_line-line.result.text.now
    (place_of c.new.result) c.next_line-line.result.at c.next_line-line.result.end c.next_line-line.result.cut c.in-Some-number_of.version cut
    next c.if-line.false word.0 word.1 (λ known. never (sym c.if-is_version.false ∙ c.is_version.ensures.1 known))
