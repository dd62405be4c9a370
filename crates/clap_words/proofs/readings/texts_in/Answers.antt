use Rattle.std.proofs.Common.{◌∙◌, ap, arith, take_all, map, List, None, Some, sym}
use Rattle.std.proofs.lemmas.List.{append-nil, map-append}
use Rattle.clap.specs.Words.{found_of, rows_of}
use Rattle.clap.proofs.WalkLemmas.{first_value-rows}
use Rattle.clap_words.specs.declared.readings.Given.{Given as TheGiven}
use Rattle.clap_words.specs.Readings.{seen_given}
use Rattle.clap_words.proofs.Texts.{all_texts, texts_at, texts_more}
use Rattle.clap_words.proofs.readings.texts_in.Goals as goal

pub loop-id-preserved-in_default : goal.loop-id-preserved-in_default
loop-id-preserved-in_default c =
    let found = found_of c.args.matches.now in
    let before = map seen_given c.loop-id.all.items in
    texts_more (rows_of found) c.ids-id-items.result.now c.loop-id.id-index _ before before None (omega arith)
    c.loop-id.invariant (c.in_default.ensures ∙ first_value-rows found _) (sym (append-nil before))

pub loop-id-preserved : goal.loop-id-preserved
loop-id-preserved c =
    let found = found_of c.args.matches.now in
    let items = c.loop-id.all.items in
    texts_more (rows_of found) c.ids-id-items.result.now c.loop-id.id-index _ (map seen_given items) _ (Some c.in-Some.text.now) (omega arith)
    c.loop-id.invariant (c.in-Some.ensures ∙ first_value-rows found _)
    (ap (λ (all : List TheGiven). map seen_given all) c.in_ok-push.ensures.items ∙ map-append seen_given items _)

pub returns : goal.returns
returns c =
    let ids = c.ids-id-items.result.now in
    let rows = rows_of (found_of c.args.matches.now) in
    c.loop-id.invariant ∙ ap (texts_at rows) (take_all c.loop-id.id-index ids (omega arith)) ∙ all_texts rows ids c.ids-id-items.ensures
