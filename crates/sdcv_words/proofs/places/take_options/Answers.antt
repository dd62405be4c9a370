use Rattle.std.proofs.Common.{◌∙◌, ap, ap₂, arith, sym, map, string_bytes, List, ℕ, Option}
use Rattle.clap_words.specs.Commands.{seen_option}
use Rattle.clap_words.specs.Readings.{seen_given}
use Rattle.sdcv_words.specs.Places.{optioned, seen_due, step}
use Rattle.sdcv_words.proofs.Lists.{map_left, none_left}
use Rattle.sdcv_words.proofs.Steps.{optioned-nil, optioned_due, optioned_more, optioned_none}
use Rattle.sdcv_words.proofs.places.take_options.Goals as goal

pub returns-in-None : goal.returns-in-None
returns-in-None c =
    let rows = map seen_option c.args.rows.now in
    let g = map seen_given c.loop-word.given.items in
    optioned_none _ rows (seen_due c.loop-word.due) g _ _ _ c.loop-word.invariant
    (map_left string_bytes c.args.words.now c.loop-word.word-index c.word-item.result (omega arith))
    (rw c.in-None.is at c.in_ok-next.ensures ∙ ap (step rows (seen_due c.loop-word.due) g) (c.as_str.ensures.value ∙ ap string_bytes c.word-item.is))

pub loop-word-preserved : goal.loop-word-preserved
loop-word-preserved c =
    let rows = map seen_option c.args.rows.now in
    let g = map seen_given c.loop-word.given.items in
    optioned_more _ rows (seen_due c.loop-word.due) (seen_due c.in-Some.next) g (map seen_given c.step.new.given.items) _ _ _ c.loop-word.invariant
    (map_left string_bytes c.args.words.now c.loop-word.word-index c.word-item.result (omega arith))
    (rw c.in-Some.is at c.in_ok-next.ensures ∙ ap (step rows (seen_due c.loop-word.due) g) (c.as_str.ensures.value ∙ ap string_bytes c.word-item.is))

pub returns-in-Option : goal.returns-in-Option
returns-in-Option c =
    let rows = map seen_option c.args.rows.now in
    let g = map seen_given c.loop-word.given.items in
    sym (c.loop-word.invariant ∙ ap₂ (λ (d : Option (List ℕ)) (l : List (List ℕ)). optioned rows d g l) (ap seen_due c.in-Option.is)
    (none_left string_bytes c.args.words.now c.loop-word.word-index c.loop-word-test.false) ∙ optioned-nil rows g)

pub returns-in_default : goal.returns-in_default
returns-in_default c =
    let rows = map seen_option c.args.rows.now in
    let g = map seen_given c.loop-word.given.items in
    sym (c.loop-word.invariant ∙ ap₂ (λ (d : Option (List ℕ)) (l : List (List ℕ)). optioned rows d g l) (ap seen_due c.in_default.is)
    (none_left string_bytes c.args.words.now c.loop-word.word-index c.loop-word-test.false) ∙ optioned_due rows c.in_default.field-0.now g)
