use Rattle.std.proofs.Common.{◌∙◌, ap, arith, sym, map, string_bytes, drop, Global, List, ℕ}
use Rattle.std.proofs.lemmas.List.{length-map}
use Rattle.clap_words.specs.declared.commands.PositionRow.{PositionRow}
use Rattle.clap_words.specs.Readings.{seen_given}
use Rattle.sdcv_words.specs.Places.{placed, with_value}
use Rattle.sdcv_words.proofs.Lists.{map_left, none_left}
use Rattle.sdcv_words.proofs.Steps.{placed-nil, placed_more, placed_none, placed_short}
use Rattle.sdcv_words.proofs.places.place.Goals as goal

pub returns-then-words-positions-clause-given : goal.returns-then-words-positions-clause-given
returns-then-words-positions-clause-given c =
    sym (placed_short (map seen_given c.args.given.now.items) (map (λ (row : PositionRow). row.id.now) c.args.positions.now) (map string_bytes c.args.words.now)
    (omega (arith, length-map c.args.words.now (string_bytes {Z = Global}), length-map c.args.positions.now (λ (row : PositionRow). row.id.now), c.if-words-positions.true)))

pub returns-then-not-branch-clause-given : goal.returns-then-not-branch-clause-given
returns-then-not-branch-clause-given c =
    placed_none _ (map seen_given c.loop-index.given.items) (map seen_given c.add_value.new.given.items) _ _ _ _ _ _ c.in_ok-add_value.field-0
    c.loop-index.invariant (map_left (λ (row : PositionRow). row.id.now) c.args.positions.now c.loop-index.index _ (omega arith))
    (map_left string_bytes c.args.words.now c.loop-index.index c.index-words-index.result (omega arith))
    (c.in_ok-add_value.ensures ∙ ap (with_value (map seen_given c.loop-index.given.items) _) (c.as_str.ensures.value ∙ ap string_bytes c.index-words-index.is))
    c.if-not-branch.true

pub loop-index-preserved : goal.loop-index-preserved
loop-index-preserved c =
    placed_more _ (map seen_given c.loop-index.given.items) (map seen_given c.add_value.new.given.items) _ _ _ _ _ _ c.in_ok-add_value.field-0
    c.loop-index.invariant (map_left (λ (row : PositionRow). row.id.now) c.args.positions.now c.loop-index.index _ (omega arith))
    (map_left string_bytes c.args.words.now c.loop-index.index c.index-words-index.result (omega arith))
    (c.in_ok-add_value.ensures ∙ ap (with_value (map seen_given c.loop-index.given.items) _) (c.as_str.ensures.value ∙ ap string_bytes c.index-words-index.is))
    c.if-not-branch.false

pub returns-clause-given : goal.returns-clause-given
returns-clause-given c =
    let g = map seen_given c.loop-index.given.items in
    let words = map string_bytes (drop c.loop-index.index c.args.words.now) in
    sym (c.loop-index.invariant ∙ ap (λ (l : List (List ℕ)). placed g l words)
    (none_left (λ (row : PositionRow). row.id.now) c.args.positions.now c.loop-index.index (omega arith)) ∙ placed-nil g words)
