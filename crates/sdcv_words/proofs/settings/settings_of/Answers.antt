use Rattle.std.proofs.Common.{◌∙◌, ◌+◌, ap, sym, arith, List, ℕ, map, drop}
use Rattle.std.specs.Borrow.{Bor}
use Rattle.sdcv_base.specs.declared.settings.Setting.{Setting}
use Rattle.sdcv_words.specs.Settings.{with_part, with_parts}
use Rattle.sdcv_words.proofs.Lists.{map_left, none_left}
use Rattle.sdcv_words.proofs.Steps.{fits_none, fits_on, with_parts-cons, with_parts-nil}
use Rattle.sdcv_words.proofs.settings.settings_of.Goals as goal

pub returns-then-not-branch : goal.returns-then-not-branch
returns-then-not-branch c =
    let s = c.loop-part.settings in
    let parts = c.deref-part-items.result.now in
    let later = map (λ (p : Bor (List ℕ)). p.now) (drop (c.loop-part.part-index + 1) parts) in
    sym (c.loop-part.invariant ∙ ap (with_parts s) (map_left (λ (p : Bor (List ℕ)). p.now) parts c.loop-part.part-index _ (omega arith)) ∙ with_parts-cons s _ _
    ∙ fits_none c.in_ok-add_part.field-0 c.add_part.new.settings _ (λ (more : List Setting). with_parts more later) c.if-not-branch.true
    (c.in_ok-add_part.ensures ∙ ap (with_part s) c.as_bytes.ensures.value))

pub loop-part-preserved : goal.loop-part-preserved
loop-part-preserved c =
    let s = c.loop-part.settings in
    let parts = c.deref-part-items.result.now in
    let later = map (λ (p : Bor (List ℕ)). p.now) (drop (c.loop-part.part-index + 1) parts) in
    c.loop-part.invariant ∙ ap (with_parts s) (map_left (λ (p : Bor (List ℕ)). p.now) parts c.loop-part.part-index _ (omega arith)) ∙ with_parts-cons s _ _
    ∙ fits_on c.in_ok-add_part.field-0 c.add_part.new.settings _ (λ (more : List Setting). with_parts more later) c.if-not-branch.false
    (c.in_ok-add_part.ensures ∙ ap (with_part s) c.as_bytes.ensures.value)

pub returns : goal.returns
returns c =
    let s = c.loop-part.settings in
    sym (c.loop-part.invariant ∙ ap (with_parts s) (none_left (λ (p : Bor (List ℕ)). p.now) c.deref-part-items.result.now c.loop-part.part-index (omega arith))
    ∙ with_parts-nil s)
