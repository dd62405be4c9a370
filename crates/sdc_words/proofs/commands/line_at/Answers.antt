use Rattle.std.proofs.Common.{◌≡◌, ◌∙◌, ◌-◌, ℕ, length, drop, refl, ap, sym, arith}
use Rattle.sdcv_base.specs.declared.cursors.Cursor.{Cursor}
use Rattle.sdcv_base.specs.Cursors.{rest, text_of, place_of}
use Rattle.sdc_words.proofs.LineLemmas.{line_later}
use Rattle.sdc_words.proofs.commands.line_at.Goals as goal

-- what is left of a text is what follows its place
left_is : (c : Cursor) → rest c ≡ drop (place_of c) (text_of c)
unfolding rest text_of place_of
left_is c = refl

pub returns : goal.returns
returns c =
    let text = text_of c.args.from.now in
    let p = c.place-2.result in
    let n = c.place.result - p in
    let same = ap length c.requires.text in
    let left : rest c.args.from.now ≡ drop p text = left_is c.args.from.now ∙ ap (λ (k : ℕ). drop k text) (sym c.place-2.ensures.value) in
    let later = line_later text (rest c.args.from.now) (rest c.args.to.now) p n (omega arith) (omega arith) in
    rw (c.newlines.ensures.value, c.upto.ensures, c.rest.ensures, left, c.requires.line, c.requires.text) (sym later)
