use Rattle.std.proofs.Common.{◌≡◌, ◌∙◌, ◌<◌, [], ◌∷◌, ℕ, List, Bool, true, false, eqb, length, refl, sym, ap, inl, inr, arith}
use Rattle.std.proofs.lemmas.Bool.{cases_lt, eqb-true, eqb-false}
use Rattle.sdcv_base.specs.Cursors.{rest}
use Rattle.cert_text.proofs.ReadLemmas.{spells_all, spells_one, trailing, not_other}
use Rattle.cert_text.proofs.reading.read_cert.Goals as goal

none_left : (xs ys : List ℕ) (empty : Bool) → ys ≡ xs → empty ≡ eqb (length ys) 0 → empty ≡ true → xs ≡ []
none_left xs ys empty same is full = nil_of xs (sym (ap length same) ∙ eqb-true (length ys) 0 (sym is ∙ full))
  where
    nil_of : (zs : List ℕ) → length zs ≡ 0 → zs ≡ []
    nil_of [] e = refl
    nil_of (z ∷ zs) e = absurd (omega (arith, e))

some_left : (xs ys : List ℕ) (empty : Bool) → ys ≡ xs → empty ≡ eqb (length ys) 0 → empty ≡ false → 0 < length xs
some_left xs ys empty same is full =
    elim (cases_lt 0 (length xs)) [
      | inl some ↦ some
      | inr none ↦ absurd (eqb-false (length ys) 0 (sym is ∙ full) (let e = ap length same in omega (arith, e, none)))
    ]

pub returns-in-Some-clause-only : goal.returns-in-Some-clause-only
returns-in-Some-clause-only c d spells = absurd (not_other c.args.bytes.now c.in-Some.version d c.in-Some.ensures spells)

pub returns-then-is_empty-clause-only : goal.returns-then-is_empty-clause-only
returns-then-is_empty-clause-only c d spells =
    let ok = c.in-Ok.ensures.ok in
    let bytes = c.args.bytes.now in
    let e : rest c.new-cursor.result ≡ bytes = c.new-cursor.ensures.rest in
    let none = none_left (rest c.take_cert.new.cursor) c.rest.result.now c.is_empty.result c.rest.ensures c.is_empty.ensures c.if-is_empty.true in
    spells_one bytes c.in-Ok.cert d (spells_all c.in-Ok.cert bytes (rest c.take_cert.new.cursor) ok.0 (sym e ∙ ok.1) none) spells

pub returns-else-is_empty-clause-err : goal.returns-else-is_empty-clause-err
returns-else-is_empty-clause-err c =
    let ok = c.in-Ok.ensures.ok in
    let bytes = c.args.bytes.now in
    let e : rest c.new-cursor.result ≡ bytes = c.new-cursor.ensures.rest in
    let some = some_left (rest c.take_cert.new.cursor) c.rest.result.now c.is_empty.result c.rest.ensures c.is_empty.ensures c.if-is_empty.false in
    trailing c.in-Ok.cert bytes (rest c.take_cert.new.cursor) c.place.result ok.0 (sym e ∙ ok.1) some
    (omega (arith, c.place.ensures.value, c.in-Ok.ensures.place, c.new-cursor.ensures.place, ap length e)) c.in_default.ensures

pub returns-else-is_empty-clause-only : goal.returns-else-is_empty-clause-only
returns-else-is_empty-clause-only c d spells = absurd ((returns-else-is_empty-clause-err c).none d spells)
