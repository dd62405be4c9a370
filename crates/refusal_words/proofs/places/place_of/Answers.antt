use Rattle.std.proofs.Common.{sym, subst}
use Rattle.refusal_words.specs.declared.places.Place.{Place}
use Rattle.refusal_words.specs.Places.{IsPlace}
use Rattle.refusal_words.proofs.PlaceLemmas.{is_place}
use Rattle.refusal_words.proofs.places.place_of.Goals as goal

pub returns-clause-place : goal.returns-clause-place
returns-clause-place c =
    subst (λ (p : Place). IsPlace c.args.text.now c.args.offset p) (sym c.place_at.ensures) (is_place c.args.text.now c.args.offset)
