-- The texts of arguments, one id after another, and what is read of all words.
use Rattle.std.proofs.Common.{◌≡◌, ◌≢◌, ◌∙◌, ◌<◌, ◌+◌, ◌++◌, ap, sym, refl, subst, ℕ, List, [], ◌∷◌, map, take, take-suc, add-one, get_or, length}
use Rattle.std.proofs.Common.{Option, None, Some, IsNone, if◌then◌else◌, rules}
use Rattle.std.specs.Borrow.{Bor}
use Rattle.std.specs.List.{flat_map}
use Rattle.std.specs.Option.{option_map}
use Rattle.std.proofs.lemmas.Bool.{true≢false}
use Rattle.std.proofs.lemmas.Grind.{flat_map-append}
use Rattle.std.proofs.lemmas.List.{append-nil}
use Rattle.std.proofs.lemmas.List.Folds.{flat_map-map}
use Rattle.clap.specs.Walk.{is_empty}
use Rattle.clap.specs.Words.{Kinds, Row, first_of}
use Rattle.clap_words.specs.declared.readings.Reading.{Reading as TheReading}
use Rattle.clap_words.specs.Commands.{Text}
use Rattle.clap_words.specs.Readings.{Given, argument_ids, given_as, named, seen_reading, texts_in}

abbrev pub texts_at : List Row → List (Bor Text) → List Given
texts_at rows ids = flat_map (λ id. given_as id.now (first_of id.now rows)) ids

-- the text of one id more
pub texts_more : (rows : List Row) (ids : List (Bor Text)) (i : ℕ) (d : Bor Text) (before after : List Given) (text : Option Text) → i < length ids
    → before ≡ texts_at rows (take i ids) → text ≡ first_of (get_or ids i d).now rows → after ≡ before ++ given_as (get_or ids i d).now text
    → after ≡ texts_at rows (take (i + 1) ids)
texts_more rows ids i d before after text below is found adds =
    let f : Bor Text → List Given = λ id. given_as id.now (first_of id.now rows) in
    adds ∙ ap (λ t. before ++ given_as (get_or ids i d).now t) found ∙ ap (λ b. b ++ f (get_or ids i d)) is
    ∙ ap (λ e. flat_map f (take i ids) ++ e) (sym (append-nil (f (get_or ids i d))))
    ∙ sym (flat_map-append f (take i ids) (get_or ids i d ∷ [])) ∙ ap (flat_map f) (sym (take-suc ids i d below))
    ∙ ap (λ n. flat_map f (take n ids)) (sym (add-one i))

pub all_texts : (rows : List Row) (ids : List (Bor Text)) → map (λ (id : Bor Text). id.now) ids ≡ argument_ids → texts_at rows ids ≡ texts_in rows
all_texts rows ids shown =
    sym (flat_map-map (λ (id : Text). given_as id (first_of id rows)) (λ (id : Bor Text). id.now) ids)
    ∙ ap (flat_map (λ (id : Text). given_as id (first_of id rows))) shown

-- words without a fault are read as `clap` finds them
pub reads_all : (faults : Kinds) (rows all : Option (Text × List Row)) → faults ≡ [] → rows ≡ all
    → option_map named rows ≡ (if is_empty faults then option_map named all else None)
reads_all faults rows all none same =
    let P : Kinds → Type 0 = λ ks. option_map named rows ≡ (if is_empty ks then option_map named all else None) in
    subst P (sym none) (ap (option_map named) same)

-- words with a fault have no reading
pub no_reading : (faults : Kinds) (all : Option (Text × List Row)) (found : Option TheReading) → IsNone found → faults ≢ []
    → option_map seen_reading found ≡ (if is_empty faults then option_map named all else None)
no_reading faults all (Some reading) none has = absurd (true≢false none)
no_reading [] all None none has = absurd (has refl)
no_reading (kind ∷ kinds) all None none has = search rules
