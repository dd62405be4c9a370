-- How a reading goes on, one word after another.
use Rattle.std.proofs.Common.{◌≡◌, ◌∙◌, ◌<◌, ◌≤◌, ◌-◌, ◌==◌, ap, ap₂, sym, refl, true, false, Bool, ℕ, arith}
use Rattle.std.proofs.Common.{List, [], ◌∷◌, ◌++◌, Option, None, Some, length, take, drop}
use Rattle.std.proofs.lemmas.Bool.Decides.{nat_tests}
use Rattle.std.specs.Str.{bytes_eq}
use Rattle.std.specs.Prelude.{if◌then◌else◌}
use Rattle.texts.specs.Reads.{◌>>=◌}
use Rattle.clap_words.specs.Commands.{OptionRow, Text}
use Rattle.clap_words.specs.Readings.{Given}
use Rattle.sdcv_base.specs.declared.settings.Setting.{Setting}
use Rattle.sdcv_words.specs.Givens.{when}
use Rattle.sdcv_words.specs.Places.{is_value, optioned, placed, step, with_value}
use Rattle.sdcv_words.specs.Settings.{setting_in, with_part, with_parts}

-- where a step fits, what it gave goes on
pub fits_on : {S R : Type 0} (fits : Bool) (new : S) (o : Option S) (f : S → Option R) → fits ≡ true → when fits new ≡ o → (o >>= f) ≡ f new
fits_on fits new o f fit is = ap (λ p. p >>= f) (sym is) ∙ ap (λ b. when b new >>= f) fit

pub fits_none : {S R : Type 0} (fits : Bool) (new : S) (o : Option S) (f : S → Option R) → fits ≡ false → when fits new ≡ o → (o >>= f) ≡ None
fits_none fits new o f never is = ap (λ p. p >>= f) (sym is) ∙ ap (λ b. when b new >>= f) never

pub with_parts-cons : (s : List Setting) (p : List ℕ) (ps : List (List ℕ)) → with_parts s (p ∷ ps) ≡ (with_part s p >>= λ more. with_parts more ps)
unfolding with_parts
with_parts-cons s p ps = refl

pub with_parts-nil : (s : List Setting) → with_parts s [] ≡ Some s
unfolding with_parts
with_parts-nil s = refl

pub placed-cons : (g : List Given) (id : Text) (ids : List Text) (w : Text) (ws : List Text)
    → placed g (id ∷ ids) (w ∷ ws) ≡ (with_value g id w >>= λ more. placed more ids ws)
unfolding placed
placed-cons g id ids w ws = refl

pub placed-nil : (g : List Given) (ws : List Text) → placed g [] ws ≡ Some g
unfolding placed
placed-nil g ws = refl

-- too few words stand at no positions
pub placed_short : (g : List Given) (ids ws : List Text) → length ws < length ids → placed g ids ws ≡ None
unfolding placed
placed_short g [] ws few = absurd (omega arith)
placed_short g (id ∷ ids) [] few = refl
placed_short g (id ∷ ids) (w ∷ ws) few = go (is_value w) (placed_short (g ++ (id, w) ∷ []) ids ws (omega arith))
  where
    go : (b : Bool) → placed (g ++ (id, w) ∷ []) ids ws ≡ None → ((if b then Some (g ++ (id, w) ∷ []) else None) >>= λ more. placed more ids ws) ≡ None
    go true later = later
    go false later = refl

pub optioned-cons : (rows : List OptionRow) (due : Option Text) (g : List Given) (w : Text) (ws : List Text)
    → optioned rows due g (w ∷ ws) ≡ (step rows due g w >>= λ next. optioned rows next.0 next.1 ws)
unfolding optioned
optioned-cons rows None g w ws = refl
optioned-cons rows (Some id) g w ws = refl

pub optioned-nil : (rows : List OptionRow) (g : List Given) → optioned rows None g [] ≡ Some g
unfolding optioned
optioned-nil rows g = refl

pub optioned_due : (rows : List OptionRow) (id : Text) (g : List Given) → optioned rows (Some id) g [] ≡ None
unfolding optioned
optioned_due rows id g = refl

-- the two last bytes of a part, and what they make of it
setting_long : (text : List ℕ) → 2 < length text → (length text - 2 == 0) ≡ false
setting_long text long = grind (arith, nat_tests)

pub setting_short : (text : List ℕ) → length text ≤ 2 → None ≡ setting_in text
unfolding setting_in
setting_short text few = let short : (length text - 2 == 0) ≡ true = grind (arith, nat_tests) in rw short refl

pub setting_zero : (text : List ℕ) → 2 < length text → bytes_eq (drop (length text - 2) text) (61 ∷ 48 ∷ []) ≡ true
    → Some (take (length text - 2) text, false) ≡ setting_in text
unfolding setting_in
setting_zero text long zero = rw (setting_long text long, zero) refl

pub setting_one : (text : List ℕ) → 2 < length text → bytes_eq (drop (length text - 2) text) (61 ∷ 48 ∷ []) ≡ false
    → bytes_eq (drop (length text - 2) text) (61 ∷ 49 ∷ []) ≡ true → Some (take (length text - 2) text, true) ≡ setting_in text
unfolding setting_in
setting_one text long zero one = rw (setting_long text long, zero, one) refl

pub setting_none : (text : List ℕ) → 2 < length text → bytes_eq (drop (length text - 2) text) (61 ∷ 48 ∷ []) ≡ false
    → bytes_eq (drop (length text - 2) text) (61 ∷ 49 ∷ []) ≡ false → None ≡ setting_in text
unfolding setting_in
setting_none text long zero one = rw (setting_long text long, zero, one) refl

-- a word more at the positions
pub placed_more : (whole : Option (List Given)) (g new : List Given) (ids later : List Text) (id : Text) (ws rest : List Text) (w : Text) (fits : Bool)
    → whole ≡ placed g ids ws → ids ≡ id ∷ later → ws ≡ w ∷ rest → when fits new ≡ with_value g id w → fits ≡ true → whole ≡ placed new later rest
placed_more whole g new ids later id ws rest w fits is first next adds fit =
    is ∙ ap₂ (placed g) first next ∙ placed-cons g id later w rest ∙ fits_on fits new (with_value g id w) (λ (m : List Given). placed m later rest) fit adds

pub placed_none : (whole : Option (List Given)) (g new : List Given) (ids later : List Text) (id : Text) (ws rest : List Text) (w : Text) (fits : Bool)
    → whole ≡ placed g ids ws → ids ≡ id ∷ later → ws ≡ w ∷ rest → when fits new ≡ with_value g id w → fits ≡ false → None ≡ whole
placed_none whole g new ids later id ws rest w fits is first next adds never =
    sym (is ∙ ap₂ (placed g) first next ∙ placed-cons g id later w rest
    ∙ fits_none fits new (with_value g id w) (λ (m : List Given). placed m later rest) never adds)

-- a word more among the options
pub optioned_more : (whole : Option (List Given)) (rows : List OptionRow) (due after : Option Text) (g new : List Given) (ws rest : List Text) (w : Text)
    → whole ≡ optioned rows due g ws → ws ≡ w ∷ rest → Some (after, new) ≡ step rows due g w → whole ≡ optioned rows after new rest
optioned_more whole rows due after g new ws rest w is next steps =
    is ∙ ap (optioned rows due g) next ∙ optioned-cons rows due g w rest
    ∙ ap (λ (o : Option (Option Text × List Given)). o >>= λ n. optioned rows n.0 n.1 rest) (sym steps)

pub optioned_none : (whole : Option (List Given)) (rows : List OptionRow) (due : Option Text) (g : List Given) (ws rest : List Text) (w : Text)
    → whole ≡ optioned rows due g ws → ws ≡ w ∷ rest → None ≡ step rows due g w → None ≡ whole
optioned_none whole rows due g ws rest w is next steps =
    sym (is ∙ ap (optioned rows due g) next ∙ optioned-cons rows due g w rest
    ∙ ap (λ (o : Option (Option Text × List Given)). o >>= λ n. optioned rows n.0 n.1 rest) (sym steps))
