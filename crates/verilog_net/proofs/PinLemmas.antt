-- The pins of connections, one after another.
use Rattle.std.proofs.Common.{◌≡◌, ℕ, true, false, ◌+◌, ◌<◌, ◌≤◌, List, [], ◌∷◌, ◌++◌, length, map, get_or, take, drop, Ok, refl, ap, sym, ◌∙◌}
use Rattle.std.proofs.lemmas.List.{map_more, drop_all}
use Rattle.std.specs.Str.{bytes_eq}
use Rattle.texts.specs.Names.{is_among}
use Rattle.texts.proofs.ReadLemmas.{split_at}
use Rattle.verilog_scope.specs.Folds.{fold_ok}
use Rattle.verilog_scope.specs.Decls.{with_new}
use Rattle.verilog_scope.proofs.NewLemmas.{new_distinct}

-- pins that are new one after another are all that are found
pub all_new : (pins found : List (List ℕ)) → fold_ok with_new [] pins ≡ Ok found → fold_ok with_new [] pins ≡ Ok pins
all_new pins found e = e ∙ ap (λ (names : List (List ℕ)). Ok names) (new_distinct pins found e).0

module _ {A : Type 0} (pin_of : A → List ℕ) (xs : List A) (i : ℕ) where
  -- the pins of one connection more
  pub pins_more : (x : A) → i < length xs → x ≡ get_or xs i x → map pin_of (take (i + 1) xs) ≡ map pin_of (take i xs) ++ pin_of x ∷ []
  pins_more x below here = map_more pin_of xs i x below ∙ ap (λ (y : A). map pin_of (take i xs) ++ pin_of y ∷ []) (sym here)

  -- the pin is that of the next connection, or has to be one of those after it, or there are none
  pub pin_here : (pin : List ℕ) (x : A) → i < length xs → x ≡ get_or xs i x → bytes_eq pin (pin_of x) ≡ true
      → is_among pin (map pin_of (drop i xs)) ≡ true
  pin_here pin x below here same = rw (split_at xs i x below here, same) refl

  pub pin_later : (pin : List ℕ) (x : A) → i < length xs → x ≡ get_or xs i x → bytes_eq pin (pin_of x) ≡ false
      → is_among pin (map pin_of (drop i xs)) ≡ is_among pin (map pin_of (drop (i + 1) xs))
  pin_later pin x below here other = rw (split_at xs i x below here, other) refl

  pub pin_nowhere : (pin : List ℕ) → length xs ≤ i → is_among pin (map pin_of (drop i xs)) ≡ false
  pin_nowhere pin past = rw (drop_all i xs past) refl
