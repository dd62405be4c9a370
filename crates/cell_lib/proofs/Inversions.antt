-- What steps gave, where what they lead to is known.
use Rattle.std.proofs.Common.{◌≡◌, Option, Some, None, IfSome, MatchOption, refl, subst}
use Rattle.std.specs.Option.{option_map}

-- what was mapped was there
pub map_gave : {A B : Type 0} (f : A → B) (o : Option A) (y : B) → option_map f o ≡ Some y → (x : A) × (o ≡ Some x) × (f x ≡ y)
map_gave f None y e = absurd cc
map_gave f (Some x) y e = (x, refl, cc)

-- what holds of the value that may be there
pub some_holds : {A : Type 0} (P : A → Type 0) (o : Option A) (x : A) → o ≡ Some x → IfSome o P → P x
some_holds P None x e h = absurd cc
some_holds P (Some y) x e h = let same : y ≡ x = cc in subst P same h

-- what is told of an answer that is something, and of one that is nothing
pub match_some : {A : Type 0} (P : Type 0) (Q : A → Type 0) (o : Option A) (x : A) → o ≡ Some x → MatchOption o P Q → Q x
match_some P Q None x e h = absurd cc
match_some P Q (Some y) x e h = let same : y ≡ x = cc in subst Q same h

pub match_none : {A : Type 0} (P : Type 0) (Q : A → Type 0) (o : Option A) → ((x : A) → o ≡ Some x → ⊥) → MatchOption o P Q → P
match_none P Q None none h = h
match_none P Q (Some x) none h = absurd (none x refl)
