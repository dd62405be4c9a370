-- How many commands a group of pairs becomes.
use Rattle.std.proofs.Common.{◌≡◌, ◌∙◌, ℕ, ◌+◌, Bool, true, false, not, ◌&&◌, ◌||◌, ◌==◌, List, [], ◌∷◌, ◌++◌, length, refl, ap, sym, arith}
use Rattle.std.specs.Prelude.{filter, if◌then◌else◌}
use Rattle.std.specs.List.{list_any}
use Rattle.std.proofs.lemmas.List.{length-append}
use Rattle.mend_groups.specs.declared.ports.EndClass.{EndClass}
use Rattle.mend_groups.specs.declared.ports.EndClass.TheVariants.{Regs, Ports as PortBits, Sinks}
use Rattle.mend_groups.specs.declared.rows.Row.{Row}
use Rattle.mend_groups.specs.declared.groups.Group.{Group}
use Rattle.mend_lines.specs.Lines.{heads, is_named, first_star, ends_in, rests_for, rests_in, rests_of}

-- the list has an item
abbrev pub is_some : {A : Type 0} → List A → Bool
is_some xs = not (length xs == 0)

some_more : {A : Type 0} (x : A) (xs : List A) → is_some (x ∷ xs) ≡ true
some_more x [] = refl
some_more x (y ∷ ys) = grind arith

-- some start has a pair
pub heads_some : (stars : List (List Row)) → list_any (λ star. not (length star == 0)) stars ≡ is_some (heads stars)
heads_some [] = refl
heads_some ([] ∷ stars) = heads_some stars
heads_some ((r ∷ star) ∷ stars) =
    ap (λ (b : Bool). b || list_any (λ (s : List Row). not (length s == 0)) stars) (some_more r star) ∙ sym (some_more r (heads stars))

kept_if : {A : Type 0} (b t : Bool) (x : A) (xs : List A) → t ≡ is_some xs → (b || t) ≡ is_some (if b then x ∷ xs else xs)
kept_if true t x xs e = sym (some_more x xs)
kept_if false t x xs e = e

-- some item is kept
pub filter_some : {A : Type 0} (p : A → Bool) (xs : List A) → list_any p xs ≡ is_some (filter p xs)
filter_some p [] = refl
filter_some p (x ∷ xs) = kept_if (p x) (list_any p xs) x (filter p xs) (filter_some p xs)

abbrev pub one_if : Bool → ℕ
one_if b = if b then 1 else 0

-- a command where there are starts and ends
rests_count : (starts ends : List Row) → length (rests_for [] [] starts ends) ≡ one_if (is_some starts && is_some ends)
rests_count [] ends = refl
rests_count (r ∷ starts) [] = ap (λ (b : Bool). one_if (b && false)) (sym (some_more r starts))
rests_count (r ∷ starts) (e ∷ ends) =
    ap one_if (ap (λ (b : Bool). b && true) (sym (some_more r starts)) ∙ ap (λ (b : Bool). is_some (r ∷ starts) && b) (sym (some_more e ends)))

-- the commands of a group's ends of a class
pub class_counted : (g : Group) (class : EndClass) → length (rests_in [] [] g class) ≡
    one_if (list_any (λ star. not (length star == 0)) g.stars && list_any (is_named class) (first_star g))
class_counted g class =
    rests_count (heads g.stars) (ends_in class g) ∙ rw (heads_some g.stars, filter_some (is_named class) (first_star g)) refl

-- and those of all classes
pub group_counted : (g : Group) → length (rests_of [] [] g) ≡
    length (rests_in [] [] g Regs) + (length (rests_in [] [] g PortBits) + length (rests_in [] [] g Sinks))
group_counted g =
    let sinks = rests_in [] [] g Sinks in
    length-append (rests_in [] [] g Regs) (rests_in [] [] g PortBits ++ sinks)
    ∙ ap (λ (n : ℕ). length (rests_in [] [] g Regs) + n) (length-append (rests_in [] [] g PortBits) sinks)
