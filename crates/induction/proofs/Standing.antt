-- Lists in which each clause stands once.
use Rattle.std.proofs.Common.{ℕ, Bool, true, false, cond, List, [], ◌∷◌, ◌++◌, take, drop, filter, refl, subst, sym, arith, inl, inr}
use Rattle.std.specs.Prelude.{Contains}
use Rattle.std.proofs.lemmas.List.{take-append-drop}
use Rattle.std.proofs.lemmas.List.Elements.{Contains-append_left, Contains-append_right, Contains-append_cases}
use Rattle.net_model.proofs.Members.{In-from_Contains, Contains-from_In}
use Rattle.net_model.specs.declared.invariants.InvClause.{InvClause}
use Rattle.verdicts.specs.Inductive.{StandOnce}
use Rattle.induction.proofs.Filters.{turned, Contains-from_filter, middle_within, middle_here}

-- one that is left out stands no more, and the others once
pub once_middle : (xs ys : List InvClause) (x : InvClause) → StandOnce (xs ++ x ∷ ys) → StandOnce (xs ++ ys)
once_middle [] ys x once = once.1
once_middle (a ∷ xs) ys x once = (λ has. once.0 (middle_within xs ys x a has), once_middle xs ys x once.1)

pub absent_middle : (xs ys : List InvClause) (x : InvClause) → StandOnce (xs ++ x ∷ ys) → ¬ Contains (xs ++ ys) x
absent_middle [] ys x once has = once.0 has
absent_middle (a ∷ xs) ys x once has =
    elim (In-from_Contains (a ∷ (xs ++ ys)) x has) [
      | inl here ↦ once.0 (subst (λ z. Contains (xs ++ x ∷ ys) z) (sym here) (middle_here xs ys x))
      | inr later ↦ absent_middle xs ys x once.1 (Contains-from_In (xs ++ ys) x later)
    ]

-- a filter leaves each once
pub once_filter : (p : InvClause → Bool) (xs : List InvClause) → StandOnce xs → StandOnce (filter p xs)
once_filter p [] once = tt
once_filter p (x ∷ xs) once = by (p x) (once_filter p xs once.1) where
  by : (b : Bool) → StandOnce (filter p xs) → StandOnce (cond b (x ∷ filter p xs) (filter p xs))
  by true rest = (λ has. once.0 (Contains-from_filter p xs x has).0, rest)
  by false rest = rest

once_parts : (xs ys : List InvClause) → StandOnce (xs ++ ys) → StandOnce xs × StandOnce ys × ((x : InvClause) → Contains xs x → ¬ Contains ys x)
once_parts [] ys once = (tt, once, λ x has there. absurd (omega (arith, has.1)))
once_parts (a ∷ xs) ys once =
    let more = once_parts xs ys once.1 in (
      (λ has. once.0 (Contains-append_left xs ys a has), more.0),
      more.1,
      λ x has there. elim (In-from_Contains (a ∷ xs) x has) [
        | inl here ↦ once.0 (subst (λ z. Contains (xs ++ ys) z) (sym here) (Contains-append_right xs ys x there))
        | inr later ↦ more.2 x (Contains-from_In xs x later) there
      ],
    )

once_append : (xs ys : List InvClause) → StandOnce xs → StandOnce ys → ((x : InvClause) → Contains xs x → ¬ Contains ys x) → StandOnce (xs ++ ys)
once_append [] ys one other apart = other
once_append (a ∷ xs) ys one other apart = (
  λ has. elim (Contains-append_cases xs ys a has) [
    | inl early ↦ one.0 early
    | inr late ↦ apart a (Contains-from_In (a ∷ xs) a (inl refl)) late
  ],
  once_append xs ys one.1 other (λ x has. apart x (Contains-from_In (a ∷ xs) x (inr (In-from_Contains xs x has)))),
)

-- so do another order and another beginning
pub once_swapped : (xs ys : List InvClause) → StandOnce (xs ++ ys) → StandOnce (ys ++ xs)
once_swapped xs ys once =
    let parts = once_parts xs ys once in once_append ys xs parts.1 parts.0 (λ x has there. parts.2 x there has)

pub once_turned : (n : ℕ) (xs : List InvClause) → StandOnce xs → StandOnce (turned n xs)
once_turned n xs once = once_swapped (take n xs) (drop n xs) (subst StandOnce (sym (take-append-drop n xs)) once)
