-- What a round of step queries leaves known.
use Rattle.std.proofs.Common.{◌≡◌, ℕ, ◌+◌, ◌-◌, ◌<◌, List, [], ◌∷◌, ◌++◌, length, map, filter, take, drop, Some, refl, ap, subst, sym, ◌∙◌, arith, inl, inr}
use Rattle.std.specs.Prelude.{slice_get, Contains, ◌⊎◌}
use Rattle.std.proofs.lemmas.List.{length-append, length-map, length-take-le, take-append-drop, map-append, drop-map, take-map}
use Rattle.std.proofs.lemmas.Option.{slice_get_within, get_or_from_slice_get, same_Some}
use Rattle.std.proofs.lemmas.List.Elements.{Contains-append_left, Contains-append_right, Contains-append_cases}
use Rattle.net_model.specs.Queries.{clause_holds, IsAnswer, clause_query}
use Rattle.net_model.specs.declared.netlist.Design.{Design}
use Rattle.net_model.specs.declared.cycles.Cycle.{Cycle}
use Rattle.net_model.specs.declared.invariants.InvClause.{InvClause}
use Rattle.net_model.specs.declared.queries.Phase.TheVariants.{Step}
use Rattle.net_model.proofs.Existence.{item_at}
use Rattle.net_model.proofs.Members.{In-from_Contains, Contains-from_In, from_map}
use Rattle.proof_log.specs.declared.derivations.Derivation.{Derivation}
use Rattle.verdicts.specs.Logs.{own_coding, IsSpentOn}
use Rattle.verdicts.specs.Kept.{IsEntry}
use Rattle.verdicts.specs.Inductive.{IsWithin, StandOnce}
use Rattle.verdict_types.specs.declared.kept.InvSpent.{InvSpent}
use Rattle.verdicts.proofs.Extending.{push_cases}
use Rattle.verdicts.proofs.Keeping.{met_next}
use Rattle.query_asks.specs.Asks.{IsRefutedBy, IsRightOf}
use Rattle.query_asks.specs.declared.asks.Asked.{Asked}
use Rattle.induction.specs.Members.{clause_of, holds_of}
use Rattle.induction.specs.Pools.{IsSearch, AreBased}
use Rattle.induction.specs.Steps.{IsStepRefuted, AreStepsRefuted, IsAnsweredAt, IsSpentAt, IsRightRound}
use Rattle.induction.specs.declared.members.Member.{Member}
use Rattle.induction.specs.declared.steps.Round.{Round}
use Rattle.induction.specs.declared.steps.Round.TheVariants.{Refuted, Broken, Spent}
use Rattle.induction.proofs.Filters.{turned, map-filter, map-turned, Contains-filter, Contains-from_filter, Contains-turned, Contains-from_turned}
use Rattle.induction.proofs.Filters.{filter_fewer, length-turned, split_at, middle_within, middle_cases}
use Rattle.induction.proofs.Standing.{once_filter, once_turned, once_swapped, once_middle, absent_middle}
use Rattle.induction.proofs.Searching.{search_broken, search_spent}

pub steps_first : (d : Design) (clauses : List InvClause) (depth : ℕ) → AreStepsRefuted d clauses depth 0 []
steps_first d clauses depth = record { as_many = refl; each = λ k clause step at there. cc }

-- one more step query that is refuted
pub steps_more : (d : Design) (clauses : List InvClause) (depth place : ℕ) (steps : List Derivation) (clause : InvClause) (step : Derivation)
    → slice_get clauses place ≡ Some clause → IsRefutedBy (clause_query d clauses clause Step depth) step
    → AreStepsRefuted d clauses depth place steps → AreStepsRefuted d clauses depth (place + 1) (steps ++ step ∷ [])
steps_more d clauses depth place steps clause step here refuted all =
    record {
      as_many = omega (arith, length-append steps (step ∷ []), all.as_many);
      each = λ k other found at there. elim (push_cases steps step k found there) [
        | inl early ↦ all.each k other found at early
        | inr last ↦
            let same_place : k ≡ place = omega (arith, last.0, all.as_many) in
            let at_place : slice_get clauses place ≡ Some other = subst (λ (j : ℕ). slice_get clauses j ≡ Some other) same_place at in
            let same : clause ≡ other = same_Some clause other (sym here ∙ at_place) in
            subst (λ (x : InvClause). IsStepRefuted d clauses depth x found) same
            (subst (IsStepRefuted d clauses depth clause) last.1
            (record { refuted = refuted.refutes; next = met_next d clauses clause depth refuted.none; in_form = refuted.in_form }))
      ];
    }

-- what is known by how a round ends
pub refuted_round : (d : Design) (clauses : List InvClause) (depth budget : ℕ) (round : Round) (steps : List Derivation) → round ≡ Refuted steps
    → IsRightRound d clauses depth budget round → AreStepsRefuted d clauses depth (length clauses) steps
refuted_round d clauses depth budget round steps is right = subst (IsRightRound d clauses depth budget) is right

pub broken_round : (d : Design) (clauses : List InvClause) (depth budget : ℕ) (round : Round) (place : ℕ) (stretch : List Cycle)
    → round ≡ Broken place stretch → IsRightRound d clauses depth budget round → IsAnsweredAt d clauses depth place stretch
broken_round d clauses depth budget round place stretch is right = subst (IsRightRound d clauses depth budget) is right

pub spent_round : (d : Design) (clauses : List InvClause) (depth budget : ℕ) (round : Round) (place : ℕ) (log : Derivation) → round ≡ Spent place log
    → IsRightRound d clauses depth budget round → IsSpentAt d clauses depth place budget log
spent_round d clauses depth budget round place log is right = subst (IsRightRound d clauses depth budget) is right

-- what is right of the query of the clause at a place
abbrev pub RightAt : Design → ℕ → ℕ → ℕ → Asked → List InvClause → Type 0
RightAt d place depth budget asked inv =
    (clause : InvClause) → slice_get inv place ≡ Some clause → IsRightOf (clause_query d inv clause Step depth) budget asked

-- the members whose clauses hold in the last cycle of a stretch, from a place on
abbrev pub left_holding : ℕ → Cycle → List Member → List Member
left_holding place c members = filter (holds_of c) (turned place members)

clauses_holding : (place : ℕ) (c : Cycle) (members : List Member)
    → map clause_of (left_holding place c members) ≡ filter (clause_holds c) (turned place (map clause_of members))
clauses_holding place c members =
    map-filter clause_of (clause_holds c) (turned place members) ∙ ap (filter (clause_holds c)) (map-turned clause_of place members)

-- the members that are left after a stretch
pub round_broken : (d : Design) (depth budget place : ℕ) (candidates clauses : List InvClause) (members : List Member) (spent : List InvSpent)
    (stretch : List Cycle) (c : Cycle) → clauses ≡ map clause_of members → IsAnsweredAt d clauses depth place stretch → slice_get stretch depth ≡ Some c
    → IsSearch d depth budget candidates (map clause_of members) spent
    → IsSearch d depth budget candidates (map clause_of (left_holding place c members)) spent
round_broken d depth budget place candidates clauses members spent stretch c same answered at so =
    let left = map clause_of members in
    let turn = turned place left in
    let answer : IsAnswer (clause_query d left answered.clause Step depth) stretch =
    subst (λ xs. IsAnswer (clause_query d xs answered.clause Step depth) stretch) same answered.answer in
    subst (λ xs. IsSearch d depth budget candidates xs spent) (sym (clauses_holding place c members))
    (search_broken d depth budget candidates left (filter (clause_holds c) turn) spent answered.clause stretch c answer at
    (λ x has. Contains-from_turned place left x (Contains-from_filter (clause_holds c) turn x has).0)
    (once_filter (clause_holds c) turn (once_turned place left so.once))
    (λ x has holds. Contains-filter (clause_holds c) turn x (Contains-turned place left x has) holds)
    so)

has_at : {X : Type 0} (xs : List X) (k : ℕ) (x : X) → slice_get xs k ≡ Some x → Contains xs x
has_at xs k x at = (k, slice_get_within xs k x at, get_or_from_slice_get xs k x x at)

-- the clause that was asked about is not among them
pub round_less : (d : Design) (depth place : ℕ) (clauses : List InvClause) (members : List Member) (stretch : List Cycle) (c : Cycle)
    → clauses ≡ map clause_of members → IsAnsweredAt d clauses depth place stretch → slice_get stretch depth ≡ Some c
    → length (left_holding place c members) < length members
round_less d depth place clauses members stretch c same answered at =
    let has : Contains (map clause_of members) answered.clause =
    subst (λ xs. Contains xs answered.clause) same (has_at clauses place answered.clause answered.at) in
    let member = from_map clause_of answered.clause members (In-from_Contains (map clause_of members) answered.clause has) in
    let last : depth ≡ 0 + depth + 1 - 1 = omega arith in
    let fails = answered.answer.asked c (subst (λ (k : ℕ). slice_get stretch k ≡ Some c) last at) in
    let there = In-from_Contains (turned place members) member.0 (Contains-turned place members member.0 (Contains-from_In members member.0 member.1)) in
    omega (arith, filter_fewer (holds_of c) member.0 (turned place members) there (ap (clause_holds c) member.2 ∙ fails), length-turned place members)

pub based_holding : (d : Design) (depth place : ℕ) (c : Cycle) (members : List Member) → AreBased d depth members
    → AreBased d depth (left_holding place c members)
based_holding d depth place c members based m has =
    based m (Contains-from_turned place members m (Contains-from_filter (holds_of c) (turned place members) m has).0)

-- the others, where one is taken out
abbrev pub others_from : {X : Type 0} → ℕ → List X → List X
others_from place xs = drop (place + 1) xs ++ take place xs

pub map-others : {X Y : Type 0} (f : X → Y) (n : ℕ) (xs : List X) → map f (others_from n xs) ≡ others_from n (map f xs)
map-others f n xs = rw (map-append f (drop (n + 1) xs) (take n xs), drop-map f (n + 1) xs, take-map f n xs) refl

swapped : {X : Type 0} (xs ys : List X) (x : X) → Contains (xs ++ ys) x → Contains (ys ++ xs) x
swapped xs ys x has =
    elim (Contains-append_cases xs ys x has) [
      | inl early ↦ Contains-append_right ys xs x early
      | inr late ↦ Contains-append_left ys xs x late
    ]

pub based_others : (d : Design) (depth place : ℕ) (members : List Member) (member : Member) → slice_get members place ≡ Some member
    → AreBased d depth members → AreBased d depth (others_from place members)
based_others d depth place members member at based m has =
    based m
    (subst (λ ms. Contains ms m) (sym (split_at members place member at))
    (middle_within (take place members) (drop (place + 1) members) member m (swapped (drop (place + 1) members) (take place members) m has)))

-- the clauses that are left after one whose query is spent
pub round_spent : (d : Design) (depth budget place : ℕ) (candidates left : List InvClause) (spent : List InvSpent) (clause : InvClause) (log : Derivation)
    → slice_get left place ≡ Some clause → IsSpentOn own_coding (clause_query d left clause Step depth) budget log
    → IsSearch d depth budget candidates left spent
    → IsSearch d depth budget candidates (others_from place left)
    (spent ++ record { clause = clause; phase = Step; offset = depth; against = left; place = place; log = log } ∷ [])
round_spent d depth budget place candidates left spent clause log at spends so =
    let xs = take place left in
    let ys = drop (place + 1) left in
    let split : left ≡ xs ++ clause ∷ ys = split_at left place clause at in
    let once : StandOnce (xs ++ clause ∷ ys) = subst StandOnce split so.once in
    let e : InvSpent = record { clause = clause; phase = Step; offset = depth; against = left; place = place; log = log } in
    let within : IsWithin (ys ++ xs) left = λ x has. subst (λ zs. Contains zs x) (sym split) (middle_within xs ys clause x (swapped ys xs x has)) in
    let entry : IsEntry d depth budget candidates (ys ++ xs) e =
    record {
      candidate = (so.unspent clause (has_at left place clause at)).candidate;
      left_out = λ has. absent_middle xs ys clause once (swapped ys xs clause has);
      at = at;
      against = (refl, (λ x has. (so.unspent x has).candidate), within);
      log = spends;
    } in
    search_spent d depth budget candidates left (ys ++ xs) spent e entry within (once_swapped xs ys (once_middle xs ys clause once))
    (λ x has. by x (middle_cases xs ys clause x (subst (λ zs. Contains zs x) split has)))
    so
  where
    by : (x : InvClause) → Contains (take place left ++ drop (place + 1) left) x ⊎ (clause ≡ x)
        → Contains (drop (place + 1) left ++ take place left) x ⊎ (clause ≡ x)
    by x (inl there) = inl (swapped (take place left) (drop (place + 1) left) x there)
    by x (inr same) = inr same

-- the places and lengths that a round's end tells
pub answered_low : (d : Design) (clauses : List InvClause) (depth place : ℕ) (stretch : List Cycle) → IsAnsweredAt d clauses depth place stretch
    → place < length clauses
answered_low d clauses depth place stretch answered = slice_get_within clauses place answered.clause answered.at

pub spent_low : (d : Design) (clauses : List InvClause) (depth place budget : ℕ) (log : Derivation) → IsSpentAt d clauses depth place budget log
    → place < length clauses
spent_low d clauses depth place budget log spent = slice_get_within clauses place spent.clause spent.at

pub members_low : (members : List Member) (clauses : List InvClause) (place : ℕ) → clauses ≡ map clause_of members → place < length clauses
    → place < length members
members_low members clauses place same low = omega (arith, low, ap length same, length-map members clause_of)

-- the members that are left after one whose query is spent
pub spent_members : (d : Design) (depth budget place : ℕ) (candidates clauses : List InvClause) (members others : List Member) (spent : List InvSpent)
    (clause : InvClause) (log : Derivation) → clauses ≡ map clause_of members → slice_get (map clause_of members) place ≡ Some clause
    → IsSpentAt d clauses depth place budget log → others ≡ others_from place members
    → IsSearch d depth budget candidates (map clause_of members) spent
    → IsSearch d depth budget candidates (map clause_of others)
    (spent ++ record { clause = clause; phase = Step; offset = depth; against = clauses; place = place; log = log } ∷ [])
spent_members d depth budget place candidates clauses members others spent clause log same at spends left_is so =
    let left = map clause_of members in
    let entry : List InvClause → InvSpent =
    λ (xs : List InvClause). record { clause = clause; phase = Step; offset = depth; against = xs; place = place; log = log } in
    let there : slice_get left place ≡ Some spends.clause = subst (λ (xs : List InvClause). slice_get xs place ≡ Some spends.clause) same spends.at in
    let one : spends.clause ≡ clause = same_Some spends.clause clause (sym there ∙ at) in
    let log_is : IsSpentOn own_coding (clause_query d left clause Step depth) budget log =
    subst (λ (x : InvClause). IsSpentOn own_coding (clause_query d left x Step depth) budget log) one
    (subst (λ (xs : List InvClause). IsSpentOn own_coding (clause_query d xs spends.clause Step depth) budget log) same spends.spends) in
    let fewer : map clause_of others ≡ others_from place left = ap (map clause_of) left_is ∙ map-others clause_of place members in
    subst (λ (xs : List InvClause). IsSearch d depth budget candidates xs (spent ++ entry clauses ∷ [])) (sym fewer)
    (subst (λ (xs : List InvClause). IsSearch d depth budget candidates (others_from place left) (spent ++ entry xs ∷ [])) (sym same)
    (round_spent d depth budget place candidates left spent clause log at log_is so))

pub spent_based : (d : Design) (depth place : ℕ) (members others : List Member) → place < length members → others ≡ others_from place members
    → AreBased d depth members → AreBased d depth others
spent_based d depth place members others low left_is based =
    let member = item_at members place low in
    subst (AreBased d depth) (sym left_is) (based_others d depth place members member.0 member.1 based)

pub spent_less : (place : ℕ) (members others : List Member) → place < length members → others ≡ others_from place members
    → length others < length members
spent_less place members others low left_is =
    let whole = ap length (take-append-drop (place + 1) members) in
    omega (
      arith,
      low,
      ap length left_is,
      length-append (drop (place + 1) members) (take place members),
      whole,
      length-append (take (place + 1) members) (drop (place + 1) members),
      length-take-le place members (omega (arith, low)),
      length-take-le (place + 1) members (omega (arith, low)),
    )
