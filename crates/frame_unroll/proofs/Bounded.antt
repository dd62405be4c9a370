-- The keys of what a query asks lie within bounds.
use Rattle.std.proofs.Common.{◌≡◌, ℕ, zero, suc, ◌+◌, ◌-◌, ◌<◌, ◌≤◌, Bool, true, false, List, [], ◌∷◌, ◌++◌, length, map, flat_map, refl, sym, arith, subst}
use Rattle.std.specs.Prelude.{All}
use Rattle.std.proofs.lemmas.Grind.{flat_map-append}
use Rattle.std.proofs.lemmas.List.Elements.{All-nil, All-cons, All-head, All-tail, All-append, All-map, All-weaker}
use Rattle.net_model.specs.Fits.{Fits, NamesRegs}
use Rattle.net_model.specs.Judge.{judged_count}
use Rattle.net_model.specs.declared.netlist.Design.{Design}
use Rattle.net_model.specs.declared.claims.Claim.{Claim}
use Rattle.sdcv_base.specs.declared.kinds.Kind.{Kind}
use Rattle.sdcv_base.specs.declared.kinds.Kind.TheVariants.{False, Multi}
use Rattle.net_model.specs.declared.claims.PinRef.{PinRef}
use Rattle.net_model.specs.declared.invariants.StateLit.{StateLit}
use Rattle.net_model.specs.declared.invariants.InvClause.{InvClause}
use Rattle.net_model.specs.declared.queries.Phase.{Phase}
use Rattle.net_model.specs.declared.queries.Phase.TheVariants.{Base, Step}
use Rattle.query_model.specs.Keys.{lit, opposite, below}
use Rattle.query_model.specs.Reads.{bit_key}
use Rattle.net_model.specs.Queries.{claim_query, clause_query, live_of, only_in_step}
use Rattle.query_model.specs.Defined.{numbered, extra, toggle_key, change_key, differ_key, stale_key, bad_key}
use Rattle.query_model.specs.Formula.{state_lit, clause_in, stale_if_later, plain_alternatives, hazard_alternatives, late_alternatives}
use Rattle.query_model.specs.Formula.{alternatives_at, alternatives}
use Rattle.query_model.specs.Formula.{clean_clauses, bad_clauses, asked_clauses}
use Rattle.query_model.specs.declared.keys.KeyLit.{KeyLit}
use Rattle.query_model.specs.Formula.{kept_in, some_chosen, chosen_clauses, all_chosen}
use Rattle.frame_unroll.specs.Framed.{IsWithin, AreWithin}
use Rattle.frame_unroll.proofs.Asking.{below_few, judged_few}

abbrev IsLitWithin : Design → ℕ → KeyLit → Type 0
IsLitWithin d cycles l = IsWithin d cycles l.key

abbrev AreLitsWithin : Design → ℕ → List KeyLit → Type 0
AreLitsWithin d cycles lits = All (IsLitWithin d cycles) lits

-- a fact of every item that a list of numbers gives
All-below : {X : Type 0} (P : X → Type 0) (f : ℕ → List X) (n : ℕ) → ((i : ℕ) → i < n → All P (f i)) → All P (flat_map f (below n))
All-below P f zero each = All-nil P
All-below P f (suc n) each =
    let last : All P (f n ++ []) = All-append P (f n) [] (each n (omega arith)) (All-nil P) in
    subst (All P) (sym (flat_map-append f (below n) (n ∷ []))) (All-append P (flat_map f (below n)) (f n ++ [])
    (All-below P f n (λ i lt. each i (omega (arith, lt)))) last)

-- the same of numbered items
All-numbered : {X A : Type 0} (Q : X → Type 0) (P : A → Type 0) (f : ℕ → X → A) (i : ℕ) (xs : List X) → All Q xs
    → ((j : ℕ) (x : X) → j < i + length xs → Q x → P (f j x)) → All P (numbered f i xs)
All-numbered Q P f i [] all each = All-nil P
All-numbered Q P f i (x ∷ xs) all each =
    All-cons P (f i x) (numbered f (i + 1) xs) (each i x (omega arith) (All-head Q x xs all))
    (All-numbered Q P f (i + 1) xs (All-tail Q x xs all) (λ j y lt q. each j y (omega (arith, lt)) q))

All-flat : {X : Type 0} (P : X → Type 0) (xs : List (List X)) → All (All P) xs → All P (flat_map (λ x. x) xs)
All-flat P [] all = All-nil P
All-flat P (x ∷ xs) all = All-append P x (flat_map (λ x. x) xs) (All-head (All P) x xs all) (All-flat P xs (All-tail (All P) x xs all))

one : (d : Design) (cycles : ℕ) (l : KeyLit) → IsLitWithin d cycles l → AreLitsWithin d cycles (l ∷ [])
one d cycles l within = All-cons (IsLitWithin d cycles) l [] within (All-nil (IsLitWithin d cycles))

bit_within : (d : Design) (cycles c r : ℕ) → c ≤ cycles → r < length d.regs → IsWithin d cycles (bit_key d c r)
bit_within d cycles c r le lt = record { cycle = le; layer = omega arith; rail = omega arith; point = omega (arith, lt) }

extra_within : (d : Design) (cycles c i : ℕ) → c ≤ cycles → i < 50 → IsWithin d cycles (extra d c i)
extra_within d cycles c i le lt = record { cycle = le; layer = omega arith; rail = omega arith; point = omega (arith, lt) }

stale_within : (d : Design) (cycles c r : ℕ) → c ≤ cycles → r ≤ 15 → AreLitsWithin d cycles (stale_if_later d c r)
stale_within d cycles c zero le few = All-nil (IsLitWithin d cycles)
stale_within d cycles c (suc r) le few = one d cycles (lit true (stale_key d c (suc r))) (extra_within d cycles c (2 + suc r) le (omega (arith, few)))

change_within : (d : Design) (cycles c : ℕ) → c ≤ cycles → IsWithin d cycles (change_key d c)
change_within d cycles c le = extra_within d cycles c 1 le (omega arith)

differ_within : (d : Design) (cycles c : ℕ) → c ≤ cycles → IsWithin d cycles (differ_key d c)
differ_within d cycles c le = extra_within d cycles c 2 le (omega arith)

late_within : (d : Design) (cycles c r : ℕ) → c ≤ cycles → r ≤ 15 → AreLitsWithin d cycles (lit true (differ_key d c) ∷ stale_if_later d c r)
late_within d cycles c r le few =
    All-cons (IsLitWithin d cycles) (lit true (differ_key d c)) (stale_if_later d c r) (differ_within d cycles c le) (stale_within d cycles c r le few)

single : (d : Design) (cycles : ℕ) (lits : List KeyLit) → AreLitsWithin d cycles lits → AreWithin d cycles (lits ∷ [])
single d cycles lits within = All-cons (AreLitsWithin d cycles) lits [] within (All-nil (AreLitsWithin d cycles))

plain_within : (kind : Kind) (sets : List (List PinRef)) (d : Design) (cycles c r : ℕ) → c ≤ cycles → r ≤ 15
    → AreWithin d cycles (plain_alternatives kind sets d c r)
plain_within False sets d cycles c r le few = single d cycles (lit true (differ_key d c) ∷ stale_if_later d c r) (late_within d cycles c r le few)
plain_within (Multi k) [] d cycles c r le few = single d cycles (lit true (change_key d c) ∷ [])
    (one d cycles (lit true (change_key d c)) (change_within d cycles c le))
plain_within (Multi k) (set ∷ sets) d cycles c r le few =
    single d cycles (lit true (change_key d c) ∷ lit true (differ_key d c) ∷ stale_if_later d c r)
    (All-cons (IsLitWithin d cycles) (lit true (change_key d c)) (lit true (differ_key d c) ∷ stale_if_later d c r) (change_within d cycles c le)
    (late_within d cycles c r le few))

glitch_within : (d : Design) (cycles c : ℕ) → c ≤ cycles → AreWithin d cycles ((lit true (differ_key d c) ∷ []) ∷ [])
glitch_within d cycles c le = single d cycles (lit true (differ_key d c) ∷ []) (one d cycles (lit true (differ_key d c)) (differ_within d cycles c le))

hazard_within : (kind : Kind) (sets : List (List PinRef)) (d : Design) (cycles c : ℕ) → c ≤ cycles → AreWithin d cycles (hazard_alternatives kind sets d c)
hazard_within False sets d cycles c le = glitch_within d cycles c le
hazard_within (Multi k) [] d cycles c le =
    All-cons (AreLitsWithin d cycles) (lit true (change_key d c) ∷ []) ((lit true (differ_key d c) ∷ []) ∷ [])
    (one d cycles (lit true (change_key d c)) (change_within d cycles c le)) (glitch_within d cycles c le)
hazard_within (Multi k) (set ∷ sets) d cycles c le = glitch_within d cycles c le

late_side_within : (b : Bool) (d : Design) (claim : Claim) (cycles t r : ℕ) → claim.hazard ≡ b → t + r ≤ cycles → r ≤ 15
    → AreWithin d cycles (late_alternatives d claim t r)
late_side_within true d claim cycles t r e le few = rw e (hazard_within claim.kind claim.through d cycles (t + r) le)
late_side_within false d claim cycles t r e le few = rw e (plain_within claim.kind claim.through d cycles (t + r) r le few)

at_within : (b : Bool) (d : Design) (claim : Claim) (cycles t r : ℕ) → claim.early ≡ b → t + r ≤ cycles → r ≤ 15
    → AreWithin d cycles (alternatives_at d claim t r)
at_within true d claim cycles t r e le few = rw e (glitch_within d cycles (t - 1) (omega (arith, le)))
at_within false d claim cycles t r e le few = rw e (late_side_within claim.hazard d claim cycles t r refl le few)

-- the conditions of a toggle, where the cycles judged are among these
alternatives_within : (d : Design) (claim : Claim) (cycles t : ℕ) → Fits d claim → t + judged_count claim ≤ cycles
    → AreWithin d cycles (alternatives d claim t)
alternatives_within d claim cycles t fits le =
    All-below (AreLitsWithin d cycles) (alternatives_at d claim t) (judged_count claim)
    (λ r lt. at_within claim.early d claim cycles t r refl (omega (arith, le, lt)) (omega (arith, lt, judged_few d claim fits)))

clean_within : (d : Design) (claim : Claim) (cycles t : ℕ) → Fits d claim → t + judged_count claim ≤ cycles
    → AreWithin d cycles (clean_clauses d claim t)
clean_within d claim cycles t fits le =
    let clause : List KeyLit → List KeyLit = λ conditions. lit false (toggle_key d t) ∷ map opposite conditions in
    All-map (AreLitsWithin d cycles) clause (alternatives d claim t)
    (All-weaker (AreLitsWithin d cycles) (λ conditions. AreLitsWithin d cycles (clause conditions))
    (λ conditions within. All-cons (IsLitWithin d cycles) (lit false (toggle_key d t)) (map opposite conditions)
    (extra_within d cycles t 0 (omega (arith, le)) (omega arith)) (All-map (IsLitWithin d cycles) opposite conditions within))
    (alternatives d claim t) (alternatives_within d claim cycles t fits le))

chosen_within : (d : Design) (cycles t a : ℕ) (conditions : List KeyLit) → t ≤ cycles → a < 30 → AreLitsWithin d cycles conditions
    → AreWithin d cycles (chosen_clauses d t a conditions)
chosen_within d cycles t a conditions le lt within =
    let clause : KeyLit → List KeyLit = λ condition. lit false (bad_key d t a) ∷ condition ∷ [] in
    All-map (AreLitsWithin d cycles) clause conditions
    (All-weaker (IsLitWithin d cycles) (λ condition. AreLitsWithin d cycles (clause condition))
    (λ condition is. All-cons (IsLitWithin d cycles) (lit false (bad_key d t a)) (condition ∷ [])
    (extra_within d cycles t (20 + a) le (omega (arith, lt))) (one d cycles condition is))
    conditions within)

bad_within : (d : Design) (claim : Claim) (cycles t : ℕ) → Fits d claim → t + judged_count claim ≤ cycles
    → AreWithin d cycles (bad_clauses d claim t)
bad_within d claim cycles t fits le =
    let found = alternatives d claim t in
    let within = alternatives_within d claim cycles t fits le in
    let now : t ≤ cycles = omega (arith, le) in
    let few : length found ≤ 30 = omega (arith, below_few d claim t (judged_count claim), judged_few d claim fits) in
    let toggles : IsLitWithin d cycles (lit true (toggle_key d t)) = extra_within d cycles t 0 now (omega arith) in
    let some : AreLitsWithin d cycles (some_chosen d t found) =
    All-numbered (AreLitsWithin d cycles) (IsLitWithin d cycles) (λ a (conditions : List KeyLit). lit true (bad_key d t a)) 0 found within
    (λ a conditions lt is. extra_within d cycles t (20 + a) now (omega (arith, lt, few))) in
    let each : AreWithin d cycles (all_chosen d t found) =
    All-flat (AreLitsWithin d cycles) (numbered (chosen_clauses d t) 0 found)
    (All-numbered (AreLitsWithin d cycles) (AreWithin d cycles) (chosen_clauses d t) 0 found within
    (λ a conditions lt is. chosen_within d cycles t a conditions now (omega (arith, lt, few)) is)) in
    All-cons (AreLitsWithin d cycles) (lit true (toggle_key d t) ∷ []) (some_chosen d t found ∷ all_chosen d t found)
    (one d cycles (lit true (toggle_key d t)) toggles)
    (All-cons (AreLitsWithin d cycles) (some_chosen d t found) (all_chosen d t found) some each)

clause_within : (d : Design) (cycles c : ℕ) (clause : InvClause) → c ≤ cycles → NamesRegs d clause → AreLitsWithin d cycles (clause_in d clause c)
clause_within d cycles c clause le names =
    All-map (IsLitWithin d cycles) (state_lit d c) clause.lits (All-weaker (λ (l : StateLit). l.reg < length d.regs)
    (λ l. IsLitWithin d cycles (state_lit d c l)) (λ l lt. bit_within d cycles c l.reg le lt) clause.lits names)

kept_within : (d : Design) (cycles limit : ℕ) (inv : List InvClause) → limit ≤ cycles → All (NamesRegs d) inv
    → AreWithin d cycles (flat_map (kept_in d inv) (below limit))
kept_within d cycles limit inv le names =
    All-below (AreLitsWithin d cycles) (kept_in d inv) limit
    (λ c lt.
    All-map (AreLitsWithin d cycles) (λ (clause : InvClause). clause_in d clause c) inv
    (All-weaker (NamesRegs d) (λ clause. AreLitsWithin d cycles (clause_in d clause c))
    (λ clause name. clause_within d cycles c clause (omega (arith, lt, le)) name) inv names))

only_less : (phase : Phase) (n : ℕ) → only_in_step phase n ≤ n
only_less Base n = omega arith
only_less Step n = omega arith

-- what is asked about a claim
pub claim_within : (d : Design) (claim : Claim) (phase : Phase) (depth : ℕ) (inv : List InvClause) → Fits d claim → All (NamesRegs d) inv
    → AreWithin d (claim_query d claim phase depth inv).cycles (asked_clauses (claim_query d claim phase depth inv))
claim_within d claim phase depth inv fits names =
    let live = live_of d phase in
    let clean = only_in_step phase depth in
    let cycles = live + depth + 1 + judged_count claim in
    let before : AreWithin d cycles (flat_map (λ o. clean_clauses d claim (live + 1 + o)) (below clean)) =
    All-below (AreLitsWithin d cycles) (λ o. clean_clauses d claim (live + 1 + o)) clean
    (λ o lt. clean_within d claim cycles (live + 1 + o) fits (omega (arith, lt, only_less phase depth))) in
    All-append (AreLitsWithin d cycles) (flat_map (kept_in d inv) (below (only_in_step phase cycles)))
    (flat_map (λ o. clean_clauses d claim (live + 1 + o)) (below clean) ++ bad_clauses d claim (live + 1 + depth))
    (kept_within d cycles (only_in_step phase cycles) inv (only_less phase cycles) names)
    (All-append (AreLitsWithin d cycles) (flat_map (λ o. clean_clauses d claim (live + 1 + o)) (below clean)) (bad_clauses d claim (live + 1 + depth))
    before (bad_within d claim cycles (live + 1 + depth) fits (omega arith)))

-- what is asked about a clause
pub broken_within : (d : Design) (inv : List InvClause) (clause : InvClause) (phase : Phase) (depth : ℕ) → NamesRegs d clause → All (NamesRegs d) inv
    → AreWithin d (clause_query d inv clause phase depth).cycles (asked_clauses (clause_query d inv clause phase depth))
broken_within d inv clause phase depth name names =
    let cycles = live_of d phase + depth + 1 in
    let last = clause_in d clause (cycles - 1) in
    let limit = only_in_step phase depth in
    All-append (AreLitsWithin d cycles) (flat_map (kept_in d inv) (below limit)) (map (λ l. opposite l ∷ []) last)
    (kept_within d cycles limit inv (omega (arith, only_less phase depth)) names)
    (All-map (AreLitsWithin d cycles) (λ (l : KeyLit). opposite l ∷ []) last
    (All-weaker (IsLitWithin d cycles) (λ l. AreLitsWithin d cycles (opposite l ∷ [])) (λ l is. one d cycles (opposite l) is) last
    (clause_within d cycles (cycles - 1) clause (omega arith) name)))
