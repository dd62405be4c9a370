-- The formula of a query: its clauses over keys, the keys that are needed, and their numbers.
use Rattle.std.specs.Prelude.{◌≡◌, ℕ, zero, suc, ◌+◌, ◌-◌, ◌==◌, ◌&&◌, Bool, true, false, List, [], ◌∷◌, ◌++◌, map, flat_map, Contains, if◌then◌else◌}
use Rattle.std.specs.List.{list_any}
use Rattle.net_model.specs.Judge.{judged_count}
use Rattle.net_model.specs.declared.netlist.Design.{Design}
use Rattle.net_model.specs.declared.claims.Claim.{Claim}
use Rattle.net_model.specs.declared.claims.PinRef.{PinRef}
use Rattle.sdcv_base.specs.declared.kinds.Kind.{Kind}
use Rattle.sdcv_base.specs.declared.kinds.Kind.TheVariants.{False, Multi}
use Rattle.net_model.specs.declared.invariants.StateLit.{StateLit}
use Rattle.net_model.specs.declared.invariants.InvClause.{InvClause}
use Rattle.query_model.specs.Keys.{lit, opposite, below, Ascend}
use Rattle.query_model.specs.Reads.{bit_key, AreMoved}
use Rattle.net_model.specs.Queries.{Query, Question, Violates, Breaks}
use Rattle.query_model.specs.Defined.{Definition, numbered, base_definitions, claim_definitions, toggle_key, change_key, differ_key, stale_key, bad_key}
use Rattle.query_model.specs.declared.keys.Key.{Key}
use Rattle.query_model.specs.declared.keys.KeyLit.{KeyLit}
use Rattle.query_model.specs.declared.keys.Coding.{Coding}

-- a literal over register bits, in a cycle
abbrev pub state_lit : Design → ℕ → StateLit → KeyLit
state_lit d c l = lit l.value (bit_key d c l.reg)

-- a clause over register bits, in a cycle
abbrev pub clause_in : Design → InvClause → ℕ → List KeyLit
clause_in d clause c = map (state_lit d c) clause.lits

-- clauses over register bits, in a cycle
abbrev pub kept_in : Design → List InvClause → ℕ → List (List KeyLit)
kept_in d inv c = map (λ (clause : InvClause). clause_in d clause c) inv

-- the kept clauses, cycle by cycle
abbrev pub kept_clauses : Query → List (List KeyLit)
kept_clauses q = flat_map (kept_in q.design q.kept) (below q.kept_below)

-- r cycles after the toggle the start's bit is another one than before the toggle, so that a late start shows the old one
abbrev pub stale_if_later : Design → ℕ → ℕ → List KeyLit
stale_if_later d c zero = []
stale_if_later d c (suc r) = lit true (stale_key d c (suc r)) ∷ []

-- the one way in which cycle c, r cycles after the toggle, may be bad: the late capture differs, and for a multicycle path the
-- capture changes; without through sets the change is enough
abbrev pub plain_alternatives : Kind → List (List PinRef) → Design → ℕ → ℕ → List (List KeyLit)
plain_alternatives False sets d c r = (lit true (differ_key d c) ∷ stale_if_later d c r) ∷ []
plain_alternatives (Multi k) [] d c r = (lit true (change_key d c) ∷ []) ∷ []
plain_alternatives (Multi k) (set ∷ sets) d c r =
    (lit true (change_key d c) ∷ lit true (differ_key d c) ∷ stale_if_later d c r) ∷ []

-- a change of the capture, which makes a cycle bad for a multicycle path without through sets though hazards count
abbrev pub lone_change : Kind → List (List PinRef) → Design → ℕ → List (List KeyLit)
lone_change (Multi k) [] d c = (lit true (change_key d c) ∷ []) ∷ []
lone_change _ _ d c = []

-- the ways where hazards count: such a change, and a late capture that may be both
abbrev pub hazard_alternatives : Kind → List (List PinRef) → Design → ℕ → List (List KeyLit)
hazard_alternatives kind sets d c = lone_change kind sets d c ++ (lit true (differ_key d c) ∷ []) ∷ []

-- the one way in which the cycle before a toggle at t is bad for a claim of the early side: the late capture differs in it, or
-- where hazards count may be both
abbrev pub early_alternatives : Design → ℕ → List (List KeyLit)
early_alternatives d t = (lit true (differ_key d (t - 1)) ∷ []) ∷ []

-- the ways in which cycle t + r may be bad for a claim of the late side
abbrev pub late_alternatives : Design → Claim → ℕ → ℕ → List (List KeyLit)
late_alternatives d claim t r =
    if claim.hazard then hazard_alternatives claim.kind claim.through d (t + r) else plain_alternatives claim.kind claim.through d (t + r) r

-- each of them is a list of conditions under which a toggle at t is a violation by its r-th judged cycle
abbrev pub alternatives_at : Design → Claim → ℕ → ℕ → List (List KeyLit)
alternatives_at d claim t r = if claim.early then early_alternatives d t else late_alternatives d claim t r

-- the ways in which a toggle at t is a violation: those of each judged cycle, in the order of the cycles
abbrev pub alternatives : Design → Claim → ℕ → List (List KeyLit)
alternatives d claim t = flat_map (alternatives_at d claim t) (below (judged_count claim))

-- the start doesn't toggle, or a condition fails
abbrev pub clean_clauses : Design → Claim → ℕ → List (List KeyLit)
clean_clauses d claim t =
    map (λ (conditions : List KeyLit). lit false (toggle_key d t) ∷ map opposite conditions) (alternatives d claim t)

-- one of the alternatives is chosen
abbrev pub some_chosen : Design → ℕ → List (List KeyLit) → List KeyLit
some_chosen d t found = numbered (λ a conditions. lit true (bad_key d t a)) 0 found

-- the conditions of an alternative hold where it is chosen
abbrev pub chosen_clauses : Design → ℕ → ℕ → List KeyLit → List (List KeyLit)
chosen_clauses d t a conditions = map (λ condition. lit false (bad_key d t a) ∷ condition ∷ []) conditions

-- so do those of each
abbrev pub all_chosen : Design → ℕ → List (List KeyLit) → List (List KeyLit)
all_chosen d t found = flat_map (λ x. x) (numbered (chosen_clauses d t) 0 found)

-- the start toggles, and all conditions of a chosen alternative hold
abbrev pub bad_clauses : Design → Claim → ℕ → List (List KeyLit)
bad_clauses d claim t =
    (lit true (toggle_key d t) ∷ []) ∷ some_chosen d t (alternatives d claim t) ∷ all_chosen d t (alternatives d claim t)

-- what is asked last. Of a claim, in this order: for each offset below `clean`, that the toggle there is no violation, one clause
-- for each alternative; that the start toggles at the offset; that an alternative is chosen; and for each alternative in turn
-- that its conditions hold. Of a clause: that each of its literals is false in the last cycle, in the clause's order
abbrev pub question_clauses : Query → Question → List (List KeyLit)
question_clauses q (Violates claim offset clean) =
    flat_map (λ o. clean_clauses q.design claim (q.live + 1 + o)) (below clean) ++ bad_clauses q.design claim (q.live + 1 + offset)
question_clauses q (Breaks clause) = map (λ l. opposite l ∷ []) (clause_in q.design clause (q.cycles - 1))

-- what is asked of the keys, apart from their definitions: the kept clauses, then the question
abbrev pub asked_clauses : Query → List (List KeyLit)
asked_clauses q = kept_clauses q ++ question_clauses q q.question

-- the definitions that a question adds to a cycle
abbrev pub question_definitions : Coding → Design → List (List Bool) → Question → ℕ → List Definition
question_definitions coding d moved (Violates claim offset clean) c = claim_definitions coding d claim moved c
question_definitions coding d moved (Breaks clause) c = []

-- the definitions of a cycle, in this order: each input that is fixed or a reset; each gate; each register bit of the cycle after;
-- and where a claim is asked about, for each layer from W(0) on the start's nets (where hazards count, in W(0) alone) and the gates;
-- the late capture of a register end; and the points toggle, change, differ and the stale ones from 1 on
abbrev pub cycle_definitions : Coding → Query → List (List Bool) → ℕ → List Definition
cycle_definitions coding q moved c =
    base_definitions coding q.design q.live c ++ question_definitions coding q.design moved q.question c

-- the definitions of a query, cycle by cycle
abbrev pub definitions : Coding → Query → List (List Bool) → List Definition
definitions coding q moved = flat_map (cycle_definitions coding q moved) (below q.cycles)

-- the nets that a late start moves, where a claim is asked about; else no rows
abbrev pub AreMovedFor : Design → Question → List (List Bool) → Type 0
AreMovedFor d (Violates claim offset clean) moved = AreMoved d claim moved
AreMovedFor d (Breaks clause) moved = moved ≡ []

-- some literal of these clauses has the key
abbrev pub Mentions : List (List KeyLit) → Key → Type 0
Mentions clauses k = (clause : List KeyLit) × Contains clauses clause × ((l : KeyLit) × Contains clause l × (l.key ≡ k))

-- a key is needed where it stands in what is asked, or in the definition of a needed key
pub data IsNeeded (defs : List Definition) (asked : List (List KeyLit)) : Key → Type 0 where
  Asked : (k : Key) → Mentions asked k → IsNeeded defs asked k
  Used : (def : Definition) (out k : Key) → Contains defs def → Contains def.outs out → IsNeeded defs asked out → Mentions def.clauses k → IsNeeded defs asked k

-- the needed keys, each once, ascending
pub record AreNeeded (defs : List Definition) (asked : List (List KeyLit)) (keys : List Key) : Type 0 where
  pub ascending : Ascend keys
  pub needed : (k : Key) → Contains keys k → IsNeeded defs asked k
  pub all : (k : Key) → IsNeeded defs asked k → Contains keys k

-- whether two keys are one
abbrev pub same_key : Key → Key → Bool
same_key a b = (a.cycle == b.cycle) && ((a.layer == b.layer) && ((a.rail == b.rail) && (a.point == b.point)))

-- whether the key is in the list
abbrev pub has_key : List Key → Key → Bool
has_key keys k = list_any (same_key k) keys

-- the clauses of a definition of which some key is in the list
abbrev pub listed : List Key → Definition → List (List KeyLit)
listed keys def = if list_any (has_key keys) def.outs then def.clauses else []

-- the definitions of needed keys, then what is asked
abbrev pub formula_over : List Definition → List (List KeyLit) → List Key → List (List KeyLit)
formula_over defs asked keys = flat_map (listed keys) defs ++ asked

-- the formula of a query, over its keys
pub record IsFormulaOf (coding : Coding) (q : Query) (keys : List Key) (clauses : List (List KeyLit)) : Type 0 where
  pub moved : List (List Bool)
  pub are_moved : AreMovedFor q.design q.question moved
  pub are_needed : AreNeeded (definitions coding q moved) (asked_clauses q) keys
  pub are_clauses : clauses ≡ formula_over (definitions coding q moved) (asked_clauses q) keys
