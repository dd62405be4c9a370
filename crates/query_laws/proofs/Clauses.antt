-- Clauses over register bits, and queries of invariants.
use Rattle.std.proofs.Common.{◌≡◌, ℕ, ◌-◌, ◌<◌, ◌≤◌, Bool, true, false, not, cond, List, [], ◌∷◌, map, length, Some, refl, ap, sym, ◌∙◌, arith, inl, inr, subst}
use Rattle.std.specs.Prelude.{slice_get, flat_map, ◌||◌}
use Rattle.std.specs.List.{list_any}
use Rattle.std.proofs.lemmas.Bool.{not-true, or_from, or_parts}
use Rattle.std.proofs.lemmas.Option.{slice_get_within}
use Rattle.net_model.specs.Netlist.{IsSound}
use Rattle.net_model.specs.Cycles.{bit_at}
use Rattle.net_model.specs.declared.netlist.Design.{Design}
use Rattle.net_model.specs.declared.cycles.Cycle.{Cycle}
use Rattle.net_model.specs.declared.invariants.StateLit.{StateLit}
use Rattle.net_model.specs.declared.invariants.InvClause.{InvClause}
use Rattle.query_model.specs.Keys.{lit, opposite, lit_value, is_true, AllTrue, below}
use Rattle.query_model.specs.Reads.{bit_key}
use Rattle.net_model.specs.Queries.{Query, Breaks, AreCyclesOf, IsAnswer, clause_holds, state_value}
use Rattle.query_model.specs.Defined.{Definition, base_definitions}
use Rattle.query_model.specs.Formula.{state_lit, clause_in, kept_clauses, question_clauses, asked_clauses, definitions, cycle_definitions}
use Rattle.query_model.specs.Formula.{IsNeeded, Asked, AreNeeded, formula_over}
use Rattle.net_model.proofs.Members.{In, In-left, In-right, In-map, In-flat, In-cases, In-from_Contains, Contains-from_In, from_map, from_flat}
use Rattle.query_model.proofs.Members.{In-below, below_less, all_true, true_at}
use Rattle.query_model.proofs.Tabled.{value_opposite}
use Rattle.query_model.proofs.Runs.{now_bits, Told, CodingCovers}
use Rattle.query_model.proofs.Based.{Says, IsFree, base_true, base_told, get_within}
use Rattle.query_model.proofs.Needs.{forces, forces_some, formula_true, base_in, mentioned}
use Rattle.query_laws.proofs.Meaning.{meaning, meaning_says}
use Rattle.query_model.specs.declared.keys.Key.{Key}
use Rattle.query_model.specs.declared.keys.KeyLit.{KeyLit}
use Rattle.query_model.specs.declared.keys.Coding.{Coding}

abbrev pub NamesRegs : Design → InvClause → Type 0
NamesRegs d clause = (l : StateLit) → In l clause.lits → l.reg < length d.regs

-- the value of a literal that tells a register's bit
state_same : (v : Key → Bool) (k : Key) (value bit : Bool) → v k ≡ bit → lit_value v (lit value k) ≡ cond value bit (not bit)
state_same v k true bit e = e
state_same v k false bit e = ap not e

pub lits_same : (v : Key → Bool) (d : Design) (t : ℕ) (c : Cycle) (lits : List StateLit)
    → ((l : StateLit) → In l lits → v (bit_key d t l.reg) ≡ bit_at c.bits l.reg) → list_any (lit_value v) (map (state_lit d t) lits) ≡ list_any
    (state_value c) lits
lits_same v d t c [] tells = refl
lits_same v d t c (l ∷ ls) tells =
    ap (λ (b : Bool). b || list_any (lit_value v) (map (state_lit d t) ls))
    (state_same v (bit_key d t l.reg) l.value (bit_at c.bits l.reg) (tells l (inl refl)))
    ∙ ap (λ (b : Bool). state_value c l || b) (lits_same v d t c ls (λ m has. tells m (inr has)))

-- a clause is true in a cycle where its bits are told
pub clause_same : (v : Key → Bool) (d : Design) (run : List Cycle) (t : ℕ) (c : Cycle) (clause : InvClause) (kind : Key → Type 0)
    → slice_get run t ≡ Some c → NamesRegs d clause → Told kind v d run → ((l : StateLit) → In l clause.lits → kind (bit_key d t l.reg))
    → is_true v (clause_in d clause t) ≡ clause_holds c clause
clause_same v d run t c clause kind at names told has =
    let lt = slice_get_within run t c at in
    lits_same v d t c clause.lits (λ l i. told.bits t (omega arith) l.reg (names l i) (has l i) ∙ now_bits d run t c l.reg at)

pub clause_said : (v : Key → Bool) (d : Design) (run : List Cycle) (t : ℕ) (c : Cycle) (clause : InvClause) → slice_get run t ≡ Some c
    → NamesRegs d clause → Says v d run → is_true v (clause_in d clause t) ≡ clause_holds c clause
clause_said v d run t c clause at names says =
    let lt = slice_get_within run t c at in
    lits_same v d t c clause.lits (λ l i. says.bits t (omega arith) l.reg (names l i) ∙ now_bits d run t c l.reg at)

-- units of opposites say that each literal is false
pub none_true : (v : Key → Bool) (lits : List KeyLit) → AllTrue v (map (λ l. opposite l ∷ []) lits) → is_true v lits ≡ false
none_true v [] all = refl
none_true v (l ∷ ls) all =
    or_from (lit_value v l) (is_true v ls) (not-true (lit_value v l) (sym (value_opposite v l) ∙ sym (or_false (lit_value v (opposite l))) ∙ all.0))
    (none_true v ls all.1) where
      or_false : (b : Bool) → (b || false) ≡ b
      or_false true = refl
      or_false false = refl

pub true_none : (v : Key → Bool) (lits : List KeyLit) → is_true v lits ≡ false → AllTrue v (map (λ l. opposite l ∷ []) lits)
true_none v [] e = tt
true_none v (l ∷ ls) e =
    let parts = or_parts (lit_value v l) (is_true v ls) e in
    (ap (λ (b : Bool). b || false) (value_opposite v l ∙ ap not parts.0), true_none v ls parts.1)

pub kept_in : (q : Query) (t : ℕ) (clause : InvClause) → t < q.kept_below → In clause q.kept → In (clause_in q.design clause t) (asked_clauses q)
kept_in q t clause lt has =
    In-left (clause_in q.design clause t) (kept_clauses q) (question_clauses q q.question)
    (In-flat (λ c. map (λ (i : InvClause). clause_in q.design i c) q.kept) (clause_in q.design clause t) t (below q.kept_below) (In-below q.kept_below t lt)
    (In-map (λ (i : InvClause). clause_in q.design i t) clause q.kept has))

-- the key of a literal of a clause that is asked is needed
pub lit_needed : (defs : List Definition) (q : Query) (t : ℕ) (clause : InvClause) (l : StateLit) → In (clause_in q.design clause t) (asked_clauses q)
    → In l clause.lits → IsNeeded defs (asked_clauses q) (bit_key q.design t l.reg)
lit_needed defs q t clause l in_asked has =
    Asked (bit_key q.design t l.reg) (mentioned (asked_clauses q) (clause_in q.design clause t) (state_lit q.design t l) in_asked
    (In-map (state_lit q.design t) l clause.lits has))

pub kept_told : (q : Query) (defs : List Definition) (v : Key → Bool) (run : List Cycle) → ((i : InvClause) → In i q.kept → NamesRegs q.design i)
    → Told (IsNeeded defs (asked_clauses q)) v q.design run → AllTrue v (asked_clauses q) → (t : ℕ) (c : Cycle) (clause : InvClause)
    → t < q.kept_below → slice_get run t ≡ Some c → In clause q.kept → clause_holds c clause ≡ true
kept_told q defs v run names told all t c clause lt at has =
    let there = kept_in q t clause lt has in
    sym (clause_same v q.design run t c clause (IsNeeded defs (asked_clauses q)) at (names clause has) told (λ l i. lit_needed defs q t clause l there i))
    ∙ true_at v (asked_clauses q) (clause_in q.design clause t) all there

pub kept_said : (q : Query) (v : Key → Bool) (run : List Cycle) → ((i : InvClause) → In i q.kept → NamesRegs q.design i) → Says v q.design run
    → q.kept_below ≤ length run → ((t : ℕ) (c : Cycle) (clause : InvClause) → t < q.kept_below → slice_get run t ≡ Some c → In clause q.kept
    → clause_holds c clause ≡ true) → AllTrue v (kept_clauses q)
kept_said q v run names says short holds =
    all_true v (kept_clauses q)
    (λ cl has.
    let of = from_flat (λ c. map (λ (i : InvClause). clause_in q.design i c) q.kept) cl (below q.kept_below) has in
    let t = of.0 in
    let lt = below_less q.kept_below t of.1 in
    let from = from_map (λ (i : InvClause). clause_in q.design i t) cl q.kept of.2 in
    let here = get_within run t (omega arith) in
    subst (λ (x : List KeyLit). is_true v x ≡ true) from.2
    (clause_said v q.design run t here.0 from.0 here.1 (names from.0 from.1) says ∙ holds t here.0 from.0 lt here.1 from.1))

-- the needed keys of a query
abbrev pub Needed : Coding → Query → List (List Bool) → Key → Type 0
Needed coding q moved = IsNeeded (definitions coding q moved) (asked_clauses q)

-- a model of a query's formula over its needed keys, beside cycles of the query that have the model's free bits
pub record IsModelBeside (coding : Coding) (q : Query) (moved : List (List Bool)) (keys : List Key) (v : Key → Bool) (run : List Cycle) : Type 0 where
  pub covers : CodingCovers coding
  pub sound : IsSound q.design
  pub cycles : AreCyclesOf q run
  pub needed : AreNeeded (definitions coding q moved) (asked_clauses q) keys
  pub all : AllTrue v (formula_over (definitions coding q moved) (asked_clauses q) keys)
  pub free : IsFree (Needed coding q moved) v q.design run

-- each kept clause names registers of the design
abbrev pub NamesKept : Query → Type 0
NamesKept q = (i : InvClause) → In i q.kept → NamesRegs q.design i

-- what a model of the formula tells of a run with the same free bits
pub model_told : (coding : Coding) (q : Query) (moved : List (List Bool)) (keys : List Key) (v : Key → Bool) (run : List Cycle)
    → IsModelBeside coding q moved keys v run → Told (Needed coding q moved) v q.design run
model_told coding q moved keys v run m =
    let defs = definitions coding q moved in
    let forced = forces v defs (asked_clauses q) keys m.needed m.all in
    base_told coding (Needed coding q moved) v q.design q.live run m.covers m.sound m.cycles.linked m.cycles.resets m.free
    (λ t lt. forces_some (Needed coding q moved) v defs (base_definitions coding q.design q.live t)
    (base_in coding q moved t (omega (arith, m.cycles.count))) forced)

pub asked_true : (v : Key → Bool) (defs : List Definition) (q : Query) (keys : List Key) → AllTrue v (formula_over defs (asked_clauses q) keys)
    → AllTrue v (asked_clauses q)
asked_true v defs q keys all =
    all_true v (asked_clauses q) (λ c has. true_at v (formula_over defs (asked_clauses q) keys) c all
    (In-right c (flat_map (Rattle.query_model.specs.Formula.listed keys) defs) (asked_clauses q) has))

-- the query, where it is asked whether this clause fails
abbrev pub broken : Query → InvClause → Query
broken q clause =
    record { design = q.design; live = q.live; cycles = q.cycles; kept = q.kept; kept_below = q.kept_below; question = Breaks clause }

-- a model of an invariant's query
pub record ModelOfClause : Type 0 where
  pub coding : Coding
  pub base : Query
  pub clause : InvClause
  pub moved : List (List Bool)
  pub keys : List Key
  pub v : Key → Bool
  pub run : List Cycle
  pub model : IsModelBeside coding (broken base clause) moved keys v run
  pub name : NamesRegs base.design clause
  pub names : NamesKept base

-- gives an answer: the run or stretch with its free bits
pub clause_model_answers : (m : ModelOfClause) → IsAnswer (broken m.base m.clause) m.run
clause_model_answers m =
    let q = broken m.base m.clause in
    let d = q.design in
    let v = m.v in
    let defs = definitions m.coding q m.moved in
    let told = model_told m.coding q m.moved m.keys v m.run m.model in
    let asked = asked_true v defs q m.keys m.model.all in
    record {
      cycles = m.model.cycles;
      kept = λ t c i lt at has. kept_told q defs v m.run m.names told asked t c i lt at (In-from_Contains q.kept i has);
      asked = λ c at.
          let last = q.cycles - 1 in
          let opposites = map (λ l. opposite l ∷ []) (clause_in d m.clause last) in
          let false_here = none_true v (clause_in d m.clause last) (all_true v opposites
          (λ cl has. true_at v (asked_clauses q) cl asked (In-right cl (kept_clauses q) opposites has))) in
          sym (clause_same v d m.run last c m.clause (IsNeeded defs (asked_clauses q)) at m.name told
          (λ l i.
          Asked (bit_key d last l.reg) (mentioned (asked_clauses q) (opposite (state_lit d last l) ∷ []) (opposite (state_lit d last l))
          (In-right (opposite (state_lit d last l) ∷ []) (kept_clauses q) opposites
          (In-map (λ k. opposite k ∷ []) (state_lit d last l) (clause_in d m.clause last) (In-map (state_lit d last) l m.clause.lits i)))
          (inl refl))))
          ∙ false_here;
    }

-- an answer of an invariant's query
pub record AnswerOfClause : Type 0 where
  pub coding : Coding
  pub base : Query
  pub clause : InvClause
  pub moved : List (List Bool)
  pub keys : List Key
  pub run : List Cycle
  pub covers : CodingCovers coding
  pub sound : IsSound base.design
  pub name : NamesRegs base.design clause
  pub names : NamesKept base
  pub short : base.kept_below ≤ base.cycles
  pub answer : IsAnswer (broken base clause) run

-- gives a model: what the run says
pub clause_answer_models : (a : AnswerOfClause) → AllTrue (meaning a.base.design a.run (λ k. false))
    (formula_over (definitions a.coding (broken a.base a.clause) a.moved) (asked_clauses (broken a.base a.clause)) a.keys)
clause_answer_models a =
    let q = broken a.base a.clause in
    let d = q.design in
    let run = a.run in
    let defs = definitions a.coding q a.moved in
    let v = meaning d run (λ k. false) in
    let says = meaning_says d run (λ k. false) in
    let linked = a.answer.cycles.linked in
    let count = a.answer.cycles.count in
    formula_true v defs (asked_clauses q) a.keys
    (λ def has.
    let of = from_flat (cycle_definitions a.coding q a.moved) def (below q.cycles) has in
    let lt = below_less q.cycles of.0 of.1 in
    let here = get_within run of.0 (omega arith) in
    elim (In-cases def (base_definitions a.coding d q.live of.0) [] of.2) [
      | inl base ↦
          base_true a.coding v d q.live run of.0 here.0 a.covers a.sound linked (a.answer.cycles.resets of.0 here.0 here.1) here.1 says def base
      | inr none ↦ absurd none
    ])
    (all_true v (asked_clauses q)
    (λ cl has.
    elim (In-cases cl (kept_clauses q) (map (λ l. opposite l ∷ []) (clause_in d a.clause (q.cycles - 1))) has) [
      | inl in_kept ↦
          true_at v (kept_clauses q) cl (kept_said q v run a.names says (omega (arith, count, a.short))
          (λ t c i lt at there. a.answer.kept t c i lt at (Contains-from_In q.kept i there))) in_kept
      | inr asked ↦
          let last = q.cycles - 1 in
          let some = linked.some in
          let here = get_within run last (omega arith) in
          true_at v (map (λ l. opposite l ∷ []) (clause_in d a.clause last)) cl
          (true_none v (clause_in d a.clause last) (clause_said v d run last here.0 a.clause here.1 a.name says ∙ a.answer.asked here.0 here.1)) asked
    ]))
