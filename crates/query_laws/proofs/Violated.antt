-- Queries of claims: each model gives an answer, and each answer a model.
use Rattle.std.proofs.Common.{◌≡◌, ℕ, zero, suc, ◌+◌, ◌<◌, ◌≤◌, Bool, true, false, not, List, [], ◌∷◌, ◌++◌, map, length, Some, refl, ap, sym, ◌∙◌}
use Rattle.std.proofs.Common.{arith, inl, inr, ◌⊎◌, subst}
use Rattle.std.specs.Prelude.{slice_get, flat_map, ◌||◌, nat_eq}
use Rattle.std.proofs.lemmas.Bool.{cases_Bool, cases_eq, or_cases, or_from, or_left, or_right, or_parts, not-false, eq-eqb, ne_eqb, both_ways}
use Rattle.std.proofs.lemmas.Option.{slice_get_within}
use Rattle.net_model.specs.Netlist.{IsSound}
use Rattle.net_model.specs.Fits.{IsStartIn, IsEndIn}
use Rattle.net_model.specs.Cycles.{IsLinked}
use Rattle.net_model.specs.Judge.{judged_count}
use Rattle.net_model.specs.declared.netlist.Design.{Design}
use Rattle.net_model.specs.declared.cycles.Cycle.{Cycle}
use Rattle.net_model.specs.declared.claims.Claim.{Claim}
use Rattle.query_model.specs.Keys.{lit, opposite, lit_value, is_true, AllTrue, below}
use Rattle.net_model.specs.Queries.{Query, Question, Violates, IsAnswer}
use Rattle.query_model.specs.Defined.{Definition, numbered, base_definitions, layer_definitions, end_definition, differ_definition, extra_definitions}
use Rattle.query_model.specs.Defined.{claim_definitions, toggle_key, differ_key, bad_key}
use Rattle.query_model.specs.Formula.{alternatives, alternatives_at, clean_clauses, bad_clauses, kept_clauses, question_clauses, asked_clauses}
use Rattle.query_model.specs.Formula.{definitions, cycle_definitions, question_definitions, Asked, formula_over}
use Rattle.net_model.proofs.Members.{In, In-left, In-right, In-map, In-flat, In-cases, In-from_Contains, Contains-from_In, from_map, from_flat}
use Rattle.query_model.proofs.Members.{In-below, below_less, all_true, true_at}
use Rattle.query_model.proofs.Tabled.{value_opposite}
use Rattle.query_model.proofs.Runs.{Told, CodingCovers, Forces, AnyKey, unit_true, unit_says}
use Rattle.query_model.proofs.Based.{Says, base_true, get_within, in_place, placed, from_numbered, in_numbered}
use Rattle.query_model.proofs.Needs.{forces, forces_some, formula_true, mentioned}
use Rattle.query_laws.proofs.Meaning.{meaning_says}
use Rattle.query_laws.proofs.Clauses.{Needed, NamesKept, IsModelBeside, kept_told, kept_said, model_told, asked_true}
use Rattle.query_laws.proofs.Extras.{LitsTold, start_told, capture_told, ExtrasTold, extras_told, extras_true}
use Rattle.query_laws.proofs.Decided.{IsDecided, AllHold, KindOfAll, holds_violated, violated_holds}
use Rattle.query_laws.proofs.Story.{others, story, story_extras, story_bad, said_told}
use Rattle.query_model.specs.declared.keys.Key.{Key}
use Rattle.query_model.specs.declared.keys.KeyLit.{KeyLit}
use Rattle.query_model.specs.declared.keys.Coding.{Coding}

-- alternatives and the clauses that ask for them
pub pick_bad : (v : Key → Bool) (d : Design) (t i : ℕ) (alts : List (List KeyLit))
    → is_true v (numbered (λ a conditions. lit true (bad_key d t a)) i alts) ≡ true → (a : ℕ) × (alt : List KeyLit) × (slice_get alts a ≡ Some alt)
    × (v (bad_key d t (i + a)) ≡ true)
pick_bad v d t i [] e = absurd cc
pick_bad v d t i (alt ∷ alts) e =
    elim (or_cases (v (bad_key d t i)) (is_true v (numbered (λ a conditions. lit true (bad_key d t a)) (i + 1) alts)) e) [
      | inl here ↦ let sum : i ≡ i + 0 = omega arith in (0, alt, refl, subst (λ n. v (bad_key d t n) ≡ true) sum here)
      | inr later ↦
          let more = pick_bad v d t (i + 1) alts later in
          let sum : i + 1 + more.0 ≡ i + suc more.0 = omega arith in
          (suc more.0, more.1, more.2, subst (λ n. v (bad_key d t n) ≡ true) sum more.3)
    ]

-- the clause that a chosen alternative has a condition
abbrev pub condition_clause : Design → ℕ → ℕ → KeyLit → List KeyLit
condition_clause d t a condition = lit false (bad_key d t a) ∷ condition ∷ []

abbrev pub condition_clauses : Design → ℕ → ℕ → List KeyLit → List (List KeyLit)
condition_clauses d t a conditions = map (condition_clause d t a) conditions

pub condition_in : (d : Design) (claim : Claim) (t a : ℕ) (alt : List KeyLit) (l : KeyLit) → slice_get (alternatives d claim t) a ≡ Some alt
    → In l alt → In (condition_clause d t a l) (bad_clauses d claim t)
condition_in d claim t a alt l at has =
    inr (inr (In-flat (λ x. x) (condition_clause d t a l) (condition_clauses d t a alt) (numbered (condition_clauses d t) 0 (alternatives d claim t))
    (subst (λ i. In (condition_clauses d t i alt) (numbered (condition_clauses d t) 0 (alternatives d claim t))) (omega arith)
    (in_numbered (condition_clauses d t) 0 (alternatives d claim t) a alt at)) (In-map (condition_clause d t a) l alt has)))

condition_true : (v : Key → Bool) (k : Key) (l : KeyLit) → v k ≡ true → is_true v (lit false k ∷ l ∷ []) ≡ true → lit_value v l ≡ true
condition_true v k l e is =
    let first : not (v k) ≡ false = ap not e in
    let left : (lit_value v l || false) ≡ true = ap (λ (b : Bool). b || (lit_value v l || false)) (sym first) ∙ is in
    elim (or_cases (lit_value v l) false left) [ inl h ↦ h | inr f ↦ absurd (both_ways false refl f) ]

-- a clean clause fails where the start toggles and all conditions hold
clean_fails : (v : Key → Bool) (z : Key) (alt : List KeyLit) → v z ≡ true → AllHold v alt → is_true v (lit false z ∷ map opposite alt) ≡ false
clean_fails v z alt e hold = or_from (not (v z)) (is_true v (map opposite alt)) (ap not e) (none alt hold) where
  none : (ls : List KeyLit) → AllHold v ls → is_true v (map opposite ls) ≡ false
  none [] h = refl
  none (l ∷ ls) h = or_from (lit_value v (opposite l)) (is_true v (map opposite ls)) (value_opposite v l ∙ ap not (h l (inl refl)))
      (none ls (λ m i. h m (inr i)))

-- and where it fails all that is so
fails_holds : (v : Key → Bool) (ls : List KeyLit) → is_true v (map opposite ls) ≡ false → AllHold v ls
fails_holds v [] e l has = absurd has
fails_holds v (m ∷ ms) e l (inl here) =
    let parts = or_parts (lit_value v (opposite m)) (is_true v (map opposite ms)) e in
    subst (λ (x : KeyLit). lit_value v x ≡ true) here (not-false (lit_value v m) (sym (value_opposite v m) ∙ parts.0))
fails_holds v (m ∷ ms) e l (inr later) =
    let parts = or_parts (lit_value v (opposite m)) (is_true v (map opposite ms)) e in
    fails_holds v ms parts.1 l later

-- there is an alternative where a capture is judged
one_alternative : (kind : Key → Type 0) (d : Design) (claim : Claim) (run : List Cycle) (differs : ℕ → Bool) (t r : ℕ)
    → IsDecided kind d claim run differs → r < judged_count claim → (alt : List KeyLit) × In alt (alternatives d claim t)
one_alternative kind d claim run differs t r decided lt =
    let one = decided.some t r in
    (one.0, In-flat (alternatives_at d claim t) one.0 r (below (judged_count claim)) (In-below (judged_count claim) r lt) one.1)

-- the query, where it is asked whether the claim is violated at an offset, and at none of the first ones
abbrev pub violated : Query → Claim → ℕ → ℕ → Query
violated q claim offset clean =
    record {
      design = q.design;
      live = q.live;
      cycles = q.cycles;
      kept = q.kept;
      kept_below = q.kept_below;
      question = Violates claim offset clean;
    }

clean_in : (base : Query) (claim : Claim) (offset clean o : ℕ) (alt : List KeyLit) → o < clean
    → In alt (alternatives base.design claim (base.live + 1 + o))
    → In (lit false (toggle_key base.design (base.live + 1 + o)) ∷ map opposite alt) (asked_clauses (violated base claim offset clean))
clean_in base claim offset clean o alt lt has =
    let d = base.design in
    let live = base.live in
    let clause = lit false (toggle_key d (live + 1 + o)) ∷ map opposite alt in
    let q = violated base claim offset clean in
    In-right clause (kept_clauses q) (question_clauses q (Violates claim offset clean))
    (In-left clause (flat_map (λ i. clean_clauses d claim (live + 1 + i)) (below clean)) (bad_clauses d claim (live + 1 + offset))
    (In-flat (λ i. clean_clauses d claim (live + 1 + i)) clause o (below clean) (In-below clean o lt)
    (In-map (λ (conditions : List KeyLit). lit false (toggle_key d (live + 1 + o)) ∷ map opposite conditions) alt (alternatives d claim (live + 1 + o)) has)))

bad_in : (base : Query) (claim : Claim) (offset clean : ℕ) (clause : List KeyLit)
    → In clause (bad_clauses base.design claim (base.live + 1 + offset)) → In clause (asked_clauses (violated base claim offset clean))
bad_in base claim offset clean clause has =
    let q = violated base claim offset clean in
    In-right clause (kept_clauses q) (question_clauses q (Violates claim offset clean))
    (In-right clause (flat_map (λ i. clean_clauses base.design claim (base.live + 1 + i)) (below clean))
    (bad_clauses base.design claim (base.live + 1 + offset)) has)

pub claim_in : (coding : Coding) (q : Query) (moved : List (List Bool)) (claim : Claim) (offset clean t : ℕ)
    → q.question ≡ Violates claim offset clean → t < q.cycles → (def : Definition) → In def (claim_definitions coding q.design claim moved t)
    → In def (definitions coding q moved)
claim_in coding q moved claim offset clean t is lt def has =
    In-flat (cycle_definitions coding q moved) def t (below q.cycles) (In-below q.cycles t lt)
    (In-right def (base_definitions coding q.design q.live t) (question_definitions coding q.design moved q.question t)
    (subst (λ (w : Question). In def (question_definitions coding q.design moved w t)) (sym is) has))

-- the premises on a claim in a run
pub record IsAskedOf (d : Design) (claim : Claim) (run : List Cycle) : Type 0 where
  pub sound : IsSound d
  pub linked : IsLinked d run
  pub start_in : IsStartIn d claim.start
  pub end_in : IsEndIn d claim.end

-- the definitions of a claim's keys that are true tell in which cycles the late start matters
abbrev pub TellsDiffer : Coding → (Key → Type 0) → (Key → Bool) → Design → Claim → List (List Bool) → List Cycle → (ℕ → Bool) → Type 0
TellsDiffer coding kind v d claim moved run differs =
    Told kind v d run → ((t : ℕ) → t < length run → Forces kind v (claim_definitions coding d claim moved t)) → (t : ℕ) (c : Cycle)
    → slice_get run t ≡ Some c → kind (differ_key d t) → v (differ_key d t) ≡ differs t

-- a model of a claim's query, beside cycles with its free bits, in which it is known where the late start matters
pub record ModelOfClaim : Type 0 where
  pub coding : Coding
  pub base : Query
  pub claim : Claim
  pub offset : ℕ
  pub clean : ℕ
  pub moved : List (List Bool)
  pub keys : List Key
  pub v : Key → Bool
  pub run : List Cycle
  pub differs : ℕ → Bool
  pub model : IsModelBeside coding (violated base claim offset clean) moved keys v run
  pub names : NamesKept base
  pub is : IsAskedOf base.design claim run
  pub decided : IsDecided (Needed coding (violated base claim offset clean) moved) base.design claim run differs
  pub tells : TellsDiffer coding (Needed coding (violated base claim offset clean) moved) v base.design claim moved run differs
  pub fits : base.live + 1 + offset + judged_count claim ≤ base.cycles
  pub less : clean ≤ offset

-- the query that it is a model of
abbrev pub query_of : ModelOfClaim → Query
query_of m = violated m.base m.claim m.offset m.clean

-- the keys that it needs
abbrev pub needed_of : ModelOfClaim → Key → Type 0
needed_of m = Needed m.coding (query_of m) m.moved

-- it tells the further keys
extras_of_model : (m : ModelOfClaim) → ExtrasTold (needed_of m) m.v m.base.design m.claim m.run m.differs
extras_of_model m =
    let d = m.base.design in
    let claim = m.claim in
    let moved = m.moved in
    let kind = needed_of m in
    let defs = definitions m.coding (query_of m) moved in
    let told = model_told m.coding (query_of m) moved m.keys m.v m.run m.model in
    let forced = forces m.v defs (asked_clauses (query_of m)) m.keys m.model.needed m.model.all in
    let part : (t : ℕ) → t < length m.run → Forces kind m.v (claim_definitions m.coding d claim moved t) =
    λ t lt. forces_some kind m.v defs (claim_definitions m.coding d claim moved t)
    (claim_in m.coding (query_of m) moved claim m.offset m.clean t refl (omega (arith, m.model.cycles.count))) forced in
    let layer_list : ℕ → List Definition = λ t. flat_map (layer_definitions m.coding d claim moved t) (below (length claim.through + 1)) in
    let others_forced : (t : ℕ) → t < length m.run → Forces kind m.v (extra_definitions d claim moved t) =
    λ t lt.
    forces_some kind m.v (claim_definitions m.coding d claim moved t) (extra_definitions d claim moved t)
    (λ def has. In-right def (layer_list t) (end_definition m.coding d claim moved t claim.end ++ extra_definitions d claim moved t)
    (In-right def (end_definition m.coding d claim moved t claim.end) (extra_definitions d claim moved t) has))
    (part t lt) in
    let lits : LitsTold kind m.v d claim m.run =
    record {
      starts = start_told kind m.v d m.run claim.start m.is.sound m.is.start_in m.is.linked told;
      captures = capture_told kind m.v d m.run claim.end m.is.sound m.is.end_in m.is.linked told;
    } in
    extras_told kind m.v d claim moved m.run m.differs lits (m.tells told part) others_forced

-- and gives an answer
pub claim_model_answers : (m : ModelOfClaim) → IsAnswer (query_of m) m.run
claim_model_answers m =
    let d = m.base.design in
    let live = m.base.live in
    let claim = m.claim in
    let v = m.v in
    let run = m.run in
    let asked = asked_clauses (query_of m) in
    let defs = definitions m.coding (query_of m) m.moved in
    let kind = needed_of m in
    let told = model_told m.coding (query_of m) m.moved m.keys v run m.model in
    let extras = extras_of_model m in
    let true_asked = asked_true v defs (query_of m) m.keys m.model.all in
    let t = live + 1 + m.offset in
    let fits = m.fits in
    let count = m.model.cycles.count in
    let less = m.less in
    record {
      cycles = m.model.cycles;
      kept = λ i c clause lt at has.
          kept_told (query_of m) defs v run m.names told true_asked i c clause lt at (In-from_Contains m.base.kept clause has);
      asked = (
        λ o lt bad.
            let u = live + 1 + o in
            let one = one_alternative kind d claim run m.differs u bad.r m.decided bad.judged in
            let toggle_kind : kind (toggle_key d u) =
            let there = clean_in m.base claim m.offset m.clean o one.0 lt one.1 in
            Asked (toggle_key d u) (mentioned asked (lit false (toggle_key d u) ∷ map opposite one.0) (lit false (toggle_key d u)) there (inl refl)) in
            let kinds : KindOfAll kind (alternatives d claim u) =
            λ alt l in_alt in_l.
            let there = clean_in m.base claim m.offset m.clean o alt lt in_alt in
            Asked l.key (mentioned asked (lit false (toggle_key d u) ∷ map opposite alt) (opposite l) there (inr (In-map opposite l alt in_l))) in
            let both = violated_holds kind d claim run m.differs live u m.decided toggle_kind kinds bad in
            let there = clean_in m.base claim m.offset m.clean o both.1.0 lt both.1.1 in
            both_ways (is_true v (lit false (toggle_key d u) ∷ map opposite both.1.0))
            (clean_fails v (toggle_key d u) both.1.0 (both.0 v extras) (both.1.2 v extras))
            (true_at v asked (lit false (toggle_key d u) ∷ map opposite both.1.0) true_asked there),
        (let inside = bad_in m.base claim m.offset m.clean in
            let toggle_kind : kind (toggle_key d t) =
            Asked (toggle_key d t) (mentioned asked (lit true (toggle_key d t) ∷ []) (lit true (toggle_key d t))
            (inside (lit true (toggle_key d t) ∷ []) (inl refl)) (inl refl)) in
            let kinds : KindOfAll kind (alternatives d claim t) =
            λ alt l in_alt in_l.
            let place = placed alt (alternatives d claim t) in_alt in
            let there = inside (condition_clause d t place.0 l) (condition_in d claim t place.0 alt l place.1 in_l) in
            Asked l.key (mentioned asked (condition_clause d t place.0 l) l there (inr (inl refl))) in
            let toggle = unit_says v true (toggle_key d t) (
              true_at v asked (lit true (toggle_key d t) ∷ []) true_asked
                  (inside (lit true (toggle_key d t) ∷ []) (inl refl)),
              tt,
            ) in
            let chosen_clause = numbered (λ a conditions. lit true (bad_key d t a)) 0 (alternatives d claim t) in
            let chosen = pick_bad v d t 0 (alternatives d claim t) (true_at v asked chosen_clause true_asked (inside chosen_clause (inr (inl refl)))) in
            let bad : v (bad_key d t chosen.0) ≡ true = subst (λ n. v (bad_key d t n) ≡ true) (omega arith) chosen.3 in
            let hold : AllHold v chosen.1 =
            λ l has. condition_true v (bad_key d t chosen.0) l bad (true_at v asked (condition_clause d t chosen.0 l) true_asked
            (inside (condition_clause d t chosen.0 l) (condition_in d claim t chosen.0 chosen.1 l chosen.2 has))) in
            holds_violated kind v d claim run m.differs live t chosen.1 m.decided extras (omega arith) (omega arith) toggle_kind kinds toggle
            (in_place chosen.1 (alternatives d claim t) chosen.0 chosen.2) hold),
      );
    }

-- keys that say the layers of a run make their definitions true, whatever alternative is chosen
pub record SaysLate (coding : Coding) (d : Design) (claim : Claim) (moved : List (List Bool)) (run : List Cycle) (layer : Key → ℕ → Bool)
    (differs : ℕ → Bool) : Type 0 where
  pub layers : (bad : ℕ → Bool) (t : ℕ) (c : Cycle) → slice_get run t ≡ Some c → (l : ℕ) → l ≤ length claim.through → (def : Definition)
      → In def (layer_definitions coding d claim moved t l) → AllTrue (story d claim run layer differs bad) def.clauses
  pub ends : (bad : ℕ → Bool) (t : ℕ) (c : Cycle) → slice_get run t ≡ Some c → (def : Definition)
      → In def (end_definition coding d claim moved t claim.end) → AllTrue (story d claim run layer differs bad) def.clauses
  pub differ : (bad : ℕ → Bool) (t : ℕ) (c : Cycle) → slice_get run t ≡ Some c → AllTrue (story d claim run layer differs bad)
      (differ_definition d claim moved t).clauses

any_place : (f : ℕ → Bool) (d : Design) (v : Key → Bool) (t i : ℕ) (alts : List (List KeyLit)) (a : ℕ) → a < length alts
    → v (bad_key d t (i + a)) ≡ true → is_true v (numbered (λ n conditions. lit true (bad_key d t n)) i alts) ≡ true
any_place f d v t i [] a lt e = absurd (omega arith)
any_place f d v t i (x ∷ xs) zero lt e =
    let sum : i + 0 ≡ i = omega arith in
    or_left (v (bad_key d t i)) (is_true v (numbered (λ n conditions. lit true (bad_key d t n)) (i + 1) xs)) (subst (λ n. v (bad_key d t n) ≡ true) sum e)
any_place f d v t i (x ∷ xs) (suc a) lt e =
    let sum : i + suc a ≡ i + 1 + a = omega arith in
    or_right (v (bad_key d t i)) (is_true v (numbered (λ n conditions. lit true (bad_key d t n)) (i + 1) xs))
    (any_place f d v t (i + 1) xs a (omega arith) (subst (λ n. v (bad_key d t n) ≡ true) sum e))

two_true : (v : Key → Bool) (k : Key) (l : KeyLit) → (v k ≡ false) ⊎ (lit_value v l ≡ true) → is_true v (lit false k ∷ l ∷ []) ≡ true
two_true v k l (inl e) = or_left (not (v k)) (lit_value v l || false) (ap not e)
two_true v k l (inr e) = or_right (not (v k)) (lit_value v l || false) (or_left (lit_value v l) false e)

-- the last clauses, where one alternative is chosen whose conditions hold
bad_true : (v : Key → Bool) (d : Design) (claim : Claim) (t chosen : ℕ) (alt cl : List KeyLit) → ((a : ℕ) → v (bad_key d t a) ≡ nat_eq a chosen)
    → v (toggle_key d t) ≡ true → slice_get (alternatives d claim t) chosen ≡ Some alt → AllHold v alt → In cl (bad_clauses d claim t)
    → is_true v cl ≡ true
bad_true v d claim t chosen alt cl bads toggle at hold (inl same) =
    subst (λ (x : List KeyLit). is_true v x ≡ true) same (unit_true v true (toggle_key d t) toggle).0
bad_true v d claim t chosen alt cl bads toggle at hold (inr (inl same)) =
    let here : v (bad_key d t (0 + chosen)) ≡ true = subst (λ n. v (bad_key d t n) ≡ true) (omega arith) (bads chosen ∙ eq-eqb chosen chosen refl) in
    subst (λ (x : List KeyLit). is_true v x ≡ true) same
    (any_place (λ n. true) d v t 0 (alternatives d claim t) chosen (slice_get_within (alternatives d claim t) chosen alt at) here)
bad_true v d claim t chosen alt cl bads toggle at hold (inr (inr later)) =
    let list = from_flat (λ x. x) cl (numbered (condition_clauses d t) 0 (alternatives d claim t)) later in
    let of = from_numbered (condition_clauses d t) list.0 0 (alternatives d claim t) list.1 in
    let a = of.0 in
    let sum : 0 + a ≡ a = omega arith in
    let there : In cl (condition_clauses d t a of.1) = subst (λ n. In cl (condition_clauses d t n of.1)) sum (subst (In cl) (sym of.3) list.2) in
    let from = from_map (condition_clause d t a) cl of.1 there in
    subst (λ (x : List KeyLit). is_true v x ≡ true) from.2
    (two_true v (bad_key d t a) from.0
    (elim (cases_eq a chosen) [
      | inl same ↦
          let other : slice_get (alternatives d claim t) chosen ≡ Some of.1 = subst (λ n. slice_get (alternatives d claim t) n ≡ Some of.1) same of.2 in
          let one : alt ≡ of.1 = cc in
          inr (hold from.0 (subst (In from.0) (sym one) from.1))
      | inr apart ↦ inl (bads a ∙ ne_eqb a chosen apart)
    ]))

-- an answer of a claim's query, and keys that say its layers
pub record AnswerOfClaim : Type 0 where
  pub coding : Coding
  pub base : Query
  pub claim : Claim
  pub offset : ℕ
  pub clean : ℕ
  pub moved : List (List Bool)
  pub keys : List Key
  pub run : List Cycle
  pub layer : Key → ℕ → Bool
  pub differs : ℕ → Bool
  pub covers : CodingCovers coding
  pub names : NamesKept base
  pub is : IsAskedOf base.design claim run
  pub decided : IsDecided AnyKey base.design claim run differs
  pub late : SaysLate coding base.design claim moved run layer differs
  pub few : judged_count claim ≤ 15
  pub short : base.kept_below ≤ base.cycles
  pub fits : base.live + 1 + offset + judged_count claim ≤ base.cycles
  pub less : clean ≤ offset
  pub answer : IsAnswer (violated base claim offset clean) run

-- values of the keys with which a query's formula is true, and that say what the run has
abbrev pub SayingModel : Coding → Query → List (List Bool) → List Key → List Cycle → Type 0
SayingModel coding q moved keys run =
    (v : Key → Bool) × AllTrue v (formula_over (definitions coding q moved) (asked_clauses q) keys) × Says v q.design run

-- gives a model
pub claim_answer_models : (a : AnswerOfClaim) → SayingModel a.coding (violated a.base a.claim a.offset a.clean) a.moved a.keys a.run
claim_answer_models a =
    let coding = a.coding in
    let q = violated a.base a.claim a.offset a.clean in
    let d = a.base.design in
    let live = a.base.live in
    let cycles = a.base.cycles in
    let kept = a.base.kept in
    let claim = a.claim in
    let clean = a.clean in
    let moved = a.moved in
    let keys = a.keys in
    let run = a.run in
    let layer = a.layer in
    let differs = a.differs in
    let covers = a.covers in
    let names = a.names in
    let is = a.is in
    let decided = a.decided in
    let late = a.late in
    let few = a.few in
    let short = a.short in
    let fits = a.fits in
    let less = a.less in
    let answer = a.answer in
    let count = answer.cycles.count in
    let t = live + 1 + a.offset in
    let found = violated_holds AnyKey d claim run differs live t decided tt (λ alt l i j. tt) answer.asked.1 in
    let alt = found.1.0 in
    let place = placed alt (alternatives d claim t) found.1.1 in
    let bad : ℕ → Bool = λ n. nat_eq n place.0 in
    let v = story d claim run layer differs bad in
    let extras = story_extras d claim run layer differs bad few in
    let says = meaning_says d run (others d claim run layer differs bad) in
    let told = said_told v d run is.linked says in
    let lits : LitsTold AnyKey v d claim run =
    record {
      starts = start_told AnyKey v d run claim.start is.sound is.start_in is.linked told;
      captures = capture_told AnyKey v d run claim.end is.sound is.end_in is.linked told;
    } in (
      v,
      formula_true v (definitions coding q moved) (asked_clauses q) keys
          (λ def has.
          let of = from_flat (cycle_definitions coding q moved) def (below cycles) has in
          let i = of.0 in
          let lt = below_less cycles i of.1 in
          let here = get_within run i (omega arith) in
          let c = here.0 in
          let lists = flat_map (layer_definitions coding d claim moved i) (below (length claim.through + 1)) in
          elim (In-cases def (base_definitions coding d live i) (claim_definitions coding d claim moved i) of.2) [
            | inl base ↦ base_true coding v d live run i c covers is.sound is.linked (answer.cycles.resets i c here.1) here.1 says def base
            | inr more ↦
                elim (In-cases def lists (end_definition coding d claim moved i claim.end ++ extra_definitions d claim moved i) more) [
                  | inl layer ↦
                      let l = from_flat (layer_definitions coding d claim moved i) def (below (length claim.through + 1)) layer in
                      let small = below_less (length claim.through + 1) l.0 l.1 in
                      late.layers bad i c here.1 l.0 (omega arith) def l.2
                  | inr last ↦
                      elim (In-cases def (end_definition coding d claim moved i claim.end) (extra_definitions d claim moved i) last) [
                        | inl ends ↦ late.ends bad i c here.1 def ends
                        | inr extra_def ↦ extras_true v d claim moved run differs lits extras i (omega arith) (late.differ bad i c here.1) def extra_def
                      ]
                ]
          ])
          (all_true v (asked_clauses q)
          (λ cl has.
          let cleans = flat_map (λ o. clean_clauses d claim (live + 1 + o)) (below clean) in
          elim (In-cases cl (kept_clauses q) (cleans ++ bad_clauses d claim t) has) [
            | inl in_kept ↦
                true_at v (kept_clauses q) cl (kept_said q v run names says (omega arith)
                (λ i c clause lt at there. answer.kept i c clause lt at (Contains-from_In kept clause there))) in_kept
            | inr question ↦
                elim (In-cases cl cleans (bad_clauses d claim t) question) [
                  | inl in_clean ↦
                      let of = from_flat (λ o. clean_clauses d claim (live + 1 + o)) cl (below clean) in_clean in
                      let o = of.0 in
                      let u = live + 1 + o in
                      let lt = below_less clean o of.1 in
                      let from = from_map (λ (conditions : List KeyLit). lit false (toggle_key d u) ∷ map opposite conditions) cl
                      (alternatives d claim u) of.2 in
                      let clause = lit false (toggle_key d u) ∷ map opposite from.0 in
                      subst (λ (x : List KeyLit). is_true v x ≡ true) from.2
                      (elim (cases_Bool (is_true v clause)) [
                        | inl yes_true ↦ yes_true
                        | inr fails ↦
                            let parts = or_parts (not (v (toggle_key d u))) (is_true v (map opposite from.0)) fails in
                            absurd (answer.asked.0 o lt
                            (holds_violated AnyKey v d claim run differs live u from.0 decided extras (omega arith) (omega arith) tt (λ x l i j. tt)
                            (not-false (v (toggle_key d u)) parts.0) from.1 (fails_holds v from.0 parts.1)))
                      ])
                  | inr in_bad ↦
                      bad_true v d claim t place.0 alt cl (story_bad d claim run layer differs bad t) (found.0 v extras) place.1 (found.1.2 v extras) in_bad
                ]
          ])),
      says,
    )
