-- The laws of queries, from those of each mode.
use Rattle.std.proofs.Common.{◌≡◌, ℕ, ◌+◌, ◌<◌, ◌≤◌, Bool, true, false, not, List, [], ◌∷◌, map, length, Option, Some, None, refl, ap, sym, ◌∙◌}
use Rattle.std.proofs.Common.{arith, inl, inr, subst}
use Rattle.std.specs.Prelude.{slice_get, slice_index}
use Rattle.std.proofs.lemmas.Bool.{cases_Bool}
use Rattle.std.proofs.lemmas.Option.{slice_get_within}
use Rattle.net_model.specs.Form.{value}
use Rattle.net_model.specs.FormLaws.{value_agrees}
use Rattle.net_model.specs.Netlist.{IsSound}
use Rattle.net_model.specs.Fits.{Fits, IsKindFit, IsLagFit, NamesRegs as Names}
use Rattle.net_model.specs.Cycles.{bit_at, shown, IsSettled, IsLinked}
use Rattle.net_model.specs.Judge.{judged_by, start_bit}
use Rattle.net_model.specs.Layers.{AreLayers}
use Rattle.net_model.specs.Pins.{late_value}
use Rattle.net_model.specs.Ternary.{tern_of}
use Rattle.net_model.specs.Splitting.{tern_value}
use Rattle.net_model.specs.Completions.{tern_agrees}
use Rattle.net_model.proofs.Settling.{All-at}
use Rattle.net_model.proofs.LayersExist.{layers_exist}
use Rattle.net_model.proofs.TernaryOnce.{unknown_layers}
use Rattle.net_model.proofs.Members.{In, Contains-from_In}
use Rattle.net_model.specs.declared.netlist.Design.{Design}
use Rattle.net_model.specs.declared.cycles.Cycle.{Cycle}
use Rattle.net_model.specs.declared.invariants.StateLit.{StateLit}
use Rattle.net_model.specs.declared.invariants.InvClause.{InvClause}
use Rattle.net_model.specs.declared.claims.Claim.{Claim}
use Rattle.sdcv_base.specs.declared.kinds.Kind.{Kind}
use Rattle.sdcv_base.specs.declared.kinds.Kind.TheVariants.{False, Multi}
use Rattle.net_model.specs.declared.queries.Phase.{Phase}
use Rattle.net_model.specs.declared.queries.Phase.TheVariants.{Base, Step}
use Rattle.net_model.specs.declared.terns.Tern.{Tern}
use Rattle.net_model.specs.declared.terns.Tern.TheVariants.{Zero, Unknown}
use Rattle.query_model.specs.Keys.{key, lit, AllTrue}
use Rattle.query_model.specs.Reads.{bit_key, read_base, AreMoved}
use Rattle.net_model.specs.Queries.{Query, only_in_step, claim_query, clause_query, AreCyclesOf, IsAnswer}
use Rattle.query_model.specs.Formula.{definitions, asked_clauses, AreNeeded, IsFormulaOf}
use Rattle.query_model.specs.Laws.{HasFreeBits, AgreesWith, ModelsAnswer, AnswersHaveModels}
use Rattle.query_model.proofs.Runs.{AnyKey, rows_coding, Told, now_bits, next_bits}
use Rattle.query_model.proofs.Told.{LitTells}
use Rattle.query_laws.proofs.NetKeys.{needed_own}
use Rattle.query_model.proofs.Based.{IsFree, Says, get_within, placed}
use Rattle.query_laws.proofs.Clauses.{NamesRegs, Needed, IsModelBeside, model_told, clause_model_answers, clause_answer_models}
use Rattle.query_model.proofs.Codings.{primes_coding, rows_settle, primes_settle}
use Rattle.query_laws.proofs.Meaning.{meaning, meaning_says}
use Rattle.query_laws.proofs.HazyGates.{IsCoding}
use Rattle.query_laws.proofs.EarlyClaims.{plain_decides, hazy_decides}
use Rattle.query_laws.proofs.Violated.{IsAskedOf, TellsDiffer, SaysLate, SayingModel, claim_model_answers, claim_answer_models}
use Rattle.query_laws.proofs.Decided.{IsDecided}
use Rattle.query_laws.proofs.PlainClaims.{AreFlipped, differs_late_at, late_at, are_judged, plain_tells, plain_says, flipped_layer}
use Rattle.query_laws.proofs.HazyClaims.{AreHazy, unknown_at, are_hazy_judged, hazy_tells, hazy_says, hazy_layer}
use Rattle.query_model.specs.declared.keys.Key.{Key}
use Rattle.query_model.specs.declared.keys.KeyLit.{KeyLit}
use Rattle.query_model.specs.declared.keys.Coding.{Coding}
use Rattle.query_model.specs.declared.keys.Coding.TheVariants.{Rows, Primes}

-- both codings cover and settle
pub coded : (coding : Coding) → IsCoding coding
coded Rows = record { covers = rows_coding; settles = λ cell places few only. rows_settle cell places few only }
coded Primes = record { covers = primes_coding; settles = λ cell places few only. primes_settle cell places few only }

names_all : (d : Design) (inv : List InvClause) → ((clause : InvClause) → Rattle.std.specs.Prelude.Contains inv clause → Names d clause)
    → (i : InvClause) → In i inv → NamesRegs d i
names_all d inv names i has l in_l =
    let place = placed l i.lits in_l in
    All-at (λ (s : StateLit). s.reg < length d.regs) i.lits place.0 l place.1 (names i (Contains-from_In inv i has))

few_judged : (k : Kind) (lag : ℕ) → IsKindFit k → IsLagFit k lag → judged_by k lag ≤ 15
few_judged False lag fit low = omega arith
few_judged (Multi k) lag fit low = omega (arith, fit.0, fit.1)

short : (phase : Phase) (n : ℕ) → only_in_step phase n ≤ n
short Base n = omega arith
short Step n = omega arith

-- the free bits tell what is free
pub is_free : (coding : Coding) (q : Query) (moved : List (List Bool)) (keys : List Key) (v : Key → Bool) (run : List Cycle)
    → AreNeeded (definitions coding q moved) (asked_clauses q) keys → AreCyclesOf q run → HasFreeBits q.design keys v run
    → IsFree (Needed coding q moved) v q.design run
is_free coding q moved keys v run needed are free =
    let first = get_within run 0 are.linked.some in
    record {
      bits = λ r lt has. free.bits first.0 r first.1 lt (needed.all (bit_key q.design 0 r) has) ∙ sym (now_bits q.design run 0 first.0 r first.1);
      inputs = λ t c i at lt fixed reset has.
          free.inputs t c i at lt fixed reset (needed.all (key t 0 0 (slice_index q.design.inputs i)) has)
          ∙ sym ((All-at (IsSettled q.design) run t c at are.linked.settled).inputs i lt);
    }

-- a model of a query's formula, beside cycles with its free bits
pub beside : (coding : Coding) (q : Query) (keys : List Key) (clauses : List (List KeyLit)) (v : Key → Bool) (run : List Cycle)
    (formula : IsFormulaOf coding q keys clauses) → IsSound q.design → AllTrue v clauses → AreCyclesOf q run → HasFreeBits q.design keys v run
    → IsModelBeside coding q formula.moved keys v run
beside coding q keys clauses v run formula sound all are free =
    record {
      covers = (coded coding).covers;
      sound = sound;
      cycles = are;
      needed = formula.are_needed;
      all = subst (AllTrue v) formula.are_clauses all;
      free = is_free coding q formula.moved keys v run formula.are_needed are free;
    }

-- what the keys of a model tell of a run, it agrees with
agrees : (coding : Coding) (q : Query) (moved : List (List Bool)) (keys : List Key) (v : Key → Bool) (run : List Cycle) → IsSound q.design
    → IsLinked q.design run → AreNeeded (definitions coding q moved) (asked_clauses q) keys
    → Told (Needed coding q moved) v q.design run → AgreesWith q.design keys v run
agrees coding q moved keys v run sound linked needed told =
    record {
      nets = λ t c n at low has.
          let k = key t 0 0 n in
          let is = needed.needed k has in
          let read : read_base q.design t n ≡ lit true k = needed_own coding q moved k sound is refl low in
          let tells : LitTells (Needed coding q moved) v (lit true k) (bit_at c.nets n) =
          subst (λ (l : KeyLit). LitTells (Needed coding q moved) v l (bit_at c.nets n)) read (told.nets t c at n low) in
          tells is;
      bits = λ t c r at lt has.
          let within = slice_get_within run t c at in
          told.bits t (omega arith) r lt (needed.needed (bit_key q.design t r) has) ∙ now_bits q.design run t c r at;
      captures = λ t c r at lt has.
          let within = slice_get_within run t c at in
          told.bits (t + 1) (omega arith) r lt (needed.needed (bit_key q.design (t + 1) r) has) ∙ next_bits q.design run t c r linked at lt;
    }

-- values of keys that say what a run has agree with it
says_agrees : (d : Design) (keys : List Key) (v : Key → Bool) (run : List Cycle) → IsLinked d run → Says v d run → AgreesWith d keys v run
says_agrees d keys v run linked says =
    record {
      nets = λ t c n at low has. says.nets t c at n low;
      bits = λ t c r at lt has.
          let within = slice_get_within run t c at in
          says.bits t (omega arith) r lt ∙ now_bits d run t c r at;
      captures = λ t c r at lt has.
          let within = slice_get_within run t c at in
          says.bits (t + 1) (omega arith) r lt ∙ next_bits d run t c r linked at lt;
    }

-- a choice for each cycle of a run
abbrev At : {X : Type 0} → (Cycle → X → Type 0) → List Cycle → (ℕ → X) → Type 0
At P run f = (t : ℕ) (c : Cycle) → slice_get run t ≡ Some c → P c (f t)

chosen : {X : Type 0} (P : Cycle → X → Type 0) (blank : X) (o : Option Cycle) → ((c : Cycle) → o ≡ Some c → (x : X) × P c x) → (x : X)
    × ((c : Cycle) → o ≡ Some c → P c x)
chosen P blank None each = (blank, λ c e. absurd (none_some e))
  where
    none_some : {c : Cycle} → None ≡ Some c → ⊥
    none_some e = cc
chosen P blank (Some c) each =
    let made = each c refl in
    (made.0, λ other e. subst (λ (x : Cycle). P x made.0) (same e) made.1)
  where
    same : {other : Cycle} → Some c ≡ Some other → c ≡ other
    same e = cc

choose : {X : Type 0} (P : Cycle → X → Type 0) (blank : X) (run : List Cycle) → ((t : ℕ) (c : Cycle) → slice_get run t ≡ Some c → (x : X) × P c x)
    → (f : ℕ → X) × At P run f
choose P blank run each = (
  λ t. (chosen P blank (slice_get run t) (each t)).0,
  λ t c at. (chosen P blank (slice_get run t) (each t)).1 c at,
)

same_map : (xs : List Bool) → map (λ (b : Bool). b) xs ≡ xs
same_map [] = refl
same_map (x ∷ xs) = ap (λ ys. x ∷ ys) (same_map xs)

-- each cycle of linked cycles has layers in which the start shows the other bit
flipped_rows : (d : Design) (claim : Claim) (run : List Cycle) → IsSound d → Fits d claim → IsLinked d run → (rows : ℕ → List (List Bool))
    × At (λ c rows. AreLayers value false d claim.start claim.through (λ o. shown o (not (start_bit claim.start c))) c.nets rows) run rows
flipped_rows d claim run sound fits linked =
    choose (λ c rows. AreLayers value false d claim.start claim.through (λ o. shown o (not (start_bit claim.start c))) c.nets rows) [] run
    (λ t c at.
    let settled = All-at (IsSettled d) run t c at linked.settled in
    let stale = not (start_bit claim.start c) in
    let made = layers_exist value value_agrees (λ (b : Bool). b) stale (not stale) d claim.start claim.through c.nets sound fits.start settled.shape.nets in
    (made.0, subst (λ xs. AreLayers value false d claim.start claim.through (late_value stale (not stale)) xs made.0) (same_map c.nets) made.1))

-- and layers in which it is unknown
hazy_rows : (d : Design) (claim : Claim) (run : List Cycle) → IsSound d → Fits d claim → IsLinked d run → (rows : ℕ → List (List Tern))
    × At (λ c rows. AreLayers tern_value Zero d claim.start claim.through (λ _. Unknown) (map tern_of c.nets) rows) run rows
hazy_rows d claim run sound fits linked =
    choose (λ c rows. AreLayers tern_value Zero d claim.start claim.through (λ _. Unknown) (map tern_of c.nets) rows) [] run
    (λ t c at.
    let settled = All-at (IsSettled d) run t c at linked.settled in
    let made = layers_exist tern_value tern_agrees tern_of Unknown Unknown d claim.start claim.through c.nets sound fits.start settled.shape.nets in
    (made.0, unknown_layers d claim.start claim.through c.nets made.0 (length claim.through) made.1))

are_flipped : (d : Design) (claim : Claim) (moved : List (List Bool)) (run : List Cycle) (sound : IsSound d) (fits : Fits d claim)
    (linked : IsLinked d run) → AreMoved d claim moved → claim.hazard ≡ false → AreFlipped d claim moved run
    (flipped_rows d claim run sound fits linked).0
are_flipped d claim moved run sound fits linked are plain t c at =
    record {
      sound = sound;
      settled = All-at (IsSettled d) run t c at linked.settled;
      plain = plain;
      start_in = fits.start;
      end_in = fits.end_;
      are_moved = are;
      layers = (flipped_rows d claim run sound fits linked).1 t c at;
    }

are_hazy : (d : Design) (claim : Claim) (moved : List (List Bool)) (run : List Cycle) (sound : IsSound d) (fits : Fits d claim)
    (linked : IsLinked d run) → AreMoved d claim moved → claim.hazard ≡ true → AreHazy d claim moved run (hazy_rows d claim run sound fits linked).0
are_hazy d claim moved run sound fits linked are hazard t c at =
    record {
      sound = sound;
      settled = All-at (IsSettled d) run t c at linked.settled;
      hazard = hazard;
      start_in = fits.start;
      end_in = fits.end_;
      are_moved = are;
      layers = (hazy_rows d claim run sound fits linked).1 t c at;
    }

pub asked_of : (d : Design) (claim : Claim) (run : List Cycle) → IsSound d → Fits d claim → IsLinked d run → IsAskedOf d claim run
asked_of d claim run sound fits linked = record { sound = sound; linked = linked; start_in = fits.start; end_in = fits.end_ }

-- each model of a claim's query is an answer
pub claim_models : (coding : Coding) (d : Design) (claim : Claim) (phase : Phase) (depth : ℕ) (inv : List InvClause) → IsSound d → Fits d claim
    → ((clause : InvClause) → Rattle.std.specs.Prelude.Contains inv clause → Names d clause)
    → ModelsAnswer coding (claim_query d claim phase depth inv)
claim_models coding d claim phase depth inv sound fits names keys clauses v run formula all are free =
    (answer, agrees coding q formula.moved keys v run sound are.linked formula.are_needed (model_told coding q formula.moved keys v run model))
  where
    q : Query
    q = claim_query d claim phase depth inv

    model : IsModelBeside coding q formula.moved keys v run
    model = beside coding q keys clauses v run formula sound all are free

    kind : Key → Type 0
    kind = Needed coding q formula.moved

    asked : IsAskedOf d claim run
    asked = asked_of d claim run sound fits are.linked

    told_where : (differs : ℕ → Bool) → IsDecided kind d claim run differs → TellsDiffer coding kind v d claim formula.moved run differs → IsAnswer q run
    told_where differs decided tells =
        claim_model_answers (record {
          coding = coding;
          base = q;
          claim = claim;
          offset = depth;
          clean = only_in_step phase depth;
          moved = formula.moved;
          keys = keys;
          v = v;
          run = run;
          differs = differs;
          model = model;
          names = names_all d inv names;
          is = asked;
          decided = decided;
          tells = tells;
          fits = omega arith;
          less = short phase depth;
        })

    answer : IsAnswer q run
    answer =
        elim (cases_Bool claim.hazard) [
          | inl hazard ↦
              let made = hazy_rows d claim run sound fits are.linked in
              let hazy = are_hazy d claim formula.moved run sound fits are.linked formula.are_moved hazard in
              told_where (unknown_at d claim run made.0)
              (hazy_decides kind d claim run (unknown_at d claim run made.0) fits.side
              (are_hazy_judged d claim formula.moved run made.0 hazard asked hazy))
              (hazy_tells coding kind v d claim formula.moved run made.0 (coded coding) hazard asked hazy)
          | inr plain ↦
              let made = flipped_rows d claim run sound fits are.linked in
              let flips = are_flipped d claim formula.moved run sound fits are.linked formula.are_moved plain in
              told_where (differs_late_at d claim run made.0)
              (plain_decides kind d claim run (late_at d claim run made.0) (differs_late_at d claim run made.0) fits.side
              (are_judged d claim formula.moved run made.0 plain asked flips))
              (plain_tells coding kind v d claim formula.moved run made.0 (coded coding).covers plain asked flips)
        ]

-- each answer to a claim's query gives a model
pub claim_answers : (coding : Coding) (d : Design) (claim : Claim) (phase : Phase) (depth : ℕ) (inv : List InvClause) → IsSound d → Fits d claim
    → ((clause : InvClause) → Rattle.std.specs.Prelude.Contains inv clause → Names d clause) → AnswersHaveModels coding
    (claim_query d claim phase depth inv)
claim_answers coding d claim phase depth inv sound fits names keys clauses run formula answer =
    let found = made in (found.0, subst (AllTrue found.0) (sym formula.are_clauses) found.1, says_agrees d keys found.0 run answer.cycles.linked found.2)
  where
    q : Query
    q = claim_query d claim phase depth inv

    asked : IsAskedOf d claim run
    asked = asked_of d claim run sound fits answer.cycles.linked

    said_where : (layer : Key → ℕ → Bool) (differs : ℕ → Bool) → IsDecided AnyKey d claim run differs
        → SaysLate coding d claim formula.moved run layer differs → SayingModel coding q formula.moved keys run
    said_where layer differs decided late =
        claim_answer_models (record {
          coding = coding;
          base = q;
          claim = claim;
          offset = depth;
          clean = only_in_step phase depth;
          moved = formula.moved;
          keys = keys;
          run = run;
          layer = layer;
          differs = differs;
          covers = (coded coding).covers;
          names = names_all d inv names;
          is = asked;
          decided = decided;
          late = late;
          few = few_judged claim.kind claim.lag fits.kind fits.lag;
          short = short phase q.cycles;
          fits = omega arith;
          less = short phase depth;
          answer = answer;
        })

    made : SayingModel coding q formula.moved keys run
    made =
        elim (cases_Bool claim.hazard) [
          | inl hazard ↦
              let rows = hazy_rows d claim run sound fits answer.cycles.linked in
              let hazy = are_hazy d claim formula.moved run sound fits answer.cycles.linked formula.are_moved hazard in
              said_where (hazy_layer d claim run rows.0) (unknown_at d claim run rows.0)
              (hazy_decides AnyKey d claim run (unknown_at d claim run rows.0) fits.side
              (are_hazy_judged d claim formula.moved run rows.0 hazard asked hazy))
              (hazy_says coding d claim formula.moved run rows.0 (coded coding) hazard asked hazy)
          | inr plain ↦
              let rows = flipped_rows d claim run sound fits answer.cycles.linked in
              let flips = are_flipped d claim formula.moved run sound fits answer.cycles.linked formula.are_moved plain in
              said_where (flipped_layer d claim run rows.0) (differs_late_at d claim run rows.0)
              (plain_decides AnyKey d claim run (late_at d claim run rows.0) (differs_late_at d claim run rows.0) fits.side
              (are_judged d claim formula.moved run rows.0 plain asked flips))
              (plain_says coding d claim formula.moved run rows.0 (coded coding).covers plain asked flips)
        ]

names_one : (d : Design) (clause : InvClause) → Names d clause → NamesRegs d clause
names_one d clause name l has =
    let place = placed l clause.lits has in
    All-at (λ (s : StateLit). s.reg < length d.regs) clause.lits place.0 l place.1 name

-- the same for the query of an invariant's clause
pub clause_models : (coding : Coding) (d : Design) (inv : List InvClause) (clause : InvClause) (phase : Phase) (depth : ℕ) → IsSound d
    → Names d clause → ((i : InvClause) → Rattle.std.specs.Prelude.Contains inv i → Names d i)
    → ModelsAnswer coding (clause_query d inv clause phase depth)
clause_models coding d inv clause phase depth sound name names keys clauses v run formula all are free =
    let q = clause_query d inv clause phase depth in
    let model : IsModelBeside coding q formula.moved keys v run = beside coding q keys clauses v run formula sound all are free in (
      clause_model_answers (record {
        coding = coding;
        base = q;
        clause = clause;
        moved = formula.moved;
        keys = keys;
        v = v;
        run = run;
        model = model;
        name = names_one d clause name;
        names = names_all d inv names;
      }),
      agrees coding q formula.moved keys v run sound are.linked formula.are_needed (model_told coding q formula.moved keys v run model),
    )

pub clause_answers : (coding : Coding) (d : Design) (inv : List InvClause) (clause : InvClause) (phase : Phase) (depth : ℕ) → IsSound d
    → Names d clause → ((i : InvClause) → Rattle.std.specs.Prelude.Contains inv i → Names d i) → AnswersHaveModels coding
    (clause_query d inv clause phase depth)
clause_answers coding d inv clause phase depth sound name names keys clauses run formula answer = (
  meaning d run (λ k. false),
  subst (AllTrue (meaning d run (λ k. false))) (sym formula.are_clauses)
      (clause_answer_models (record {
        coding = coding;
        base = clause_query d inv clause phase depth;
        clause = clause;
        moved = formula.moved;
        keys = keys;
        run = run;
        covers = (coded coding).covers;
        sound = sound;
        name = names_one d clause name;
        names = names_all d inv names;
        short = let le = short phase depth in omega arith;
        answer = answer;
      })),
  says_agrees d keys (meaning d run (λ k. false)) run answer.cycles.linked (meaning_says d run (λ k. false)),
)
