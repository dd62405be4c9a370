-- Where hazards count, the needed keys of the layers have the rails of the ternary layers.
use Rattle.std.proofs.Common.{◌≡◌, ℕ, zero, suc, ◌+◌, ◌<◌, ◌≤◌, Bool, true, false, not, cond, List, [], map, length, Some, refl, ap, sym, ◌∙◌, arith}
use Rattle.std.proofs.Common.{inl, inr, ◌⊎◌, subst, add-one}
use Rattle.std.specs.Prelude.{Contains, slice_get, slice_index}
use Rattle.std.proofs.lemmas.Bool.{and_from, and_parts, not-true, both_ways, cases_lt}
use Rattle.std.proofs.lemmas.Option.{slice_get_within}
use Rattle.std.proofs.lemmas.List.{get_or_past}
use Rattle.net_model.specs.Netlist.{IsSound}
use Rattle.net_model.specs.Fits.{Fits}
use Rattle.net_model.specs.Cycles.{IsSettled}
use Rattle.net_model.specs.Pins.{is_in, start_nets}
use Rattle.net_model.specs.Layers.{net_at, row_at, held_set, AreLayers}
use Rattle.net_model.specs.Ternary.{tern_of}
use Rattle.net_model.specs.Splitting.{tern_value}
use Rattle.net_model.proofs.TernaryOnce.{tern_capture_over, computed_layers, computed_capture}
use Rattle.net_model.proofs.Settling.{All-at}
use Rattle.net_model.proofs.Members.{Contains-from_In}
use Rattle.net_model.specs.declared.netlist.Design.{Design}
use Rattle.net_model.specs.declared.cycles.Cycle.{Cycle}
use Rattle.net_model.specs.declared.invariants.InvClause.{InvClause}
use Rattle.net_model.specs.declared.queries.Phase.{Phase}
use Rattle.net_model.specs.declared.claims.Claim.{Claim}
use Rattle.net_model.specs.declared.claims.PinRef.TheVariants.{Net}
use Rattle.net_model.specs.declared.claims.End.{End}
use Rattle.net_model.specs.declared.claims.End.TheVariants.{Reg as RegEnd}
use Rattle.net_model.specs.declared.terns.Tern.{Tern}
use Rattle.net_model.specs.declared.terns.Tern.TheVariants.{Zero, Unknown}
use Rattle.query_model.specs.Keys.{key, lit}
use Rattle.query_model.specs.Reads.{bit_key, read_late, read, AreMoved}
use Rattle.net_model.specs.Queries.{Query, claim_query, only_in_step}
use Rattle.query_model.specs.Defined.{has_own, late_key, claim_definitions}
use Rattle.query_model.specs.Formula.{definitions, asked_clauses, IsNeeded, AreNeeded}
use Rattle.query_model.specs.Laws.{rail_value, HasRails, ModelsHaveRails, NumberedHaveRails}
use Rattle.query_laws.proofs.Late.{start_net_in}
use Rattle.query_model.proofs.Runs.{Told, Forces, now_bits}
use Rattle.query_model.proofs.Needs.{forces, forces_some}
use Rattle.query_laws.proofs.Numbered.{normals_true, model_by_number}
use Rattle.query_laws.proofs.Clauses.{Needed, IsModelBeside, model_told}
use Rattle.query_laws.proofs.RailValues.{RailTells}
use Rattle.query_laws.proofs.Hazy.{IsHazy, LayerMay, read_own}
use Rattle.query_laws.proofs.HazyGates.{IsCoding, layers_may}
use Rattle.query_laws.proofs.HazyEnds.{EndMay, end_may}
use Rattle.query_laws.proofs.Violated.{IsAskedOf, claim_in}
use Rattle.query_laws.proofs.PlainClaims.{layers_of, ends_of}
use Rattle.query_laws.proofs.Mentioned.{BaseHas, LayersHave, needed_has}
use Rattle.query_laws.proofs.NetKeys.{read_is}
use Rattle.query_laws.proofs.Claims.{beside, coded, asked_of}
use Rattle.query_model.specs.declared.keys.Key.{Key}
use Rattle.query_model.specs.declared.keys.KeyLit.{KeyLit}
use Rattle.query_model.specs.declared.keys.Coding.{Coding}

-- where a key is one of W(l), it is that of a net with keys of its own there, or of a register's late capture
abbrev pub OwnLayer : Design → Claim → List (List Bool) → Key → Type 0
OwnLayer d claim moved k =
    (l : ℕ) → k.layer ≡ suc l → (has_own claim moved l k.point ≡ true) ⊎ ((r : ℕ) × (claim.end ≡ RegEnd r) × (k.point ≡ d.nets + length d.regs))

first_layer : (d : Design) (claim : Claim) (moved : List (List Bool)) (k : Key) → k.layer ≡ 0 → OwnLayer d claim moved k
first_layer d claim moved k zero_layer l e = absurd (omega arith)

base_layer : (d : Design) (claim : Claim) (moved : List (List Bool)) → BaseHas (OwnLayer d claim moved) d
base_layer d claim moved =
    record {
      past = λ c i. first_layer d claim moved (key c 0 0 (d.nets + i)) refl;
      reads = λ c n.
          elim (read_is d c d.regs 0 n) [
            | inl bit ↦ subst (λ (l : KeyLit). OwnLayer d claim moved l.key) (sym bit.1.1) (first_layer d claim moved (bit_key d c bit.1.0) refl)
            | inr own ↦ subst (λ (l : KeyLit). OwnLayer d claim moved l.key) (sym own) (first_layer d claim moved (key c 0 0 n) refl)
          ];
      inputs = λ c i lt. first_layer d claim moved (key c 0 0 (slice_index d.inputs i)) refl;
      gates = λ c k g at. first_layer d claim moved (key c 0 0 g.out) refl;
    }

late_layers : (d : Design) (claim : Claim) (moved : List (List Bool)) → AreMoved d claim moved → LayersHave (OwnLayer d claim moved) d claim moved
late_layers d claim moved are =
    record {
      own = λ c l rail n own j e. let same : l ≡ j = omega arith in inl (subst (λ i. has_own claim moved i n ≡ true) same own);
      starts = λ c rail n is j e.
          let same : 0 ≡ j = omega arith in
          let late = are.late n (Contains-from_In (start_nets d claim.start) n (start_net_in d claim n is)) in
          inl (subst (λ i. has_own claim moved i n ≡ true) same (and_from (net_at false moved 0 n) (not (is_in (Net n) [])) late refl));
      ends = λ c rail r is j e. inr (r, is, refl);
    }

-- so is each needed key of a claim's query
needed_layer : (coding : Coding) (d : Design) (claim : Claim) (phase : Phase) (depth : ℕ) (inv : List InvClause) (moved : List (List Bool)) (k : Key)
    → AreMoved d claim moved → IsNeeded (definitions coding (claim_query d claim phase depth inv) moved)
    (asked_clauses (claim_query d claim phase depth inv)) k → OwnLayer d claim moved k
needed_layer coding d claim phase depth inv moved k are needed =
    needed_has coding (OwnLayer d claim moved) (claim_query d claim phase depth inv) moved k (base_layer d claim moved) (late_layers d claim moved are) needed

-- only nets are moved
moved_low : (d : Design) (claim : Claim) (moved : List (List Bool)) → AreMoved d claim moved → (l n : ℕ) → net_at false moved l n ≡ true → n < d.nets
moved_low d claim moved are l n is =
    elim (cases_lt n d.nets) [
      | inl low ↦ low
      | inr past ↦ absurd (both_ways (net_at false moved l n) (get_or_past (row_at moved l) n false (short past)) is)
    ]
  where
    short : d.nets ≤ n → length (row_at moved l) ≤ n
    short past =
        elim (cases_lt l (length moved)) [
          | inl within ↦ let len : length (row_at moved l) ≡ d.nets = are.lens l [] within in omega arith
          | inr beyond ↦ let none : row_at moved l ≡ [] = get_or_past moved l [] beyond in let size : length (row_at moved l) ≡ 0 = ap length none in
              omega arith
        ]

-- a net with keys of its own is read by them
read_is_own : (d : Design) (claim : Claim) (moved : List (List Bool)) (t l rail n : ℕ) → claim.hazard ≡ true → has_own claim moved l n ≡ true
    → read d claim moved t (suc l) rail n ≡ lit true (key t (suc l) rail n)
read_is_own d claim moved t l rail n hazard own =
    let parts = and_parts (net_at false moved l n) (not (is_in (Net n) (held_set claim.through l))) own in
    by_tests (net_at false moved l n) parts.0 (is_in (Net n) (held_set claim.through l)) (not-true (is_in (Net n) (held_set claim.through l)) parts.1)
    _ (read d claim moved t l rail n)
    ∙ read_own d claim t l rail n hazard
  where
    by_tests : (m : Bool) → m ≡ true → (h : Bool) → h ≡ false → (x y : KeyLit) → cond (not m) x (cond h y (read_late d claim t l rail n)) ≡ read_late
        d claim t l rail n
    by_tests true m false h x y = refl
    by_tests true m true h x y = absurd cc
    by_tests false m h e x y = absurd cc

-- rails that tell a value have what it says of each rail
rail_is : (kind : Key → Type 0) (v : Key → Bool) (k : ℕ → Key) (x : Tern) → RailTells kind v (lit true (k 0)) (lit true (k 1)) x → (rail : ℕ)
    → rail ≤ 1 → kind (k rail) → v (k rail) ≡ rail_value rail x
rail_is kind v k x tells zero le has = tells.0 has
rail_is kind v k x tells (suc zero) le has = tells.1 has
rail_is kind v k x tells (suc (suc rail)) le has = absurd (omega arith)

net_rail : (kind : Key → Type 0) (v : Key → Bool) (d : Design) (claim : Claim) (moved : List (List Bool)) (t : ℕ) (rows : List (List Tern))
    (l rail n : ℕ) → claim.hazard ≡ true → LayerMay kind v d claim moved t rows l n → has_own claim moved l n ≡ true → rail ≤ 1
    → kind (key t (suc l) rail n) → v (key t (suc l) rail n) ≡ rail_value rail (net_at Zero rows l n)
net_rail kind v d claim moved t rows l rail n hazard tells own le has =
    let x = net_at Zero rows l n in
    let high = read_is_own d claim moved t l 0 n hazard own in
    let low = read_is_own d claim moved t l 1 n hazard own in
    let mine : RailTells kind v (lit true (key t (suc l) 0 n)) (lit true (key t (suc l) 1 n)) x =
    subst (λ (m : KeyLit). RailTells kind v (lit true (key t (suc l) 0 n)) m x) low
    (subst (λ (m : KeyLit). RailTells kind v m (read d claim moved t (suc l) 1 n) x) high tells) in
    rail_is kind v (λ r. key t (suc l) r n) x mine rail le has

end_rail : (kind : Key → Type 0) (v : Key → Bool) (d : Design) (claim : Claim) (moved : List (List Bool)) (t : ℕ) (c : Cycle)
    (rows : List (List Tern)) (r rail : ℕ) (e : End) → e ≡ RegEnd r → EndMay kind v d claim moved t c rows e → rail ≤ 1
    → kind (late_key d claim t rail) → v (late_key d claim t rail) ≡ rail_value rail (tern_capture_over d claim.through rows e c)
end_rail kind v d claim moved t c rows r rail e is tells le has =
    let mine : EndMay kind v d claim moved t c rows (RegEnd r) = subst (λ (x : End). EndMay kind v d claim moved t c rows x) is tells in
    rail_is kind v (λ i. late_key d claim t i) (tern_capture_over d claim.through rows (RegEnd r) c) mine rail le has
    ∙ ap (λ (x : End). rail_value rail (tern_capture_over d claim.through rows x c)) (sym is)

-- definitions that are true tell the layers of a cycle, and the late capture over them
record AreTold (kind : Key → Type 0) (v : Key → Bool) (d : Design) (claim : Claim) (moved : List (List Bool)) (t : ℕ) (c : Cycle)
    (rows : List (List Tern)) : Type 0 where
  nets : (l : ℕ) → l ≤ length claim.through → (n : ℕ) → n < d.nets → LayerMay kind v d claim moved t rows l n
  end : EndMay kind v d claim moved t c rows claim.end

rows_told : (coding : Coding) (kind : Key → Type 0) (v : Key → Bool) (d : Design) (claim : Claim) (moved : List (List Bool)) (run : List Cycle)
    (t : ℕ) (c : Cycle) (rows : List (List Tern)) → IsCoding coding → claim.hazard ≡ true → IsAskedOf d claim run → AreMoved d claim moved
    → Told kind v d run → Forces kind v (claim_definitions coding d claim moved t) → slice_get run t ≡ Some c
    → AreLayers tern_value Zero d claim.start claim.through (λ _. Unknown) (map tern_of c.nets) rows → AreTold kind v d claim moved t c rows
rows_told coding kind v d claim moved run t c rows is hazard asked are told forced at layers =
    let within = slice_get_within run t c at in
    let hazy : IsHazy d claim moved c rows =
    record {
      sound = asked.sound;
      settled = All-at (IsSettled d) run t c at asked.linked.settled;
      hazard = hazard;
      start_in = asked.start_in;
      end_in = asked.end_in;
      are_moved = are;
      layers = layers;
    } in
    let nets = layers_may coding kind v d claim moved t c rows is hazy (told.nets t c at) (layers_of coding kind v d claim moved t forced) in
    record {
      nets = nets;
      end = end_may coding kind v d claim moved t c rows is hazy claim.end asked.end_in nets (λ r small own. told.bits t (omega arith) r small own
          ∙ now_bits d run t c r at) (ends_of coding kind v d claim moved t forced);
    }

-- they do so in each cycle
abbrev LayersTold : (Key → Type 0) → (Key → Bool) → Design → Claim → List (List Bool) → List Cycle → Type 0
LayersTold kind v d claim moved run =
    (t : ℕ) (c : Cycle) (rows : List (List Tern)) → slice_get run t ≡ Some c
    → AreLayers tern_value Zero d claim.start claim.through (λ _. Unknown) (map tern_of c.nets) rows → AreTold kind v d claim moved t c rows

-- the needed keys of a model have the rails of each cycle's layers
told_rails : (coding : Coding) (d : Design) (claim : Claim) (phase : Phase) (depth : ℕ) (inv : List InvClause) (moved : List (List Bool))
    (keys : List Key) (v : Key → Bool) (run : List Cycle) → IsSound d → claim.hazard ≡ true → AreMoved d claim moved
    → AreNeeded (definitions coding (claim_query d claim phase depth inv) moved) (asked_clauses (claim_query d claim phase depth inv)) keys
    → LayersTold (Needed coding (claim_query d claim phase depth inv) moved) v d claim moved run → HasRails d claim keys v run
told_rails coding d claim phase depth inv moved keys v run sound hazard are needed told =
    let kind : Key → Type 0 = Needed coding (claim_query d claim phase depth inv) moved in
    record {
      nets = λ t l rail n c rows at layers le small low has.
          let is : kind (key t (suc l) rail n) = needed.needed (key t (suc l) rail n) (subst (λ i. Contains keys (key t i rail n)) (add-one l) has) in
          let own : has_own claim moved l n ≡ true = elim (needed_layer coding d claim phase depth inv moved (key t (suc l) rail n) are is l refl)
          [ inl own ↦ own | inr end ↦ absurd (omega (arith, end.2)) ] in
          subst (λ i. v (key t i rail n) ≡ rail_value rail (net_at Zero rows l n)) (sym (add-one l))
          (net_rail kind v d claim moved t rows l rail n hazard ((told t c rows at
          (computed_layers d claim.start claim.through c.nets rows sound layers)).nets l le n low) own small is);
      capture = λ t rail c late at is small has.
          let needs = needed.needed (late_key d claim t rail) has in
          elim (needed_layer coding d claim phase depth inv moved (late_key d claim t rail) are needs (length claim.through) (add-one (length claim.through))) [
            | inl own ↦
                let p = d.nets + length d.regs in
                let parts = and_parts (net_at false moved (length claim.through) p) (not (is_in (Net p) (held_set claim.through (length claim.through)))) own in
                let low = moved_low d claim moved are (length claim.through) p parts.0 in
                absurd (omega arith)
            | inr end ↦
                let made = computed_capture d claim c late sound is in
                end_rail kind v d claim moved t c made.rows end.0 rail claim.end end.1 (told t c made.rows at made.layers).end small needs
                ∙ ap (rail_value rail) made.capture
          ];
    }

-- in each model of a claim's query where hazards count, the layers' rails are those of the ternary layers
pub claim_rails : (coding : Coding) (d : Design) (claim : Claim) (phase : Phase) (depth : ℕ) (inv : List InvClause) → IsSound d → Fits d claim
    → claim.hazard ≡ true → ModelsHaveRails coding claim (claim_query d claim phase depth inv)
claim_rails coding d claim phase depth inv sound fits hazard keys clauses v run formula all are free =
    let q = claim_query d claim phase depth inv in
    let moved = formula.moved in
    let defs = definitions coding q moved in
    let kind = IsNeeded defs (asked_clauses q) in
    let model : IsModelBeside coding q moved keys v run = beside coding q keys clauses v run formula sound all are free in
    let told = model_told coding q moved keys v run model in
    let forced = forces v defs (asked_clauses q) keys formula.are_needed model.all in
    told_rails coding d claim phase depth inv moved keys v run sound hazard formula.are_moved formula.are_needed
    (λ t c rows at layers.
    let within = slice_get_within run t c at in
    let small : t < q.cycles = omega (arith, are.count) in
    rows_told coding kind v d claim moved run t c rows (coded coding) hazard (asked_of d claim run sound fits are.linked) formula.are_moved told
    (forces_some kind v defs (claim_definitions coding d claim moved t) (claim_in coding q moved claim depth (only_in_step phase depth) t refl small) forced)
    at layers)

-- and over numbered variables
pub numbered_rails : (coding : Coding) (claim : Claim) (q : Query) → ModelsHaveRails coding claim q → NumberedHaveRails coding claim q
numbered_rails coding claim q law keys vars clauses v run problem hold are free =
    law keys problem.over_keys (Rattle.query_model.specs.Variables.by_number keys v) run problem.formula
    (model_by_number keys v problem.over_keys (normals_true v (map (map (Rattle.query_model.specs.Variables.code_of keys)) problem.over_keys) clauses
    problem.clauses_are hold)) are free
