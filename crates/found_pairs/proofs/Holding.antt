-- What the script of the found pairs claims holds.
use Rattle.std.proofs.Common.{arith, ◌≡◌, ◌∙◌, ℕ, suc, ◌≤◌, Bool, true, false, ◌&&◌, List, [], ◌∷◌, ◌++◌, length, refl, sym, ap}
use Rattle.std.specs.Prelude.{Option, Some, slice_get, nat_le, All}
use Rattle.std.proofs.lemmas.Bool.{and_parts}
use Rattle.std.proofs.lemmas.Bool.Decides.{nat_tests}
use Rattle.std.proofs.lemmas.List.{length-map}
use Rattle.std.proofs.lemmas.List.Elements.{All-nil, All-cons}
use Rattle.std.proofs.lemmas.Option.{slice_get_within}
use Rattle.net_model.specs.Judge.{Holds}
use Rattle.net_model.specs.declared.netlist.Design.{Design}
use Rattle.net_model.specs.declared.claims.Claim.{Claim}
use Rattle.linked_types.specs.declared.names.Linked.{Linked}
use Rattle.sdcv_base.specs.Seqs.{where_true}
use Rattle.list_laws.proofs.Joining.{item_at}
use Rattle.selected_types.specs.declared.selections.PairLine.{PairLine}
use Rattle.exception_expand.specs.Selections as spec
use Rattle.mcp_detect.specs.declared.options.DetectOptions.{DetectOptions}
use Rattle.mcp_detect.specs.declared.detections.Tried.{Tried}
use Rattle.mcp_detect.specs.declared.detections.Detected.{Detected}
use Rattle.mcp_detect.specs.Detections.{AreDetected, with_multiplier}
use Rattle.mcp_detect.specs.Scripts.{registers_script}
use Rattle.multicycle_text.specs.Names.{is_writable}
use Rattle.found_pairs.specs.Lines.{is_written}
use Rattle.found_pairs.specs.Laws.{written_claims, judging_of}

-- a pair that is written has a multiplier that is found
found_two : (t : Tried) → is_written t ≡ true → 2 ≤ t.k
found_two t is =
    let (found, names) = and_parts (nat_le 2 t.k) (is_writable t.start && is_writable t.end) is in
    grind (arith, nat_tests)

-- one claim more, written or not
held_by : (d : Design) (t : Tried) (claim : Claim) (rest : List Claim) (b : Bool) → is_written t ≡ b
    → (is_written t ≡ true → Holds d (with_multiplier t.k claim)) → All (Holds d) rest → All (Holds d) (where_true b (with_multiplier t.k claim) ++ rest)
held_by d t claim rest true is holds all = All-cons (Holds d) (with_multiplier t.k claim) rest (holds is) all
held_by d t claim rest false is holds all = all

-- the written claims hold where each does at its place
held_each : (d : Design) (tried : List Tried) (claims : List Claim)
    → ((k : ℕ) (t : Tried) (claim : Claim) → slice_get tried k ≡ Some t → slice_get claims k ≡ Some claim → is_written t ≡ true
    → Holds d (with_multiplier t.k claim))
    → All (Holds d) (written_claims tried claims)
held_each d [] claims each = All-nil (Holds d)
held_each d (t ∷ tried) [] each = All-nil (Holds d)
held_each d (t ∷ tried) (claim ∷ claims) each =
    held_by d t claim (written_claims tried claims) (is_written t) refl (each 0 t claim refl refl)
    (held_each d tried claims (λ k u c here there. each (suc k) u c here there))

-- the claims that are written of what was found
pub written_hold : (l : Linked) (o : DetectOptions) (f : Detected) (is : AreDetected l o f)
    → All (Holds l.design) (written_claims f.tried is.selected.claims)
written_hold l o f is =
    let chosen = is.pairs.chosen in
    let claims : length is.selected.claims ≡ length chosen =
    sym (length-map is.selected.claims Some) ∙ ap (λ (os : List (Option Claim)). length os) is.pairs.claims
    ∙ length-map chosen (spec.claim_of l registers_script (judging_of o)) in
    let lines : length is.selected.pairs ≡ length chosen =
    ap (λ (ls : List PairLine). length ls) is.pairs.pairs ∙ length-map chosen (spec.line_of l registers_script) in
    held_each l.design f.tried is.selected.claims (λ k t claim here there written.
    let (line, line_at) = item_at is.selected.pairs k (omega (arith, slice_get_within is.selected.claims k claim there, claims, lines)) in
    let tried = is.tried.each k line claim t line_at there here in
    (tried.largest.found t.k (found_two t written) (omega arith)).holds)
