-- The pairs that were tried are pairs of registers, and those that are written have lines.
use Rattle.std.proofs.Common.{arith, ◌≡◌, ◌∙◌, ℕ, zero, suc, ◌<◌, ◌≤◌, Bool, true, false, cond, ◌&&◌, List, [], ◌∷◌, ◌++◌, length, map, refl, sym, ap, subst}
use Rattle.std.specs.Prelude.{Option, Some, slice_get, nat_le, filter}
use Rattle.std.specs.List.{AllZip}
use Rattle.std.specs.Option.{option_map}
use Rattle.std.proofs.lemmas.Bool.{and_parts}
use Rattle.std.proofs.lemmas.Bool.Decides.{nat_tests}
use Rattle.std.proofs.lemmas.List.{length-map}
use Rattle.std.proofs.lemmas.Option.{same_Some, slice_get-map, slice_get_within}
use Rattle.sdcv_base.specs.declared.kinds.Kind.TheVariants.{Multi}
use Rattle.sdcv_base.specs.declared.kinds.Edge.TheVariants.{Any}
use Rattle.net_model.specs.declared.claims.Claim.{Claim}
use Rattle.net_paths.specs.Those.{AreThose, All_seen, Taken, Left_out}
use Rattle.linked_types.specs.declared.names.Linked.{Linked}
use Rattle.script_types.specs.declared.scripts.Command.{Command}
use Rattle.sdcv_base.specs.Seqs.{where_true}
use Rattle.list_laws.proofs.Joining.{item_at}
use Rattle.run_options.specs.declared.judging.Judging.{Judging}
use Rattle.run_options.specs.Judging.{judging_by}
use Rattle.exception_expand.specs.declared.pairs.Pair.{Pair}
use Rattle.selected_types.specs.declared.selections.PairLine.{PairLine}
use Rattle.selected_types.specs.declared.selections.Selected.{Selected}
use Rattle.exception_expand.specs.Naming.{start_name, end_name}
use Rattle.exception_expand.specs.Sides.{side}
use Rattle.exception_expand.specs.Pairs.{claim_with}
use Rattle.exception_expand.specs.Selections as spec
use Rattle.exception_expand.specs.Selections.{Chosen, IsSelectionOf}
use Rattle.mcp_detect.specs.declared.options.DetectOptions.{DetectOptions}
use Rattle.mcp_detect.specs.declared.detections.Tried.{Tried}
use Rattle.mcp_detect.specs.declared.detections.Detected.{Detected}
use Rattle.mcp_detect.specs.Detections.{AreDetected}
use Rattle.mcp_detect.specs.Options.{AreInRange}
use Rattle.mcp_detect.specs.Scripts.{registers_script, registers_command}
use Rattle.multicycle_text.specs.Names.{is_writable}
use Rattle.multicycle_text.specs.Scripts.{IsReadable}
use Rattle.found_pairs.specs.Lines.{is_written, line_of, lines_of}
use Rattle.found_pairs.specs.Laws.{written_claims, judging_of}
use Rattle.found_pairs.proofs.RegCells.{IsRegPair, reg_pair}
use Rattle.found_pairs.proofs.Scripts.{IsLineOf, line_claims}

-- a pair that was tried: its names are those of a pair of registers
pub record IsTriedPair (l : Linked) (t : Tried) (p : Pair) : Type 0 where
  pub start : t.start ≡ start_name l p.start
  pub end_ : t.end ≡ end_name l p.end
  pub most : t.k ≤ 16
  pub regs : IsRegPair l p

-- the pairs at the places of the written ones
abbrev pub written_of : List Tried → List Pair → List Pair
written_of [] pairs = []
written_of (t ∷ tried) [] = []
written_of (t ∷ tried) (p ∷ pairs) = where_true (is_written t) p ++ written_of tried pairs

-- what is written can be read
readable : (t : Tried) → t.k ≤ 16 → is_written t ≡ true → IsReadable (line_of t)
readable t most is =
    let (found, names) = and_parts (nat_le 2 t.k) (is_writable t.start && is_writable t.end) is in
    let (start, end_) = and_parts (is_writable t.start) (is_writable t.end) names in
    record { some = grind (arith, nat_tests); most = most; start = start; end = end_ }

-- one pair more, written or not
line_by : (l : Linked) (t : Tried) (tried : List Tried) (p : Pair) (pairs : List Pair) (b : Bool) → is_written t ≡ b → IsTriedPair l t p
    → AllZip (IsLineOf l) (lines_of tried) (written_of tried pairs)
    → AllZip (IsLineOf l) (map line_of (cond b (t ∷ filter is_written tried) (filter is_written tried))) (where_true b p ++ written_of tried pairs)
line_by l t tried p pairs true e is are = (record { readable = readable t is.most e; start = is.start; end_ = is.end_; regs = is.regs }, are)
line_by l t tried p pairs false e is are = are

-- the lines of the written pairs
pub written_lines : (l : Linked) (tried : List Tried) (pairs : List Pair) → AllZip (IsTriedPair l) tried pairs
    → AllZip (IsLineOf l) (lines_of tried) (written_of tried pairs)
written_lines l [] [] are = are
written_lines l [] (p ∷ pairs) are = absurd are
written_lines l (t ∷ tried) [] are = absurd are
written_lines l (t ∷ tried) (p ∷ pairs) (is, are) = line_by l t tried p pairs (is_written t) refl is (written_lines l tried pairs are)

-- the claim of a pair of registers
abbrev pub tried_claim : Judging → Pair → Claim
tried_claim judging p = claim_with (Multi 2) Any judging [] (side false p)

-- one claim more, written or not
claim_by : (judging : Judging) (t : Tried) (tried : List Tried) (p : Pair) (pairs : List Pair) (b : Bool)
    → line_claims judging (lines_of tried) (written_of tried pairs) ≡ written_claims tried (map (tried_claim judging) pairs)
    → line_claims judging (map line_of (cond b (t ∷ filter is_written tried) (filter is_written tried))) (where_true b p ++ written_of tried pairs)
    ≡ where_true b (claim_with (Multi t.k) Any judging [] (side false p)) ++ written_claims tried (map (tried_claim judging) pairs)
claim_by judging t tried p pairs true same = ap (λ (claims : List Claim). claim_with (Multi t.k) Any judging [] (side false p) ∷ claims) same
claim_by judging t tried p pairs false same = same

-- the claims of the lines are those of the written pairs
pub claims_of_lines : (l : Linked) (judging : Judging) (tried : List Tried) (pairs : List Pair) → AllZip (IsTriedPair l) tried pairs
    → line_claims judging (lines_of tried) (written_of tried pairs) ≡ written_claims tried (map (tried_claim judging) pairs)
claims_of_lines l judging [] [] are = refl
claims_of_lines l judging [] (p ∷ pairs) are = absurd are
claims_of_lines l judging (t ∷ tried) [] are = absurd are
claims_of_lines l judging (t ∷ tried) (p ∷ pairs) (is, are) = claim_by judging t tried p pairs (is_written t) (claims_of_lines l judging tried pairs are)

-- no more are written than were tried
written_by : (b : Bool) (p : Pair) (rest : List Pair) → length (where_true b p ++ rest) ≤ suc (length rest)
written_by true p rest = omega arith
written_by false p rest = omega arith

-- of all pairs
pub written_fewer : (tried : List Tried) (pairs : List Pair) → length (written_of tried pairs) ≤ length tried
written_fewer [] pairs = omega arith
written_fewer (t ∷ tried) [] = omega arith
written_fewer (t ∷ tried) (p ∷ pairs) = omega (arith, written_fewer tried pairs, written_by (is_written t) p (written_of tried pairs))

-- two lists, place by place
zip_all : {A B : Type 0} (R : A → B → Type 0) (xs : List A) (ys : List B) → length xs ≡ length ys
    → ((k : ℕ) (x : A) (y : B) → slice_get xs k ≡ Some x → slice_get ys k ≡ Some y → R x y) → AllZip R xs ys
zip_all R [] [] long each = tt
zip_all R [] (y ∷ ys) long each = absurd (omega (arith, long))
zip_all R (x ∷ xs) [] long each = absurd (omega (arith, long))
zip_all R (x ∷ xs) (y ∷ ys) long each = (each 0 x y refl refl, zip_all R xs ys (omega (arith, long)) (λ k a b here there. each (suc k) a b here there))

-- it holds of each of those
holds_at : {A : Type 0} (P : A → Type 0) (xs ys : List A) (k : ℕ) (y : A) → AreThose P xs ys → slice_get ys k ≡ Some y → P y
holds_at P _ _ k y All_seen here = absurd cc
holds_at P _ _ zero y (Taken x xs ys holds rest) here = subst P (same_Some x y here) holds
holds_at P _ _ (suc k) y (Taken x xs ys holds rest) here = holds_at P xs ys k y rest here
holds_at P _ _ k y (Left_out x xs ys not rest) here = holds_at P xs ys k y rest here

-- the script has one command
the_command : (n : ℕ) (c : Command) → slice_get registers_script.commands n ≡ Some c → registers_command ≡ c
unfolding registers_script
the_command zero c here = same_Some registers_command c here
the_command (suc n) c here = absurd (omega (arith, slice_get_within (registers_command ∷ []) (suc n) c here))

-- which selects a pair of registers
selected_pair : (l : Linked) (x : Chosen) → spec.IsSelected l registers_script (judging_by false 0) x → IsRegPair l x.side.pair
selected_pair l x sel =
    let same : registers_command ≡ sel.0 = the_command x.command sel.0 sel.1 in
    let by : spec.SelectsBy l registers_script (judging_by false 0) registers_command.what x.side =
    subst (λ (c : Command). spec.SelectsBy l registers_script (judging_by false 0) c.what x.side) (sym same) sel.2 in
    reg_pair l registers_script x.side.pair by.1.0.0 by.1.0.1 by.1.1

-- and claims that of its late side
selected_claim : (l : Linked) (judging : Judging) (x : Chosen) → spec.IsSelected l registers_script (judging_by false 0) x
    → spec.claim_of l registers_script judging x ≡ Some (tried_claim judging x.side.pair)
selected_claim l judging x sel =
    let same : registers_command ≡ sel.0 = the_command x.command sel.0 sel.1 in
    let by : spec.SelectsBy l registers_script (judging_by false 0) registers_command.what x.side =
    subst (λ (c : Command). spec.SelectsBy l registers_script (judging_by false 0) c.what x.side) (sym same) sel.2 in
    ap (spec.claim_at l registers_script judging x.side) sel.1 ∙ ap (λ (c : Command). spec.claim_by l registers_script judging x.side c.what) (sym same)
    ∙ ap (λ (early : Bool). Some (claim_with (Multi 2) Any judging [] (side early x.side.pair))) by.0

-- the pairs, without their command
abbrev pub pairs_of : List Chosen → List Pair
pairs_of chosen = map (λ (x : Chosen). x.side.pair) chosen

-- two lists of claims that are there are equal where they are as options
pub some_same : {A : Type 0} (xs ys : List A) → map Some xs ≡ map Some ys → xs ≡ ys
some_same [] [] same = refl
some_same [] (y ∷ ys) same = absurd cc
some_same (x ∷ xs) [] same = absurd cc
some_same {A} (x ∷ xs) (y ∷ ys) same =
    let first : x ≡ y = cc in
    let rest : map Some xs ≡ map Some ys = cc in
    ap (λ (z : A). z ∷ xs) first ∙ ap (λ (zs : List A). y ∷ zs) (some_same xs ys rest)

-- the claims of what is selected
chosen_claims : (l : Linked) (judging : Judging) (chosen : List Chosen)
    → ((k : ℕ) (x : Chosen) → slice_get chosen k ≡ Some x → spec.IsSelected l registers_script (judging_by false 0) x)
    → map (spec.claim_of l registers_script judging) chosen ≡ map Some (map (tried_claim judging) (pairs_of chosen))
chosen_claims l judging [] each = refl
chosen_claims l judging (x ∷ chosen) each =
    ap (λ (o : Option Claim). o ∷ map (spec.claim_of l registers_script judging) chosen) (selected_claim l judging x (each 0 x refl))
    ∙ ap (λ (os : List (Option Claim)). Some (tried_claim judging x.side.pair) ∷ os) (chosen_claims l judging chosen (λ k y here. each (suc k) y here))

-- the claims of all pairs of registers
pub registers_claims : (l : Linked) (hazard : Bool) (s : Selected) (is : IsSelectionOf l registers_script (judging_by hazard 0) s)
    → s.claims ≡ map (tried_claim (judging_by hazard 0)) (pairs_of is.chosen)
registers_claims l hazard s is =
    let judging = judging_by hazard 0 in
    some_same s.claims (map (tried_claim judging) (pairs_of is.chosen)) (is.claims ∙ chosen_claims l judging is.chosen
    (λ k x here. holds_at (spec.IsSelected l registers_script (judging_by false 0)) (spec.script_pairs l registers_script) is.chosen k x is.those here))

-- the pair at a place is one of registers, with the names of its line
tried_at : (l : Linked) (o : DetectOptions) (f : Detected) (is : AreDetected l o f) → AreInRange o → length is.selected.claims ≡ length is.pairs.chosen
    → (k : ℕ) (t : Tried) (p : Pair) → slice_get f.tried k ≡ Some t → slice_get (pairs_of is.pairs.chosen) k ≡ Some p → IsTriedPair l t p
tried_at l o f is range long k t p here there =
    let chosen = is.pairs.chosen in
    let low : k < length chosen = omega (arith, slice_get_within (pairs_of chosen) k p there, length-map chosen (λ (x : Chosen). x.side.pair)) in
    let (x, at) = item_at chosen k low in
    let pair_at : slice_get (pairs_of chosen) k ≡ Some x.side.pair =
    slice_get-map (λ (y : Chosen). y.side.pair) chosen k ∙ ap (option_map (λ (y : Chosen). y.side.pair)) at in
    let same : x.side.pair ≡ p = same_Some x.side.pair p (sym pair_at ∙ there) in
    let line_at : slice_get is.selected.pairs k ≡ Some (spec.line_of l registers_script x) =
    ap (λ (ls : List PairLine). slice_get ls k) is.pairs.pairs ∙ slice_get-map (spec.line_of l registers_script) chosen k
    ∙ ap (option_map (spec.line_of l registers_script)) at in
    let (claim, claim_at) = item_at is.selected.claims k (omega (arith, low, long)) in
    let tried = is.tried.each k (spec.line_of l registers_script x) claim t line_at claim_at here in
    let regs = selected_pair l x
    (holds_at (spec.IsSelected l registers_script (judging_by false 0)) (spec.script_pairs l registers_script) chosen k x is.pairs.those at) in
    subst (IsTriedPair l t) same (record { start = tried.start; end_ = tried.end; most = omega (arith, tried.largest.most, range.most); regs = regs })

-- each pair that was tried is one of registers
pub tried_pairs : (l : Linked) (o : DetectOptions) (f : Detected) (is : AreDetected l o f) → AreInRange o
    → AllZip (IsTriedPair l) f.tried (pairs_of is.pairs.chosen)
tried_pairs l o f is range =
    let chosen = is.pairs.chosen in
    let long : length is.selected.claims ≡ length chosen =
    sym (length-map is.selected.claims Some) ∙ ap (λ (os : List (Option Claim)). length os) is.pairs.claims
    ∙ length-map chosen (spec.claim_of l registers_script (judging_of o)) in
    zip_all (IsTriedPair l) f.tried (pairs_of chosen) (omega (arith, is.tried.as_many, long, length-map chosen (λ (x : Chosen). x.side.pair)))
    (tried_at l o f is range long)
