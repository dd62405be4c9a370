-- Claims whose pairs are selected by multicycle paths of few cycles.
use Rattle.std.proofs.Common.{◌≡◌, ◌∙◌, ℕ, ◌+◌, Bool, true, false, ◌&&◌, ◌||◌, List, [], ◌∷◌, ◌++◌, take, cond, refl, ap, sym, subst, arith}
use Rattle.std.specs.Prelude.{Some, None, Option, slice_get, if◌then◌else◌, ◌==◌, nat_eq}
use Rattle.std.specs.List.{list_any}
use Rattle.std.specs.Map.{lookup}
use Rattle.std.proofs.lemmas.List.Folds.{list_any-append}
use Rattle.std.proofs.Math.Bool.{beq}
use Rattle.std.proofs.lemmas.Bool.Decides.{nat_tests}
use Rattle.sdcv_base.specs.Seqs.{each_at, option_list}
use Rattle.sdcv_base.specs.declared.kinds.Kind.{Kind}
use Rattle.sdcv_base.specs.declared.kinds.Kind.TheVariants.{False, Multi}
use Rattle.list_laws.proofs.Joining.{each_at_more}
use Rattle.net_model.specs.declared.claims.Start.{Start}
use Rattle.net_model.specs.declared.claims.Start.TheVariants.{Reg as RegStart, Input as InputStart}
use Rattle.net_model.specs.declared.claims.End.{End}
use Rattle.net_model.specs.declared.claims.End.TheVariants.{Reg as RegEnd, Output as OutputEnd}
use Rattle.net_model.specs.declared.claims.Claim.{Claim}
use Rattle.selected_types.specs.declared.selections.PairLine.{PairLine}
use Rattle.selected_types.specs.declared.selections.Selected.{Selected}
use Rattle.script_notices.specs.declared.pairs.Ends.{Ends}
use Rattle.script_notices.specs.contracts.pairs.EndsPartialEq.TheImpl.{eq-value as derived}
use Rattle.script_notices.specs.Companions.{is_bool}
use Rattle.script_notices.specs.Notices.{is_within, is_start, is_end, is_pair, is_crossed, claim_at}
use Rattle.script_notices.specs.Tables.{is_low, multiplier, is_input, start_place, is_output, end_place, ends_of, is_ends, low_in}
use Rattle.script_notices.specs.Tables.{IsLowered, ArePairLows, IsLowAt, AreFirstLows}
use Rattle.script_notices.proofs.Lowering.{low_where}

same_bool : (a b : Bool) → is_bool a b ≡ true → a ≡ b
same_bool true true is = refl
same_bool true false is = sym is
same_bool false true is = is
same_bool false false is = refl

both : (a b : Bool) → (a && b) ≡ true → (a ≡ true) × (b ≡ true)
both true b is = (refl, is)
both false b is = absurd cc

same_number : (a b : ℕ) → (a == b) ≡ true → a ≡ b
same_number a b is = grind (arith, nat_tests)

-- equal keys are one pair
pub same_ends : (a b : Ends) → is_ends a b ≡ true → a ≡ b
same_ends a b is =
    let (input, rest) = both (is_bool a.input b.input) (a.start == b.start && (is_bool a.output b.output && a.end == b.end)) is in
    let (start, last) = both (a.start == b.start) (is_bool a.output b.output && a.end == b.end) rest in
    let (output, end) = both (is_bool a.output b.output) (a.end == b.end) last in
    let p = same_bool a.input b.input input in
    let q = same_number a.start b.start start in
    let r = same_bool a.output b.output output in
    let s = same_number a.end b.end end in
    λ i. record { input = p i; start = q i; output = r i; end = s i }

flipped : (a b : ℕ) → (a == b) ≡ (b == a)
flipped a b = grind (arith, nat_tests)

start_key : (a b : Start) → (is_bool (is_input a) (is_input b) && start_place a == start_place b) ≡ is_start b a
start_key (RegStart a) (RegStart b) = flipped a b
start_key (RegStart a) (InputStart b) = refl
start_key (InputStart a) (RegStart b) = refl
start_key (InputStart a) (InputStart b) = flipped a b

end_key : (a b : End) → (is_bool (is_output a) (is_output b) && end_place a == end_place b) ≡ is_end b a
end_key (RegEnd a) (RegEnd b) = flipped a b
end_key (RegEnd a) (OutputEnd b) = refl
end_key (OutputEnd a) (RegEnd b) = refl
end_key (OutputEnd a) (OutputEnd b) = flipped a b

grouped : (a b c d : Bool) → (a && (b && (c && d))) ≡ ((a && b) && (c && d))
grouped true b c d = refl
grouped false b c d = refl

joined : (a b c d : Bool) → a ≡ c → b ≡ d → (a && b) ≡ (c && d)
joined a b c d p q = ap (λ (x : Bool). x && b) p ∙ ap (λ (x : Bool). c && x) q

-- the keys of two claims are equal where the claims are of one pair
pub key_is : (a b : Claim) → is_ends (ends_of a) (ends_of b) ≡ is_pair b a
key_is a b =
    grouped (is_bool (is_input a.start) (is_input b.start)) (start_place a.start == start_place b.start)
    (is_bool (is_output a.end) (is_output b.end)) (end_place a.end == end_place b.end)
    ∙ joined _ _ (is_start b.start a.start) (is_end b.end a.end) (start_key a.start b.start) (end_key a.end b.end)

low_kind : (n : ℕ) (kind : Kind) → is_low n (multiplier kind) ≡ is_within n kind
low_kind n False = refl
low_kind n (Multi k) = refl

or_nothing : (b : Bool) → b ≡ (b || false)
or_nothing true = refl
or_nothing false = refl

-- a claim more
pub pairs_more : (claims : List Claim) (other : Claim) (old new : List (Ends × ℕ)) → ArePairLows claims old
    → IsLowered is_ends old (ends_of other) (multiplier other.kind) new → ArePairLows (claims ++ other ∷ []) new
pairs_more claims other old new are lowered c n =
    let found = low_in old (ends_of c) in
    let here : (is_ends (ends_of other) (ends_of c) && is_low n (multiplier other.kind)) ≡ (is_pair c other && is_within n other.kind) =
    joined _ _ (is_pair c other) (is_within n other.kind) (key_is other c) (low_kind n other.kind) in
    ap (is_low n) (lowered (ends_of c)) ∙ low_where n (is_ends (ends_of other) (ends_of c)) found (multiplier other.kind)
    ∙ ap (λ (b : Bool). is_low n found || b) (here ∙ or_nothing (is_pair c other && is_within n other.kind))
    ∙ ap (λ (b : Bool). b || list_any (λ (x : Claim). is_pair c x && is_within n x.kind) (other ∷ [])) (are c n)
    ∙ sym (list_any-append (λ (x : Claim). is_pair c x && is_within n x.kind) claims (other ∷ []))

-- the claim at a place
pub low_here : (claims : List Claim) (table : List (Ends × ℕ)) (place : ℕ) (c : Claim) → ArePairLows claims table → slice_get claims place ≡ Some c
    → IsLowAt claims place (low_in table (ends_of c))
low_here claims table place c are here n =
    are c n ∙ or_nothing (is_crossed claims n c) ∙ ap (λ (o : Option Claim). list_any (is_crossed claims n) (option_list o)) (sym here)

-- and none
pub low_nowhere : (claims : List Claim) (place : ℕ) → slice_get claims place ≡ None → IsLowAt claims place None
low_nowhere claims place none n = ap (λ (o : Option Claim). list_any (is_crossed claims n) (option_list o)) (sym none)

turn : (b : Bool) (low : Bool) (p : Claim → Bool) (at : List Claim) → low ≡ list_any p at → (b && low) ≡ list_any p (if b then at else [])
turn true low p at is = is
turn false low p at is = refl

-- a pair more
pub lows_more : (s : Selected) (k : ℕ) (p : PairLine) (low : Option ℕ) (old new : List (ℕ × ℕ)) → slice_get s.pairs k ≡ Some p
    → IsLowAt s.claims k low → IsLowered nat_eq old p.command low new → AreFirstLows s k old → AreFirstLows s (k + 1) new
lows_more s k p low old new here at lowered are command n =
    let test = is_crossed s.claims n in
    let found = lookup (nat_eq command) old in
    let before = each_at (claim_at command s.claims) 0 (take k s.pairs) in
    ap (is_low n) (lowered command) ∙ low_where n (nat_eq p.command command) found low
    ∙ ap (λ (b : Bool). b || (nat_eq p.command command && is_low n low)) (are command n)
    ∙ ap (λ (b : Bool). list_any test before || b) (turn (nat_eq p.command command) (is_low n low) test (option_list (slice_get s.claims k)) (at n))
    ∙ sym (list_any-append test before (claim_at command s.claims k p))
    ∙ ap (list_any test) (sym (each_at_more (claim_at command s.claims) s.pairs k p here))

-- keys are compared field by field
bools : (a b : Bool) → beq a b ≡ is_bool a b
bools true true = refl
bools true false = refl
bools false true = refl
bools false false = refl

derived_key : (a b : Ends) → derived.it a b ≡ is_ends a b
derived_key a b =
    ap (λ (t : Bool). t && (a.start == b.start && (beq a.output b.output && a.end == b.end))) (bools a.input b.input)
    ∙ ap (λ (t : Bool). is_bool a.input b.input && (a.start == b.start && (t && a.end == b.end))) (bools a.output b.output)

derived_is : derived.it ≡ is_ends
derived_is i a b = derived_key a b i

-- what is written at a key
pub written : (old new : List (Ends × ℕ)) (key : Ends) (value : ℕ)
    → ((q : Ends) → lookup (derived.it q) new ≡ cond (derived.it key q) (Some value) (lookup (derived.it q) old))
    → (q : Ends) → lookup (is_ends q) new ≡ cond (is_ends key q) (Some value) (lookup (is_ends q) old)
written old new key value is =
    subst (λ (eq : Ends → Ends → Bool). (q : Ends) → lookup (eq q) new ≡ cond (eq key q) (Some value) (lookup (eq q) old)) derived_is is
