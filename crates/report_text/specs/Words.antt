-- The texts of a report's lines, each without its newline. A name, a pattern or a word is shown with a `?` for each byte outside
-- 32 to 126.
use Rattle.std.specs.Prelude.{ℕ, ◌==◌, Bool, true, false, if◌then◌else◌, List, [], ◌++◌, length, count_by, codes, Option, None, Some}
use Rattle.std.specs.Fmt.{decimal}
use Rattle.sdcv_base.specs.Shown.{shown}
use Rattle.sdcv_base.specs.declared.kinds.Kind.{Kind}
use Rattle.sdcv_base.specs.declared.kinds.Kind.TheVariants.{False, Multi}
use Rattle.sdcv_base.specs.declared.kinds.Edge.{Edge}
use Rattle.sdcv_base.specs.declared.kinds.Edge.TheVariants.{Any, Rise, Fall}
use Rattle.net_model.specs.declared.claims.Claim.{Claim}
use Rattle.net_model.specs.declared.queries.Phase.{Phase}
use Rattle.net_model.specs.declared.queries.Phase.TheVariants.{Base, Step}
use Rattle.selected_types.specs.declared.warnings.Warning.{Warning}
use Rattle.selected_types.specs.declared.warnings.Warning.TheVariants.{Nothing, Dropped, Several, Crossed, Beyond}
use Rattle.selected_types.specs.declared.selections.Listing.{Listing}
use Rattle.selected_types.specs.declared.selections.Listing.TheVariants.{Claiming, Hold, Aside, HoldSide}
use Rattle.selected_types.specs.declared.selections.CommandLine.{CommandLine}
use Rattle.selected_types.specs.declared.selections.PairLine.{PairLine}
use Rattle.verdict_types.specs.declared.outcomes.Proof.{Proof}
use Rattle.verdict_types.specs.declared.outcomes.Proof.TheVariants.{Single, Fixed, Depth}
use Rattle.verdict_types.specs.declared.outcomes.Cause.{Cause}
use Rattle.verdict_types.specs.declared.outcomes.Cause.TheVariants.{Depth as Stays, Budget, Free, Cut}
use Rattle.verdict_types.specs.declared.outcomes.Verdict.{Verdict}
use Rattle.verdict_types.specs.declared.outcomes.Verdict.TheVariants.{Justified, Refuted, Undecided}
use Rattle.run_options.specs.declared.options.RunOptions.{RunOptions}
use Rattle.report_text.specs.declared.tallies.Tally.{Tally}

-- one text, and then another
infixr 5 ◌⁀◌
abbrev pub ◌⁀◌ : List ℕ → List ℕ → List ℕ
first ⁀ next = first ++ next

abbrev pub mode_text : Bool → List ℕ
mode_text hazard = if hazard then codes "hazard" else codes "plain"

-- at how many captures more than the first a false path is judged, where it is at any
abbrev pub lag_text : ℕ → List ℕ
lag_text lag = if lag == 0 then [] else codes " lag " ⁀ decimal lag

-- a word with its number, where it has one; and a word, where it stands
abbrev pub number_text : List ℕ → Option ℕ → List ℕ
number_text word None = []
number_text word (Some number) = codes " " ⁀ word ⁀ codes " " ⁀ decimal number

abbrev pub flag_text : List ℕ → Bool → List ℕ
flag_text word stands = if stands then word else []

-- what stands only where it is asked for
abbrev pub asked_text : RunOptions → List ℕ
asked_text o =
    lag_text o.lag ⁀ flag_text (codes " hold") o.hold ⁀ number_text (codes "assist") o.assist ⁀ number_text (codes "free") o.free
    ⁀ number_text (codes "assumed") o.assumed ⁀ flag_text (codes " strict") o.strict

-- the options of the run
abbrev pub header_text : RunOptions → List ℕ
header_text o =
    codes "sdcv 1 mode " ⁀ mode_text o.hazard ⁀ codes " reset " ⁀ decimal o.reset_len ⁀ codes " depth " ⁀ decimal o.depth ⁀ codes " budget "
    ⁀ decimal o.budget ⁀ codes " inv " ⁀ decimal o.inv_depth ⁀ asked_text o

-- the kind of what is claimed
abbrev pub kind_text : Kind → List ℕ
kind_text False = codes "false"
kind_text (Multi multiplier) = codes "multi " ⁀ decimal multiplier

-- which change of the start counts, where it is not each
abbrev pub edge_text : Edge → List ℕ
edge_text Any = []
edge_text Rise = codes " rise"
edge_text Fall = codes " fall"

-- what is claimed: its kind, whether it is the hold side, and the change of the start
abbrev pub words_of : Kind → Bool → Edge → List ℕ
words_of kind early edge = kind_text kind ⁀ flag_text (codes " hold") early ⁀ edge_text edge

-- what is claimed of a pair
abbrev pub claim_text : Claim → List ℕ
claim_text claim = words_of claim.kind claim.early claim.edge

-- what an exception does
abbrev pub what_text : Listing → List ℕ
what_text (Claiming kind edge pairs) = words_of kind false edge
what_text Hold = codes "hold"
what_text (Aside option) = codes "aside " ⁀ shown option
what_text (HoldSide edge pairs) = words_of False true edge

-- how many pairs it claims something of
abbrev pub count_text : Listing → List ℕ
count_text (Claiming kind edge pairs) = codes " pairs " ⁀ decimal pairs
count_text Hold = []
count_text (Aside option) = []
count_text (HoldSide edge pairs) = codes " pairs " ⁀ decimal pairs

abbrev pub command_text : ℕ → CommandLine → List ℕ
command_text number c =
    codes "command " ⁀ decimal number ⁀ codes " line " ⁀ decimal c.line ⁀ codes " " ⁀ what_text c.listing ⁀ count_text c.listing

-- nothing goes by a pattern, so many of the things that it names can't stand in its place, or it names things of two classes; so many
-- pairs may be joined through what is cut, or so many starts and ends lead there where a list is not given
abbrev pub warning_text : Warning → List ℕ
warning_text (Nothing pattern) = codes "nothing " ⁀ shown pattern
warning_text (Dropped pattern count) = codes "dropped " ⁀ shown pattern ⁀ codes " " ⁀ decimal count
warning_text (Several pattern) = codes "several " ⁀ shown pattern
warning_text (Crossed count) = codes "crossed " ⁀ decimal count
warning_text (Beyond count) = codes "beyond " ⁀ decimal count

abbrev pub warning_line : ℕ → Warning → List ℕ
warning_line number warning = codes "warning command " ⁀ decimal number ⁀ codes " " ⁀ warning_text warning

abbrev pub verdict_word : Verdict → List ℕ
verdict_word (Justified proof) = codes "justified"
verdict_word (Refuted offset stimulus) = codes "refuted"
verdict_word (Undecided cause) = codes "undecided"

abbrev pub proof_text : Proof → List ℕ
proof_text Single = codes "single"
proof_text Fixed = codes "fixed"
proof_text (Depth depth base step) = codes "depth " ⁀ decimal depth

abbrev pub phase_text : Phase → List ℕ
phase_text Base = codes "base"
phase_text Step = codes "step"

-- the greatest depth that the run allows leaves the claim open, the budget is spent on a query, or what is free or cut may violate it
abbrev pub cause_text : ℕ → Cause → List ℕ
cause_text limit Stays = codes "depth " ⁀ decimal limit
cause_text limit (Budget phase depth log) = codes "budget " ⁀ phase_text phase ⁀ codes " " ⁀ decimal depth
cause_text limit (Free offset stimulus) = codes "free " ⁀ decimal offset
cause_text limit Cut = codes "cut"

-- why the verdict is that
abbrev pub why_text : ℕ → Verdict → List ℕ
why_text limit (Justified proof) = proof_text proof
why_text limit (Refuted offset stimulus) = codes "offset " ⁀ decimal offset
why_text limit (Undecided cause) = cause_text limit cause

-- from where to where
abbrev pub ends_text : PairLine → List ℕ
ends_text p = shown p.start ⁀ codes " -> " ⁀ shown p.end

-- what is found out
abbrev pub found_text : ℕ → Verdict → List ℕ
found_text limit v = verdict_word v ⁀ codes " " ⁀ why_text limit v

abbrev pub pair_text : ℕ → ℕ → PairLine → Claim → Verdict → List ℕ
pair_text limit number p claim v =
    codes "pair " ⁀ decimal number ⁀ codes " command " ⁀ decimal p.command ⁀ codes " " ⁀ claim_text claim ⁀ codes " "
    ⁀ ends_text p ⁀ codes " " ⁀ found_text limit v

abbrev pub is_justified : Verdict → Bool
is_justified (Justified proof) = true
is_justified (Refuted offset stimulus) = false
is_justified (Undecided cause) = false

abbrev pub is_refuted : Verdict → Bool
is_refuted (Justified proof) = false
is_refuted (Refuted offset stimulus) = true
is_refuted (Undecided cause) = false

abbrev pub is_undecided : Verdict → Bool
is_undecided (Justified proof) = false
is_undecided (Refuted offset stimulus) = false
is_undecided (Undecided cause) = true

-- how many pairs have which verdict
abbrev pub tally_of : List Verdict → Tally
tally_of vs = record {
  pairs = length vs;
  justified = count_by is_justified vs;
  refuted = count_by is_refuted vs;
  undecided = count_by is_undecided vs;
}

abbrev pub total_text : List Verdict → List ℕ
total_text vs =
    codes "total " ⁀ decimal (tally_of vs).pairs ⁀ codes " justified " ⁀ decimal (tally_of vs).justified ⁀ codes " refuted " ⁀ decimal (tally_of vs).refuted
    ⁀ codes " undecided " ⁀ decimal (tally_of vs).undecided
