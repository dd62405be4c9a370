-- Lines and claims of mended scripts, worked out by hand: a whole exception, one that loses pairs, and hold commands.
use Rattle.std.proofs.Common.{◌≡◌, ℕ, Bool, true, false, List, [], ◌∷◌, ◌++◌, refl}
use Rattle.std.specs.Fmt.{digits}
use Rattle.std.specs.Prelude.{codes, Some, None}
use Rattle.sdcv_base.specs.declared.kinds.Kind.TheVariants.{Multi}
use Rattle.sdcv_base.specs.declared.kinds.Edge.TheVariants.{Any}
use Rattle.net_model.specs.declared.claims.Claim.{Claim}
use Rattle.net_model.specs.declared.claims.Start.TheVariants.{Reg as RegStart}
use Rattle.net_model.specs.declared.claims.End.{End}
use Rattle.net_model.specs.declared.claims.End.TheVariants.{Reg as RegEnd, Output as OutputEnd}
use Rattle.selected_types.specs.declared.selections.PairLine.{PairLine}
use Rattle.verdict_types.specs.declared.outcomes.Proof.TheVariants.{Single}
use Rattle.verdict_types.specs.declared.outcomes.Cause.TheVariants.{Depth as Stays}
use Rattle.verdict_types.specs.declared.outcomes.Verdict.TheVariants.{Justified, Undecided}
use Rattle.run_options.specs.declared.options.RunOptions.{RunOptions}
use Rattle.selected_types.specs.declared.notices.Notices.{Notices}
use Rattle.mend_groups.specs.declared.ports.Ports.{Ports}
use Rattle.mend_groups.specs.declared.rows.Row.{Row}
use Rattle.mend_groups.specs.declared.parts.Part.{Part}
use Rattle.mend_groups.specs.Ports.{class_of}
use Rattle.mend_lines.specs.declared.fates.HoldFate.TheVariants.{Stays as HoldStays, Follows, LeftOut}
use Rattle.mended_text.specs.declared.faults.MendFault.TheVariants.{Unread}
use Rattle.mended_text.specs.Scenes.{Findings}
use Rattle.mended_text.specs.Claims.{mended_claims}
use Rattle.mended_text.specs.Tellings.{header_text, part_text, fate_text, left_text, total_text, texts_from, mended_texts, mend_line}

-- a design of a bit of an input port, and one of an output port
abbrev ports : Ports
ports = record { inputs = 1; outputs = 1 }

row : ℕ → ℕ → End → Bool → Bool → Row
row place start end kept written = record {
  place = place;
  start = RegStart start;
  edge = Any;
  end = end;
  class = class_of ports end;
  early = false;
  kept = kept;
  written = written;
  beside = false;
}

-- both pairs of an exception are kept, so it stays
whole : Part
whole = record { rows = row 0 0 (RegEnd 1) true true ∷ row 1 0 (RegEnd 2) true true ∷ []; groups = [] }

-- the first pair of another is not kept; the second one ends at an output, the third at a register
parted : Part
parted = record {
  rows = row 2 0 (RegEnd 0) false false ∷ row 3 1 (OutputEnd 0) true true ∷ row 4 1 (RegEnd 0) true true ∷ [];
  groups = record { stars = (row 3 1 (OutputEnd 0) true true ∷ row 4 1 (RegEnd 0) true true ∷ []) ∷ [] } ∷ [];
}

-- the only pair of a third is kept and has a name that can't be written
unwritten : Part
unwritten = record { rows = row 5 2 (RegEnd 2) true false ∷ row 6 2 (RegEnd 1) false false ∷ []; groups = [] }

-- the first pair of another is not kept; the other ones end at a sink, at an output port and at a register
three_classes : Part
three_classes = record {
  rows = row 0 0 (RegEnd 2) false false ∷ row 1 0 (OutputEnd 1) true true ∷ row 2 0 (OutputEnd 0) true true ∷ row 3 0 (RegEnd 1) true true ∷ [];
  groups = record { stars = (row 1 0 (OutputEnd 1) true true ∷ row 2 0 (OutputEnd 0) true true ∷ row 3 0 (RegEnd 1) true true ∷ []) ∷ [] } ∷ [];
}

options : RunOptions
options = record {
  hazard = false;
  reset_len = 1;
  depth = 8;
  budget = 20000;
  inv_depth = 1;
  lag = 0;
  hold = false;
  assist = None;
  free = None;
  assumed = None;
  strict = false;
}

header_of_a_plain_run : header_text options ≡ codes "sdcv 1 mend mode plain reset 1 depth 8 budget 20000 inv 1"
unfolding digits options
header_of_a_plain_run = refl

told : Notices
told = record {
  top = None;
  clock = None;
  cuts = [];
  skipped = Some (record { name = codes "set_sense"; count = 1 } ∷ []);
  unjudged = [];
  hold_commands = 0;
}

-- what is passed over stands between the header and the exceptions
skipped_is_told : (f : Findings) → mended_texts options told (record f { script = record { commands = [] } }) []
    ≡ header_text options ∷ codes "skipped set_sense 1" ∷ codes "total 0 kept 0 left 0 unwritten 0" ∷ []
unfolding digits told texts_from
skipped_is_told f = refl

-- and what is told of the netlist before that
cuts_are_told : (f : Findings) → mended_texts (record options { free = Some 0 })
    (record told { top = Some (codes "chip"); clock = Some (codes "ck"); cuts = record { cell = codes "RAM"; count = 2; «open» = true } ∷ [] })
    (record f { script = record { commands = [] } }) []
    ≡ header_text (record options { free = Some 0 }) ∷ codes "top chip" ∷ codes "clock ck" ∷ codes "cut RAM 2 open" ∷ codes "skipped set_sense 1"
    ∷ codes "total 0 kept 0 left 0 unwritten 0" ∷ []
unfolding digits told texts_from
cuts_are_told f = refl

whole_exception_stays : part_text whole ≡ codes " pairs 2 whole"
unfolding digits whole row
whole_exception_stays = refl

-- the ends of two classes stand in two commands
exception_of_two_commands : part_text parted ≡ codes " pairs 3 kept 2 written 2 lines 2"
unfolding digits parted row
exception_of_two_commands = refl

exception_of_three_commands : part_text three_classes ≡ codes " pairs 4 kept 3 written 3 lines 3"
unfolding digits three_classes row
exception_of_three_commands = refl

pair_with_a_name_that_stays_unwritten : part_text unwritten ≡ codes " pairs 2 kept 1 written 0 lines 0"
unfolding digits unwritten row
pair_with_a_name_that_stays_unwritten = refl

totals_of_three_exceptions : total_text (whole ∷ parted ∷ unwritten ∷ []) ≡ codes "total 7 kept 5 left 2 unwritten 1"
unfolding digits whole parted unwritten row
totals_of_three_exceptions = refl

hold_that_stays : fate_text (whole ∷ parted ∷ []) HoldStays ≡ codes " stays"
hold_that_stays = refl

hold_that_goes_by_two_commands : fate_text (whole ∷ parted ∷ []) (Follows 1) ≡ codes " lines 2"
unfolding digits whole parted row
hold_that_goes_by_two_commands = refl

hold_that_is_left_out : fate_text (whole ∷ parted ∷ []) LeftOut ≡ codes " left"
hold_that_is_left_out = refl

names : ℕ → List ℕ → PairLine
names command start = record { command = command; start = start; end = codes "u_watch/snap_reg" }

claim_of : ℕ → Claim
claim_of k = record {
  kind = Multi k;
  edge = Any;
  lag = 0;
  hazard = false;
  early = false;
  start = RegStart 0;
  end = RegEnd 0;
  through = [];
}

undecided_pair_is_left : left_text 8 (row 8 0 (RegEnd 0) false false) (names 4 (codes "u_settings/mode_reg")) (claim_of 2) (Undecided Stays)
    ≡ codes "left 9 command 4 multi 2 u_settings/mode_reg -> u_watch/snap_reg undecided depth 8"
unfolding digits row names claim_of
undecided_pair_is_left = refl

kept_pair_is_unwritten : left_text 8 (row 0 0 (RegEnd 0) true false) (names 1 (codes "bin[0]\\DFFC")) (claim_of 3) (Justified Single)
    ≡ codes "unwritten 1 command 1 multi 3 bin[0]\\DFFC -> u_watch/snap_reg justified single"
unfolding digits row names claim_of
kept_pair_is_unwritten = refl

claims : List Claim
claims = claim_of 2 ∷ claim_of 3 ∷ claim_of 4 ∷ claim_of 5 ∷ claim_of 6 ∷ claim_of 7 ∷ claim_of 8 ∷ []

-- all claims of the whole exception, and of another those of its written pairs: to registers first, then to output ports
claims_of_what_is_kept : mended_claims claims (whole ∷ parted ∷ unwritten ∷ []) ≡ claim_of 2 ∷ claim_of 3 ∷ claim_of 6 ∷ claim_of 5 ∷ []
unfolding claims whole parted unwritten row
claims_of_what_is_kept = refl

-- and to sinks last
claims_of_three_classes : mended_claims claims (three_classes ∷ []) ≡ claim_of 5 ∷ claim_of 4 ∷ claim_of 3 ∷ []
unfolding claims three_classes row
claims_of_three_classes = refl

line_of_a_text_that_is_not_read_back : mend_line Unread ≡ Some (codes "refused mend 1 Unread" ++ 10 ∷ [])
line_of_a_text_that_is_not_read_back = refl
