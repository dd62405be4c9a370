-- The script of the found pairs selects exactly the written ones.
use Rattle.std.proofs.Common.{arith, ◌≡◌, ◌∙◌, ℕ, ◌+◌, ◌<◌, ◌≤◌, Bool, List, length, map, sym, ap, subst}
use Rattle.std.specs.Prelude.{slice_get, All}
use Rattle.std.specs.List.{AllZip}
use Rattle.net_model.specs.Judge.{Holds}
use Rattle.net_paths.specs.Those.{AreThose}
use Rattle.net_paths.proofs.Sifting.{those_same}
use Rattle.linked_types.specs.declared.names.Linked.{Linked}
use Rattle.linked_types.specs.Usable.{IsUsable}
use Rattle.sdcv_base.specs.Seqs.{each_at}
use Rattle.exception_expand.specs.declared.pairs.Pair.{Pair}
use Rattle.selected_types.specs.declared.selections.Selected.{Selected}
use Rattle.exception_expand.specs.Selections as spec
use Rattle.exception_expand.specs.Selections.{Chosen, IsSelectionOf}
use Rattle.mcp_detect.specs.declared.options.DetectOptions.{DetectOptions}
use Rattle.mcp_detect.specs.declared.detections.Detected.{Detected}
use Rattle.mcp_detect.specs.Detections.{AreDetected}
use Rattle.mcp_detect.specs.Options.{AreInRange}
use Rattle.mcp_detect.specs.Scripts.{registers_script}
use Rattle.script_types.specs.declared.scripts.Script.{Script}
use Rattle.multicycle_text.specs.Lines.{CheckLine}
use Rattle.multicycle_text.specs.Scripts.{commands_from}
use Rattle.multicycle_text.proofs.ScriptReads.{lines_read}
use Rattle.found_pairs.specs.Lines.{lines_of, found_lines, found_script}
use Rattle.found_pairs.specs.Laws.{pairs_listed, commands_listed, written_claims, judging_of, SelectsFound}
use Rattle.found_pairs.proofs.Holding.{written_hold}
use Rattle.found_pairs.proofs.Limits.{memory_alone}
use Rattle.found_pairs.proofs.Listing.{one_each, lines_listed}
use Rattle.found_pairs.proofs.Scripts.{IsLineOf, AreLines, lines_are, all_readable, StandFrom, chosen_from, lines_select, line_claims, lines_claim, lines_list, all_exceptions, length-chosen_from}
use Rattle.found_pairs.proofs.Trying.{written_of, written_lines, tried_claim, claims_of_lines, written_fewer, pairs_of, registers_claims, some_same, tried_pairs}

-- the commands of the script stand from its first place on
stand : (hold : Bool) (f : Detected) → StandFrom (found_script hold f) 0 (commands_from 1 (found_lines hold f))
stand hold f j = let at : 0 + j ≡ j = omega arith in ap (slice_get (commands_from 1 (found_lines hold f))) at

-- the numbers of its commands
numbers : (hold : Bool) (f : Detected) (j : ℕ) → j < length (found_lines hold f) → spec.number_of (found_script hold f) (0 + j) ≡ 0 + j + 1
numbers hold f j low = all_exceptions (0 + j + 1) 1 (found_lines hold f) (omega (arith, low))

-- what was found of the pairs of registers of a design
module _ (l : Linked) (o : DetectOptions) (f : Detected) (hold : Bool) (usable : IsUsable l) (range : AreInRange o) (is : AreDetected l o f) where
  -- the pairs of registers that were tried
  abbrev all : List Pair
  all = pairs_of is.pairs.chosen

  -- the lines, and the script of them
  abbrev lines : List CheckLine
  lines = found_lines hold f

  abbrev script : Script
  script = found_script hold f

  -- the pairs that are written, each with the place of its command
  abbrev chosen : List Chosen
  chosen = chosen_from 0 lines (written_of f.tried all)

  -- each has its line
  found : AllZip (IsLineOf l) (lines_of f.tried) (written_of f.tried all)
  found = written_lines l f.tried all (tried_pairs l o f is range)

  are : AreLines l lines (written_of f.tried all)
  are = lines_are l hold (lines_of f.tried) (written_of f.tried all) found

  -- exactly these are selected
  those : AreThose (spec.IsSelected l script (judging_of o)) (spec.script_pairs l script) chosen
  those = lines_select l script 0 1 lines (written_of f.tried all) usable are (stand hold f)

  -- they are few
  few : length chosen ≤ 10000
  few = omega (arith, is.few, written_fewer f.tried all, length-chosen_from 0 lines (written_of f.tried all))

  -- what else is selected by a selection of the text
  same_chosen : (s : Selected) (by : IsSelectionOf l script (judging_of o) s) → by.chosen ≡ chosen
  same_chosen s by = those_same (spec.IsSelected l script (judging_of o)) (spec.script_pairs l script) by.chosen chosen by.those those

  -- so the pairs are listed by their lines
  listed : (s : Selected) → IsSelectionOf l script (judging_of o) s → s.pairs ≡ pairs_listed 1 lines
  listed s by =
      let first : 0 + 1 ≡ 1 = omega arith in
      by.pairs ∙ ap (map (spec.line_of l script)) (same_chosen s by)
      ∙ lines_list l script 0 lines (written_of f.tried all) are (numbers hold f)
      ∙ ap (λ (n : ℕ). pairs_listed n lines) first

  -- and so are the commands
  commands : (s : Selected) → IsSelectionOf l script (judging_of o) s → s.commands ≡ commands_listed 1 lines
  commands s by =
      by.commands ∙ ap (λ (xs : List Chosen). each_at (spec.lines_at l script (judging_of o) xs) 0 script.commands) (same_chosen s by)
      ∙ lines_listed l script chosen 0 1 lines (written_of f.tried all) usable are
      (λ j x here. one_each l 0 j lines (written_of f.tried all) x are here)

  -- and what is claimed is what was found
  claimed : (tried s : Selected) → IsSelectionOf l registers_script (judging_of o) tried → IsSelectionOf l script (judging_of o) s
      → s.claims ≡ written_claims f.tried tried.claims
  claimed tried s from by =
      let judging = judging_of o in
      let one : from.chosen ≡ is.pairs.chosen =
      those_same (spec.IsSelected l registers_script (judging_of o)) (spec.script_pairs l registers_script) from.chosen is.pairs.chosen from.those
      is.pairs.those in
      let claims : tried.claims ≡ map (tried_claim judging) all =
      registers_claims l o.hazard tried from ∙ ap (λ (xs : List Chosen). map (tried_claim judging) (pairs_of xs)) one in
      some_same s.claims (line_claims judging (lines_of f.tried) (written_of f.tried all))
      (by.claims ∙ ap (map (spec.claim_of l script judging)) (same_chosen s by)
      ∙ lines_claim l script judging hold 0 1 (lines_of f.tried) (written_of f.tried all) found (stand hold f))
      ∙ claims_of_lines l judging f.tried all (tried_pairs l o f is range) ∙ sym (ap (written_claims f.tried) claims)

  pub selects_found : SelectsFound l o f hold
  selects_found = record {
    script = lines_read lines (all_readable l lines (written_of f.tried all) are);
    cause = λ fault by. memory_alone l lines o.hazard chosen fault those few by;
    exactly = λ tried s from by. record { commands = commands s by; pairs = listed s by; claims = claimed tried s from by };
    holds = λ s by. subst (All (Holds l.design)) (sym (claimed is.selected s is.pairs by)) (written_hold l o f is);
  }
