-- The stimulus of a refuted pair stands in the report.
use Rattle.std.proofs.Common.{◌≡◌, ℕ, zero, suc, ◌+◌, ◌<◌, ◌^◌, true, List, [], ◌∷◌, ◌++◌, length, map, refl, sym, ap, ◌∙◌, arith}
use Rattle.std.proofs.Common.{append_assoc}
use Rattle.std.specs.Prelude.{Some, slice_get, flat_map, Ok, Err, Vec}
use Rattle.std.specs.List.{list_all, concat}
use Rattle.std.specs.declared.alloc.Global.{Global}
use Rattle.std.proofs.lemmas.Bool.{and_from}
use Rattle.std.proofs.lemmas.Grind.{flat_map-append}
use Rattle.std.proofs.lemmas.List.{map-append}
use Rattle.std.proofs.lemmas.List.Folds.{list_all-append}
use Rattle.net_model.specs.declared.claims.Claim.{Claim}
use Rattle.net_model.specs.declared.cycles.Stimulus.{Stimulus}
use Rattle.sdcv_base.specs.Seqs.{each_at}
use Rattle.selected_types.specs.declared.notices.Notices.{Notices}
use Rattle.selected_types.specs.declared.selections.CommandLine.{CommandLine}
use Rattle.selected_types.specs.declared.selections.PairLine.{PairLine}
use Rattle.selected_types.specs.declared.selections.Selected.{Selected}
use Rattle.verdict_types.specs.declared.outcomes.Verdict.{Verdict}
use Rattle.verdict_types.specs.declared.outcomes.Verdict.TheVariants.{Refuted}
use Rattle.witness_replay.specs.StimulusTexts.{line_of, title_of, block_lines, block_text}
use Rattle.witness_replay.specs.Blocks.{HasFirstBlock, IsWritten}
use Rattle.witness_replay.specs.declared.faults.StimFault.TheVariants.{NoBlock, Form, Memory}
use Rattle.witness_replay.proofs.BlockLemmas.{fits_in, one_stimulus}
use Rattle.witness_replay.proofs.PassedLemmas.{passes, written_after}
use Rattle.run_options.specs.declared.options.RunOptions.{RunOptions}
use Rattle.report_text.specs.Rows.{HasRows, each_pair}
use Rattle.report_text.specs.Words.{header_text, pair_text, total_text}
use Rattle.report_text.specs.Notices.{notice_texts}
use Rattle.report_text.specs.Reports.{ReadsBack, bytes_of_lines, command_texts, stimulus_texts, pair_texts, report_lines, report_bytes}
use Rattle.report_text.proofs.Passing.{passes_header, passes_notices, passes_commands, passes_line, passes_texts}

-- what is done to each part is done to the whole
each_at-map : {A B C : Type 0} (g : B → C) (f : ℕ → A → List B) (place : ℕ) (xs : List A)
    → each_at (λ at x. map g (f at x)) place xs ≡ map g (each_at f place xs)
each_at-map g f place [] = refl
each_at-map g f place (x ∷ xs) = rw (each_at-map g f (place + 1) xs) (sym (map-append g (f place x) (each_at f (place + 1) xs)))

each_pair-map : {B C : Type 0} (g : B → C) (f : ℕ → PairLine → Claim → Verdict → List B) (n : ℕ) (ps : List PairLine) (cs : List Claim)
    (vs : List Verdict) → each_pair (λ m p c v. map g (f m p c v)) n ps cs vs ≡ map g (each_pair f n ps cs vs)
each_pair-map g f n [] cs vs = refl
each_pair-map g f n (p ∷ ps) [] vs = refl
each_pair-map g f n (p ∷ ps) (c ∷ cs) [] = refl
each_pair-map g f n (p ∷ ps) (c ∷ cs) (v ∷ vs) =
    rw (each_pair-map g f (n + 1) ps cs vs) (sym (map-append g (f n p c v) (each_pair f (n + 1) ps cs vs)))

concat-map : (ls : List (List ℕ)) → concat (map line_of ls) ≡ flat_map line_of ls
concat-map [] = refl
concat-map (l ∷ ls) = ap (λ (t : List ℕ). line_of l ++ t) (concat-map ls)

-- the texts of the exceptions, and those of the pairs
abbrev pub command_part : List CommandLine → List (List ℕ)
command_part commands = each_at (λ at c. command_texts (at + 1) c) 0 commands

abbrev pub pair_part : ℕ → Selected → List Verdict → List (List ℕ)
pair_part limit selected vs = each_pair (pair_texts limit) 1 selected.pairs selected.claims vs

-- the lines of a report are its texts, each with a newline
lines_are : (o : RunOptions) (n : Notices) (selected : Selected) (vs : List Verdict) → report_lines o n selected vs
    ≡ map line_of (header_text o ∷ (notice_texts n ++ (command_part selected.commands ++ (pair_part o.depth selected vs ++ total_text vs ∷ []))))
lines_are o n selected vs =
    let commands : List (List ℕ) = command_part selected.commands in
    let pairs : List (List ℕ) = pair_part o.depth selected vs in
    let ends : List (List ℕ) = total_text vs ∷ [] in
    rw (
      each_at-map line_of (λ at c. command_texts (at + 1) c) 0 selected.commands,
      each_pair-map line_of (pair_texts o.depth) 1 selected.pairs selected.claims vs,
    ) (ap (λ (l : List (List ℕ)). line_of (header_text o) ∷ l)
    (ap (λ (l : List (List ℕ)). map line_of (notice_texts n) ++ (map line_of commands ++ l)) (sym (map-append line_of pairs ends))
    ∙ ap (λ (l : List (List ℕ)). map line_of (notice_texts n) ++ l) (sym (map-append line_of commands (pairs ++ ends)))
    ∙ sym (map-append line_of (notice_texts n) (commands ++ (pairs ++ ends)))))

-- lines are cut where the block of a number begins, and none begins before it
record IsCutAt (number : ℕ) (s : Stimulus) (texts : List (List ℕ)) : Type 0 where
  before : List (List ℕ)
  after : List (List ℕ)
  is : texts ≡ before ++ (block_lines number s ++ after)
  passed : list_all (passes (title_of number)) before ≡ true

-- more lines in front
cut_later : (number : ℕ) (s : Stimulus) (front texts : List (List ℕ)) → list_all (passes (title_of number)) front ≡ true → IsCutAt number s texts
    → IsCutAt number s (front ++ texts)
cut_later number s front texts passed cut = record {
  before = front ++ cut.before;
  after = cut.after;
  is = ap (λ (l : List (List ℕ)). front ++ l) cut.is ∙ sym (append_assoc front cut.before (block_lines number s ++ cut.after));
  passed = list_all-append (passes (title_of number)) front cut.before
      ∙ and_from (list_all (passes (title_of number)) front) (list_all (passes (title_of number)) cut.before) passed cut.passed;
}

-- more lines after
cut_sooner : (number : ℕ) (s : Stimulus) (texts ends : List (List ℕ)) → IsCutAt number s texts → IsCutAt number s (texts ++ ends)
cut_sooner number s texts ends cut = record {
  before = cut.before;
  after = cut.after ++ ends;
  is = ap (λ (l : List (List ℕ)). l ++ ends) cut.is ∙ simp append_assoc;
  passed = cut.passed;
}

-- the lines of pairs are cut at the block of a refuted one
cut_pairs : (limit n k number : ℕ) (ps : List PairLine) (cs : List Claim) (vs : List Verdict) (offset : ℕ) (s : Stimulus) → length cs ≡ length ps
    → length vs ≡ length ps → slice_get vs k ≡ Some (Refuted offset s) → number ≡ n + k → number < 2 ^ 64
    → IsCutAt number s (each_pair (pair_texts limit) n ps cs vs)
cut_pairs limit n k number ps cs [] offset s claimed found is place small = cc
cut_pairs limit n k number [] cs (v ∷ vs) offset s claimed found is place small = absurd (omega arith)
cut_pairs limit n k number (p ∷ ps) [] (v ∷ vs) offset s claimed found is place small = absurd (omega arith)
cut_pairs limit n zero number (p ∷ ps) (c ∷ cs) (v ∷ vs) offset s claimed found is place small =
    let verdict : v ≡ Refuted offset s = cc in
    let same : n ≡ number = omega arith in
    let others : List (List ℕ) = each_pair (pair_texts limit) (n + 1) ps cs vs in
    record {
      before = pair_text limit n p c v ∷ [];
      after = others;
      is = ap (λ (w : Verdict). pair_text limit n p c v ∷ (stimulus_texts n w ++ others)) verdict
          ∙ ap (λ (m : ℕ). pair_text limit n p c v ∷ (block_lines m s ++ others)) same;
      passed = passes_line number limit n p c v;
    }
cut_pairs limit n (suc k) number (p ∷ ps) (c ∷ cs) (v ∷ vs) offset s claimed found is place small =
    cut_later number s (pair_texts limit n p c v) (each_pair (pair_texts limit) (n + 1) ps cs vs)
    (passes_texts number limit n p c v small (omega arith) (omega arith))
    (cut_pairs limit (n + 1) k number ps cs vs offset s (omega arith) (omega arith) is (omega arith) small)

-- what stands where lines are cut is written
written_cut : (number : ℕ) (s : Stimulus) (texts : List (List ℕ)) (report : List ℕ) → IsCutAt number s texts → report ≡ flat_map line_of texts
    → IsWritten number report s
written_cut number s texts report cut is =
    let before : List ℕ = flat_map line_of cut.before in
    let after : List ℕ = flat_map line_of cut.after in
    let block : List ℕ = block_text number s in
    written_after number s cut.before after report cut.passed
    (is ∙ ap (flat_map line_of) cut.is ∙ flat_map-append line_of cut.before (block_lines number s ++ cut.after)
    ∙ ap (λ (t : List ℕ). before ++ t) (flat_map-append line_of (block_lines number s) cut.after) ∙ sym (append_assoc before block after))

-- the stimulus of the pair at a place is written in the report under the pair's number
pub stimulus_written : (o : RunOptions) (n : Notices) (selected : Selected) (vs : List Verdict) (place offset : ℕ) (s : Stimulus)
    → HasRows selected vs → place + 1 < 2 ^ 64 → slice_get vs place ≡ Some (Refuted offset s) → IsWritten (place + 1) (report_bytes o n selected vs) s
stimulus_written o n selected vs place offset s rows small found =
    let number = place + 1 in
    let title = title_of number in
    let notices : List (List ℕ) = notice_texts n in
    let commands : List (List ℕ) = command_part selected.commands in
    let pairs : List (List ℕ) = pair_part o.depth selected vs in
    let ends : List (List ℕ) = total_text vs ∷ [] in
    let cut : IsCutAt number s pairs =
    cut_pairs o.depth 1 place number selected.pairs selected.claims vs offset s rows.claims rows.found found (omega arith) small in
    let after_notices : IsCutAt number s (commands ++ (pairs ++ ends)) =
    cut_later number s commands (pairs ++ ends) (passes_commands number 0 selected.commands) (cut_sooner number s pairs ends cut) in
    let after_header : IsCutAt number s (notices ++ (commands ++ (pairs ++ ends))) =
    cut_later number s notices (commands ++ (pairs ++ ends)) (passes_notices number n) after_notices in
    let header : list_all (passes title) (header_text o ∷ []) ≡ true = and_from (passes title (header_text o)) true (passes_header number o) refl in
    let texts : List (List ℕ) = header_text o ∷ (notices ++ (commands ++ (pairs ++ ends))) in
    written_cut number s texts (report_bytes o n selected vs)
    (cut_later number s (header_text o ∷ []) (notices ++ (commands ++ (pairs ++ ends))) header after_header)
    (ap concat (lines_are o n selected vs) ∙ concat-map texts)

-- the bytes of a report's lines, one after another, are those of the report
pub bytes_joined : (lines : List (Vec ℕ Global)) → flat_map (λ (line : Vec ℕ Global). line.items) lines ≡ concat (bytes_of_lines lines)
bytes_joined [] = refl
bytes_joined (line ∷ lines) = ap (λ (t : List ℕ). line.items ++ t) (bytes_joined lines)

-- what is read where a block stands is its stimulus
pub read_back : (number : ℕ) (report : List ℕ) (s : Stimulus) → HasFirstBlock number report s → ReadsBack number report s
read_back number report s has small (Ok t) reads fault =
    one_stimulus number report s t small has (record { fits = fits_in number report t small reads; others = reads.others; is = reads.is })
read_back number report s has small (Err NoBlock) reads none = let e = sym none ∙ has.is in cc
read_back number report s has small (Err (Form line)) reads broken = absurd (broken.none s has)
read_back number report s has small (Err Memory) reads fault = refl
