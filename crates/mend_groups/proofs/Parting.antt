-- The exceptions of a script, a command at a time.
use Rattle.std.proofs.Common.{◌≡◌, ◌∙◌, ℕ, ◌+◌, ◌≤◌, min, Bool, true, false, List, [], ◌∷◌, ◌++◌, length, drop, refl, sym, ap, append_assoc, append-nil}
use Rattle.std.specs.Prelude.{Option, Some, None, slice_get}
use Rattle.std.proofs.lemmas.List.{drop_more, drop_all}
use Rattle.std.proofs.lemmas.Option.{slice_get_within, get_or_from_slice_get}
use Rattle.script_types.specs.declared.scripts.Command.{Command}
use Rattle.selected_types.specs.declared.selections.CommandLine.{CommandLine}
use Rattle.selected_types.specs.declared.selections.Selected.{Selected}
use Rattle.verdict_types.specs.declared.outcomes.Verdict.{Verdict}
use Rattle.exception_expand.specs.Asking.{Asked, asked}
use Rattle.exception_expand.specs.Selections.{is_exception}
use Rattle.mend_groups.specs.declared.ports.Ports.{Ports}
use Rattle.mend_groups.specs.declared.parts.Part.{Part}
use Rattle.mend_groups.specs.Rows.{can_spell, rows_by}
use Rattle.mend_groups.specs.Parts.{count_of, rows_of, part_by, part_of, parts_from}
use Rattle.mend_groups.proofs.Rowing.{rows_capped}

-- what is left of a list begins with the item at its place
drop_next : {A : Type 0} (xs : List A) (k : ℕ) (x : A) → slice_get xs k ≡ Some x → drop k xs ≡ x ∷ drop (k + 1) xs
drop_next xs k x here =
    drop_more xs k x (slice_get_within xs k x here) ∙ ap (λ y. y ∷ drop (k + 1) xs) (get_or_from_slice_get xs k x x here)

module _ (ports : Ports) (hold : Bool) (s : Selected) (verdicts : List Verdict) where
  -- without a line, and without a command, there is no part
  no_line : (place : ℕ) (commands : List Command) → parts_from ports hold s verdicts place [] commands ≡ []
  unfolding parts_from
  no_line place [] = refl
  no_line place (c ∷ commands) = refl

  no_command : (place : ℕ) (lines : List CommandLine) → parts_from ports hold s verdicts place lines [] ≡ []
  unfolding parts_from
  no_command place lines = refl

  -- a command that is no exception has none
  passed : (place : ℕ) (lines : List CommandLine) (c : Command) (commands : List Command) → is_exception c.what ≡ false
      → parts_from ports hold s verdicts place lines (c ∷ commands) ≡ parts_from ports hold s verdicts place lines commands
  unfolding parts_from
  passed place [] c commands not = sym (no_line place commands)
  passed place (line ∷ lines) c commands not = rw not refl

  -- an exception has one
  taken : (place : ℕ) (line : CommandLine) (lines : List CommandLine) (c : Command) (commands : List Command) → is_exception c.what ≡ true
      → parts_from ports hold s verdicts place (line ∷ lines) (c ∷ commands)
      ≡ part_of ports s verdicts place (count_of line.listing) (asked hold c.what)
      ∷ parts_from ports hold s verdicts (place + count_of line.listing) lines commands
  unfolding parts_from
  taken place line lines c commands is = rw is refl

  -- a command is passed over
  pub part_passed : (place listed k : ℕ) (parts whole : List Part) (lines : List CommandLine) (commands : List Command) (c : Command)
      → slice_get commands k ≡ Some c → is_exception c.what ≡ false
      → parts ++ parts_from ports hold s verdicts place (drop listed lines) (drop k commands) ≡ whole
      → parts ++ parts_from ports hold s verdicts place (drop listed lines) (drop (k + 1) commands) ≡ whole
  part_passed place listed k parts whole lines commands c here not before =
      let step : parts_from ports hold s verdicts place (drop listed lines) (drop k commands) ≡
      parts_from ports hold s verdicts place (drop listed lines) (drop (k + 1) commands) =
      ap (parts_from ports hold s verdicts place (drop listed lines)) (drop_next commands k c here)
      ∙ passed place (drop listed lines) c (drop (k + 1) commands) not in
      ap (λ (xs : List Part). parts ++ xs) (sym step) ∙ before

  -- so it is where no line is left
  pub part_missed : (place listed k : ℕ) (parts whole : List Part) (lines : List CommandLine) (commands : List Command) → length lines ≤ listed
      → parts ++ parts_from ports hold s verdicts place (drop listed lines) (drop k commands) ≡ whole
      → parts ++ parts_from ports hold s verdicts place (drop listed lines) (drop (k + 1) commands) ≡ whole
  part_missed place listed k parts whole lines commands past before =
      let none : (n : ℕ) → parts_from ports hold s verdicts place (drop listed lines) (drop n commands) ≡ [] =
      λ n. ap (λ (ls : List CommandLine). parts_from ports hold s verdicts place ls (drop n commands)) (drop_all listed lines past)
      ∙ no_line place (drop n commands) in
      ap (λ (xs : List Part). parts ++ xs) (none (k + 1) ∙ sym (none k)) ∙ before

  -- a part is added
  part_more : (place listed k : ℕ) (parts new whole : List Part) (lines : List CommandLine) (commands : List Command) (line : CommandLine) (c : Command)
      → slice_get lines listed ≡ Some line → slice_get commands k ≡ Some c → is_exception c.what ≡ true
      → new ≡ parts ++ part_of ports s verdicts place (count_of line.listing) (asked hold c.what) ∷ []
      → parts ++ parts_from ports hold s verdicts place (drop listed lines) (drop k commands) ≡ whole
      → new ++ parts_from ports hold s verdicts (place + count_of line.listing) (drop (listed + 1) lines) (drop (k + 1) commands) ≡ whole
  part_more place listed k parts new whole lines commands line c told here is pushed before =
      let part : Part = part_of ports s verdicts place (count_of line.listing) (asked hold c.what) in
      let rest : List Part = parts_from ports hold s verdicts (place + count_of line.listing) (drop (listed + 1) lines) (drop (k + 1) commands) in
      let step : parts_from ports hold s verdicts place (drop listed lines) (drop k commands) ≡ part ∷ rest =
      ap (λ (ls : List CommandLine). parts_from ports hold s verdicts place ls (drop k commands)) (drop_next lines listed line told)
      ∙ ap (parts_from ports hold s verdicts place (line ∷ drop (listed + 1) lines)) (drop_next commands k c here)
      ∙ taken place line (drop (listed + 1) lines) c (drop (k + 1) commands) is in
      ap (λ (xs : List Part). xs ++ rest) pushed ∙ append_assoc parts (part ∷ []) rest ∙ ap (λ (xs : List Part). parts ++ xs) (sym step) ∙ before

  -- all commands are seen
  pub parts_over : (place listed k : ℕ) (parts whole : List Part) (lines : List CommandLine) (commands : List Command) → length commands ≤ k
      → parts ++ parts_from ports hold s verdicts place (drop listed lines) (drop k commands) ≡ whole → parts ≡ whole
  parts_over place listed k parts whole lines commands past before =
      let none : parts_from ports hold s verdicts place (drop listed lines) (drop k commands) ≡ [] =
      ap (parts_from ports hold s verdicts place (drop listed lines)) (drop_all k commands past) ∙ no_command place (drop listed lines) in
      sym (append-nil parts) ∙ ap (λ (xs : List Part). parts ++ xs) (sym none) ∙ before

  -- past the last verdict an exception has the same pairs everywhere
  rows_same : (here place count : ℕ) (by : Option Asked) → here ≡ min place (length verdicts)
      → rows_of ports s verdicts here count by ≡ rows_of ports s verdicts place count by
  rows_same here place count None capped = refl
  rows_same here place count (Some by) capped =
      ap (rows_by by.sides) (rows_capped ports (can_spell by.exception.through) s verdicts here place count capped)

  -- the part of an exception is added, whose pairs begin at this place or after all
  pub part_added : (place here count listed k : ℕ) (parts new whole : List Part) (lines : List CommandLine) (commands : List Command) (line : CommandLine)
      (c : Command) (part : Part) → here ≡ min place (length verdicts) → count ≡ count_of line.listing
      → slice_get lines listed ≡ Some line → slice_get commands k ≡ Some c → is_exception c.what ≡ true
      → part ≡ part_of ports s verdicts here count (asked hold c.what) → new ≡ parts ++ part ∷ []
      → parts ++ parts_from ports hold s verdicts place (drop listed lines) (drop k commands) ≡ whole
      → new ++ parts_from ports hold s verdicts (place + count) (drop (listed + 1) lines) (drop (k + 1) commands) ≡ whole
  part_added place here count listed k parts new whole lines commands line c part capped counted told command is made pushed before =
      let same : part ≡ part_of ports s verdicts place (count_of line.listing) (asked hold c.what) =
      made ∙ ap part_by (rows_same here place count (asked hold c.what) capped)
      ∙ ap (λ (n : ℕ). part_of ports s verdicts place n (asked hold c.what)) counted in
      ap (λ (n : ℕ). new ++ parts_from ports hold s verdicts (place + n) (drop (listed + 1) lines) (drop (k + 1) commands)) counted
      ∙ part_more place listed k parts new whole lines commands line c told command is (pushed ∙ ap (λ (x : Part). parts ++ x ∷ []) same) before
