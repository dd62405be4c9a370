-- Where the members that stand only where they are asked for stand among those of a report.
use Rattle.std.proofs.Common.{◌≡◌, ◌==◌, ◌∙◌, ℕ, Bool, true, false, List, refl, ap}
use Rattle.std.specs.Prelude.{codes, Option, None, Some, is_some, if◌then◌else◌}
use Rattle.serde_json.specs.Data.{Data, Members, member, no_members, put}
use Rattle.run_options.specs.declared.options.RunOptions.{RunOptions}
use Rattle.selected_types.specs.declared.notices.Notices.{Notices}
use Rattle.selected_types.specs.declared.notices.Skipped.{Skipped}
use Rattle.report_json.specs.Reports.{cuts_data, cuts_member, name_member}
use Rattle.report_json.specs.Reports.{count_data, flag_member, lag_member, number_member, holds_member, skipped_member, unjudged_member}
use Rattle.report_json.specs.Reports.{tells_holds, unjudged_data}
use Rattle.report_json.specs.Objects.{with_asked, with_cuts, with_flag, with_holds, with_lag, with_name, with_number, with_skipped}

-- a member that is put last stands before those whose keys follow its own
unjudged_placed : (told : Bool) (budget commands depth inv mode pairs reset total unjudged : Data)
    → (let others = member (codes "budget") budget (member (codes "commands") commands (member (codes "depth") depth
    (member (codes "inv") inv (member (codes "mode") mode (member (codes "pairs") pairs (member (codes "reset") reset
    (member (codes "total") total no_members))))))) in
    if told then put (codes "unjudged") unjudged others else others)
    ≡ member (codes "budget") budget (member (codes "commands") commands (member (codes "depth") depth
    (member (codes "inv") inv (member (codes "mode") mode (member (codes "pairs") pairs (member (codes "reset") reset
    (member (codes "total") total (if told then member (codes "unjudged") unjudged no_members else no_members))))))))
unjudged_placed true budget commands depth inv mode pairs reset total unjudged = refl
unjudged_placed false budget commands depth inv mode pairs reset total unjudged = refl

top_placed : (top : Option (List ℕ)) (budget commands depth inv mode pairs reset total : Data) (rest : Members)
    → with_name (codes "top") top (member (codes "budget") budget (member (codes "commands") commands (member (codes "depth") depth
    (member (codes "inv") inv (member (codes "mode") mode (member (codes "pairs") pairs (member (codes "reset") reset
    (member (codes "total") total rest))))))))
    ≡ member (codes "budget") budget (member (codes "commands") commands (member (codes "depth") depth
    (member (codes "inv") inv (member (codes "mode") mode (member (codes "pairs") pairs (member (codes "reset") reset
    (name_member (codes "top") top (member (codes "total") total rest))))))))
top_placed None budget commands depth inv mode pairs reset total rest = refl
top_placed (Some name) budget commands depth inv mode pairs reset total rest = refl

strict_placed : (strict : Bool) (top : Option (List ℕ)) (budget commands depth inv mode pairs reset total : Data) (rest : Members)
    → with_flag (codes "strict") strict (member (codes "budget") budget (member (codes "commands") commands (member (codes "depth") depth
    (member (codes "inv") inv (member (codes "mode") mode (member (codes "pairs") pairs (member (codes "reset") reset
    (name_member (codes "top") top (member (codes "total") total rest)))))))))
    ≡ member (codes "budget") budget (member (codes "commands") commands (member (codes "depth") depth
    (member (codes "inv") inv (member (codes "mode") mode (member (codes "pairs") pairs (member (codes "reset") reset
    (flag_member (codes "strict") strict (name_member (codes "top") top (member (codes "total") total rest)))))))))
strict_placed true None budget commands depth inv mode pairs reset total rest = refl
strict_placed true (Some name) budget commands depth inv mode pairs reset total rest = refl
strict_placed false top budget commands depth inv mode pairs reset total rest = refl

skipped_placed : (skipped : Option (List Skipped)) (strict : Bool) (top : Option (List ℕ)) (budget commands depth inv mode pairs reset total : Data)
    (rest : Members) → with_skipped skipped (member (codes "budget") budget (member (codes "commands") commands (member (codes "depth") depth
    (member (codes "inv") inv (member (codes "mode") mode (member (codes "pairs") pairs (member (codes "reset") reset
    (flag_member (codes "strict") strict (name_member (codes "top") top (member (codes "total") total rest))))))))))
    ≡ member (codes "budget") budget (member (codes "commands") commands (member (codes "depth") depth
    (member (codes "inv") inv (member (codes "mode") mode (member (codes "pairs") pairs (member (codes "reset") reset
    (skipped_member skipped (flag_member (codes "strict") strict (name_member (codes "top") top (member (codes "total") total rest))))))))))
skipped_placed None strict top budget commands depth inv mode pairs reset total rest = refl
skipped_placed (Some skipped) true top budget commands depth inv mode pairs reset total rest = refl
skipped_placed (Some skipped) false None budget commands depth inv mode pairs reset total rest = refl
skipped_placed (Some skipped) false (Some name) budget commands depth inv mode pairs reset total rest = refl

lag_placed : (none : Bool) (budget commands depth inv lag mode : Data) (rest : Members)
    → (let others = member (codes "budget") budget (member (codes "commands") commands (member (codes "depth") depth
    (member (codes "inv") inv (member (codes "mode") mode rest)))) in
    if none then others else put (codes "lag") lag others)
    ≡ member (codes "budget") budget (member (codes "commands") commands (member (codes "depth") depth
    (member (codes "inv") inv (if none then member (codes "mode") mode rest else member (codes "lag") lag (member (codes "mode") mode rest)))))
lag_placed true budget commands depth inv lag mode rest = refl
lag_placed false budget commands depth inv lag mode rest = refl

holds_placed : (told : Bool) (budget commands depth inv holds : Data) (rest : Members)
    → (let others = member (codes "budget") budget (member (codes "commands") commands (member (codes "depth") depth
    (member (codes "inv") inv rest))) in
    if told then put (codes "hold_commands") holds others else others)
    ≡ member (codes "budget") budget (member (codes "commands") commands (member (codes "depth") depth
    (if told then member (codes "hold_commands") holds (member (codes "inv") inv rest) else member (codes "inv") inv rest)))
holds_placed true budget commands depth inv holds rest = refl
holds_placed false budget commands depth inv holds rest = refl

hold_placed : (hold told : Bool) (budget commands depth inv holds : Data) (rest : Members)
    → (let following = if told then member (codes "hold_commands") holds (member (codes "inv") inv rest) else member (codes "inv") inv rest in
    with_flag (codes "hold") hold (member (codes "budget") budget (member (codes "commands") commands (member (codes "depth") depth following)))
    ≡ member (codes "budget") budget (member (codes "commands") commands (member (codes "depth") depth (flag_member (codes "hold") hold following))))
hold_placed true true budget commands depth inv holds rest = refl
hold_placed true false budget commands depth inv holds rest = refl
hold_placed false told budget commands depth inv holds rest = refl

free_placed : (free : Option ℕ) (hold told : Bool) (budget commands depth inv holds : Data) (rest : Members)
    → (let following = flag_member (codes "hold") hold
    (if told then member (codes "hold_commands") holds (member (codes "inv") inv rest) else member (codes "inv") inv rest) in
    with_number (codes "free") free (member (codes "budget") budget (member (codes "commands") commands (member (codes "depth") depth following)))
    ≡ member (codes "budget") budget (member (codes "commands") commands (member (codes "depth") depth (number_member (codes "free") free following))))
free_placed None hold told budget commands depth inv holds rest = refl
free_placed (Some number) true told budget commands depth inv holds rest = refl
free_placed (Some number) false true budget commands depth inv holds rest = refl
free_placed (Some number) false false budget commands depth inv holds rest = refl

cuts_placed : (told : Bool) (budget commands depth cuts : Data) (rest : Members)
    → (let others = member (codes "budget") budget (member (codes "commands") commands (member (codes "depth") depth rest)) in
    if told then put (codes "cuts") cuts others else others)
    ≡ member (codes "budget") budget (member (codes "commands") commands
    (if told then member (codes "cuts") cuts (member (codes "depth") depth rest) else member (codes "depth") depth rest))
cuts_placed true budget commands depth cuts rest = refl
cuts_placed false budget commands depth cuts rest = refl

clock_placed : (clock : Option (List ℕ)) (budget commands : Data) (rest : Members)
    → with_name (codes "clock") clock (member (codes "budget") budget (member (codes "commands") commands rest))
    ≡ member (codes "budget") budget (name_member (codes "clock") clock (member (codes "commands") commands rest))
clock_placed None budget commands rest = refl
clock_placed (Some name) budget commands rest = refl

assumed_placed : (assumed : Option ℕ) (budget : Data) (rest : Members)
    → with_number (codes "assumed") assumed (member (codes "budget") budget rest)
    ≡ number_member (codes "assumed") assumed (member (codes "budget") budget rest)
assumed_placed None budget rest = refl
assumed_placed (Some number) budget rest = refl

assist_placed : (assist assumed : Option ℕ) (budget : Data) (rest : Members)
    → with_number (codes "assist") assist (number_member (codes "assumed") assumed (member (codes "budget") budget rest))
    ≡ number_member (codes "assist") assist (number_member (codes "assumed") assumed (member (codes "budget") budget rest))
assist_placed None assumed budget rest = refl
assist_placed (Some number) None budget rest = refl
assist_placed (Some number) (Some count) budget rest = refl

-- so each of them has its place
pub asked_placed : (o : RunOptions) (n : Notices) (budget commands depth inv mode pairs reset total : Data)
    → with_asked o n (member (codes "budget") budget (member (codes "commands") commands (member (codes "depth") depth
    (member (codes "inv") inv (member (codes "mode") mode (member (codes "pairs") pairs (member (codes "reset") reset
    (member (codes "total") total no_members))))))))
    ≡ number_member (codes "assist") o.assist (number_member (codes "assumed") o.assumed (member (codes "budget") budget
    (name_member (codes "clock") n.clock (member (codes "commands") commands (cuts_member o n (member (codes "depth") depth
    (number_member (codes "free") o.free (flag_member (codes "hold") o.hold (holds_member o n (member (codes "inv") inv (lag_member o.lag
    (member (codes "mode") mode (member (codes "pairs") pairs (member (codes "reset") reset (skipped_member n.skipped
    (flag_member (codes "strict") o.strict (name_member (codes "top") n.top
    (member (codes "total") total (unjudged_member o n no_members)))))))))))))))))))
asked_placed o n budget commands depth inv mode pairs reset total =
    let after_clock = λ (m : Members). with_number (codes "assist") o.assist (with_number (codes "assumed") o.assumed m) in
    let after_cuts = λ (m : Members). after_clock (with_name (codes "clock") n.clock m) in
    let after_free = λ (m : Members). after_cuts (with_cuts o n m) in
    let after_hold = λ (m : Members). after_free (with_number (codes "free") o.free m) in
    let after_holds = λ (m : Members). after_hold (with_flag (codes "hold") o.hold m) in
    let after_lag = λ (m : Members). after_holds (with_holds o n m) in
    let after_skipped = λ (m : Members). after_lag (with_lag o.lag m) in
    let after_strict = λ (m : Members). after_skipped (with_skipped n.skipped m) in
    let after_top = λ (m : Members). after_strict (with_flag (codes "strict") o.strict m) in
    let holds : Data = count_data n.hold_commands in
    let unjudged : Members = unjudged_member o n no_members in
    let ends : Members = member (codes "pairs") pairs (member (codes "reset") reset (skipped_member n.skipped (flag_member (codes "strict") o.strict
    (name_member (codes "top") n.top (member (codes "total") total unjudged))))) in
    let lagging : Members = lag_member o.lag (member (codes "mode") mode ends) in
    let free : Members = number_member (codes "free") o.free (flag_member (codes "hold") o.hold (holds_member o n (member (codes "inv") inv lagging))) in
    let cutting : Members = cuts_member o n (member (codes "depth") depth free) in
    let clocking : Members = name_member (codes "clock") n.clock (member (codes "commands") commands cutting) in
    ap (λ (m : Members). after_top (with_name (codes "top") n.top m))
    (unjudged_placed o.strict budget commands depth inv mode pairs reset total (unjudged_data n.unjudged))
    ∙ ap after_top (top_placed n.top budget commands depth inv mode pairs reset total unjudged)
    ∙ ap after_strict (strict_placed o.strict n.top budget commands depth inv mode pairs reset total unjudged)
    ∙ ap after_skipped (skipped_placed n.skipped o.strict n.top budget commands depth inv mode pairs reset total unjudged)
    ∙ ap after_lag (lag_placed (o.lag == 0) budget commands depth inv (count_data o.lag) mode ends)
    ∙ ap after_holds (holds_placed (tells_holds o) budget commands depth inv holds lagging)
    ∙ ap after_hold (hold_placed o.hold (tells_holds o) budget commands depth inv holds lagging)
    ∙ ap after_free (free_placed o.free o.hold (tells_holds o) budget commands depth inv holds lagging)
    ∙ ap after_cuts (cuts_placed (is_some o.free) budget commands depth (cuts_data n.cuts) free)
    ∙ ap after_clock (clock_placed n.clock budget commands cutting)
    ∙ ap (with_number (codes "assist") o.assist) (assumed_placed o.assumed budget clocking)
    ∙ assist_placed o.assist o.assumed budget clocking
