-- The commands of groups and the bodies of a script's commands, one at a time.
use Rattle.std.proofs.Common.{◌≡◌, ◌∙◌, ℕ, ◌+◌, ◌≤◌, Bool, List, [], ◌∷◌, ◌++◌, length, take, drop, map, flat_map, ap, sym, append_assoc, append-nil}
use Rattle.std.specs.Prelude.{Option, Some, slice_get}
use Rattle.std.proofs.lemmas.List.{map-append, drop_all}
use Rattle.list_laws.proofs.Joining.{flat_next}
use Rattle.script_types.specs.declared.objects.Object.{Object}
use Rattle.script_types.specs.declared.scripts.Command.{Command}
use Rattle.script_types.specs.declared.scripts.Script.{Script}
use Rattle.selected_types.specs.declared.selections.PairLine.{PairLine}
use Rattle.selected_types.specs.declared.selections.Selected.{Selected}
use Rattle.verdict_types.specs.declared.outcomes.Verdict.{Verdict}
use Rattle.mend_groups.specs.declared.groups.Group.{Group}
use Rattle.mend_groups.specs.declared.parts.Part.{Part}
use Rattle.mend_lines.specs.Lines.{line_after, rests_of, lines_of_group, lines_after}
use Rattle.script_notices.specs.Companions.{next_place}
use Rattle.mend_lines.specs.Bodies.{body_of, bodies_from}
use Rattle.script_notices.proofs.Rests.{drop_here}

-- a group more
pub lines_next : (head : List ℕ) (pairs : List PairLine) (through : List (List Object)) (groups : List Group) (k : ℕ) (g : Group)
    → slice_get groups k ≡ Some g
    → lines_after head pairs through (take (k + 1) groups) ≡ lines_after head pairs through (take k groups) ++ lines_of_group head pairs through g
lines_next head pairs through groups k g here =
    ap (map (line_after head)) (flat_next (rests_of pairs through) groups k g here)
    ∙ map-append (line_after head) (flat_map (rests_of pairs through) (take k groups)) (rests_of pairs through g)

-- a command more
pub body_added : (depth : ℕ) (script : Script) (hold : Bool) (s : Selected) (verdicts : List Verdict) (parts : List Part) (place next k : ℕ)
    (commands : List Command) (c : Command) (all now new : List (Option (List ℕ))) → slice_get commands k ≡ Some c
    → new ≡ now ++ body_of depth script hold s verdicts parts place c.what ∷ [] → next ≡ next_place place c.what
    → all ≡ now ++ bodies_from depth script hold s verdicts parts place (drop k commands)
    → all ≡ new ++ bodies_from depth script hold s verdicts parts next (drop (k + 1) commands)
unfolding bodies_from
body_added depth script hold s verdicts parts place next k commands c all now new here turn goes so_far =
    let body = body_of depth script hold s verdicts parts place c.what in
    let rest : ℕ → List (Option (List ℕ)) = λ p. bodies_from depth script hold s verdicts parts p (drop (k + 1) commands) in
    so_far ∙ ap (λ (left : List Command). now ++ bodies_from depth script hold s verdicts parts place left) (drop_here commands k c here)
    ∙ sym (append_assoc now (body ∷ []) (rest (next_place place c.what)))
    ∙ ap (λ (bodies : List (Option (List ℕ))). bodies ++ rest (next_place place c.what)) (sym turn) ∙ ap (λ (p : ℕ). new ++ rest p) (sym goes)

-- and no command
pub bodies_done : (depth : ℕ) (script : Script) (hold : Bool) (s : Selected) (verdicts : List Verdict) (parts : List Part) (place k : ℕ)
    (commands : List Command) (all now : List (Option (List ℕ))) → length commands ≤ k
    → all ≡ now ++ bodies_from depth script hold s verdicts parts place (drop k commands) → now ≡ all
unfolding bodies_from
bodies_done depth script hold s verdicts parts place k commands all now past so_far =
    sym (so_far ∙ ap (λ (left : List Command). now ++ bodies_from depth script hold s verdicts parts place left) (drop_all k commands past) ∙ append-nil now)
