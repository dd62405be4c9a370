-- The lines of pairs and of exceptions, one after another.
use Rattle.std.proofs.Common.{◌≡◌, ◌∙◌, ℕ, ◌+◌, ◌<◌, ◌≤◌, Bool, true, false, if◌then◌else◌, List, [], ◌∷◌, ◌++◌, length, map, take, drop, get_or, refl, sym, ap}
use Rattle.std.proofs.Common.{append_assoc, append-nil}
use Rattle.std.specs.Prelude.{Some, None, Option, slice_get}
use Rattle.std.specs.List.{flat_map}
use Rattle.std.proofs.lemmas.List.{take_more, drop_more, drop_all, map-append}
use Rattle.std.proofs.lemmas.Grind.{flat_map-append}
use Rattle.std.proofs.lemmas.Option.{slice_get_within, get_or_from_slice_get, slice_get_past}
use Rattle.std.proofs.lemmas.Bool.{cond_both}
use Rattle.list_laws.proofs.Joining.{pushed, added_nothing}
use Rattle.witness_replay.specs.StimulusTexts.{line_of}
use Rattle.script_types.specs.declared.scripts.Command.{Command}
use Rattle.selected_types.specs.declared.selections.CommandLine.{CommandLine}
use Rattle.exception_expand.specs.Selections.{is_exception}
use Rattle.net_model.specs.declared.claims.Claim.{Claim}
use Rattle.selected_types.specs.declared.selections.PairLine.{PairLine}
use Rattle.mend_groups.specs.declared.rows.Row.{Row}
use Rattle.mend_groups.specs.declared.parts.Part.{Part}
use Rattle.mended_text.specs.Scenes.{Findings}
use Rattle.mended_text.specs.Tellings.{exception_texts, left_by, left_of, left_rows, parted_rows, texts_from}

-- the lines of one item follow those of the items before it
pub lines_added : {A : Type 0} (g : A → List (List ℕ)) (xs : List A) (k : ℕ) (d : A) (old now new : List (List ℕ)) → k < length xs
    → new ≡ now ++ map line_of (g (get_or xs k d)) → now ≡ old ++ map line_of (flat_map g (take k xs))
    → new ≡ old ++ map line_of (flat_map g (take (k + 1) xs))
lines_added {A} g xs k d old now new low turn before =
    let x : A = get_or xs k d in
    let whole : map line_of (flat_map g (take (k + 1) xs)) ≡ map line_of (flat_map g (take k xs)) ++ map line_of (g x) =
    ap (λ (l : List A). map line_of (flat_map g l)) (take_more xs k d low)
    ∙ ap (map line_of) (flat_map-append g (take k xs) (x ∷ []) ∙ ap (λ (l : List (List ℕ)). flat_map g (take k xs) ++ l) (append-nil (g x)))
    ∙ map-append line_of (flat_map g (take k xs)) (g x) in
    pushed old now new (map line_of (g x)) (map line_of (flat_map g (take (k + 1) xs))) (map line_of (flat_map g (take k xs))) before turn whole

-- the lines of one item more, each item of which has one line
pub line_added : {A : Type 0} (g : A → List ℕ) (xs : List A) (k : ℕ) (x : A) (old now new : List (List ℕ)) → k < length xs → x ≡ get_or xs k x
    → new ≡ now ++ line_of (g x) ∷ [] → now ≡ old ++ map line_of (map g (take k xs)) → new ≡ old ++ map line_of (map g (take (k + 1) xs))
line_added {A} g xs k x old now new low here turn before =
    let whole : map line_of (map g (take (k + 1) xs)) ≡ map line_of (map g (take k xs)) ++ line_of (g x) ∷ [] =
    ap (λ (l : List A). map line_of (map g l)) (take_more xs k x low)
    ∙ ap (map line_of) (map-append g (take k xs) (get_or xs k x ∷ []))
    ∙ map-append line_of (map g (take k xs)) (g (get_or xs k x) ∷ [])
    ∙ ap (λ (y : A). map line_of (map g (take k xs)) ++ line_of (g y) ∷ []) (sym here) in
    pushed old now new (line_of (g x) ∷ []) (map line_of (map g (take (k + 1) xs))) (map line_of (map g (take k xs))) before turn whole

-- the lines of what is left of the exceptions
abbrev rest_of : Findings → List Part → List CommandLine → List Command → ℕ → ℕ → List (List ℕ)
rest_of f parts listed commands place k = map line_of (texts_from f parts place (drop place listed) (drop k commands))

drop_next : {A : Type 0} (xs : List A) (k : ℕ) (x : A) → slice_get xs k ≡ Some x → drop k xs ≡ x ∷ drop (k + 1) xs
drop_next xs k x here =
    drop_more xs k x (slice_get_within xs k x here) ∙ ap (λ y. y ∷ drop (k + 1) xs) (get_or_from_slice_get xs k x x here)

-- the texts of an exception and of those after it
texts_next : (f : Findings) (parts : List Part) (place : ℕ) (line : CommandLine) (lines : List CommandLine) (c : Command) (commands : List Command)
    → is_exception c.what ≡ true
    → texts_from f parts place (line ∷ lines) (c ∷ commands) ≡ exception_texts f parts place line c.what ++ texts_from f parts (place + 1) lines commands
unfolding texts_from
texts_next f parts place line lines c commands is =
    ap (λ (b : Bool). if b then exception_texts f parts place line c.what ++ texts_from f parts (place + 1) lines commands
    else texts_from f parts place (line ∷ lines) commands) is

none_listed : (f : Findings) (parts : List Part) (place : ℕ) (commands : List Command) → texts_from f parts place [] commands ≡ []
unfolding texts_from
none_listed f parts place [] = refl
none_listed f parts place (c ∷ commands) = refl

none_left : (f : Findings) (parts : List Part) (place : ℕ) (lines : List CommandLine) → texts_from f parts place lines [] ≡ []
unfolding texts_from
none_left f parts place [] = refl
none_left f parts place (line ∷ lines) = refl

-- a command that is no exception has none
texts_other : (f : Findings) (parts : List Part) (place : ℕ) (lines : List CommandLine) (c : Command) (commands : List Command)
    → is_exception c.what ≡ false → texts_from f parts place lines (c ∷ commands) ≡ texts_from f parts place lines commands
unfolding texts_from
texts_other f parts place [] c commands other = sym (none_listed f parts place commands)
texts_other f parts place (line ∷ lines) c commands other =
    ap (λ (b : Bool). if b then exception_texts f parts place line c.what ++ texts_from f parts (place + 1) lines commands
    else texts_from f parts place (line ∷ lines) commands) other

-- the lines of an exception follow those of the exceptions before it
pub exception_told : (f : Findings) (parts : List Part) (listed : List CommandLine) (commands : List Command) (place k : ℕ) (line : CommandLine)
    (c : Command) (now new whole : List (List ℕ)) → slice_get listed place ≡ Some line → slice_get commands k ≡ Some c → is_exception c.what ≡ true
    → new ≡ now ++ map line_of (exception_texts f parts place line c.what)
    → now ++ map line_of (texts_from f parts place (drop place listed) (drop k commands)) ≡ whole
    → new ++ map line_of (texts_from f parts (place + 1) (drop (place + 1) listed) (drop (k + 1) commands)) ≡ whole
exception_told f parts listed commands place k line c now new whole listed_at command_at is turn before =
    let these : List (List ℕ) = map line_of (exception_texts f parts place line c.what) in
    let more : List (List ℕ) = rest_of f parts listed commands (place + 1) (k + 1) in
    let next : rest_of f parts listed commands place k ≡ these ++ more =
    ap (λ (l : List CommandLine). map line_of (texts_from f parts place l (drop k commands))) (drop_next listed place line listed_at)
    ∙ ap (λ (l : List Command). map line_of (texts_from f parts place (line ∷ drop (place + 1) listed) l)) (drop_next commands k c command_at)
    ∙ ap (map line_of) (texts_next f parts place line (drop (place + 1) listed) c (drop (k + 1) commands) is)
    ∙ map-append line_of (exception_texts f parts place line c.what) (texts_from f parts (place + 1) (drop (place + 1) listed) (drop (k + 1) commands)) in
    ap (λ (l : List (List ℕ)). l ++ more) turn ∙ append_assoc now these more ∙ ap (λ (l : List (List ℕ)). now ++ l) (sym next) ∙ before

-- a command that is no exception adds no line
pub other_told : (f : Findings) (parts : List Part) (listed : List CommandLine) (commands : List Command) (place k : ℕ) (c : Command)
    (now whole : List (List ℕ)) → slice_get commands k ≡ Some c → is_exception c.what ≡ false
    → now ++ map line_of (texts_from f parts place (drop place listed) (drop k commands)) ≡ whole
    → now ++ map line_of (texts_from f parts place (drop place listed) (drop (k + 1) commands)) ≡ whole
other_told f parts listed commands place k c now whole command_at other before =
    ap (λ (l : List (List ℕ)). now ++ map line_of l)
    (sym (ap (texts_from f parts place (drop place listed)) (drop_next commands k c command_at)
    ∙ texts_other f parts place (drop place listed) c (drop (k + 1) commands) other))
    ∙ before

-- nor does one where no exception is listed any more
pub none_told : (f : Findings) (parts : List Part) (listed : List CommandLine) (commands : List Command) (place k j : ℕ) (now whole : List (List ℕ))
    → length listed ≤ place → now ++ map line_of (texts_from f parts place (drop place listed) (drop k commands)) ≡ whole
    → now ++ map line_of (texts_from f parts place (drop place listed) (drop j commands)) ≡ whole
none_told f parts listed commands place k j now whole past before =
    let none : (i : ℕ) → texts_from f parts place (drop place listed) (drop i commands) ≡ [] = λ (i : ℕ).
    ap (λ (l : List CommandLine). texts_from f parts place l (drop i commands)) (drop_all place listed past)
    ∙ none_listed f parts place (drop i commands) in
    ap (λ (l : List (List ℕ)). now ++ map line_of l) (none j ∙ sym (none k)) ∙ before

-- all commands are told
pub all_told : (f : Findings) (parts : List Part) (listed : List CommandLine) (commands : List Command) (place k : ℕ) (now whole : List (List ℕ))
    → length commands ≤ k → now ++ map line_of (texts_from f parts place (drop place listed) (drop k commands)) ≡ whole → now ≡ whole
all_told f parts listed commands place k now whole past before =
    sym (append-nil now)
    ∙ ap (λ (l : List (List ℕ)). now ++ map line_of l)
    (sym (ap (texts_from f parts place (drop place listed)) (drop_all k commands past) ∙ none_left f parts place (drop place listed)))
    ∙ before

-- where the next place is known by an equation, and so are the lines
pub exception_told_at : (f : Findings) (parts : List Part) (listed : List CommandLine) (commands : List Command) (place k next : ℕ)
    (line : CommandLine) (c : Command) (now new whole : List (List ℕ)) → slice_get listed place ≡ Some line → slice_get commands k ≡ Some c
    → is_exception c.what ≡ true → next ≡ place + 1 → new ≡ now ++ map line_of (exception_texts f parts place line c.what)
    → now ++ map line_of (texts_from f parts place (drop place listed) (drop k commands)) ≡ whole
    → new ++ map line_of (texts_from f parts next (drop next listed) (drop (k + 1) commands)) ≡ whole
exception_told_at f parts listed commands place k next line c now new whole listed_at command_at is same turn before =
    rw same (exception_told f parts listed commands place k line c now new whole listed_at command_at is turn before)

pub other_told_at : (f : Findings) (parts : List Part) (listed : List CommandLine) (commands : List Command) (place k next : ℕ) (c : Command)
    (now new whole : List (List ℕ)) → slice_get commands k ≡ Some c → is_exception c.what ≡ false → next ≡ place → new ≡ now
    → now ++ map line_of (texts_from f parts place (drop place listed) (drop k commands)) ≡ whole
    → new ++ map line_of (texts_from f parts next (drop next listed) (drop (k + 1) commands)) ≡ whole
other_told_at f parts listed commands place k next c now new whole command_at other same stays before =
    rw (same, stays) (other_told f parts listed commands place k c now whole command_at other before)

pub none_told_at : (f : Findings) (parts : List Part) (listed : List CommandLine) (commands : List Command) (place k next : ℕ)
    (now new whole : List (List ℕ)) → length listed ≤ place → next ≡ place → new ≡ now
    → now ++ map line_of (texts_from f parts place (drop place listed) (drop k commands)) ≡ whole
    → new ++ map line_of (texts_from f parts next (drop next listed) (drop (k + 1) commands)) ≡ whole
none_told_at f parts listed commands place k next now new whole past same stays before =
    rw (same, stays) (none_told f parts listed commands place k (k + 1) now whole past before)

-- a written pair has no line
pub written_untold : (f : Findings) (r : Row) (now : List (List ℕ)) → r.written ≡ true → now ≡ now ++ map line_of (left_of f r)
written_untold f r now written =
    let none : left_of f r ≡ [] =
    ap (λ (b : Bool). if b then [] else left_by f.depth r (slice_get f.selected.pairs r.place) (slice_get f.selected.claims r.place)
    (slice_get f.verdicts r.place)) written in
    added_nothing now (map line_of (left_of f r)) (ap (map line_of) none)

left_none : (depth : ℕ) (r : Row) (p : Option PairLine) (c : Option Claim) → left_by depth r p c None ≡ []
left_none depth r (Some p) (Some c) = refl
left_none depth r (Some p) None = refl
left_none depth r None (Some c) = refl
left_none depth r None None = refl

-- nor has one without a verdict
pub unfound_untold : (f : Findings) (r : Row) (now : List (List ℕ)) → length f.verdicts ≤ r.place → now ≡ now ++ map line_of (left_of f r)
unfound_untold f r now past =
    let p = slice_get f.selected.pairs r.place in
    let c = slice_get f.selected.claims r.place in
    let none : left_by f.depth r p c (slice_get f.verdicts r.place) ≡ [] =
    ap (left_by f.depth r p c) (slice_get_past f.verdicts r.place past) ∙ left_none f.depth r p c in
    let empty : left_of f r ≡ [] =
    cond_both r.written [] (left_by f.depth r p c (slice_get f.verdicts r.place)) (λ (l : List (List ℕ)). l ≡ []) (λ written. refl) (λ other. none) in
    added_nothing now (map line_of (left_of f r)) (ap (map line_of) empty)

-- the pairs of the exception at a place
pub left_rows_some : (parts : List Part) (place : ℕ) (p : Part) → slice_get parts place ≡ Some p → left_rows parts place ≡ parted_rows p
left_rows_some parts place p at = rw (at, left_rows) refl

pub left_rows_none : (parts : List Part) (place : ℕ) → slice_get parts place ≡ None → left_rows parts place ≡ []
left_rows_none parts place at = rw (at, left_rows) refl
