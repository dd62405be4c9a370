-- The lines of a report that are of no stimulus: each is one line, and begins none.
use Rattle.std.proofs.Common.{◌≡◌, ◌≢◌, ℕ, ◌+◌, ◌<◌, ◌^◌, ◌==◌, Bool, true, false, not, ◌&&◌, List, [], ◌∷◌, ◌++◌, map, refl, ◌∙◌, arith}
use Rattle.std.specs.Prelude.{nat_le, codes, Option, None, Some}
use Rattle.std.specs.Fmt.{decimal}
use Rattle.std.specs.List.{list_all}
use Rattle.std.proofs.lemmas.Bool.{and_parts, and_from, cond_both, leb-true}
use Rattle.std.proofs.lemmas.Bool.Decides.{nat_tests}
use Rattle.std.proofs.lemmas.List.Folds.{list_all-append}
use Rattle.sdcv_base.specs.Shown.{shown, shown_byte}
use Rattle.sdcv_base.specs.declared.kinds.Kind.{Kind}
use Rattle.sdcv_base.specs.declared.kinds.Kind.TheVariants.{False, Multi}
use Rattle.sdcv_base.specs.declared.kinds.Edge.{Edge}
use Rattle.sdcv_base.specs.declared.kinds.Edge.TheVariants.{Any, Rise, Fall}
use Rattle.net_model.specs.declared.claims.Claim.{Claim}
use Rattle.net_model.specs.declared.queries.Phase.{Phase}
use Rattle.net_model.specs.declared.queries.Phase.TheVariants.{Base, Step}
use Rattle.sdcv_base.specs.Seqs.{each_at}
use Rattle.selected_types.specs.declared.warnings.Warning.{Warning}
use Rattle.selected_types.specs.declared.warnings.Warning.TheVariants.{Nothing, Dropped, Several, Crossed, Beyond}
use Rattle.selected_types.specs.declared.selections.Listing.{Listing}
use Rattle.selected_types.specs.declared.selections.Listing.TheVariants.{Claiming, Hold, Aside, HoldSide}
use Rattle.selected_types.specs.declared.notices.CutCells.{CutCells}
use Rattle.selected_types.specs.declared.notices.Skipped.{Skipped}
use Rattle.selected_types.specs.declared.notices.Unjudged.{Unjudged}
use Rattle.selected_types.specs.declared.notices.Notices.{Notices}
use Rattle.selected_types.specs.declared.selections.CommandLine.{CommandLine}
use Rattle.selected_types.specs.declared.selections.PairLine.{PairLine}
use Rattle.verdict_types.specs.declared.outcomes.Proof.{Proof}
use Rattle.verdict_types.specs.declared.outcomes.Proof.TheVariants.{Single, Fixed, Depth}
use Rattle.verdict_types.specs.declared.outcomes.Cause.{Cause}
use Rattle.verdict_types.specs.declared.outcomes.Cause.TheVariants.{Depth as Stays, Budget, Free, Cut}
use Rattle.verdict_types.specs.declared.outcomes.Verdict.{Verdict}
use Rattle.verdict_types.specs.declared.outcomes.Verdict.TheVariants.{Justified, Refuted, Undecided}
use Rattle.witness_replay.specs.StimulusTexts.{title_of}
use Rattle.witness_replay.proofs.LineLemmas.{is_inline}
use Rattle.witness_replay.proofs.WrittenLemmas.{inline_decimal}
use Rattle.witness_replay.proofs.PassedLemmas.{passes, passes_block}
use Rattle.run_options.specs.declared.options.RunOptions.{RunOptions}
use Rattle.report_text.specs.Words.{mode_text, lag_text, number_text, flag_text, header_text}
use Rattle.report_text.specs.Words.{kind_text, edge_text, words_of, what_text, count_text, command_text, warning_text, warning_line}
use Rattle.report_text.specs.Words.{verdict_word, proof_text, phase_text, cause_text, why_text, pair_text}
use Rattle.report_text.specs.Notices.{named_text, named_texts, cut_text, skipped_text, skipped_texts, unjudged_text, hold_text, hold_texts}
use Rattle.report_text.specs.Notices.{netlist_texts, script_texts, notice_texts}
use Rattle.report_text.specs.Reports.{command_texts, pair_texts, stimulus_texts}

-- whether no byte of a text is a newline; the texts of a line are joined of such
inline-append : (a b : List ℕ) → is_inline (a ++ b) ≡ (is_inline a && is_inline b)
inline-append = list_all-append (λ b. not (b == 10))

shown_plain : (b : ℕ) → not (shown_byte b == 10) ≡ true
shown_plain b =
    cond_both (nat_le 32 b && nat_le b 126) b 63 (λ (c : ℕ). not (c == 10) ≡ true)
    (λ shows. let low = leb-true 32 b (and_parts (nat_le 32 b) (nat_le b 126) shows).0 in grind (arith, nat_tests)) (λ hides. refl)

inline_shown : (name : List ℕ) → is_inline (shown name) ≡ true
inline_shown [] = refl
inline_shown (b ∷ bs) = rw (shown_plain b, inline_shown bs) refl

inline_mode : (hazard : Bool) → is_inline (mode_text hazard) ≡ true
inline_mode true = refl
inline_mode false = refl

inline_kind : (kind : Kind) → is_inline (kind_text kind) ≡ true
inline_kind False = refl
inline_kind (Multi multiplier) = inline_decimal multiplier

inline_edge : (edge : Edge) → is_inline (edge_text edge) ≡ true
inline_edge Any = refl
inline_edge Rise = refl
inline_edge Fall = refl

inline_lag : (lag : ℕ) → is_inline (lag_text lag) ≡ true
inline_lag lag =
    cond_both (lag == 0) [] (codes " lag " ++ decimal lag) (λ (text : List ℕ). is_inline text ≡ true) (λ none. refl) (λ some. inline_decimal lag)

inline_number : (word : List ℕ) (number : Option ℕ) → is_inline word ≡ true → is_inline (number_text word number) ≡ true
inline_number word None plain = refl
inline_number word (Some number) plain = simp (inline-append, plain, inline_decimal)

inline_flag : (word : List ℕ) (stands : Bool) → is_inline word ≡ true → is_inline (flag_text word stands) ≡ true
inline_flag word true plain = plain
inline_flag word false plain = refl

inline_words : (kind : Kind) (early : Bool) (edge : Edge) → is_inline (words_of kind early edge) ≡ true
inline_words kind early edge = let side = inline_flag (codes " hold") early refl in simp (inline-append, inline_kind, side, inline_edge)

inline_what : (listing : Listing) → is_inline (what_text listing) ≡ true
inline_what (Claiming kind edge pairs) = inline_words kind false edge
inline_what Hold = refl
inline_what (Aside option) = inline_shown option
inline_what (HoldSide edge pairs) = inline_words False true edge

inline_count : (listing : Listing) → is_inline (count_text listing) ≡ true
inline_count (Claiming kind edge pairs) = inline_decimal pairs
inline_count Hold = refl
inline_count (Aside option) = refl
inline_count (HoldSide edge pairs) = inline_decimal pairs

inline_warning : (warning : Warning) → is_inline (warning_text warning) ≡ true
inline_warning (Nothing pattern) = inline_shown pattern
inline_warning (Dropped pattern count) = simp (inline-append, inline_shown, inline_decimal)
inline_warning (Several pattern) = inline_shown pattern
inline_warning (Crossed count) = inline_decimal count
inline_warning (Beyond count) = inline_decimal count

inline_word : (v : Verdict) → is_inline (verdict_word v) ≡ true
inline_word (Justified proof) = refl
inline_word (Refuted offset stimulus) = refl
inline_word (Undecided cause) = refl

inline_proof : (proof : Proof) → is_inline (proof_text proof) ≡ true
inline_proof Single = refl
inline_proof Fixed = refl
inline_proof (Depth depth base step) = inline_decimal depth

inline_phase : (phase : Phase) → is_inline (phase_text phase) ≡ true
inline_phase Base = refl
inline_phase Step = refl

inline_cause : (limit : ℕ) (cause : Cause) → is_inline (cause_text limit cause) ≡ true
inline_cause limit Stays = inline_decimal limit
inline_cause limit (Budget phase depth log) = simp (inline-append, inline_phase, inline_decimal)
inline_cause limit (Free offset stimulus) = inline_decimal offset
inline_cause limit Cut = refl

inline_why : (limit : ℕ) (v : Verdict) → is_inline (why_text limit v) ≡ true
inline_why limit (Justified proof) = inline_proof proof
inline_why limit (Refuted offset stimulus) = inline_decimal offset
inline_why limit (Undecided cause) = inline_cause limit cause

-- a line whose first letters are others than those of a stimulus
pub passes_header : (number : ℕ) (o : RunOptions) → passes (title_of number) (header_text o) ≡ true
passes_header number o =
    let hold = inline_flag (codes " hold") o.hold refl in
    let assist = inline_number (codes "assist") o.assist refl in
    let free = inline_number (codes "free") o.free refl in
    let assumed = inline_number (codes "assumed") o.assumed refl in
    let strict = inline_flag (codes " strict") o.strict refl in
    simp (inline-append, inline_mode, inline_decimal, inline_lag, hold, assist, free, assumed, strict)

passes_top : (number : ℕ) (name : List ℕ) → passes (title_of number) (named_text (codes "top") name) ≡ true
passes_top number name = simp (inline-append, inline_shown)

passes_clock : (number : ℕ) (name : List ℕ) → passes (title_of number) (named_text (codes "clock") name) ≡ true
passes_clock number name = simp (inline-append, inline_shown)

passes_cut : (number : ℕ) (c : CutCells) → passes (title_of number) (cut_text c) ≡ true
passes_cut number c = let word = inline_flag (codes " open") c.open refl in simp (inline-append, inline_shown, inline_decimal, word)

passes_skipped : (number : ℕ) (s : Skipped) → passes (title_of number) (skipped_text s) ≡ true
passes_skipped number s = simp (inline-append, inline_shown, inline_decimal)

passes_unjudged : (number : ℕ) (u : Unjudged) → passes (title_of number) (unjudged_text u) ≡ true
passes_unjudged number u = simp (inline-append, inline_shown, inline_decimal)

passes_hold : (number count : ℕ) → passes (title_of number) (hold_text count) ≡ true
passes_hold number count = simp (inline_decimal)

-- lines of which each passes
passes_all : {A : Type 0} (number : ℕ) (text : A → List ℕ) → ((x : A) → passes (title_of number) (text x) ≡ true) → (xs : List A)
    → list_all (passes (title_of number)) (map text xs) ≡ true
passes_all number text each [] = refl
passes_all number text each (x ∷ xs) =
    and_from (passes (title_of number) (text x)) (list_all (passes (title_of number)) (map text xs)) (each x) (passes_all number text each xs)

passes_all_skipped : (number : ℕ) (skipped : Option (List Skipped)) → list_all (passes (title_of number)) (skipped_texts skipped) ≡ true
passes_all_skipped number None = refl
passes_all_skipped number (Some skipped) = passes_all number skipped_text (passes_skipped number) skipped

passes_holds : (number count : ℕ) → list_all (passes (title_of number)) (hold_texts count) ≡ true
passes_holds number count =
    cond_both (count == 0) [] (hold_text count ∷ []) (λ (texts : List (List ℕ)). list_all (passes (title_of number)) texts ≡ true) (λ none. refl)
    (λ some. and_from (passes (title_of number) (hold_text count)) true (passes_hold number count) refl)

-- the lines of what is told of a script beside its exceptions
passes_script : (number : ℕ) (n : Notices) → list_all (passes (title_of number)) (script_texts n) ≡ true
passes_script number n =
    let passing = passes (title_of number) in
    let unjudged : List (List ℕ) = map unjudged_text n.unjudged in
    let holds : List (List ℕ) = hold_texts n.hold_commands in
    let last : list_all passing (unjudged ++ holds) ≡ true =
    list_all-append passing unjudged holds
    ∙ and_from (list_all passing unjudged) (list_all passing holds) (passes_all number unjudged_text (passes_unjudged number) n.unjudged)
    (passes_holds number n.hold_commands) in
    list_all-append passing (skipped_texts n.skipped) (unjudged ++ holds)
    ∙ and_from (list_all passing (skipped_texts n.skipped)) (list_all passing (unjudged ++ holds)) (passes_all_skipped number n.skipped) last

-- and those of what is told of a netlist
passes_named : (number : ℕ) (word : List ℕ) → ((name : List ℕ) → passes (title_of number) (named_text word name) ≡ true) → (name : Option (List ℕ))
    → list_all (passes (title_of number)) (named_texts word name) ≡ true
passes_named number word each None = refl
passes_named number word each (Some name) = and_from (passes (title_of number) (named_text word name)) true (each name) refl

passes_netlist : (number : ℕ) (n : Notices) → list_all (passes (title_of number)) (netlist_texts n) ≡ true
passes_netlist number n =
    let passing = passes (title_of number) in
    let top : List (List ℕ) = named_texts (codes "top") n.top in
    let clock : List (List ℕ) = named_texts (codes "clock") n.clock in
    let cuts : List (List ℕ) = map cut_text n.cuts in
    let last : list_all passing (clock ++ cuts) ≡ true =
    list_all-append passing clock cuts
    ∙ and_from (list_all passing clock) (list_all passing cuts) (passes_named number (codes "clock") (passes_clock number) n.clock)
    (passes_all number cut_text (passes_cut number) n.cuts) in
    list_all-append passing top (clock ++ cuts)
    ∙ and_from (list_all passing top) (list_all passing (clock ++ cuts)) (passes_named number (codes "top") (passes_top number) n.top) last

-- the lines of all that is told
pub passes_notices : (number : ℕ) (n : Notices) → list_all (passes (title_of number)) (notice_texts n) ≡ true
passes_notices number n =
    let passing = passes (title_of number) in
    list_all-append passing (netlist_texts n) (script_texts n)
    ∙ and_from (list_all passing (netlist_texts n)) (list_all passing (script_texts n)) (passes_netlist number n) (passes_script number n)

passes_command : (number place : ℕ) (c : CommandLine) → passes (title_of number) (command_text place c) ≡ true
passes_command number place c = simp (inline-append, inline_what, inline_count, inline_decimal)

passes_warning : (number place : ℕ) (warning : Warning) → passes (title_of number) (warning_line place warning) ≡ true
passes_warning number place warning = simp (inline-append, inline_warning, inline_decimal)

passes_pair : (number limit other : ℕ) (p : PairLine) (claim : Claim) (v : Verdict) → passes (title_of number) (pair_text limit other p claim v) ≡ true
passes_pair number limit other p claim v =
    let side = inline_flag (codes " hold") claim.early refl in
    simp (inline-append, inline_kind, side, inline_edge, inline_shown, inline_word, inline_why, inline_decimal)

passes_warnings : (number place : ℕ) (warnings : List Warning) → list_all (passes (title_of number)) (map (warning_line place) warnings) ≡ true
passes_warnings number place warnings = passes_all number (warning_line place) (passes_warning number place) warnings

-- the lines of the exceptions
pub passes_commands : (number place : ℕ) (commands : List CommandLine)
    → list_all (passes (title_of number)) (each_at (λ at c. command_texts (at + 1) c) place commands) ≡ true
passes_commands number place [] = refl
passes_commands number place (c ∷ cs) =
    let title = title_of number in
    let others : List (List ℕ) = each_at (λ at c. command_texts (at + 1) c) (place + 1) cs in
    and_from (passes title (command_text (place + 1) c)) (list_all (passes title) (map (warning_line (place + 1)) c.warnings ++ others))
    (passes_command number (place + 1) c)
    (list_all-append (passes title) (map (warning_line (place + 1)) c.warnings) others
    ∙ and_from (list_all (passes title) (map (warning_line (place + 1)) c.warnings)) (list_all (passes title) others)
    (passes_warnings number (place + 1) c.warnings) (passes_commands number (place + 1) cs))

passes_stimulus : (number other : ℕ) (v : Verdict) → number < 2 ^ 64 → other < 2 ^ 64 → number ≢ other
    → list_all (passes (title_of number)) (stimulus_texts other v) ≡ true
passes_stimulus number other (Justified proof) small fits differs = refl
passes_stimulus number other (Refuted offset s) small fits differs = passes_block number other s small fits differs
passes_stimulus number other (Undecided Stays) small fits differs = refl
passes_stimulus number other (Undecided (Budget phase depth log)) small fits differs = refl
passes_stimulus number other (Undecided (Free offset s)) small fits differs = passes_block number other s small fits differs
passes_stimulus number other (Undecided Cut) small fits differs = refl

-- the line of a pair
pub passes_line : (number limit other : ℕ) (p : PairLine) (claim : Claim) (v : Verdict)
    → list_all (passes (title_of number)) (pair_text limit other p claim v ∷ []) ≡ true
passes_line number limit other p claim v =
    and_from (passes (title_of number) (pair_text limit other p claim v)) true (passes_pair number limit other p claim v) refl

-- the lines of a pair of another number
pub passes_texts : (number limit other : ℕ) (p : PairLine) (claim : Claim) (v : Verdict) → number < 2 ^ 64 → other < 2 ^ 64 → number ≢ other
    → list_all (passes (title_of number)) (pair_texts limit other p claim v) ≡ true
passes_texts number limit other p claim v small fits differs =
    and_from (passes (title_of number) (pair_text limit other p claim v)) (list_all (passes (title_of number)) (stimulus_texts other v))
    (passes_pair number limit other p claim v) (passes_stimulus number other v small fits differs)
