-- How a command is built, one step after another, and what is computed of it.
use Rattle.std.proofs.Common.{◌≡◌, ◌∙◌, ◌<◌, ◌+◌, ◌||◌, false, ap, ap₂, sym, refl, true, ℕ, List, [], fold, take, get_or, length, map, ◌∷◌, subst, inl, inr}
use Rattle.std.proofs.Math.Bool.{or-false}
use Rattle.std.proofs.lemmas.Bool.{or_from}
use Rattle.std.proofs.lemmas.List.Folds.{fold-map}
use Rattle.std.proofs.lemmas.List.Sums.{fold_more}
use Rattle.clap.specs.declared.builder.Arg.{Arg}
use Rattle.clap.specs.declared.builder.Command.{Command}
use Rattle.clap.specs.declared.builder.Command.TheViews.{out-Command as fields_of}
use Rattle.clap.specs.declared.error.Error.{Error}
use Rattle.clap.specs.declared.error.ErrorKind.TheVariants as kind
use Rattle.clap.specs.Words.{AddsArg, AddsSubcommand, App, HasKind, Kinds, kind_of, is_simple, is_simple_and_free, new_app, rule_of, with_rule, with_subcommand}
use Rattle.clap.proofs.OnLiterals.{clap_on_literals}
use Rattle.clap_words.specs.declared.commands.CommandRow.{CommandRow as TheCommandRow}
use Rattle.clap_words.specs.Commands.{command_rows, seen_option, seen_row}
use Rattle.clap_words.specs.Apps.{IsCommand, Makes, app_from, command_app, position_rule, sdcv_app, top_app, with_commands, with_options}

-- a step more of a command that is built by one step for each item of a list
pub makes_more : {X : Type 0} (start old new : Command) (f : App → X → App) (g : App → App) (xs : List X) (i : ℕ) (d : X) → i < length xs
    → Makes start (λ a. fold f a (take i xs)) old → Makes old g new → ((a : App) → g a ≡ f a (get_or xs i d))
    → Makes start (λ a. fold f a (take (i + 1) xs)) new
makes_more start old new f g xs i d below makes adds same =
    (adds.0 ∙ ap g makes.0 ∙ same _ ∙ sym (fold_more f _ xs i d below), adds.1 ∙ makes.1)

pub is_free : is_simple_and_free sdcv_app ≡ true
unfolding clap_on_literals
is_free = refl

pub is_plain : is_simple sdcv_app ≡ true
unfolding clap_on_literals
is_plain = refl

-- an error of no kind that the words have is one of memory
pub from_none : (kinds : Kinds) (e : Error) → HasKind kinds e → kinds ≡ [] → kind_of e ≡ kind.OutOfMemory
from_none kinds e has none =
    let P : Kinds → Type 0 = λ ks. HasKind ks e in
    let at_none : HasKind [] e = subst P none has in
    elim at_none [ inl h ↦ h | inr h ↦ absurd h ]

-- an argument that is not global, the last
pub rule_more : (old new : Command) (a : Arg) → a.global ≡ false → AddsArg old a new → Makes old (λ b. with_rule b (rule_of a)) new
rule_more old new a local adds =
    (adds.shape local, adds.globals ∙ ap (λ g. (fields_of old).has_globals || g) local ∙ or-false (fields_of old).has_globals)

-- a subcommand more
pub commands_more : (old sub new : Command) (rows : List TheCommandRow) (i : ℕ) (d : TheCommandRow) → i < length rows
    → IsCommand (with_commands (take i rows) top_app) old → IsCommand (app_from (get_or rows i d)) sub → AddsSubcommand old sub new
    → IsCommand (with_commands (take (i + 1) rows) top_app) new
commands_more old sub new rows i d below is is_sub adds =
    let step : App → TheCommandRow → App = λ b row. with_subcommand b (app_from row).top in (
      adds.shape is_sub.1 ∙ ap₂ with_subcommand is.0 (ap (λ (a : App). a.top) is_sub.0) ∙ sym (fold_more step top_app rows i d below),
      adds.globals ∙ or_from (fields_of old).has_globals (fields_of sub).has_globals is.1 is_sub.1,
    )

-- a row of the program's table makes the command of the row that it shows
same_app : (row : TheCommandRow) → command_app (seen_row row) ≡ app_from row
same_app row =
    fold-map _ seen_option _ row.options.now
    ∙ ap (with_options row.options.now) (fold-map (λ (a : App) (id : List ℕ). with_rule a (position_rule id)) _ (new_app row.name.now) row.positions.now)

same_commands : (rows : List TheCommandRow) (a : App)
    → fold (λ b row. with_subcommand b (command_app row).top) a (map seen_row rows) ≡ with_commands rows a
same_commands [] a = refl
same_commands (x ∷ xs) a =
    ap (λ (s : App). fold (λ b row. with_subcommand b (command_app row).top) (with_subcommand a s.top) (map seen_row xs)) (same_app x)
    ∙ same_commands xs (with_subcommand a (app_from x).top)

-- the program's table makes the whole command
pub all_commands : (rows : List TheCommandRow) → map seen_row rows ≡ command_rows → with_commands rows top_app ≡ sdcv_app
all_commands rows shown =
    sym (same_commands rows top_app) ∙ ap (fold (λ a row. with_subcommand a (command_app row).top) top_app) shown
