-- Statements that are passed over: they keep to the grammar, and nothing of them is kept.
use Rattle.std.specs.Prelude.{ℕ, zero, suc, ◌+◌, ◌-◌, nat_lt, if◌then◌else◌, List, length, Ok}
use Rattle.lib_words.specs.Marks.{colon, comma, left_brace, left_paren, right_brace, right_paren, semicolon}
use Rattle.lib_words.specs.declared.passes.Passed.{Passed}
use Rattle.texts.specs.Rules.{◌>>=◌}
use Rattle.lib_words.specs.Reads.{After, Rule, refused, deep}
use Rattle.lib_words.specs.Tokens.{is_next, after_mark, mark_at, name_at}
use Rattle.lib_words.specs.Runs.{argument_at}
use Rattle.lib_words.specs.Values.{value_at}
use Rattle.lib_words.specs.Lists.{list_at}

-- nothing is kept
abbrev pub nothing : Passed
nothing = record {}

-- an argument
abbrev pub passes_argument : Passed → Rule Passed
passes_argument found total s = argument_at total s >>= λ p. Ok (found, p.1)

-- arguments in parentheses
unfoldable pub after_arguments : ℕ → List ℕ → After
after_arguments total s = mark_at left_paren total s >>= λ r. list_at right_paren comma passes_argument nothing total r >>= λ p. Ok p.1

-- the `{` of a group, where so many groups are open of those that may be
unfoldable pub enter_at : ℕ → ℕ → ℕ → List ℕ → After
enter_at room opened total s = if nat_lt opened room then mark_at left_brace total s else deep total s

-- where a `{` may stand: how many groups are open then
unfoldable pub opened_at : ℕ → ℕ → Rule ℕ
opened_at room opened total s = if is_next left_brace s then (enter_at room opened total s >>= λ r. Ok (opened + 1, r)) else Ok (opened, s)

-- after a statement's name: `:` and a value, or arguments and maybe the `{` of a group; and how many groups are open then
unfoldable pub tail_at : ℕ → ℕ → Rule ℕ
tail_at room opened total s =
    if is_next colon s then (value_at total (after_mark s) >>= λ v. Ok (opened, v.1))
    else (after_arguments total s >>= λ r. opened_at room opened total r)

-- in open groups: the `}` of the innermost, a `;`, or a statement up to its value, arguments or `{`; and how many groups
-- are open then
unfoldable pub step_at : ℕ → ℕ → Rule ℕ
step_at room opened total s =
    if is_next right_brace s then Ok (opened - 1, after_mark s)
    else if is_next semicolon s then Ok (opened, after_mark s)
    else (name_at total s >>= λ n. tail_at room opened total n.1)

-- after all groups that are open, in at most n such steps
unfoldable pub passed_from : ℕ → ℕ → ℕ → ℕ → List ℕ → After
passed_from room n zero total s = Ok s
passed_from room zero (suc opened) total s = refused total s
passed_from room (suc n) (suc opened) total s = step_at room (suc opened) total s >>= λ p. passed_from room n p.0 total p.1

-- after a statement whose name was passed, with all groups in it
unfoldable pub passed_at : ℕ → ℕ → List ℕ → After
passed_at room total s = tail_at room 0 total s >>= λ p. passed_from room (suc (length p.1)) p.0 total p.1
