-- The marks of the grammar, by their codes.
use Rattle.std.specs.Prelude.{ℕ}

-- `"`
abbrev pub quote : ℕ
quote = 34

-- `(`
abbrev pub left_paren : ℕ
left_paren = 40

-- `)`
abbrev pub right_paren : ℕ
right_paren = 41

-- `*`
abbrev pub star : ℕ
star = 42

-- `,`
abbrev pub comma : ℕ
comma = 44

-- `/`
abbrev pub slash : ℕ
slash = 47

-- `:`
abbrev pub colon : ℕ
colon = 58

-- `;`
abbrev pub semicolon : ℕ
semicolon = 59

-- a backslash
abbrev pub backslash : ℕ
backslash = 92

-- `{`
abbrev pub left_brace : ℕ
left_brace = 123

-- `}`
abbrev pub right_brace : ℕ
right_brace = 125

abbrev pub newline : ℕ
newline = 10

abbrev pub space : ℕ
space = 32
