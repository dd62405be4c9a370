-- Names of nets.
use Rattle.std.proofs.Common.{◌≡◌, ℕ, ◌+◌, ◌++◌, List, [], ◌∷◌, refl}
use Rattle.verilog_scope.specs.declared.decls.Decl.{Decl}
use Rattle.verilog_scope.specs.Decls.{decl_at}
use Rattle.verilog_scope.specs.Scopes.{nets_from, bit_names}

-- the nets of a first name and of the others
pub nets_more : (decls : List Decl) (place : ℕ) (n : List ℕ) (names : List (List ℕ))
    → nets_from decls place (n ∷ names) ≡ bit_names n (decl_at decls place).range ++ nets_from decls (place + 1) names
unfolding nets_from
nets_more decls place n names = refl

-- no names have no nets
pub nets_none : (decls : List Decl) (place : ℕ) → nets_from decls place [] ≡ []
unfolding nets_from
nets_none decls place = refl
