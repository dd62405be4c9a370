-- The nets of a module by number.
--
-- The nets are numbered from 0 name by name, in the order in which the names first stand in the module's text; the bits of
-- a bus stand together, the most significant first.
use Rattle.std.specs.Prelude.{◌≡◌, ℕ, Bool, ◌+◌, ◌-◌, ◌<◌, ◌≤◌, ◌||◌, not, nat_le, if◌then◌else◌, List, []}
use Rattle.std.specs.Prelude.{◌∷◌, ◌++◌, length, map, filter, slice_index_or, Option, Some, None, Result, Ok}
use Rattle.std.specs.List.{range_with_len}
use Rattle.std.specs.Fmt.{decimal}
use Rattle.texts.specs.Names.{is_among, place_of, each_once}
use Rattle.texts.specs.Rules.{◌>>=◌}
use Rattle.verilog_syntax.specs.declared.declarations.Range.{Range}
use Rattle.verilog_syntax.specs.declared.declarations.Select.{Select}
use Rattle.verilog_syntax.specs.declared.declarations.ModuleDecl.{ModuleDecl}
use Rattle.verilog_scope.specs.declared.decls.Decl.{Decl}
use Rattle.verilog_scope.specs.declared.ranges.Run.{Run}
use Rattle.verilog_scope.specs.declared.scopes.Scope.{Scope}
use Rattle.netlist_types.specs.declared.faults.VerFault.{VerFault}
use Rattle.verilog_scope.specs.Ranges.{width, selected}
use Rattle.verilog_scope.specs.Standing.{standing, implied}
use Rattle.verilog_scope.specs.Decls.{decl_at, is_declared, listed_in, declares, inst_names}

-- the number of the first net of each name, from n on
unfoldable pub bases_from : ℕ → List Decl → List ℕ
bases_from n [] = []
bases_from n (d ∷ ds) = n ∷ bases_from (n + width d.range) ds

-- the index of the i-th bit of a range, counted from the most significant
abbrev pub index_at : Range → ℕ → ℕ
index_at r i = if nat_le r.lsb r.msb then r.msb - i else r.msb + i

-- the name of one bit of a bus, as `n[3]`
abbrev pub bit_name : List ℕ → ℕ → List ℕ
bit_name n index = n ++ 91 ∷ (decimal index ++ 93 ∷ [])

abbrev pub bit_names : List ℕ → Option Range → List (List ℕ)
bit_names n None = n ∷ []
bit_names n (Some r) = map (λ (i : ℕ). bit_name n (index_at r i)) (range_with_len 0 (width (Some r)))

-- the names of the nets of these names, of which the first is the one at that place
unfoldable pub nets_from : List Decl → ℕ → List (List ℕ) → List (List ℕ)
nets_from decls place [] = []
nets_from decls place (n ∷ names) = bit_names n (decl_at decls place).range ++ nets_from decls (place + 1) names

-- the names of the nets of a scope, each at its number
abbrev pub net_names : Scope → List (List ℕ)
net_names s = nets_from s.decls 0 s.names

-- the name of a net
abbrev pub net_name : Scope → ℕ → List ℕ
net_name s net = slice_index_or (net_names s) net []

-- each name has a declaration, if a blank one, and its nets are numbered after those of the names before it
pub record IsNumbered (s : Scope) : Type 0 where
  pub bases : s.bases ≡ bases_from 0 s.decls
  pub counted : length s.decls ≡ length s.names

-- the net is a bit of the name at a place
pub record IsBitOf (s : Scope) (place net : ℕ) : Type 0 where
  pub there : place < length s.names
  pub from : slice_index_or s.bases place 0 ≤ net
  pub before : net < slice_index_or s.bases place 0 + width (decl_at s.decls place).range

-- what is declared of a name
abbrev pub decl_of : Scope → List ℕ → Decl
decl_of s n = decl_at s.decls (place_of n s.names)

-- a name that is declared, or that is a wire without a declaration
abbrev pub is_known : Scope → List ℕ → Bool
is_known s n = is_declared (decl_of s n) || is_among n s.implied

-- nothing is declared of a name of the module
abbrev pub is_undeclared : List (List ℕ) → List Decl → List ℕ → Bool
is_undeclared names decls n = not (is_declared (decl_at decls (place_of n names)))

-- the wires without a declaration, in the order in which they first stand where they are implied
abbrev pub implied_wires : List (List ℕ) → List Decl → ModuleDecl → List (List ℕ)
implied_wires names decls m = filter (is_undeclared names decls) (each_once (implied m))

-- the number of the first net of a name
abbrev pub base_of : Scope → List ℕ → ℕ
base_of s n = slice_index_or s.bases (place_of n s.names) 0

-- all nets of a name
abbrev pub all_bits : Scope → List ℕ → Run
all_bits s n = record { first = base_of s n; count = width (decl_of s n).range }

-- the bits of a name as nets
abbrev pub as_nets : Scope → List ℕ → Option Run → Option Run
as_nets s n None = None
as_nets s n (Some bits) = Some (record { first = base_of s n + bits.first; count = bits.count })

-- the nets of a selection; none where the name stands for no net, or has no such bits
unfoldable pub run_of : Scope → List ℕ → Select → Option Run
run_of s n select = if is_known s n then as_nets s n (selected (decl_of s n).range select) else None

-- the scope of a module: the names of its port list and of its instances differ, and each name is declared once
unfoldable pub scope_of : ModuleDecl → Result Scope VerFault
scope_of m =
    listed_in m.head >>= λ listed.
    declares (standing m) listed m >>= λ decls.
    inst_names m >>= λ insts.
    Ok (record { names = standing m; decls = decls; implied = implied_wires (standing m) decls m; bases = bases_from 0 decls })
