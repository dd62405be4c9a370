-- What a scope that was made is like.
use Rattle.std.proofs.Common.{◌≡◌, ℕ, Bool, true, false, List, length, replicate, slice_set}
use Rattle.std.proofs.Common.{if◌then◌else◌, Option, Ok, Err, refl, sym, ap, ◌∙◌, subst}
use Rattle.std.proofs.lemmas.List.{length-set, length-replicate}
use Rattle.texts.specs.Names.{is_among, place_of}
use Rattle.verilog_syntax.specs.declared.declarations.Range.{Range}
use Rattle.verilog_syntax.specs.declared.declarations.NetKind.{NetKind}
use Rattle.verilog_syntax.specs.declared.declarations.PortDecl.{PortDecl}
use Rattle.verilog_syntax.specs.declared.declarations.Head.{Head}
use Rattle.verilog_syntax.specs.declared.declarations.Head.TheVariants as head
use Rattle.verilog_syntax.specs.declared.declarations.ItemDecl.{ItemDecl}
use Rattle.verilog_syntax.specs.declared.declarations.ItemDecl.TheVariants.{Ports, Nets, Assigns, Prims, Insts}
use Rattle.verilog_syntax.specs.declared.declarations.ModuleDecl.{ModuleDecl}
use Rattle.verilog_scope.specs.declared.decls.Decl.{Decl}
use Rattle.netlist_types.specs.declared.faults.VerFault.{VerFault}
use Rattle.verilog_scope.specs.declared.scopes.Scope.{Scope}
use Rattle.verilog_scope.specs.Standing.{standing}
use Rattle.verilog_scope.specs.Decls.{blank, decl_at, takes_port, takes_net, declare_port, declare_net, declare_listed, declare_item, declare_head}
use Rattle.verilog_scope.specs.Decls.{declares, listed_in, inst_names}
use Rattle.verilog_scope.specs.Scopes.{scope_of, bases_from, implied_wires}
use Rattle.verilog_scope.proofs.KeepLemmas.{step_gave, fold_keeps}

-- as many declarations as before
abbrev Keeps : ℕ → List Decl → Type 0
Keeps n decls = length decls ≡ n

tested : (n : ℕ) (b : Bool) (decls : List Decl) (place : ℕ) (d : Decl) (why : VerFault) (next : List Decl) → Keeps n decls
    → (if b then Ok (slice_set decls place d) else Err why) ≡ Ok next → Keeps n next
tested n true decls place d why next kept e =
    let same : slice_set decls place d ≡ next = cc in
    ap length (sym same) ∙ length-set decls place d ∙ kept
tested n false decls place d why next kept e = absurd cc

port_keeps : (n : ℕ) (names : List (List ℕ)) (decls : List Decl) (p : PortDecl) (next : List Decl) → Keeps n decls
    → declare_port names decls p ≡ Ok next → Keeps n next
unfolding declare_port
port_keeps n names decls p next kept e =
    tested n (takes_port (decl_at decls (place_of p.name.name names)) p.range) decls (place_of p.name.name names) _ _ next kept e

net_keeps : (n : ℕ) (names : List (List ℕ)) (kind : NetKind) (range : Option Range) (decls : List Decl) (x : List ℕ) (next : List Decl) → Keeps n decls
    → declare_net names kind range decls x ≡ Ok next → Keeps n next
unfolding declare_net
net_keeps n names kind range decls x next kept e =
    tested n (takes_net (decl_at decls (place_of x names)) kind range) decls (place_of x names) _ _ next kept e

listed_case : (n : ℕ) (names : List (List ℕ)) (b : Bool) (decls : List Decl) (p : PortDecl) (why : VerFault) (next : List Decl) → Keeps n decls
    → (if b then declare_port names decls p else Err why) ≡ Ok next → Keeps n next
listed_case n names true decls p why next kept e = port_keeps n names decls p next kept e
listed_case n names false decls p why next kept e = absurd cc

listed_keeps : (n : ℕ) (names listed : List (List ℕ)) (decls : List Decl) (p : PortDecl) (next : List Decl) → Keeps n decls
    → declare_listed names listed decls p ≡ Ok next → Keeps n next
unfolding declare_listed
listed_keeps n names listed decls p next kept e = listed_case n names (is_among p.name.name listed) decls p _ next kept e

item_keeps : (n : ℕ) (names listed : List (List ℕ)) (decls : List Decl) (i : ItemDecl) (next : List Decl) → Keeps n decls
    → declare_item names listed decls i ≡ Ok next → Keeps n next
unfolding declare_item
item_keeps n names listed decls (Ports ports) next kept e =
    fold_keeps (Keeps n) (declare_listed names listed) (λ ds p ds2. listed_keeps n names listed ds p ds2) decls ports next kept e
item_keeps n names listed decls (Nets kind range list) next kept e =
    fold_keeps (Keeps n) (declare_net names kind range) (λ ds x ds2. net_keeps n names kind range ds x ds2) decls list next kept e
item_keeps n names listed decls (Assigns list) next kept e = let same : decls ≡ next = cc in subst (Keeps n) same kept
item_keeps n names listed decls (Prims kind list) next kept e = let same : decls ≡ next = cc in subst (Keeps n) same kept
item_keeps n names listed decls (Insts cell list) next kept e = let same : decls ≡ next = cc in subst (Keeps n) same kept

head_keeps : (n : ℕ) (names : List (List ℕ)) (decls : List Decl) (h : Head) (next : List Decl) → Keeps n decls → declare_head names decls h ≡ Ok next
    → Keeps n next
unfolding declare_head
head_keeps n names decls (head.Names list) next kept e = let same : decls ≡ next = cc in subst (Keeps n) same kept
head_keeps n names decls (head.Ports ports) next kept e =
    fold_keeps (Keeps n) (declare_port names) (λ ds p ds2. port_keeps n names ds p ds2) decls ports next kept e

-- one declaration for each name
pub declares_length : (names listed : List (List ℕ)) (m : ModuleDecl) (decls : List Decl) → declares names listed m ≡ Ok decls → length decls ≡ length names
unfolding declares
declares_length names listed m decls e =
    let n = length names in
    let (first, heads, rest) = step_gave (declare_head names (replicate n blank) m.head) _ decls e in
    fold_keeps (Keeps n) (declare_item names listed) (λ ds i ds2. item_keeps n names listed ds i ds2) first m.items decls
    (head_keeps n names (replicate n blank) m.head first (length-replicate n blank) heads) rest

-- what a scope that was made is
pub record IsScope (m : ModuleDecl) (s : Scope) : Type 0 where
  pub names : s.names ≡ standing m
  pub known : s.implied ≡ implied_wires (standing m) s.decls m
  pub bases : s.bases ≡ bases_from 0 s.decls
  pub counted : length s.decls ≡ length s.names
  pub listed : (ls : List (List ℕ)) × (listed_in m.head ≡ Ok ls)

pub scope_is : (m : ModuleDecl) (s : Scope) → scope_of m ≡ Ok s → IsScope m s
unfolding scope_of
scope_is m s e =
    let (ls, listed, e1) = step_gave (listed_in m.head) _ s e in
    let (decls, declared, e2) = step_gave (declares (standing m) ls m) _ s e1 in
    let (insts, differ, e3) = step_gave (inst_names m) _ s e2 in
    let made : Scope = record { names = standing m; decls = decls; implied = implied_wires (standing m) decls m; bases = bases_from 0 decls } in
    let same : made ≡ s = cc in
    subst (IsScope m) same (record {
      names = refl;
      known = refl;
      bases = refl;
      counted = declares_length (standing m) ls m decls declared;
      listed = (ls, listed);
    })
