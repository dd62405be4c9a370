-- The definition at a site by the cubes of its function is the function's.
use Rattle.std.proofs.Common.{◌≡◌, ℕ, ◌^◌, Bool, true, false, cond, Option, Some, None, List, length, get_or, refl, ap, sym, ◌∙◌, subst}
use Rattle.std.specs.Prelude.{slice_get}
use Rattle.std.proofs.lemmas.List.{length-map}
use Rattle.std.proofs.lemmas.Option.{slice_get_within}
use Rattle.std.proofs.lemmas.List.Elements.{Contains-get_or}
use Rattle.net_model.specs.Ternary.{tern_of}
use Rattle.net_model.specs.Form.{value}
use Rattle.net_model.specs.Cycles.{reg_capture}
use Rattle.net_model.proofs.Members.{In, In-from_Contains, from_map}
use Rattle.net_model.specs.declared.netlist.Design.{Design}
use Rattle.net_model.specs.declared.netlist.Gate.{Gate}
use Rattle.net_model.specs.declared.netlist.Reg.{Reg}
use Rattle.net_model.specs.declared.claims.Claim.{Claim}
use Rattle.query_model.specs.Keys.{below}
use Rattle.query_model.specs.Tables.{row_bits, row_cube, constant_cubes}
use Rattle.query_model.specs.Reads.{read_base}
use Rattle.query_model.specs.Defined.{Definition, covering, settling, is_prime, gate_definition, bit_definition, gate_reads}
use Rattle.query_model.specs.declared.keys.Coding.{Coding}
use Rattle.query_model.specs.declared.keys.Coding.TheVariants.{Rows, Primes}
use Rattle.query_model.specs.declared.keys.Cube.{Cube}
use Rattle.query_model.proofs.Codings.{from_constant}
use Rattle.query_model.proofs.Prime.{from_filter}
use Rattle.prime_cubes.specs.Cells.{CellCubes}
use Rattle.frame_unroll.specs.Counted.{capture_places}
use Rattle.frame_unroll.specs.Sites.{both_rails, gate_site, bit_site, gate_rail, late_gate_site, reg_rail, late_reg_site, defined_on, defined_at}
use Rattle.frame_unroll.specs.declared.sites.Rail.{Rail}
use Rattle.frame_unroll.specs.declared.sites.Site.{Site}
use Rattle.cnf_encode.specs.CellLists.{CellList, IsCellOf, AreWide, HasCell, IsKnown, AreAt}
use Rattle.cnf_encode.specs.Cells.{AreCells}
use Rattle.cnf_encode.specs.Sited.{Suits, LiesBeside, plain_by, rails_by, defined_by, site_by}
use Rattle.cnf_encode.specs.declared.cells.Cells.{Cells}
use Rattle.cnf_encode.proofs.CellTables.{length-row}
use Rattle.frame_unroll.proofs.Tabled.{length-gate_reads, length-bit_reads, length-reg_reads}

-- cubes of which each has so many places
wide_from : (places : ℕ) (cubes : List Cube) → ((cube : Cube) → In cube cubes → length cube.fixed ≡ places) → AreWide places cubes
wide_from places cubes each = λ i d lt. each (get_or cubes i d) (In-from_Contains cubes (get_or cubes i d) (Contains-get_or cubes i d lt))

-- so have those of a coding
covering_wide : (coding : Coding) (cell : (ℕ → Bool) → Bool) (places : ℕ) (cube : Cube) → In cube (covering coding cell places)
    → length cube.fixed ≡ places
covering_wide Rows cell places cube has =
    let from = from_map (row_cube cell places) cube (below (2 ^ places)) has in
    sym (ap (λ (e : Cube). length e.fixed) from.2) ∙ length-map (row_bits places from.0) tern_of ∙ length-row places from.0
covering_wide Primes cell places cube has =
    (from_constant cell places cube (from_filter (is_prime (constant_cubes cell places)) cube (constant_cubes cell places) has).0).len

settling_wide : (coding : Coding) (cell : (ℕ → Bool) → Bool) (places : ℕ) (cube : Cube) → In cube (settling coding cell places)
    → length cube.fixed ≡ places
settling_wide Rows cell places cube has = (from_constant cell places cube has).len
settling_wide Primes cell places cube has = covering_wide Primes cell places cube has

pub covering_is_wide : {coding : Coding} {cell : (ℕ → Bool) → Bool} {places : ℕ} (cubes : CellCubes) (list : List Cube) (n : ℕ)
    → IsCellOf coding cell places cubes → list ≡ cubes.covering → n ≡ places → AreWide n list
covering_is_wide {coding} {cell} {places} cubes list n is list_is same =
    subst (λ m. AreWide m list) (sym same)
    (subst (AreWide places) (sym (list_is ∙ is.covering)) (wide_from places (covering coding cell places) (covering_wide coding cell places)))

pub settling_is_wide : {coding : Coding} {cell : (ℕ → Bool) → Bool} {places : ℕ} (cubes : CellCubes) (n : ℕ) → IsCellOf coding cell places cubes
    → n ≡ places → AreWide n cubes.settling
settling_is_wide {coding} {cell} {places} cubes n is same =
    subst (λ m. AreWide m cubes.settling) (sym same)
    (subst (AreWide places) (sym is.settling) (wide_from places (settling coding cell places) (settling_wide coding cell places)))

-- the cubes at the place of a function are its cubes
has_known : (list : CellList) (items : List ℕ) (k : ℕ) (cell : (ℕ → Bool) → Bool) (places : ℕ) → HasCell list items k cell places → IsKnown list items k
has_known list items k cell places has = (has.0, has.1, slice_get_within list.cells has.0 has.2.0 has.2.1)

has_cell : (list : CellList) (items : List ℕ) (k : ℕ) (cell : (ℕ → Bool) → Bool) (places : ℕ) (cubes : CellCubes) → HasCell list items k cell places
    → AreAt list items k cubes → IsCellOf list.coding cell places cubes
has_cell list items k cell places cubes has at =
    let place : has.0 ≡ at.0 = cc in
    let here : slice_get list.cells has.0 ≡ Some cubes = ap (slice_get list.cells) place ∙ at.2 in
    let same : has.2.0 ≡ cubes = cc in
    subst (IsCellOf list.coding cell places) same has.2.2

pub gate_known : (d : Design) (cells : Cells) (k : ℕ) (g : Gate) → AreCells d cells → slice_get d.gates k ≡ Some g → IsKnown cells.list cells.gates k
gate_known d cells k g are at = has_known cells.list cells.gates k (value g.func) (length g.ins) (are.gates k g at)

pub gate_cell : (d : Design) (cells : Cells) (k : ℕ) (g : Gate) (cubes : CellCubes) → AreCells d cells → slice_get d.gates k ≡ Some g
    → AreAt cells.list cells.gates k cubes → IsCellOf cells.list.coding (value g.func) (length g.ins) cubes
gate_cell d cells k g cubes are at here = has_cell cells.list cells.gates k (value g.func) (length g.ins) cubes (are.gates k g at) here

pub reg_known : (d : Design) (cells : Cells) (r : ℕ) (reg : Reg) → AreCells d cells → slice_get d.regs r ≡ Some reg → IsKnown cells.list cells.regs r
reg_known d cells r reg are at = has_known cells.list cells.regs r (reg_capture reg) (capture_places reg) (are.regs r reg at)

pub reg_cell : (d : Design) (cells : Cells) (r : ℕ) (reg : Reg) (cubes : CellCubes) → AreCells d cells → slice_get d.regs r ≡ Some reg
    → AreAt cells.list cells.regs r cubes → IsCellOf cells.list.coding (reg_capture reg) (capture_places reg) cubes
reg_cell d cells r reg cubes are at here = has_cell cells.list cells.regs r (reg_capture reg) (capture_places reg) cubes (are.regs r reg at) here

-- the definition at a site by these cubes, which suit it
pub record IsSited (cubes : CellCubes) (site : Site) (def : Definition) : Type 0 where
  pub suits : Suits site cubes
  pub is : site_by site cubes ≡ def

-- by the cubes of a function it is what the function defines of as many literals
by_is : {coding : Coding} {cell : (ℕ → Bool) → Bool} {places : ℕ} (cubes : CellCubes) (high : Rail) (low : Option Rail) → IsCellOf coding cell places cubes
    → length high.reads ≡ places → defined_by high low cubes ≡ defined_on coding cell high low
by_is {coding} {cell} {places} cubes high None is long = ap (plain_by high) (is.covering ∙ sym (ap (covering coding cell) long))
by_is {coding} {cell} {places} cubes high (Some low) is long =
    let cover = covering coding cell (length high.reads) in
    ap (λ (cs : List Cube). rails_by high low (record { covering = cs; settling = cubes.settling })) (is.covering ∙ sym (ap (covering coding cell) long))
    ∙ ap (λ (cs : List Cube). rails_by high low (record { covering = cover; settling = cs })) (is.settling ∙ sym (ap (settling coding cell) long))

sited : {coding : Coding} {cell : (ℕ → Bool) → Bool} {places : ℕ} (cubes : CellCubes) (found site : Site) → IsCellOf coding cell places cubes → found ≡ site
    → length site.high.reads ≡ places → ((low : Rail) → site.low ≡ Some low → LiesBeside site.high low) → IsSited cubes found (defined_at coding cell site)
sited {coding} {cell} {places} cubes found site is same long beside =
    subst (λ (s : Site). IsSited cubes s (defined_at coding cell site)) (sym same)
    (record {
      suits = record {
        covering = covering_is_wide cubes cubes.covering (length site.high.reads) is refl long;
        settling = settling_is_wide cubes (length site.high.reads) is long;
        beside = beside;
      };
      is = by_is cubes site.high site.low is long;
    })

-- what is read on the other rail lies beside the first
both_rails_beside : (claim : Claim) (high low : Rail) → LiesBeside high low → (other : Rail) → (both_rails claim high low).low ≡ Some other → LiesBeside high other
both_rails_beside claim high low long other = by claim.hazard
  where
    by : (h : Bool) → cond h (Some low) None ≡ Some other → LiesBeside high other
    by true at = let is : low ≡ other = cc in subst (LiesBeside high) is long
    by false at = absurd cc

-- of a gate in a cycle
pub gate_sited : (d : Design) (cells : Cells) (c k : ℕ) (g : Gate) (cubes : CellCubes) (found : Site) → AreCells d cells → slice_get d.gates k ≡ Some g
    → AreAt cells.list cells.gates k cubes → found ≡ gate_site d c g → IsSited cubes found (gate_definition cells.list.coding d c g)
gate_sited d cells c k g cubes found are at here same =
    sited cubes found (gate_site d c g) (gate_cell d cells k g cubes are at here) same (length-map g.ins (read_base d c)) (λ low none. absurd cc)

-- of a register's bit in the cycle after
pub bit_sited : (d : Design) (cells : Cells) (c r : ℕ) (reg : Reg) (cubes : CellCubes) (found : Site) → AreCells d cells → slice_get d.regs r ≡ Some reg
    → AreAt cells.list cells.regs r cubes → found ≡ bit_site d c r reg → IsSited cubes found (bit_definition cells.list.coding d c r reg)
bit_sited d cells c r reg cubes found are at here same =
    sited cubes found (bit_site d c r reg) (reg_cell d cells r reg cubes are at here) same (length-bit_reads d c r reg)
    (λ low none. absurd cc)

-- of a gate in a layer
pub late_gate_sited : (d : Design) (cells : Cells) (claim : Claim) (moved : List (List Bool)) (c layer k : ℕ) (g : Gate) (cubes : CellCubes) (found : Site)
    → AreCells d cells → slice_get d.gates k ≡ Some g → AreAt cells.list cells.gates k cubes → found ≡ late_gate_site d claim moved c layer k g
    → IsSited cubes found (defined_at cells.list.coding (value g.func) (late_gate_site d claim moved c layer k g))
late_gate_sited d cells claim moved c layer k g cubes found are at here same =
    let long : (rail : ℕ) → length (gate_reads d claim moved c layer rail k g) ≡ length g.ins = λ rail. length-gate_reads d claim moved c layer rail k g in
    sited cubes found (late_gate_site d claim moved c layer k g) (gate_cell d cells k g cubes are at here) same (long 0)
    (both_rails_beside claim (gate_rail d claim moved c layer 0 k g) (gate_rail d claim moved c layer 1 k g) (long 1 ∙ sym (long 0)))

-- of the late capture
pub late_reg_sited : (d : Design) (cells : Cells) (claim : Claim) (moved : List (List Bool)) (c r : ℕ) (reg : Reg) (cubes : CellCubes) (found : Site)
    → AreCells d cells → slice_get d.regs r ≡ Some reg → AreAt cells.list cells.regs r cubes → found ≡ late_reg_site d claim moved c r reg
    → IsSited cubes found (defined_at cells.list.coding (reg_capture reg) (late_reg_site d claim moved c r reg))
late_reg_sited d cells claim moved c r reg cubes found are at here same =
    sited cubes found (late_reg_site d claim moved c r reg) (reg_cell d cells r reg cubes are at here) same (length-reg_reads d claim moved c 0 true r reg)
    (both_rails_beside claim (reg_rail d claim moved c 0 true r reg) (reg_rail d claim moved c 1 false r reg)
    (length-reg_reads d claim moved c 1 false r reg ∙ sym (length-reg_reads d claim moved c 0 true r reg)))
