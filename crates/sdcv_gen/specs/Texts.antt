-- The texts of a design of blocks.
use Rattle.std.specs.Prelude.{ℕ, ◌+◌, ◌==◌, if◌then◌else◌, List, [], ◌∷◌, ◌++◌, flat_map, codes}
use Rattle.std.specs.Fmt.{decimal}
use Rattle.sdcv_gen.specs.declared.blocks.Block.{Block}
use Rattle.sdcv_gen.specs.declared.blocks.Block.TheVariants.{Tied, Direct, Phases, Ring}

-- what stands at the end of each name of the block of a number
abbrev pub suffix : ℕ → List ℕ
suffix number = codes "_" ++ decimal number

-- the suffix in the place of a `#`, and any other byte itself
abbrev pub filled_byte : List ℕ → ℕ → List ℕ
filled_byte suffix b = if b == 35 then suffix else b ∷ []

-- a template with the suffix in the place of each `#`
unfoldable pub filled : List ℕ → List ℕ → List ℕ
filled suffix template = flat_map (filled_byte suffix) template

-- a line of a template
unfoldable pub filled_line : List ℕ → List ℕ → List ℕ
filled_line suffix template = filled suffix template ++ 10 ∷ []

-- the lines of each block
abbrev pub block_lines : Block → List (List ℕ)
block_lines Tied =
    codes "  wire qa#, z#, n1#;"
    ∷ codes "  TIE0 t0# (.Y(z#));"
    ∷ codes "  DFFC a# (.D(d), .C(rst), .CK(clk), .Q(qa#));"
    ∷ codes "  AND2 g1# (.A(qa#), .B(z#), .Y(n1#));"
    ∷ codes "  DFFC b# (.D(n1#), .C(rst), .CK(clk), .Q(y#));"
    ∷ []
block_lines Direct =
    codes "  wire qa#;"
    ∷ codes "  DFFC a# (.D(d), .C(rst), .CK(clk), .Q(qa#));"
    ∷ codes "  DFFC b# (.D(qa#), .C(rst), .CK(clk), .Q(y#));"
    ∷ []
block_lines Phases =
    codes "  wire p0#, p1#, n0#, n1#, la#, lb#, qa#;"
    ∷ codes "  INV i0# (.A(p0#), .Y(n0#));"
    ∷ codes "  XOR2 x1# (.A(p1#), .B(p0#), .Y(n1#));"
    ∷ codes "  DFFC r0# (.D(n0#), .C(rst), .CK(clk), .Q(p0#));"
    ∷ codes "  DFFC r1# (.D(n1#), .C(rst), .CK(clk), .Q(p1#));"
    ∷ codes "  NOR2 ga# (.A(p0#), .B(p1#), .Y(la#));"
    ∷ codes "  AND2 gb# (.A(p1#), .B(n0#), .Y(lb#));"
    ∷ codes "  DFFE a# (.D(d), .E(la#), .CK(clk), .Q(qa#));"
    ∷ codes "  DFFE b# (.D(qa#), .E(lb#), .CK(clk), .Q(y#));"
    ∷ []
block_lines Ring =
    codes "  wire h0#, h1#, h2#, qa#;"
    ∷ codes "  DFFP p0# (.D(h2#), .P(rst), .CK(clk), .Q(h0#));"
    ∷ codes "  DFFC p1# (.D(h0#), .C(rst), .CK(clk), .Q(h1#));"
    ∷ codes "  DFFC p2# (.D(h1#), .C(rst), .CK(clk), .Q(h2#));"
    ∷ codes "  DFFE a# (.D(d), .E(h0#), .CK(clk), .Q(qa#));"
    ∷ codes "  DFFE b# (.D(qa#), .E(h2#), .CK(clk), .Q(y#));"
    ∷ []

abbrev pub block_text : List ℕ → Block → List ℕ
block_text suffix block = flat_map (filled_line suffix) (block_lines block)

abbrev pub numbered_block : ℕ → Block → List ℕ
numbered_block number block = block_text (suffix number) block

-- the output port of the block of a number
abbrev pub output_text : ℕ → List ℕ
output_text number = filled (suffix number) (codes ", output y#")

-- what is said of the path from a to b: it is false where b sees nothing of a, and where b captures a in the next cycle, which is wrong
abbrev pub exception : Block → List ℕ
exception Tied = codes "set_false_path -from [get_cells a#] -to [get_cells b#]"
exception Direct = codes "set_false_path -from [get_cells a#] -to [get_cells b#]"
exception Phases = codes "set_multicycle_path 2 -from [get_cells a#] -to [get_cells b#]"
exception Ring = codes "set_multicycle_path 2 -from [get_cells a#] -to [get_cells b#]"

abbrev pub exception_line : ℕ → Block → List ℕ
exception_line number block = filled_line (suffix number) (exception block)

-- the texts of blocks that are numbered from a number on, one after another
abbrev pub numbered : (ℕ → Block → List ℕ) → ℕ → List Block → List ℕ
numbered text number [] = []
numbered text number (block ∷ blocks) = text number block ++ numbered text (number + 1) blocks

-- the netlist of these blocks
abbrev pub verilog_text : List Block → List ℕ
verilog_text blocks =
    codes "module top (input clk, input rst, input d" ++ (numbered (λ number block. output_text number) 0 blocks
    ++ (codes ");\n" ++ (numbered numbered_block 0 blocks ++ codes "endmodule\n")))

-- its constraints: a clock, and an exception for each block
abbrev pub sdc_text : List Block → List ℕ
sdc_text blocks = codes "create_clock -name ck -period 10 [get_ports clk]\n" ++ numbered exception_line 0 blocks
