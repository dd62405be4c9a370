-- What the gates of a netlist and the cells that need no library stand for.
use Rattle.std.proofs.Common.{◌≡◌, ℕ, zero, suc, Bool, true, false, refl}
use Rattle.net_model.specs.Form.{PinForm, NotForm, AndForm, value}
use Rattle.netlist_types.specs.declared.gates.PrimKind.TheVariants as prim
use Rattle.cell_types.specs.Builtin.{choice}
use Rattle.link_defs.specs.Parts.{prim_form, is_buffer_form, inverts}

-- the bits of three places
abbrev bits : Bool → Bool → Bool → ℕ → Bool
bits a b c zero = a
bits a b c (suc zero) = b
bits a b c (suc (suc k)) = c

-- a nand of three inputs is 0 where all are 1, and else 1
nand_is_0_where_all_inputs_are_1 : value (prim_form prim.Nand 3) (bits true true true) ≡ false
nand_is_0_where_all_inputs_are_1 = refl

-- one 0 is enough for a 1
nand_is_1_where_an_input_is_0 : value (prim_form prim.Nand 3) (bits true true false) ≡ true
nand_is_1_where_an_input_is_0 = refl

-- a nor of three inputs is 1 where none is 1
nor_is_1_where_no_input_is_1 : value (prim_form prim.Nor 3) (bits false false false) ≡ true
nor_is_1_where_no_input_is_1 = refl

-- one 1 is enough for a 0
nor_is_0_where_an_input_is_1 : value (prim_form prim.Nor 3) (bits false false true) ≡ false
nor_is_0_where_an_input_is_1 = refl

-- an exclusive or of three inputs is their parity (IEEE 1364-2005, clause 7.2)
xor_of_three_ones_is_1 : value (prim_form prim.Xor 3) (bits true true true) ≡ true
xor_of_three_ones_is_1 = refl

-- and an exclusive nor the complement of their parity
xnor_of_three_ones_is_0 : value (prim_form prim.Xnor 3) (bits true true true) ≡ false
xnor_of_three_ones_is_0 = refl

-- and and or of three inputs look at the last one too
and_of_three_looks_at_the_last : value (prim_form prim.And 3) (bits true true false) ≡ false
and_of_three_looks_at_the_last = refl

-- a 1 at the last input of an or
or_of_three_looks_at_the_last : value (prim_form prim.Or 3) (bits false false true) ≡ true
or_of_three_looks_at_the_last = refl

-- an inverter inverts, a buffer does not
not_inverts : inverts (prim_form prim.Not 1) ≡ true
not_inverts = refl

-- a buffer hands on what it reads
buffer_does_not_invert : inverts (prim_form prim.Buf 1) ≡ false
buffer_does_not_invert = refl

-- a function that is constant hands no clock on
constant_function_is_no_buffer : is_buffer_form (AndForm (PinForm 0) (NotForm (PinForm 0))) ≡ false
constant_function_is_no_buffer = refl

-- two inversions are a buffer
two_inversions_are_a_buffer : is_buffer_form (NotForm (NotForm (PinForm 0))) ≡ true
two_inversions_are_a_buffer = refl

-- place 2 chooses place 1 where it is 1, and place 0 where it is 0
select_of_1_chooses_the_second : value (choice 2 1 0) (bits false true true) ≡ true
select_of_1_chooses_the_second = refl

-- where place 2 is 0, place 0 counts
select_of_0_chooses_the_first : value (choice 2 1 0) (bits false true false) ≡ false
select_of_0_chooses_the_first = refl
