-- Worked templates, computed down to bytes.
use Rattle.std.proofs.Common.{false, ◌≡◌, List, [], ◌∷◌, ◌++◌, length, None, Some, refl}
use Rattle.x64_templates.specs.Words.{W32, W64, modrm, opcode_register, spelled, parameters_code, return_code, Int, Signed, Local, Temporary, Instruction, Layout, size, compute_code, jump_code, template_size, offset_of}
use Rattle.template_code.specs.declared.layout.TheConstants.{NO_REGISTERS}
use Rattle.c_operations.specs.declared.operation.Pure.TheVariants as pures
use Rattle.c_operations.specs.declared.operation.Operation.TheVariants as operations
use Rattle.linear_code.specs.declared.instruction.Instruction.TheVariants as instructions

-- a function with temporaries from 128 and locals from 256 above RSP, and a block of it that keeps
-- the base 32 above its own
function_layout : Layout
function_layout = record {
  base = None;
  pointers = 0;
  locals = 256;
  temporaries = 128;
  slots = 312;
  frame = 312;
  registers = NO_REGISTERS;
  arrivals = 0;
  size = 312;
  pushes = 0;
  saves = 0;
  framed = false;
}

block_layout : Layout
block_layout = record {
  base = Some 32;
  pointers = 40;
  locals = 256;
  temporaries = 128;
  slots = 152;
  frame = 152;
  registers = NO_REGISTERS;
  arrivals = 0;
  size = 152;
  pushes = 0;
  saves = 0;
  framed = false;
}

-- a function with two locals in registers, the first in RBX and the fourth in RSI
register_layout : Layout
register_layout = record {
  base = None;
  pointers = 0;
  locals = 256;
  temporaries = 128;
  slots = 312;
  frame = 312;
  registers = Some 0 ∷ Some 3 ∷ None ∷ None ∷ None ∷ None ∷ None ∷ [];
  arrivals = 0;
  size = 312;
  pushes = 0;
  saves = 0;
  framed = false;
}

-- mov rax,rbx ; mov rcx,[rsp+264] ; add eax,ecx ; mov rsi,rax
sum_of_registers : spelled (compute_code register_layout (Local 3) (operations.Pure (pures.Add Int))
    (Local 0) (Local 1)) ≡ 0x48 ∷ 0x89 ∷ 0xD8 ∷ 0x48 ∷ 0x8B ∷ 0x8C ∷ 0x24 ∷ 0x08 ∷ 0x01 ∷ 0x00
    ∷ 0x00
    ∷ 0x01 ∷ 0xC8 ∷ 0x48 ∷ 0x89 ∷ 0xC6 ∷ []
unfolding register_layout modrm
sum_of_registers = refl

-- mov rax,[rsp+256] ; mov rcx,[rsp+128] ; add eax,ecx ; mov [rsp+264],rax
sum_of_slots : spelled (compute_code function_layout (Local 1) (operations.Pure (pures.Add Int))
    (Local 0) (Temporary 0)) ≡ 0x48 ∷ 0x8B ∷ 0x84 ∷ 0x24 ∷ 0x00 ∷ 0x01 ∷ 0x00 ∷ 0x00 ∷ 0x48 ∷ 0x8B
    ∷ 0x8C ∷ 0x24 ∷ 0x80 ∷ 0x00 ∷ 0x00 ∷ 0x00 ∷ 0x01 ∷ 0xC8 ∷ 0x48 ∷ 0x89 ∷ 0x84 ∷ 0x24 ∷ 0x08
    ∷ 0x01 ∷ 0x00 ∷ 0x00 ∷ []
unfolding function_layout modrm
sum_of_slots = refl

-- mov rax,[rsp+128] twice ; cdq ; idiv ecx ; mov [rsp+128],rax
quotient_of_slots : spelled (compute_code block_layout (Temporary 0) (operations.Divide Signed Int)
    (Temporary 0) (Temporary 1)) ≡ 0x48 ∷ 0x8B ∷ 0x84 ∷ 0x24 ∷ 0x80 ∷ 0x00 ∷ 0x00 ∷ 0x00 ∷ 0x48
    ∷ 0x8B ∷ 0x8C ∷ 0x24 ∷ 0x88 ∷ 0x00 ∷ 0x00 ∷ 0x00 ∷ 0x99 ∷ 0xF7 ∷ 0xF9 ∷ 0x48 ∷ 0x89 ∷ 0x84
    ∷ 0x24 ∷ 0x80 ∷ 0x00 ∷ 0x00 ∷ 0x00 ∷ []
unfolding block_layout modrm
quotient_of_slots = refl

-- one operand is fetched where the operation has no other: mov rax,[rsp+264] ; neg eax ;
-- mov [rsp+256],rax
negative_of_slot : spelled (compute_code function_layout (Local 0) (operations.Pure
    (pures.Negate Int)) (Local 1) (Temporary 0)) ≡ 0x48 ∷ 0x8B ∷ 0x84 ∷ 0x24 ∷ 0x08 ∷ 0x01 ∷ 0x00
    ∷ 0x00 ∷ 0xF7 ∷ 0xD8 ∷ 0x48 ∷ 0x89 ∷ 0x84 ∷ 0x24 ∷ 0x00 ∷ 0x01 ∷ 0x00 ∷ 0x00 ∷ []
unfolding function_layout modrm
negative_of_slot = refl

-- and none for a constant: mov rax,5 ; mov [rsp+256],rax
constant_to_slot : spelled (compute_code function_layout (Local 0) (operations.Pure
    (pures.Constant 5)) (Temporary 0) (Temporary 0)) ≡ 0x48 ∷ 0xB8 ∷ 0x05 ∷ 0x00 ∷ 0x00 ∷ 0x00
    ∷ 0x00 ∷ 0x00 ∷ 0x00 ∷ 0x00 ∷ 0x48 ∷ 0x89 ∷ 0x84 ∷ 0x24 ∷ 0x00 ∷ 0x01 ∷ 0x00 ∷ 0x00 ∷ []
unfolding function_layout modrm opcode_register
constant_to_slot = refl

-- a leaf function of two parameters, which stay in RCX and RDX, and a temporary in the home space
leaf_layout : Layout
leaf_layout = record {
  base = None;
  pointers = 0;
  locals = 8;
  temporaries = 24;
  slots = 0;
  frame = 0;
  registers = NO_REGISTERS;
  arrivals = 2;
  size = 0;
  pushes = 0;
  saves = 0;
  framed = false;
}

-- mov rax,rdx ; mov eax,[rax] ; mov [rsp+24],rax
load_of_parameter : spelled (compute_code leaf_layout (Temporary 0) (operations.Load W32) (Local 1)
    (Local 1)) ≡ 0x48 ∷ 0x89 ∷ 0xD0 ∷ 0x8B ∷ 0x40 ∷ 0x00 ∷ 0x48 ∷ 0x89 ∷ 0x44 ∷ 0x24 ∷ 0x18 ∷ []
unfolding leaf_layout modrm
load_of_parameter = refl

-- nothing is stored where it begins; return of its first parameter: mov rax,rcx ; ret
parameters_stay : spelled (parameters_code leaf_layout 0 2 ++ return_code leaf_layout (Local 0))
    ≡ 0x48 ∷ 0x89 ∷ 0xC8 ∷ 0xC3 ∷ []
unfolding leaf_layout modrm
parameters_stay = refl

-- ---- variables on the data stack

-- mov rax,[0x30000000] ; mov rcx,48 ; add [0x30000000],rcx ; mov [rsp+264],rax
room_taken : spelled (compute_code function_layout (Local 1) (operations.Allocate 48) (Local 1)
    (Local 1)) ≡ 0x48 ∷ 0x8B ∷ 0x04 ∷ 0x25 ∷ 0x00 ∷ 0x00 ∷ 0x00 ∷ 0x30 ∷ 0x48 ∷ 0xB9 ∷ 0x30 ∷ 0x00
    ∷ 0x00 ∷ 0x00 ∷ 0x00 ∷ 0x00 ∷ 0x00 ∷ 0x00 ∷ 0x48 ∷ 0x01 ∷ 0x0C ∷ 0x25 ∷ 0x00 ∷ 0x00 ∷ 0x00
    ∷ 0x30 ∷ 0x48 ∷ 0x89 ∷ 0x84 ∷ 0x24 ∷ 0x08 ∷ 0x01 ∷ 0x00 ∷ 0x00 ∷ []
unfolding function_layout modrm opcode_register
room_taken = refl

-- mov rax,[rsp+264] ; mov rcx,48 ; add rcx,rax ; mov [0x30000000],rcx ; mov [rsp+264],rax
pointer_set : spelled (compute_code function_layout (Local 1) (operations.SetPointer 48) (Local 1)
    (Local 1)) ≡ 0x48 ∷ 0x8B ∷ 0x84 ∷ 0x24 ∷ 0x08 ∷ 0x01 ∷ 0x00 ∷ 0x00 ∷ 0x48 ∷ 0xB9 ∷ 0x30 ∷ 0x00
    ∷ 0x00 ∷ 0x00 ∷ 0x00 ∷ 0x00 ∷ 0x00 ∷ 0x00 ∷ 0x48 ∷ 0x01 ∷ 0xC1 ∷ 0x48 ∷ 0x89 ∷ 0x0C ∷ 0x25
    ∷ 0x00 ∷ 0x00 ∷ 0x00 ∷ 0x30 ∷ 0x48 ∷ 0x89 ∷ 0x84 ∷ 0x24 ∷ 0x08 ∷ 0x01 ∷ 0x00 ∷ 0x00 ∷ []
unfolding function_layout modrm opcode_register
pointer_set = refl

-- mov rax,[rsp+264] ; mov rcx,[rsp+128] ; mov rdx,16 ; mov [rax+rdx],ecx ; mov rax,rcx ;
-- mov [rsp+128],rax
variable_placed : spelled (compute_code function_layout (Temporary 0) (operations.Place W32 16)
    (Local 1) (Temporary 0)) ≡ 0x48 ∷ 0x8B ∷ 0x84 ∷ 0x24 ∷ 0x08 ∷ 0x01 ∷ 0x00 ∷ 0x00 ∷ 0x48 ∷ 0x8B
    ∷ 0x8C ∷ 0x24 ∷ 0x80 ∷ 0x00 ∷ 0x00 ∷ 0x00 ∷ 0x48 ∷ 0xBA ∷ 0x10 ∷ 0x00 ∷ 0x00 ∷ 0x00 ∷ 0x00
    ∷ 0x00 ∷ 0x00 ∷ 0x00 ∷ 0x89 ∷ 0x4C ∷ 0x10 ∷ 0x00 ∷ 0x48 ∷ 0x89 ∷ 0xC8 ∷ 0x48 ∷ 0x89 ∷ 0x84
    ∷ 0x24 ∷ 0x80 ∷ 0x00 ∷ 0x00 ∷ 0x00 ∷ []
unfolding function_layout modrm opcode_register
variable_placed = refl

-- mov rax,[rsp+264] ; mov rcx,[rsp+128] ; mov rdx,16 ; add rax,rdx ; sub rcx,8 ;
-- mov qword [rax+rcx],0 ; mov rax,rcx ; mov [rsp+128],rax
element_cleared : spelled (compute_code function_layout (Temporary 0) (operations.Clear W64 16)
    (Local 1) (Temporary 0)) ≡ 0x48 ∷ 0x8B ∷ 0x84 ∷ 0x24 ∷ 0x08 ∷ 0x01 ∷ 0x00 ∷ 0x00 ∷ 0x48 ∷ 0x8B
    ∷ 0x8C ∷ 0x24 ∷ 0x80 ∷ 0x00 ∷ 0x00 ∷ 0x00 ∷ 0x48 ∷ 0xBA ∷ 0x10 ∷ 0x00 ∷ 0x00 ∷ 0x00 ∷ 0x00
    ∷ 0x00 ∷ 0x00 ∷ 0x00 ∷ 0x48 ∷ 0x01 ∷ 0xD0 ∷ 0x48 ∷ 0x83 ∷ 0xE9 ∷ 0x08 ∷ 0x48 ∷ 0xC7 ∷ 0x44
    ∷ 0x08 ∷ 0x00 ∷ 0x00 ∷ 0x00 ∷ 0x00 ∷ 0x00 ∷ 0x48 ∷ 0x89 ∷ 0xC8 ∷ 0x48 ∷ 0x89 ∷ 0x84 ∷ 0x24
    ∷ 0x80 ∷ 0x00 ∷ 0x00 ∷ 0x00 ∷ []
unfolding function_layout modrm opcode_register
element_cleared = refl

-- mov rax,[rsp+128] ; mov rcx,24 ; imul rax,rcx ; mov [rsp+128],rax
index_scaled : spelled (compute_code function_layout (Temporary 0) (operations.Pure
    (pures.MultiplyBy 24)) (Temporary 0) (Temporary 0)) ≡ 0x48 ∷ 0x8B ∷ 0x84 ∷ 0x24 ∷ 0x80 ∷ 0x00
    ∷ 0x00 ∷ 0x00 ∷ 0x48 ∷ 0xB9 ∷ 0x18 ∷ 0x00 ∷ 0x00 ∷ 0x00 ∷ 0x00 ∷ 0x00 ∷ 0x00 ∷ 0x00 ∷ 0x48
    ∷ 0x0F ∷ 0xAF ∷ 0xC1 ∷ 0x48 ∷ 0x89 ∷ 0x84 ∷ 0x24 ∷ 0x80 ∷ 0x00 ∷ 0x00 ∷ 0x00 ∷ []
unfolding function_layout modrm opcode_register
index_scaled = refl

-- in a block a local is reached through the base: mov rax,[rsp+32] ; mov rax,[rax+256], and
-- mov rcx,[rsp+32] ; mov [rcx+256],rax
local_of_a_block : length (compute_code block_layout (Local 0) (operations.Pure pures.First)
    (Local 0) (Local 1)) ≡ 4
unfolding block_layout
local_of_a_block = refl

-- jmp to itself
jump_to_itself : spelled (jump_code 0x140000000 0x140000000) ≡ 0xE9 ∷ 0xFB ∷ 0xFF ∷ 0xFF ∷ 0xFF ∷ []
jump_to_itself = refl

-- a body of three instructions, and where the third is placed
some_code : List Instruction
some_code = instructions.Separator ∷ instructions.Jump 0 ∷ instructions.Separator ∷ []

third_at : offset_of function_layout some_code 2 ≡ 6
unfolding some_code template_size size
third_at = refl
