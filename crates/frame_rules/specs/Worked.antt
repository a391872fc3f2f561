-- Worked functions: their bytes, and what the rules say of them.
use Rattle.std.specs.Prelude.{◌≡◌, ℕ, zero, suc, Bool, true, false, List, [], ◌∷◌, drop, length, Option, Some, None}
use Rattle.x64_instr.specs.Spelling.{leading}
use Rattle.eh_tables.specs.declared.code.UnwindOperation.TheVariants.{Push, Allocate, SetFrame, Save}
use Rattle.eh_tables.specs.declared.code.UnwindCode.{UnwindCode}
use Rattle.eh_tables.specs.Infos.{Info}
use Rattle.virtual_unwind.specs.Tail.{FetchedInstr, item_of}
use Rattle.frame_rules.specs.Body.{Body, following, is_body}
use Rattle.frame_rules.specs.Validated.{keeps_rules}

-- ---- the instructions that bytes spell one after another, up to the first that is none

abbrev pub first : (FetchedInstr → List FetchedInstr) → Option FetchedInstr → List FetchedInstr
first others None = []
first others (Some x) = x ∷ others x

unfoldable pub spelled : ℕ → List ℕ → List FetchedInstr
spelled zero bytes = []
spelled (suc n) bytes = first (λ x. spelled n (drop x.size bytes)) (item_of bytes (leading bytes))

abbrev pub instructions : List ℕ → List FetchedInstr
instructions bytes = spelled (length bytes) bytes

-- ---- infos

abbrev pub info : ℕ → ℕ → ℕ → List UnwindCode → Info
info prologue_size register offset codes =
    record {
      bytes = [];
      flags = 0;
      prologue_size = prologue_size;
      frame_register = register;
      frame_offset = offset;
      codes = codes;
      handler = None;
      parent = None;
      has_c_handler =
          false;
      scopes = [];
    }

abbrev pub keeps : Info → List ℕ → List ℕ → Bool
keeps i prologue rest = keeps_rules i (instructions prologue) (instructions rest)

abbrev pub is_leaf : List ℕ → Bool
is_leaf bytes = is_body (following 0 0 [] (instructions bytes) (Body []))

-- ---- push rbx, sub rsp,32

abbrev pub pushing : Info
pushing =
    info 5 0 0 (record { offset = 5; operation = Allocate 32 }
    ∷ record { offset = 1; operation = Push 3 } ∷ [])

abbrev pub push_rbx : List ℕ
push_rbx = 0x53 ∷ 0x48 ∷ 0x83 ∷ 0xEC ∷ 0x20 ∷ []

-- xor eax,eax; the epilogue
abbrev pub clears_eax : List ℕ
clears_eax = 0x31 ∷ 0xC0 ∷ 0x48 ∷ 0x83 ∷ 0xC4 ∷ 0x20 ∷ 0x5B ∷ 0xC3 ∷ []

-- xor esi,esi, which isn't saved
abbrev pub clears_esi : List ℕ
clears_esi = 0x31 ∷ 0xF6 ∷ 0x48 ∷ 0x83 ∷ 0xC4 ∷ 0x20 ∷ 0x5B ∷ 0xC3 ∷ []

-- nop; add rsp,40; ret: RBX isn't popped
abbrev pub forgets_rbx : List ℕ
forgets_rbx = 0x90 ∷ 0x48 ∷ 0x83 ∷ 0xC4 ∷ 0x28 ∷ 0xC3 ∷ []

-- ---- push rbx, sub rsp,64, mov [rsp+40],r12

abbrev pub saving : Info
saving =
    info 10 0 0 (record { offset = 10; operation = Save 12 40 }
    ∷ record { offset = 5; operation = Allocate 64 } ∷ record { offset = 1; operation = Push 3 }
    ∷ [])

abbrev pub save_r12 : List ℕ
save_r12 = 0x53 ∷ 0x48 ∷ 0x83 ∷ 0xEC ∷ 0x40 ∷ 0x4C ∷ 0x89 ∷ 0x64 ∷ 0x24 ∷ 0x28 ∷ []

-- nop; mov r12,[rsp+40]; the epilogue
abbrev pub loads_r12 : List ℕ
loads_r12 = 0x90 ∷ 0x4C ∷ 0x8B ∷ 0x64 ∷ 0x24 ∷ 0x28 ∷ 0x48 ∷ 0x83 ∷ 0xC4 ∷ 0x40 ∷ 0x5B ∷ 0xC3 ∷ []

-- without the load
abbrev pub forgets_r12 : List ℕ
forgets_r12 = 0x90 ∷ 0x48 ∷ 0x83 ∷ 0xC4 ∷ 0x40 ∷ 0x5B ∷ 0xC3 ∷ []

-- ---- push rbp, sub rsp,256, lea rbp,[rsp+128]

abbrev pub framing : Info
framing =
    info 16 5 128 (record { offset = 16; operation = SetFrame }
    ∷ record { offset = 8; operation = Allocate 256 }
    ∷ record { offset = 1; operation = Push 5 } ∷ [])

abbrev pub set_rbp : List ℕ
set_rbp =
    0x55 ∷ 0x48 ∷ 0x81 ∷ 0xEC ∷ 0x00 ∷ 0x01 ∷ 0x00 ∷ 0x00 ∷ 0x48 ∷ 0x8D ∷ 0xAC ∷ 0x24 ∷ 0x80 ∷ 0x00
    ∷ 0x00 ∷ 0x00 ∷ []

-- lea rsp,[rbp+128]; pop rbp; ret
abbrev pub leaves_by_rbp : List ℕ
leaves_by_rbp = 0x48 ∷ 0x8D ∷ 0xA5 ∷ 0x80 ∷ 0x00 ∷ 0x00 ∷ 0x00 ∷ 0x5D ∷ 0xC3 ∷ []

-- lea rsp,[rbp+120]: eight bytes too few
abbrev pub leaves_too_low : List ℕ
leaves_too_low = 0x48 ∷ 0x8D ∷ 0xA5 ∷ 0x78 ∷ 0x00 ∷ 0x00 ∷ 0x00 ∷ 0x5D ∷ 0xC3 ∷ []

-- ---- push rbp, sub rsp,64, lea rbp,[rsp+32], mov [rbp+8],r12: r12 is saved 40 above the base

abbrev pub framed_saving : Info
framed_saving =
    info 14 5 32 (record { offset = 14; operation = Save 12 40 }
    ∷ record { offset = 10; operation = SetFrame } ∷ record { offset = 5; operation = Allocate 64 }
    ∷ record { offset = 1; operation = Push 5 } ∷ [])

abbrev pub save_by_rbp : List ℕ
save_by_rbp =
    0x55 ∷ 0x48 ∷ 0x83 ∷ 0xEC ∷ 0x40 ∷ 0x48 ∷ 0x8D ∷ 0x6C ∷ 0x24 ∷ 0x20 ∷ 0x4C ∷ 0x89 ∷ 0x65 ∷ 0x08
    ∷ []

-- mov [rbp+40],r12: 72 above the base
abbrev pub save_too_high : List ℕ
save_too_high =
    0x55 ∷ 0x48 ∷ 0x83 ∷ 0xEC ∷ 0x40 ∷ 0x48 ∷ 0x8D ∷ 0x6C ∷ 0x24 ∷ 0x20 ∷ 0x4C ∷ 0x89 ∷ 0x65 ∷ 0x28
    ∷ []

-- mov r12,[rbp+8]; lea rsp,[rbp+32]; pop rbp; ret
abbrev pub loads_by_rbp : List ℕ
loads_by_rbp =
    0x4C ∷ 0x8B ∷ 0x65 ∷ 0x08 ∷ 0x48 ∷ 0x8D ∷ 0x65 ∷ 0x20 ∷ 0x5D ∷ 0xC3 ∷ []

-- ---- mov eax,0x1238; call; sub rsp,rax

abbrev pub probing : Info
probing = info 13 0 0 (record { offset = 13; operation = Allocate 0x1238 } ∷ [])

abbrev pub probe : List ℕ
probe =
    0xB8 ∷ 0x38 ∷ 0x12 ∷ 0x00 ∷ 0x00 ∷ 0xE8 ∷ 0x00 ∷ 0x10 ∷ 0x00 ∷ 0x00 ∷ 0x48 ∷ 0x29 ∷ 0xC4 ∷ []

-- add rsp,0x1238; ret
abbrev pub gives_back_much : List ℕ
gives_back_much = 0x48 ∷ 0x81 ∷ 0xC4 ∷ 0x38 ∷ 0x12 ∷ 0x00 ∷ 0x00 ∷ 0xC3 ∷ []

-- ---- a thunk: jmp [rip+d]; a leaf: mov rax,[rcx]; ret

abbrev pub thunk : List ℕ
thunk = 0xFF ∷ 0x25 ∷ 0x10 ∷ 0x20 ∷ 0x00 ∷ 0x00 ∷ []

abbrev pub reads : List ℕ
reads = 0x48 ∷ 0x8B ∷ 0x01 ∷ 0xC3 ∷ []

-- push rcx; ret: RSP isn't kept
abbrev pub pushes_rcx : List ℕ
pushes_rcx = 0x51 ∷ 0xC3 ∷ []

-- ---- what the rules say

abbrev pub Keep : Type 0
Keep =
    (keeps pushing push_rbx clears_eax ≡ true) × (keeps saving save_r12 loads_r12 ≡ true)
    × (keeps framing set_rbp leaves_by_rbp ≡ true)
    × (keeps framed_saving save_by_rbp loads_by_rbp ≡ true)
    × (keeps probing probe gives_back_much ≡ true)
    × (is_leaf thunk ≡ true) × (is_leaf reads ≡ true)

abbrev pub Break : Type 0
Break =
    (keeps pushing push_rbx clears_esi ≡ false) × (keeps pushing push_rbx forgets_rbx ≡ false)
    × (keeps saving save_r12 forgets_r12 ≡ false) × (keeps framing set_rbp leaves_too_low ≡ false)
    × (keeps framed_saving save_too_high loads_by_rbp ≡ false) × (is_leaf pushes_rcx ≡ false)
