-- Worked functions: at which byte unwinding by what is known is first wrong. What is known goes
-- along falling through.
use Rattle.std.specs.Prelude.{◌≡◌, ℕ, zero, suc, ◌+◌, Bool, nat_le, if◌then◌else◌, List, [], ◌∷◌, drop, length, Option, Some, None}
use Rattle.x64_instr.specs.declared.instruction.Instr.{Instr}
use Rattle.x64_instr.specs.Spelling.{leading}
use Rattle.eh_tables.specs.declared.code.UnwindOperation.TheVariants.{Push, Allocate, SetFrame, Save}
use Rattle.eh_tables.specs.declared.code.UnwindCode.{UnwindCode}
use Rattle.eh_tables.specs.Infos.{Info}
use Rattle.eh_tables.specs.Tables.{Entry}
use Rattle.frame_rules.specs.Body.{is_a_call}
use Rattle.frame_rules.specs.Worked.{info}
use Rattle.abi_unwind.specs.Rows.{code}
use Rattle.abi_unwind.specs.Tail.{abi_tail}
use Rattle.frame_known.specs.Fragments.{at_begin_of}
use Rattle.frame_known.specs.Knowledge.{Knowledge, Reach}
use Rattle.frame_known.specs.Known.{abi_known}
use Rattle.frame_known.specs.Laws.{stepped}
use Rattle.frame_known.specs.Tests.{ends_right}

-- 256 bytes below S, the return address and the home area above it
abbrev pub reach : Reach
reach = record { below = 256; above = 40 }

-- the function is in memory from address 0 on; the jumps out of it leave
abbrev pub entry_of : Info → ℕ → Entry
entry_of i n =
    record {
      range = record { begin = 0; end = n; unwind_info = 0 };
      info = i;
      parents = [];
    }

abbrev pub is_right_at : Info → List ℕ → Knowledge → ℕ → Bool
is_right_at i bytes known d =
    ends_right (abi_known reach known d (entry_of i (length bytes))
    (abi_tail i.frame_register (λ to. nat_le (length bytes) to) (code bytes) d))

abbrev pub going_on : (Knowledge → ℕ → Option ℕ) → Knowledge → ℕ → Option (Instr × ℕ) → Option ℕ
going_on others known d None = None
going_on others known d (Some x) = others (stepped (is_a_call x.0) x.0 known) (d + x.1)

unfoldable pub first_wrong : ℕ → Info → List ℕ → Knowledge → ℕ → Option ℕ
first_wrong zero i bytes known d = None
first_wrong (suc n) i bytes known d =
    if nat_le (length bytes) d then None
    else (if is_right_at i bytes known d
    then going_on (first_wrong n i bytes) known d (leading (drop d bytes))
    else Some d)

-- where nothing is known at the begin, it is wrong there
abbrev pub wrong_from : Info → List ℕ → Option Knowledge → Option ℕ
wrong_from i bytes None = Some 0
wrong_from i bytes (Some known) = first_wrong (length bytes) i bytes known 0

abbrev pub wrong : Info → List ℕ → Option ℕ
wrong i bytes = wrong_from i bytes (at_begin_of i [])

-- ---- infos

abbrev pub saving : Info
saving =
    let push : UnwindCode = record { offset = 6; operation = Push 7 } in
    info 10 0 0 (record { offset = 10; operation = Save 3 48 }
    ∷ record { offset = 10; operation = Allocate 32 } ∷ push ∷ [])

abbrev pub allocating : Info
allocating = info 4 0 0 (record { offset = 4; operation = Allocate 40 } ∷ [])

abbrev pub allocating_8 : Info
allocating_8 = info 1 0 0 (record { offset = 1; operation = Allocate 8 } ∷ [])

abbrev pub plain : Info
plain = info 0 0 0 []

abbrev pub framing : Info
framing =
    info 8 5 0 (record { offset = 8; operation = Allocate 32 }
    ∷ record { offset = 4; operation = SetFrame } ∷ record { offset = 1; operation = Push 5 } ∷ [])

abbrev pub pushing : Info
pushing =
    info 5 0 0 (record { offset = 5; operation = Allocate 32 }
    ∷ record { offset = 1; operation = Push 3 } ∷ [])

-- with a frame that is there already; n: where RDI is saved
abbrev pub fragment : ℕ → Info
fragment n =
    info 0 0 0 (record { offset = 0; operation = Save 3 32 }
    ∷ record { offset = 0; operation = Save 7 n } ∷ record { offset = 0; operation = Allocate 64 }
    ∷ [])

-- RBX is saved 112 bytes below RSP
abbrev pub below : Info
below =
    info 10 5 0 (record { offset = 10; operation = Save 3 16 }
    ∷ record { offset = 6; operation = SetFrame } ∷ record { offset = 6; operation = Allocate 128 }
    ∷ record { offset = 1; operation = Push 5 } ∷ [])

-- push rsp, as a saved register
abbrev pub pushing_stack : Info
pushing_stack = info 1 0 0 (record { offset = 1; operation = Push 4 } ∷ [])

-- ---- the rows

pub record Right : Type 0 where
  -- mov [rsp+8],rbx; push rdi; sub rsp,32; ..; mov rbx,[rsp+48]; add rsp,32; pop rdi; ret
  pub home_save : wrong saving
      (0x48 ∷ 0x89 ∷ 0x5C ∷ 0x24 ∷ 0x08 ∷ 0x57 ∷ 0x48 ∷ 0x83 ∷ 0xEC ∷ 0x20 ∷ 0x48 ∷ 0x8B ∷ 0xD9
      ∷ 0x48 ∷ 0x8B ∷ 0xF9 ∷ 0x48 ∷ 0x8B ∷ 0x5C ∷ 0x24 ∷ 0x30 ∷ 0x48 ∷ 0x83 ∷ 0xC4 ∷ 0x20 ∷ 0x5F
      ∷ 0xC3 ∷ []) ≡ None
  -- sub rsp,40; call; add rsp,40; jmp out
  pub tail_call : wrong allocating
      (0x48 ∷ 0x83 ∷ 0xEC ∷ 0x28 ∷ 0xE8 ∷ 0 ∷ 0 ∷ 0 ∷ 0 ∷ 0x48 ∷ 0x83 ∷ 0xC4 ∷ 0x28 ∷ 0xE9 ∷ 0
      ∷ 0x10 ∷ 0 ∷ 0 ∷ []) ≡ None
  -- sub rsp,40; jmp here; add rsp,40; rex.W jmp rax
  pub wide_jump : wrong allocating
      (0x48 ∷ 0x83 ∷ 0xEC ∷ 0x28 ∷ 0xEB ∷ 0 ∷ 0x48 ∷ 0x83 ∷ 0xC4 ∷ 0x28 ∷ 0x48 ∷ 0xFF ∷ 0xE0 ∷ [])
      ≡ None
  -- sub rsp,40; add rsp,40; rep ret
  pub rep_return : wrong allocating
      (0x48 ∷ 0x83 ∷ 0xEC ∷ 0x28 ∷ 0x48 ∷ 0x83 ∷ 0xC4 ∷ 0x28 ∷ 0xF3 ∷ 0xC3 ∷ []) ≡ None
  -- sub rsp,40; add rsp,40; bnd ret
  pub bound_return : wrong allocating
      (0x48 ∷ 0x83 ∷ 0xEC ∷ 0x28 ∷ 0x48 ∷ 0x83 ∷ 0xC4 ∷ 0x28 ∷ 0xF2 ∷ 0xC3 ∷ []) ≡ None
  -- push rax; pop rdx; ret
  pub push_allocates : wrong allocating_8 (0x50 ∷ 0x5A ∷ 0xC3 ∷ []) ≡ None
  -- push rbp; mov rbp,rsp; sub rsp,32; sub rsp,rax; lea rsp,[rbp+0]; pop rbp; ret
  pub frame : wrong framing
      (0x55 ∷ 0x48 ∷ 0x89 ∷ 0xE5 ∷ 0x48 ∷ 0x83 ∷ 0xEC ∷ 0x20 ∷ 0x48 ∷ 0x29 ∷ 0xC4 ∷ 0x48 ∷ 0x8D
      ∷ 0x65 ∷ 0 ∷ 0x5D ∷ 0xC3 ∷ []) ≡ None
  -- push rbx; sub rsp,32; nop; add rsp,40; ret
  pub unwritten : wrong pushing
      (0x53 ∷ 0x48 ∷ 0x83 ∷ 0xEC ∷ 0x20 ∷ 0x90 ∷ 0x48 ∷ 0x83 ∷ 0xC4 ∷ 0x28 ∷ 0xC3 ∷ []) ≡ None
  -- mov rbx,[rsp+32]; mov rdi,[rsp+40]; add rsp,64; ret
  pub fragment : wrong (fragment 40)
      (0x48 ∷ 0x8B ∷ 0x5C ∷ 0x24 ∷ 0x20 ∷ 0x48 ∷ 0x8B ∷ 0x7C ∷ 0x24 ∷ 0x28 ∷ 0x48 ∷ 0x83 ∷ 0xC4
      ∷ 0x40 ∷ 0xC3 ∷ []) ≡ None

pub record Wrong : Type 0 where
  -- jmp rax without REX.W
  pub narrow_jump : wrong allocating
      (0x48 ∷ 0x83 ∷ 0xEC ∷ 0x28 ∷ 0xEB ∷ 0 ∷ 0x48 ∷ 0x83 ∷ 0xC4 ∷ 0x28 ∷ 0xFF ∷ 0xE0 ∷ [])
      ≡ Some 10
  -- a jump out with a frame
  pub framed_jump : wrong allocating
      (0x48 ∷ 0x83 ∷ 0xEC ∷ 0x28 ∷ 0xE9 ∷ 0xF7 ∷ 0x0F ∷ 0 ∷ 0 ∷ []) ≡ Some 4
  -- mov rdx,rdi; mov rdi,rcx; rep stosb: after the second
  pub unsaved : wrong plain
      (0x48 ∷ 0x8B ∷ 0xD7 ∷ 0x48 ∷ 0x8B ∷ 0xF9 ∷ 0xF3 ∷ 0xAA ∷ 0x48 ∷ 0x8B ∷ 0xFA ∷ 0xC3 ∷ [])
      ≡ Some 6
  -- xor esi,esi: after it
  pub cleared : wrong pushing
      (0x53 ∷ 0x48 ∷ 0x83 ∷ 0xEC ∷ 0x20 ∷ 0x31 ∷ 0xF6 ∷ 0x48 ∷ 0x83 ∷ 0xC4 ∷ 0x20 ∷ 0x5B ∷ 0xC3
      ∷ []) ≡ Some 7
  -- two saved words that overlap; and one that overlaps the return address
  pub overlapping : wrong (fragment 36)
      (0x48 ∷ 0x8B ∷ 0x5C ∷ 0x24 ∷ 0x20 ∷ 0x48 ∷ 0x8B ∷ 0x7C ∷ 0x24 ∷ 0x24 ∷ 0x48 ∷ 0x83 ∷ 0xC4
      ∷ 0x40 ∷ 0xC3 ∷ []) ≡ Some 0
  pub over_return : wrong (fragment 60)
      (0x48 ∷ 0x8B ∷ 0x5C ∷ 0x24 ∷ 0x20 ∷ 0x48 ∷ 0x8B ∷ 0x7C ∷ 0x24 ∷ 0x3C ∷ 0x48 ∷ 0x83 ∷ 0xC4
      ∷ 0x40 ∷ 0xC3 ∷ []) ≡ Some 0
  -- push rbp; lea rbp,[rsp-128]; mov [rbp+16],rbx; xor ebx,ebx; call; mov rbx,[rbp+16];
  -- pop rbp; ret
  pub below_stack : wrong below
      (0x55 ∷ 0x48 ∷ 0x8D ∷ 0x6C ∷ 0x24 ∷ 0x80 ∷ 0x48 ∷ 0x89 ∷ 0x5D ∷ 0x10 ∷ 0x31 ∷ 0xDB ∷ 0xE8
      ∷ 0 ∷ 0 ∷ 0 ∷ 0 ∷ 0x48 ∷ 0x8B ∷ 0x5D ∷ 0x10 ∷ 0x5D ∷ 0xC3 ∷ []) ≡ Some 10
  -- push rsp; nop; add rsp,8; ret: undone, RSP is the word and 8 more
  pub pushed_stack : wrong pushing_stack
      (0x54 ∷ 0x90 ∷ 0x48 ∷ 0x83 ∷ 0xC4 ∷ 8 ∷ 0xC3 ∷ []) ≡ Some 1
  -- push rbx; sub rsp,32; xor ebx,ebx; mov [rsp+32],rax; add rsp,32; pop rbx; ret
  pub overwritten : wrong pushing
      (0x53 ∷ 0x48 ∷ 0x83 ∷ 0xEC ∷ 0x20 ∷ 0x31 ∷ 0xDB ∷ 0x48 ∷ 0x89 ∷ 0x44 ∷ 0x24 ∷ 0x20 ∷ 0x48
      ∷ 0x83 ∷ 0xC4 ∷ 0x20 ∷ 0x5B ∷ 0xC3 ∷ []) ≡ Some 12
