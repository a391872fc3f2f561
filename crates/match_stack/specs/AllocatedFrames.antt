-- A frame that saves nothing and has no frame register: it is as its one code tells.
use Rattle.std.specs.Prelude.{◌≡◌, ℕ, ◌+◌, ◌^◌, ◌<◌, [], ◌∷◌, length, drop, Ok}
use Rattle.flat_memory.specs.Memory.{Memory}
use Rattle.x64_machine.specs.declared.context.Context.{Context}
use Rattle.eh_tables.specs.declared.code.UnwindOperation.TheVariants.{Allocate}
use Rattle.eh_tables.specs.Tables.{Entry}
use Rattle.virtual_unwind.specs.Contexts.{rsp}
use Rattle.virtual_unwind.specs.Undone.{word}
use Rattle.match_stack.specs.Stack.{StackFrame, IsAsTold, teller}

-- its slots end at the return address, and its caller has the registers that are there
abbrev pub allocated_frame : Entry → ℕ → ℕ → Context → StackFrame
allocated_frame entry size back c =
    record {
      entry = entry;
      slots = size;
      size = size;
      return_address = back;
      others = drop 1 c.kept;
    }

abbrev pub AllocationsAreTold : Type 0
AllocationsAreTold =
    (m : Memory) (c : Context) (entry : Entry) (offset size back : ℕ)
    → (teller entry).codes ≡ record { offset = offset; operation = Allocate size } ∷ []
    → (teller entry).frame_register ≡ 0 → (teller entry).frame_offset < 2 ^ 16
    → length c.kept ≡ 9
    → rsp c + size + 8 < 2 ^ 64 → word m (rsp c + size) ≡ Ok back
    → IsAsTold m c (allocated_frame entry size back c)

-- and it tells nothing else: the return address is there, and the registers are the caller's
pub record IsAllocated (m : Memory) (c : Context) (f : StackFrame) : Type 0 where
  pub returns : word m (rsp c + f.size) ≡ Ok f.return_address
  pub others : drop 1 c.kept ≡ f.others

abbrev pub ToldAllocations : Type 0
ToldAllocations =
    (m : Memory) (c : Context) (f : StackFrame) (offset : ℕ)
    → (teller f.entry).codes ≡ record { offset = offset; operation = Allocate f.size } ∷ []
    → length c.kept ≡ 9 → length f.others ≡ 8 → IsAsTold m c f → IsAllocated m c f
