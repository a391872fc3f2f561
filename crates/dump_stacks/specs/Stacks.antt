-- The stack of a dump's thread (Windows headers, winnt.h: CONTEXT for x64): the registers that a
-- walk begins with, and the memory that it reads.
--
-- The main definitions: `location_of`, `registers_of`, `dump_memory`, `ThreadAnswers`.
use Rattle.std.specs.Prelude.{◌≡◌, ℕ, ◌==◌, if◌then◌else◌, bit_and, List, [], ◌∷◌, slice_index, slice_index_or, Option, Some, None, Result, Ok, Err}
use Rattle.flat_memory.specs.Memory.{Memory}
use Rattle.flat_memory.specs.declared.protection.Protection.{Protection}
use Rattle.pe_image.specs.Image.{Image}
use Rattle.minidump.specs.declared.refusal.DumpErr.{DumpErr}
use Rattle.minidump.specs.declared.structures.Context.{Context}
use Rattle.minidump.specs.declared.structures.Exception.{Exception}
use Rattle.minidump.specs.declared.structures.Location.{Location}
use Rattle.minidump.specs.declared.structures.M128A.{M128A}
use Rattle.minidump.specs.declared.structures.MemoryRange.{MemoryRange}
use Rattle.minidump.specs.declared.structures.Thread.{Thread}
use Rattle.seh_views.specs.declared.c_types.SehContext.{SehContext}
use Rattle.seh_views.specs.declared.c_types.SehFrame.{SehFrame}
use Rattle.seh_views.specs.declared.c_types.SehRange.{SehRange}
use Rattle.seh_views.specs.declared.c_types.SehView.{SehView}
use Rattle.seh_views.specs.declared.snapshot.TheConstants.{DATA}
use Rattle.seh_views.specs.declared.walking.Walk.{Walk}
use Rattle.seh_views.specs.Modules.{StackWalked}
use Rattle.seh_views.specs.Snapshot.{code_from, protection_by, byte_by}
use Rattle.dump_stacks.specs.declared.registers.TheConstants.{FLOATING_POINT}
use Rattle.dump_stacks.specs.Ranges.{byte_of}

-- ---- the registers

-- where a thread's registers are: of the one that raised an exception, in the exception
abbrev pub location_of : Thread → Option Exception → Location
location_of t None = t.context
location_of t (Some e) = if t.thread_id == e.thread_id then e.context else t.context

abbrev pub no_vector : M128A
no_vector = record { low = 0; high = 0 }

-- XMM6 to XMM15, of each the low eight bytes first
abbrev pub in_halves : M128A → List ℕ → List ℕ
in_halves v others = v.low ∷ v.high ∷ others

abbrev pub vector : Context → ℕ → M128A
vector c k = slice_index_or c.xmm k no_vector

abbrev pub vectors_of : Context → List ℕ
vectors_of c =
    in_halves (vector c 6) (in_halves (vector c 7) (in_halves (vector c 8) (in_halves (vector c 9)
    (in_halves (vector c 10) (in_halves (vector c 11) (in_halves (vector c 12)
    (in_halves (vector c 13) (in_halves (vector c 14) (in_halves (vector c 15) [])))))))))

-- the nonvolatile registers of a context; those of vectors count where its flags say so
abbrev pub registers_of : Context → SehContext
registers_of c = record {
  rip = c.rip;
  rsp = slice_index c.integer 4;
  rbx = slice_index c.integer 3;
  rbp = slice_index c.integer 5;
  rsi = slice_index c.integer 6;
  rdi = slice_index c.integer 7;
  r12 = slice_index c.integer 12;
  r13 = slice_index c.integer 13;
  r14 = slice_index c.integer 14;
  r15 = slice_index c.integer 15;
  vectors = vectors_of c;
  has_vectors = bit_and c.context_flags FLOATING_POINT;
}

-- ---- the memory

abbrev pub protection_of : Option ℕ → List ℕ → Protection
protection_of (Some b) code = DATA
protection_of None code = protection_by [] code

abbrev pub byte_or : Option ℕ → List ℕ → ℕ
byte_or (Some b) code = b
byte_or None code = byte_by [] code

-- the bytes of a dump's ranges; elsewhere those that an image stores, where it lies at a base
abbrev pub dump_memory : Image → ℕ → List ℕ → List MemoryRange → Memory
dump_memory image base file ms = record {
  protection = λ a. protection_of (byte_of file ms a) (code_from image base a);
  byte = λ a. byte_or (byte_of file ms a) (code_from image base a);
}

-- ---- the frames

-- what a walk from a context writes and returns; where that is refused, nothing is written
abbrev pub ThreadAnswers : List SehView → List SehRange → Result Context DumpErr → List SehFrame
    → List SehFrame → Result Walk DumpErr → Type 0
ThreadAnswers vs rs (Ok c) old new (Ok w) = StackWalked vs rs (registers_of c) old new w
ThreadAnswers vs rs (Ok c) old new (Err e) = ⊥
ThreadAnswers vs rs (Err e) old new given = (given ≡ Err e) × (new ≡ old)
