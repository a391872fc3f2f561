-- The registers of a thread (Windows headers, winnt.h: CONTEXT for x64).
--
-- The main definition: `context`.
use Rattle.std.specs.Prelude.{ℕ, zero, suc, ◌+◌, ◌*◌, bit_and, not, ◌==◌, nat_le, List, [], ◌∷◌, Result, Ok}
use Rattle.seh_num.specs.Answers.{unless, ◌>>=◌}
use Rattle.pe_image.specs.Field.{field}
use Rattle.minidump.specs.declared.layout.TheConstants.{CONTEXT_SIZE, CONTEXT_FLAGS, CONTEXT_AMD64, MX_CSR, E_FLAGS, RAX, RIP, XMM0, REGISTER_COUNT}
use Rattle.minidump.specs.declared.refusal.DumpErr.{DumpErr}
use Rattle.minidump.specs.declared.refusal.DumpErr.TheVariants as refusals
use Rattle.minidump.specs.declared.structures.Context.{Context}
use Rattle.minidump.specs.declared.structures.Location.{Location}
use Rattle.minidump.specs.declared.structures.M128A.{M128A}
use Rattle.minidump.specs.Streams.{is_in_file}
use Rattle.minidump.specs.Lists.{words}

abbrev pub m128a_at : List ℕ → ℕ → M128A
m128a_at bytes at = record { low = field 8 bytes at; high = field 8 bytes (at + 8) }

-- so many registers of sixteen bytes, from the k-th after an offset on
abbrev pub m128as : List ℕ → ℕ → ℕ → ℕ → List M128A
m128as bytes at k zero = []
m128as bytes at k (suc n) = m128a_at bytes (at + 16 * k) ∷ m128as bytes at (k + 1) n

abbrev pub context_at : List ℕ → ℕ → Context
context_at bytes at = record {
  context_flags = field 4 bytes (at + CONTEXT_FLAGS);
  mx_csr = field 4 bytes (at + MX_CSR);
  e_flags = field 4 bytes (at + E_FLAGS);
  integer = words bytes (at + RAX) 0 REGISTER_COUNT;
  rip = field 8 bytes (at + RIP);
  xmm = m128as bytes (at + XMM0) 0 REGISTER_COUNT;
}

-- the context at a location: the checks in their order, and its fields
abbrev pub context : List ℕ → Location → Result Context DumpErr
context bytes l = do
  _ ← unless (nat_le CONTEXT_SIZE l.size) (refusals.ContextShort l.size)
  _ ← unless (is_in_file bytes l) (refusals.ContextTruncated l.rva)
  _ ← unless (not (bit_and (field 4 bytes (l.rva + CONTEXT_FLAGS)) CONTEXT_AMD64 == 0))
      (refusals.ContextKind (field 4 bytes (l.rva + CONTEXT_FLAGS)))
  Ok (context_at bytes l.rva)
