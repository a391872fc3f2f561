-- Windows' unwinder, run on what is known in place of a state.
use Rattle.std.specs.Prelude.{◌≡◌, ◌≢◌, ℕ, ◌+◌, ◌-◌, ◌%◌, ◌^◌, Bool, true, false, nat_le, if◌then◌else◌, List, [], ◌∷◌, Option, Some, None}
use Rattle.eh_tables.specs.declared.range.RuntimeFunction.{RuntimeFunction}
use Rattle.eh_tables.specs.Tables.{Entry as TableEntry}
use Rattle.eh_tables.specs.declared.code.UnwindOperation.{UnwindOperation}
use Rattle.eh_tables.specs.declared.code.UnwindOperation.TheVariants.{Push, Allocate, SetFrame, Save, SaveVector, MachineFrame}
use Rattle.eh_tables.specs.Infos.{Info}
use Rattle.virtual_unwind.specs.Contexts.{is_nonvolatile}
use Rattle.virtual_unwind.specs.CallerOf.{distance}
use Rattle.abi_unwind.specs.declared.tail.Part.{Part}
use Rattle.abi_unwind.specs.declared.tail.Part.TheVariants.{Raise, FromFrame, Restore}
use Rattle.abi_unwind.specs.Caller.{codes_at, is_framed, parent_or}
use Rattle.frame_known.specs.Knowledge.{Reach, Known, Entry, Place, Nothing, Knowledge, with_known}

-- ---- places and words

-- n bytes above a place
abbrev pub raised : ℕ → Known → Known
raised n (Place k) = Place ((k + n) % 2 ^ 64)
raised n x = Nothing

abbrev pub held : Option ℕ → Known
held (Some r) = Entry r
held None = Nothing

-- whether the word at a distance from S is where the stack may be read
abbrev pub in_reach : Reach → ℕ → Bool
in_reach reach k = nat_le ((k + reach.below) % 2 ^ 64 + 8) (reach.below + reach.above)

-- the word at a place, where it may be read
abbrev pub read : Reach → (ℕ → Option ℕ) → Known → Option Known
read reach words (Place k) = if in_reach reach k then Some (held (words k)) else None
read reach words x = None

-- what is known of a register in a context: volatile registers aren't in it
abbrev pub kept : (ℕ → Known) → ℕ → Known
kept now r = if is_nonvolatile r then now r else Nothing

-- ---- one after another, as long as words may be read

abbrev pub Run : Type 0
Run = Option (ℕ → Known)

infixl 10 ◌>>=◌
abbrev pub ◌>>=◌ : {A B : Type 0} → Option A → (A → Option B) → Option B
None >>= f = None
(Some x) >>= f = f x

-- ---- codes undone

abbrev pub below_frame : Info → (ℕ → Known) → Known
below_frame i now = raised (2 ^ 64 - i.frame_offset) (kept now i.frame_register)

abbrev pub base_if : Info → (ℕ → Known) → Bool → Known
base_if i now true = below_frame i now
base_if i now false = now 4

abbrev pub risen : ℕ → (ℕ → Known) → ℕ → Known
risen n now = with_known now 4 (raised n (now 4))

abbrev pub undone_one : Reach → (ℕ → Option ℕ) → Known → Info → (ℕ → Known) → UnwindOperation → Run
undone_one reach words base i now (Push r) =
    read reach words (now 4) >>= λ x. Some (risen 8 (with_known now r x))
undone_one reach words base i now (Allocate n) = Some (risen n now)
undone_one reach words base i now SetFrame = Some (with_known now 4 (below_frame i now))
undone_one reach words base i now (Save r n) =
    read reach words (raised n base) >>= λ x. Some (with_known now r x)
undone_one reach words base i now (SaveVector r n) =
    read reach words (raised n base) >>= λ x. read reach words (raised 8 (raised n base))
    >>= λ y. Some now
undone_one reach words base i now (MachineFrame e) = None

abbrev pub undone : Reach → (ℕ → Option ℕ) → Known → Info → List UnwindOperation → (ℕ → Known) → Run
undone reach words base i [] now = Some now
undone reach words base i (x ∷ xs) now =
    undone_one reach words base i now x >>= undone reach words base i xs

-- along the chain of infos, all from one establisher frame
abbrev pub chain_undone : Reach → (ℕ → Option ℕ) → Known → ℕ → RuntimeFunction → Info → List Info
    → (ℕ → Known) → Run
chain_undone reach words base rva r i [] now =
    undone reach words base i (codes_at i (distance r.begin rva)) now
chain_undone reach words base rva r i (p ∷ ps) now =
    undone reach words base i (codes_at i (distance r.begin rva)) now
    >>= chain_undone reach words base rva (parent_or r i.parent) p ps

-- ---- an epilogue run

abbrev pub ran_one : Reach → (ℕ → Option ℕ) → (ℕ → Known) → Part → Run
ran_one reach words now (Raise n) = Some (risen n now)
ran_one reach words now (FromFrame f n) = Some (with_known now 4 (raised n (kept now f)))
ran_one reach words now (Restore r) =
    read reach words (now 4) >>= λ x. Some (with_known (risen 8 now) r x)

abbrev pub ran : Reach → (ℕ → Option ℕ) → List Part → (ℕ → Known) → Run
ran reach words [] now = Some now
ran reach words (p ∷ ps) now = ran_one reach words now p >>= ran reach words ps

-- ---- the whole, up to the return address

-- at an address in an entry's range, by the epilogue that stands there
abbrev pub abi_known : Reach → Knowledge → ℕ → TableEntry → Option (List Part) → Run
abi_known reach known rva e (Some ps) = ran reach known.words ps known.registers
abi_known reach known rva e None =
    let framed = is_framed e.info (distance e.range.begin rva) in
    let base = base_if e.info known.registers framed in
    chain_undone reach known.words base rva e.range e.info e.parents known.registers

-- RSP is at the return address, and each other nonvolatile register is what it was at the entry
pub record IsRight (now : ℕ → Known) : Type 0 where
  pub stack : now 4 ≡ Place 0
  pub others : (r : ℕ) → is_nonvolatile r ≡ true → r ≢ 4 → now r ≡ Entry r

abbrev pub EndsRight : Run → Type 0
EndsRight (Some now) = IsRight now
EndsRight None = ⊥
