-- What holds of contexts.
use Rattle.std.specs.Prelude.{◌≡◌, ◌≢◌, ℕ, true, length, is_some, Ok}
use Rattle.flat_memory.specs.Memory.{Memory}
use Rattle.x64_machine.specs.declared.cpu.Cpu.{Cpu}
use Rattle.x64_machine.specs.declared.context.Context.{Context}
use Rattle.x64_machine.specs.Contexts.{context_of}
use Rattle.std.specs.Prelude.{slice_index}
use Rattle.virtual_unwind.specs.CallerOf.{Functions, CallerFrame, entry_of, caller_in, asked_in}
use Rattle.virtual_unwind.specs.Contexts.{is_nonvolatile, get, set}

abbrev pub ReadsWhatWasSet : Type 0
ReadsWhatWasSet =
    (c : Context) (r v : ℕ) → length c.kept ≡ 9 → is_nonvolatile r ≡ true → get (set c r v) r ≡ v

abbrev pub LeavesOtherRegisters : Type 0
LeavesOtherRegisters = (c : Context) (r q v : ℕ) → r ≢ q → get (set c r v) q ≡ get c q

abbrev pub AgreesWithTheProcessor : Type 0
AgreesWithTheProcessor =
    (c : Cpu) (r : ℕ) → is_nonvolatile r ≡ true → get (context_of c) r ≡ slice_index c.registers r

-- whose rows may be asked at a frame: those of the entry that holds RIP
abbrev pub TheEntryIsAsked : Type 0
TheEntryIsAsked =
    (t : Functions) (m : Memory) (c : Context) (f : CallerFrame) → caller_in t m c ≡ Ok f
    → f.asked ≡ asked_in (is_some f.asked) (entry_of t c.rip)
