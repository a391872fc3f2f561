-- The code's values, as the definitions see them, and what the code answers.
use Rattle.std.specs.Prelude.{ℕ, Option, Some, None, Result, Ok, Err}
use Rattle.eh_tables.specs.Infos.{Info}
use Rattle.virtual_unwind.specs.declared.refusal.UnwindErr.{UnwindErr}
use Rattle.virtual_unwind.specs.Undone.{Answer}
use Rattle.virtual_unwind.specs.Views as general
use Rattle.abi_unwind.specs.declared.undo.AbiUndo as code
use Rattle.abi_unwind.specs.declared.frame.AbiCaller.{AbiCaller}
use Rattle.abi_unwind.specs.declared.frame.Handler.{Handler}
use Rattle.abi_unwind.specs.declared.each.EntryErr.{EntryErr}
use Rattle.abi_unwind.specs.Undone.{AbiUndo}
use Rattle.abi_unwind.specs.Caller.{AbiFrame}
use Rattle.abi_unwind.specs.Each.{Each}

abbrev pub undo_of : code.AbiUndo → AbiUndo
undo_of u = record { general = general.undo_of u.general; vectors = u.vectors }

-- the handler of an info, with the flags that say what it is asked for
abbrev pub handler_if : Info → Option ℕ → Option Handler
handler_if i None = None
handler_if i (Some rva) = Some (record { flags = i.flags; rva = rva })

abbrev pub handler_of : Option Info → Option Handler
handler_of None = None
handler_of (Some i) = handler_if i i.handler

abbrev pub caller_of_found : AbiFrame → AbiCaller
caller_of_found f = record { frame = f.frame; context = f.context; handler = handler_of f.asked }

abbrev pub shown : Answer AbiFrame → Result AbiCaller UnwindErr
shown (Ok f) = Ok (caller_of_found f)
shown (Err e) = Err e

-- the same where each entry is read when it is asked
abbrev pub shown_each : Each AbiFrame → Result AbiCaller EntryErr
shown_each (Ok f) = Ok (caller_of_found f)
shown_each (Err e) = Err e
