-- What `caller` answers of a frame that is found.
use Rattle.std.specs.Prelude.{ℕ, Bool, true, false, nat_lt, is_some, Option, Some, None, Result, Ok, Err}
use Rattle.x64_machine.specs.declared.context.Context.{Context}
use Rattle.eh_tables.specs.Infos.{Info}
use Rattle.virtual_unwind.specs.declared.frame.Caller.{Caller}
use Rattle.virtual_unwind.specs.declared.refusal.UnwindErr.{UnwindErr}
use Rattle.virtual_unwind.specs.declared.refusal.UnwindErr.TheVariants.{Backward}
use Rattle.virtual_unwind.specs.Contexts.{rsp}
use Rattle.virtual_unwind.specs.Undone.{Answer}
use Rattle.virtual_unwind.specs.CallerOf.{CallerFrame}

abbrev pub handler_of : Option Info → Option ℕ
handler_of None = None
handler_of (Some i) = i.handler

abbrev pub caller_of_found : CallerFrame → Caller
caller_of_found f =
    record {
      frame = f.frame;
      context = f.context;
      handler = handler_of f.asked;
      in_body = is_some f.asked;
    }

abbrev pub shown : Answer CallerFrame → Result Caller UnwindErr
shown (Ok f) = Ok (caller_of_found f)
shown (Err e) = Err e

-- the same where RSP has to rise
abbrev pub risen_or : Context → Caller → Bool → Result Caller UnwindErr
risen_or c f true = Ok f
risen_or c f false = Err (Backward (rsp c))

abbrev pub raised_caller : Context → Result Caller UnwindErr → Result Caller UnwindErr
raised_caller c (Ok f) = risen_or c f (nat_lt (rsp c) (rsp f.context))
raised_caller c (Err e) = Err e
