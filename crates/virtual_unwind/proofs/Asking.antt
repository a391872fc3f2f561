-- What is asked at a frame.
use Rattle.std.proofs.Common.{◌≡◌, ℕ, ◌-◌, Bool, true, false, ltb, List, Option, Some, None, Ok, Err, refl, subst}
use Rattle.std.specs.Prelude.{is_some}
use Rattle.flat_memory.specs.Memory.{Memory}
use Rattle.x64_instr.specs.declared.instruction.Instr.{Instr}
use Rattle.x64_machine.specs.declared.context.Context.{Context}
use Rattle.eh_tables.specs.Tables.{Entry}
use Rattle.virtual_unwind.specs.Contexts.{rsp}
use Rattle.seh_num.specs.Answers.{◌>>=◌}
use Rattle.virtual_unwind.specs.Undone.{Answer}
use Rattle.virtual_unwind.specs.Tail.{tail_at}
use Rattle.virtual_unwind.specs.CallerOf.{CallerFrame, found, distance, entry_of, of_entry, by_distance, past_prologue, rising, risen, caller_in, asked_in}
use Rattle.virtual_unwind.specs.Laws.{TheEntryIsAsked}

abbrev IsAsked : Option Entry → Answer CallerFrame → Type 0
IsAsked o (Ok f) = f.asked ≡ asked_in (is_some f.asked) o
IsAsked o (Err e) = Unit {0}

none_asked : (o : Option Entry) (frame : ℕ) (a : Answer Context) → IsAsked o (found frame None a)
none_asked o frame (Ok c) = refl
none_asked o frame (Err e) = tt

own_asked : (e : Entry) (frame : ℕ) (a : Answer Context)
    → IsAsked (Some e) (found frame (Some e.info) a)
own_asked e frame (Ok c) = refl
own_asked e frame (Err x) = tt

past_asked : (m : Memory) (e : Entry) (c : Context) (o : Option (List Instr))
    → IsAsked (Some e) (past_prologue m e.info e.parents c o)
past_asked m e c (Some is) = none_asked (Some e) _ _
past_asked m e c None = own_asked e _ _

by_asked : (m : Memory) (e : Entry) (c : Context) (d : ℕ) (b : Bool)
    → IsAsked (Some e) (by_distance m e.info e.parents c d b)
by_asked m e c d true = none_asked (Some e) _ _
by_asked m e c d false = past_asked m e c (tail_at e.info.frame_register m c.rip)

entry_asked : (m : Memory) (c : Context) (rva : ℕ) (o : Option Entry)
    → IsAsked o (of_entry m c rva o)
entry_asked m c rva None = none_asked None _ _
entry_asked m c rva (Some e) = by_asked m e c (rva - e.range.begin)
    (ltb (rva - e.range.begin) e.info.prologue_size)

risen_asked : (o : Option Entry) (c : Context) (a : Answer CallerFrame) → IsAsked o a
    → IsAsked o (a >>= rising c)
risen_asked o c (Err e) h = tt
risen_asked o c (Ok f) h = go (ltb (rsp c) (rsp f.context))
  where
    go : (b : Bool) → IsAsked o (risen c f b)
    go true = h
    go false = tt

pub the_entry_is_asked : TheEntryIsAsked
unfolding caller_in
the_entry_is_asked t m c f e = subst (IsAsked (entry_of t c.rip)) e
    (risen_asked (entry_of t c.rip) c (of_entry m c (distance t.base c.rip) (entry_of t c.rip))
    (entry_asked m c (distance t.base c.rip) (entry_of t c.rip)))
