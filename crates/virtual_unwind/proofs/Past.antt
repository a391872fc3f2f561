-- Steps of a caller's search.
use Rattle.std.proofs.Common.{◌≡◌, Bool, true, false, ltb, List, Option, Some, None, Ok, Err, refl, sym, ap}
use Rattle.flat_memory.specs.Memory.{Memory}
use Rattle.x64_instr.specs.declared.instruction.Instr.{Instr}
use Rattle.x64_machine.specs.declared.context.Context.{Context}
use Rattle.eh_tables.specs.Infos.{Info}
use Rattle.virtual_unwind.specs.Contexts.{rsp}
use Rattle.seh_num.specs.Answers.{◌>>=◌}
use Rattle.virtual_unwind.specs.Undone.{Answer}
use Rattle.virtual_unwind.specs.Tail.{tail_at}
use Rattle.virtual_unwind.specs.After.{after}
use Rattle.virtual_unwind.specs.CallerOf.{CallerFrame, found, past_prologue, past, in_body, risen, rising}
use Rattle.virtual_unwind.specs.Shown.{shown, caller_of_found, risen_or, raised_caller}

tail_some : (m : Memory) (i : Info) (ps : List Info) (c : Context) (a : Answer Context)
    (o : Option (List Instr)) → Some a ≡ after m (Ok c) o
    → past_prologue m i ps c o ≡ found (rsp c) None a
tail_some m i ps c a None e = absurd cc
tail_some m i ps c a (Some is) e = ap (found (rsp c) None) (some_same (sym e))
  where
    some_same : {x y : Answer Context} → Some x ≡ Some y → x ≡ y
    some_same e = cc

tail_none : (m : Memory) (i : Info) (ps : List Info) (c : Context) (o : Option (List Instr))
    → None ≡ after m (Ok c) o → past_prologue m i ps c o ≡ in_body m i ps c
tail_none m i ps c None e = refl
tail_none m i ps c (Some is) e = absurd cc

pub in_tail : (m : Memory) (i : Info) (ps : List Info) (c : Context) (a : Answer Context)
    → Some a ≡ after m (Ok c) (tail_at i.frame_register m c.rip)
    → past m i ps c ≡ found (rsp c) None a
in_tail m i ps c a e = tail_some m i ps c a (tail_at i.frame_register m c.rip) e

pub no_tail : (m : Memory) (i : Info) (ps : List Info) (c : Context)
    → None ≡ after m (Ok c) (tail_at i.frame_register m c.rip) → past m i ps c ≡ in_body m i ps c
no_tail m i ps c e = tail_none m i ps c (tail_at i.frame_register m c.rip) e

-- RSP rises in what is shown where it rises in what is found
pub risen_shown : (c : Context) (a : Answer CallerFrame)
    → shown (a >>= rising c) ≡ raised_caller c (shown a)
risen_shown c (Err e) = refl
risen_shown c (Ok f) = go (ltb (rsp c) (rsp f.context))
  where
    go : (b : Bool) → shown (risen c f b) ≡ risen_or c (caller_of_found f) b
    go true = refl
    go false = refl
