-- The funclets of an image, and the events where RIP arrives at one.
--
-- `funclets`, `arrived`: the different handler addresses of the scope tables other than 1, in the
-- order of their addresses; the event of the one at whose first byte RIP arrives. Its number is its
-- rank from 1.
use Rattle.std.specs.Prelude.{ℕ, ◌+◌, Bool, true, false, not, ◌==◌, nat_lt, List, [], ◌∷◌, ◌++◌}
use Rattle.seh_num.specs.declared.event.Event.{Event}
use Rattle.seh_num.specs.declared.event.Event.TheVariants as events
use Rattle.seh_num.specs.declared.width.Width.TheVariants.{W32}
use Rattle.seh_num.specs.Widths.{low}
use Rattle.x64_instr.specs.declared.register.Reg.TheVariants.{Rcx}
use Rattle.x64_machine.specs.declared.cpu.Cpu.{Cpu}
use Rattle.x64_machine.specs.Effect.{register}
use Rattle.eh_tables.specs.declared.layout.TheConstants.{EXCEPTION_EXECUTE_HANDLER}
use Rattle.eh_tables.specs.declared.scope.ScopeRecord.{ScopeRecord}
use Rattle.eh_tables.specs.Tables.{Entry}
use Rattle.virtual_unwind.specs.CallerOf.{Functions, distance}
use Rattle.host_model.specs.declared.funclet.Funclet.{Funclet}
use Rattle.host_model.specs.Turns.{Turn, Continues, Ends}

-- ---- the different handlers, by address, each with whether its first row is that of a finally

-- an address that is there already isn't inserted again
abbrev pub if_same : ℕ → Bool → Funclet → List Funclet → List Funclet → Bool → List Funclet
if_same a b x xs others true = x ∷ xs
if_same a b x xs others false = x ∷ others

-- a lower address comes before the first one
abbrev pub if_below : ℕ → Bool → Funclet → List Funclet → List Funclet → Bool → List Funclet
if_below a b x xs others true = record { address = a; is_finally = b } ∷ x ∷ xs
if_below a b x xs others false = if_same a b x xs others (a == x.address)

-- a funclet inserted by its address
abbrev pub inserted : ℕ → Bool → List Funclet → List Funclet
inserted a b [] = record { address = a; is_finally = b } ∷ []
inserted a b (x ∷ xs) = if_below a b x xs (inserted a b xs) (nat_lt a x.address)

-- HandlerAddress 1 isn't a funclet
abbrev pub with_row : ScopeRecord → List Funclet → Bool → List Funclet
with_row r fs true = fs
with_row r fs false = inserted r.handler_address (r.jump_target == 0) fs

-- with those of a scope table
abbrev pub of_rows : List ScopeRecord → List Funclet → List Funclet
of_rows [] fs = fs
of_rows (r ∷ rows) fs = of_rows rows (with_row r fs
    (r.handler_address == EXCEPTION_EXECUTE_HANDLER))

-- with those of a function table
abbrev pub of_entries : List Entry → List Funclet → List Funclet
of_entries [] fs = fs
of_entries (e ∷ es) fs = of_entries es (of_rows e.info.scopes fs)

-- the funclets of an image
abbrev pub funclets : List Entry → List Funclet
funclets es = of_entries es []

-- ---- events

-- what a funclet shows as it begins: of a `__finally` block, whether ECX says that it runs in an
-- unwinding
abbrev pub by_kind : Cpu → ℕ → Bool → Event
by_kind c k true = events.Finally k (not (low W32 (register c Rcx) == 0))
by_kind c k false = events.Filter k

-- the event of one funclet, or those of the others
abbrev pub if_here : Event → List Event → Bool → List Event
if_here e others true = e ∷ []
if_here e others false = others

-- RIP at a funclet's first byte
abbrev pub arrivals : Cpu → ℕ → ℕ → List Funclet → List Event
arrivals c rva k [] = []
arrivals c rva k (f ∷ fs) =
    if_here (by_kind c k f.is_finally) (arrivals c rva (k + 1) fs) (rva == f.address)

-- a turn with the event of the funclet at whose first byte it leaves RIP
abbrev pub arrived : Functions → List Funclet → Turn → Turn
arrived t fs (Continues s es) = Continues s (es ++ arrivals s.cpu (distance t.base s.cpu.rip) 1 fs)
arrived t fs (Ends es end) = Ends es end
