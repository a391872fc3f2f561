-- The stack from a stack pointer up: frames of bodies, and records of suspended searches and
-- unwindings, innermost first.
--
-- The main definitions: `IsStack`, `Owned`, `answer_return`.
use Rattle.std.specs.Prelude.{◌≡◌, ℕ, ◌+◌, ◌-◌, ◌^◌, ◌<◌, ◌≤◌, Bool, true, false, ◌⊎◌, ◌==◌, nat_lt, List, [], ◌∷◌, length, Some, None, Ok, slice_set}
use Rattle.flat_memory.specs.Memory.{Memory}
use Rattle.x64_machine.specs.declared.context.Context.{Context}
use Rattle.x64_machine.specs.Contexts.{context_of}
use Rattle.eh_tables.specs.declared.code.UnwindOperation.{UnwindOperation}
use Rattle.eh_tables.specs.declared.code.UnwindOperation.TheVariants.{Push, Allocate, Save}
use Rattle.eh_tables.specs.Infos.{Info}
use Rattle.eh_tables.specs.Tables.{Entry}
use Rattle.virtual_unwind.specs.Contexts.{get, rsp}
use Rattle.virtual_unwind.specs.Undone.{word, operations}
use Rattle.virtual_unwind.specs.Tail.{tail_at}
use Rattle.virtual_unwind.specs.CallerOf.{Functions, CallerFrame, distance, entry_of, base_if, has_frame}
use Rattle.frame_rules.specs.Codes.{are_allowed}
use Rattle.frame_rules.specs.Frame as rules
use Rattle.seh_records.specs.declared.dispatch.DispatchRecord.{DispatchRecord}
use Rattle.seh_records.specs.Record.{fetched}
use Rattle.seh_records.specs.declared.layout.TheConstants.{RECORD_SIZE, POINTERS_AT}
use Rattle.seh_records.specs.declared.dispatch.Kind.{Kind}
use Rattle.seh_records.specs.declared.dispatch.Kind.TheVariants as kinds
use Rattle.seh_walk.specs.Walk.{filter_return, finally_return, vectored_return, is_unwinding}

-- a frame of a body: the entry of the function table that RIP is in; how far above RSP its slots
-- end, and its return address is; that address; and what its caller has in RBX, RBP, RSI, RDI and
-- R12 to R15
pub record StackFrame : Type 0 where
  pub entry : Entry
  pub slots : ℕ
  pub size : ℕ
  pub return_address : ℕ
  pub others : List ℕ

-- a frame; a leaf function, which has none, by its return address; a suspended search, which has
-- asked a filter or a vectored handler; a suspended unwinding
pub data StackItem : Type 0 where
  Framed : StackFrame → StackItem
  Leaf : ℕ → StackItem
  Searching : DispatchRecord → StackItem
  Unwinding : DispatchRecord → StackItem

-- ---- where a walk continues after an item

-- at the caller, past the frame and the return address, with the caller's registers
abbrev pub after_frame : Context → StackFrame → Context
after_frame c f = record { rip = f.return_address; kept = (rsp c + f.size + 8) ∷ f.others }

-- a leaf function has pushed nothing: its return address is at RSP (Microsoft x64 ABI, "Function
-- types")
abbrev pub after_leaf : Context → ℕ → Context
after_leaf c back = record { rip = back; kept = slice_set c.kept 0 (rsp c + 8) }

-- after a search where its exception was raised, after an unwinding where that has come to
abbrev pub context_after : Context → StackItem → Context
context_after c (Framed f) = after_frame c f
context_after c (Leaf back) = after_leaf c back
context_after c (Searching r) = context_of r.saved
context_after c (Unwinding r) = r.walk

-- what the walk finds of a frame
abbrev pub caller_frame : Context → StackFrame → CallerFrame
caller_frame c f = record { frame = rsp c; context = after_frame c f; asked = Some f.entry.info }

-- a leaf function's frame, with its caller
abbrev pub caller_of_leaf : Context → ℕ → CallerFrame
caller_of_leaf c back = record { frame = rsp c; context = after_leaf c back; asked = None }

-- ---- what is in memory

-- what tells of an entry's frames: its own info, or where it is chained, that of its function
abbrev pub telling : Info → List Info → Info
telling i [] = i
telling i (p ∷ ps) = p

abbrev pub teller : Entry → Info
teller e = telling e.info e.parents

-- what the unwind codes tell of a frame
abbrev pub told : StackFrame → List UnwindOperation
told f = operations (teller f.entry).codes

-- the info of a fragment: no codes, no prologue, and the frame fields of its function's
pub record IsFragment (i p : Info) : Type 0 where
  pub codes : i.codes ≡ []
  pub prologue : i.prologue_size ≡ 0
  pub register : i.frame_register ≡ p.frame_register
  pub offset : i.frame_offset ≡ p.frame_offset

-- an entry is a function's own, or a fragment's, whose function's isn't chained
abbrev pub IsChain : Info → List Info → Type 0
IsChain i [] = Unit {0}
IsChain i (p ∷ []) = IsFragment i p
IsChain i (p ∷ r ∷ ps) = ⊥

-- the registers at the function's first byte, by their numbers: RSP is at the return address
abbrev pub at_entry : Context → StackFrame → ℕ → ℕ
at_entry c f = get (record { rip = f.return_address; kept = (rsp c + f.size) ∷ f.others })

-- the words that codes tell of, from an address up and above a base, are above another address
abbrev pub AreAbove : (low base at : ℕ) → List UnwindOperation → Type 0
AreAbove low base at [] = low ≤ at
AreAbove low base at (Push r ∷ xs) = (low ≤ at) × AreAbove low base (at + 8) xs
AreAbove low base at (Allocate n ∷ xs) = AreAbove low base (at + n) xs
AreAbove low base at (Save r n ∷ xs) = (low ≤ base + n) × AreAbove low base at xs
AreAbove low base at (x ∷ xs) = AreAbove low base at xs

-- it is as its codes tell: above its slots are the saved registers of the caller and the return
-- address, the frame register, if it has one, leads to RSP, and what isn't saved is as the caller
-- has it
pub record IsAsTold (m : Memory) (c : Context) (f : StackFrame) : Type 0 where
  pub offset : (teller f.entry).frame_offset ≤ 2 ^ 64
  pub allowed : are_allowed (teller f.entry).frame_register (told f) ≡ true
  pub base : base_if (teller f.entry) c (has_frame (teller f.entry)) ≡ rsp c
  pub stack : rules.Stack m (at_entry c f) f.return_address (rsp c) (rsp c) (told f)
  pub framed : rules.Framed (teller f.entry).frame_register (teller f.entry).frame_offset (get c)
      (rsp c) (told f)
  pub others : rules.Others (at_entry c f) (get c) (told f)
  pub above : AreAbove (rsp c + f.slots) (rsp c) (rsp c) (told f)

-- a frame whose body is past its prologue, and not in an epilogue
pub record FrameIsAt (t : Functions) (m : Memory) (c : Context) (f : StackFrame) : Type 0 where
  pub live : (c.rip == 0) ≡ false
  pub not_filter : (c.rip == filter_return) ≡ false
  pub not_finally : (c.rip == finally_return) ≡ false
  pub not_vectored : (c.rip == vectored_return) ≡ false
  pub found : entry_of t c.rip ≡ Some f.entry
  pub past_prologue : nat_lt (distance t.base c.rip - f.entry.range.begin)
      f.entry.info.prologue_size ≡ false
  pub not_epilogue : tail_at f.entry.info.frame_register m c.rip ≡ None
  pub chain : IsChain f.entry.info f.entry.parents
  pub kept : length c.kept ≡ 9
  pub eight : length f.others ≡ 8
  pub slots : f.slots ≤ f.size
  pub room : rsp c + f.size + 8 < 2 ^ 64
  pub is_told : IsAsTold m c f

-- a leaf function, which has no entry in the function table
pub record LeafIsAt (t : Functions) (m : Memory) (c : Context) (back : ℕ) : Type 0 where
  pub live : (c.rip == 0) ≡ false
  pub not_filter : (c.rip == filter_return) ≡ false
  pub not_finally : (c.rip == finally_return) ≡ false
  pub not_vectored : (c.rip == vectored_return) ≡ false
  pub none : entry_of t c.rip ≡ None
  pub kept : length c.kept ≡ 9
  pub room : rsp c + 8 < 2 ^ 64
  pub returns : word m (rsp c) ≡ Ok back

-- a record at the return address of the host that its funclet has; its EXCEPTION_POINTERS begin
-- with the address of its EXCEPTION_RECORD
pub record RecordIsAt (m : Memory) (c : Context) (r : DispatchRecord) (address : ℕ)
    (is_of_kind : Kind → Bool) (next : Context) : Type 0 where
  pub at_host : c.rip ≡ address
  pub fetches : fetched m (rsp c) ≡ Some r
  pub pointers : word m (rsp c + POINTERS_AT) ≡ Ok (rsp c + 96)
  pub kind : is_of_kind r.kind ≡ true
  pub above : rsp c + RECORD_SIZE ≤ rsp next
  pub small : rsp next < 2 ^ 64

-- the record of a search waits for the answer of a filter, or of a vectored handler
abbrev pub is_asking : Kind → Bool
is_asking kinds.Search = true
is_asking kinds.ExceptionUnwind = false
is_asking kinds.LocalUnwind = false
is_asking kinds.Vectored = true

-- where what a record asks returns to, by the record's kind
abbrev pub answer_return : Kind → ℕ
answer_return kinds.Search = filter_return
answer_return kinds.ExceptionUnwind = filter_return
answer_return kinds.LocalUnwind = filter_return
answer_return kinds.Vectored = vectored_return

abbrev pub ItemIsAt : Functions → Memory → Context → StackItem → Type 0
ItemIsAt t m c (Framed f) = FrameIsAt t m c f
ItemIsAt t m c (Leaf back) = LeafIsAt t m c back
ItemIsAt t m c (Searching r) =
    RecordIsAt m c r (answer_return r.kind) is_asking (context_of r.saved)
ItemIsAt t m c (Unwinding r) = RecordIsAt m c r finally_return is_unwinding r.walk

-- from a context up, memory has these items one after another, innermost first. Each is a frame
-- whose body is past its prologue, and which `IsAsTold`, or a leaf function, by its return address.
-- Or it is, at one of the host's return addresses, the record of a suspended search or unwinding. A
-- search waits for a filter or for a vectored handler. Of a frame that is as told memory has, above
-- its slots, the registers of its caller that its unwind codes save, and the return address. The
-- codes (`told`) are those of its entry, or where that is chained (`IsChain`) those of its
-- function. A frame register, where it has one, leads to RSP, and the other nonvolatile registers
-- are its caller's. After a frame the list continues at the caller, with its nonvolatile registers,
-- after a search where its exception was raised, after an unwinding where that has come to.
abbrev pub IsStack : Functions → Memory → Context → List StackItem → Type 0
IsStack t m c [] = c.rip ≡ 0
IsStack t m c (i ∷ is) = ItemIsAt t m c i × IsStack t m (context_after c i) is

-- ---- the bytes on which this rests

-- an address of a range
pub record IsBetween (a from to : ℕ) : Type 0 where
  pub low : from ≤ a
  pub high : a < to

-- a byte of the words that codes tell of, from an address up and above a base, and of the return
-- address above them
abbrev pub IsSavedAt : (base at : ℕ) → List UnwindOperation → ℕ → Type 0
IsSavedAt base at [] a = IsBetween a at (at + 8)
IsSavedAt base at (Push r ∷ xs) a = IsBetween a at (at + 8) ⊎ IsSavedAt base (at + 8) xs a
IsSavedAt base at (Allocate n ∷ xs) a = IsSavedAt base (at + n) xs a
IsSavedAt base at (Save r n ∷ xs) a =
    IsBetween a (base + n) (base + n + 8) ⊎ IsSavedAt base at xs a
IsSavedAt base at (x ∷ xs) a = IsSavedAt base at xs a

-- What a walk reads of each item's memory:
-- of a body's frame the saved registers and the return address above it, of a leaf function the one
-- at RSP;
-- of a suspended search and a suspended unwinding the record, but for the home space at its begin.
-- The slots of a waiting body are its own too, and no walk reads them: `BodyWaits` in Linked.antt.
abbrev pub OwnedBy : Context → StackItem → ℕ → Type 0
OwnedBy c (Framed f) a = IsSavedAt (rsp c) (rsp c) (told f) a
OwnedBy c (Leaf back) a = IsBetween a (rsp c) (rsp c + 8)
OwnedBy c (Searching r) a = IsBetween a (rsp c + 32) (rsp c + RECORD_SIZE)
OwnedBy c (Unwinding r) a = IsBetween a (rsp c + 32) (rsp c + RECORD_SIZE)

-- the bytes that a walk reads of each item. Of a frame these are the saved registers and the return
-- address, of a leaf function the return address at RSP, and of a record all but its home space. A
-- body that waits (`BodyWaits`) owns its slots too: temporaries, and locals that are in no
-- register. A funclet's body owns the word that keeps its function's frame, and a filter's the word
-- that keeps its EXCEPTION_POINTERS too.
abbrev pub Owned : Context → List StackItem → ℕ → Type 0
Owned c [] a = ⊥
Owned c (i ∷ is) a = OwnedBy c i a ⊎ Owned (context_after c i) is a

-- bytes that are a memory's in the code and at these addresses
pub record Agree (m : Memory) (byte : ℕ → ℕ) (Own : ℕ → Type 0) : Type 0 where
  pub code : (a : ℕ) → (m.protection a).execute ≡ true → byte a ≡ m.byte a
  pub owned : (a : ℕ) → Own a → byte a ≡ m.byte a

-- the context at an item of the list, by those before it
abbrev pub context_at : Context → List StackItem → Context
context_at c [] = c
context_at c (i ∷ is) = context_at (context_after c i) is
