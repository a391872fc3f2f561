-- The caller of a frame, by cases: a leaf, the prologue, the epilogue, the body.
--
-- The main definition: `caller_of`.
use Rattle.std.specs.Prelude.{ℕ, ◌+◌, ◌-◌, ◌^◌, ◌%◌, Bool, true, false, not, ◌==◌, ◌&&◌, ◌||◌, nat_lt, nat_le, List, [], ◌∷◌, Option, Some, None, Ok, Err}
use Rattle.flat_memory.specs.Memory.{Memory}
use Rattle.pe_image.specs.Image.{Image}
use Rattle.pe_image.specs.NameRows.{NameRow, names_of, rows_read}
use Rattle.x64_instr.specs.declared.instruction.Instr.{Instr}
use Rattle.x64_machine.specs.declared.context.Context.{Context}
use Rattle.eh_tables.specs.declared.code.UnwindOperation.{UnwindOperation}
use Rattle.eh_tables.specs.declared.code.UnwindOperation.TheVariants.{SetFrame}
use Rattle.eh_tables.specs.declared.code.UnwindCode.{UnwindCode}
use Rattle.eh_tables.specs.Infos.{Info}
use Rattle.eh_tables.specs.Tables.{Entry, Tables, entries_of, holding}
use Rattle.virtual_unwind.specs.declared.refusal.UnwindErr.TheVariants.{Backward}
use Rattle.virtual_unwind.specs.Contexts.{rsp}
use Rattle.seh_num.specs.Answers.{◌>>=◌}
use Rattle.virtual_unwind.specs.Undone.{Answer, Undo, below_frame, operations, undone, all_undone, popped, returned}
use Rattle.virtual_unwind.specs.Tail.{tail_at, left}

-- an address's distance from another one
abbrev pub distance : ℕ → ℕ → ℕ
distance from to = (to + (2 ^ 64 - from)) % 2 ^ 64

-- a frame: its establisher frame, its caller's context, and in the body of an entry that entry's
-- info
pub record CallerFrame : Type 0 where
  pub frame : ℕ
  pub context : Context
  pub asked : Option Info

abbrev pub found : ℕ → Option Info → Answer Context → Answer CallerFrame
found frame asked r = r >>= λ c. Ok (record { frame = frame; context = c; asked = asked })

-- ---- the base of the fixed allocation

abbrev pub is_set_frame : UnwindOperation → Bool
is_set_frame SetFrame = true
is_set_frame x = false

abbrev pub sets_frame : List UnwindOperation → Bool
sets_frame [] = false
sets_frame (x ∷ xs) = is_set_frame x || sets_frame xs

-- where the frame register is set, by it; else it is the RSP in hand
abbrev pub base_if : Info → Context → Bool → ℕ
base_if i c true = below_frame i c
base_if i c false = rsp c

abbrev pub has_frame : Info → Bool
has_frame i = not (i.frame_register == 0)

-- ---- the cases

-- the codes of the instructions that have been run at a distance from the begin
abbrev pub run_or : List UnwindCode → List UnwindCode → Bool → List UnwindCode
run_or these others true = these
run_or these others false = others

abbrev pub run_by : ℕ → List UnwindCode → List UnwindCode
run_by d [] = []
run_by d (x ∷ xs) = run_or (x ∷ xs) (run_by d xs) (nat_le x.offset d)

abbrev pub at_start : Context → Undo
at_start c = record { context = c; is_returned = false }

-- these codes undone, then those of all parents, and the return address popped
abbrev pub unwound : Memory → ℕ → Info → List Info → List UnwindOperation → Context → Answer Context
unwound m base i parents ops c = do
  u ← undone m base i ops (at_start c)
  w ← all_undone m base parents u
  returned m w

abbrev pub leaf : Memory → Context → Answer CallerFrame
leaf m c = found (rsp c) None (popped m c)

abbrev pub in_prologue : Memory → Info → List Info → List UnwindOperation → Context
    → Answer CallerFrame
in_prologue m i parents ops c =
    let base = base_if i c (has_frame i && sets_frame ops)
    in found base None (unwound m base i parents ops c)

abbrev pub in_body : Memory → Info → List Info → Context → Answer CallerFrame
in_body m i parents c =
    let base = base_if i c (has_frame i) in found base (Some i)
    (unwound m base i parents (operations i.codes) c)

abbrev pub in_epilogue : Memory → List Instr → Context → Answer CallerFrame
in_epilogue m is c = found (rsp c) None (left m is c)

abbrev pub past_prologue : Memory → Info → List Info → Context → Option (List Instr)
    → Answer CallerFrame
past_prologue m i parents c (Some is) = in_epilogue m is c
past_prologue m i parents c None = in_body m i parents c

abbrev pub past : Memory → Info → List Info → Context → Answer CallerFrame
past m i parents c = past_prologue m i parents c (tail_at i.frame_register m c.rip)

abbrev pub by_distance : Memory → Info → List Info → Context → ℕ → Bool → Answer CallerFrame
by_distance m i parents c d true = in_prologue m i parents (operations (run_by d i.codes)) c
by_distance m i parents c d false = past_prologue m i parents c (tail_at i.frame_register m c.rip)

-- at a distance from the begin of an entry
abbrev pub in_entry : Memory → Info → List Info → Context → ℕ → Answer CallerFrame
in_entry m i parents c d = by_distance m i parents c d (nat_lt d i.prologue_size)

abbrev pub of_entry : Memory → Context → ℕ → Option Entry → Answer CallerFrame
of_entry m c rva None = leaf m c
of_entry m c rva (Some e) = in_entry m e.info e.parents c (rva - e.range.begin)

-- RSP rises
abbrev pub risen : Context → CallerFrame → Bool → Answer CallerFrame
risen c f true = Ok f
risen c f false = Err (Backward (rsp c))

abbrev pub rising : Context → CallerFrame → Answer CallerFrame
rising c f = risen c f (nat_lt (rsp c) (rsp f.context))

-- what is asked of an image: its base, the entries of its function table, and the rows of its table
-- of names
pub record Functions : Type 0 where
  pub base : ℕ
  pub entries : List Entry
  pub rows : List NameRow

-- the rows of an image's names, where they are read whole
abbrev pub name_rows : Image → List NameRow
name_rows image = rows_read (names_of image)

abbrev pub functions_of : Tables → Functions
functions_of t =
    record { base = t.image.base; entries = entries_of t; rows = name_rows t.image }

-- the entry whose range covers an address of the memory
abbrev pub entry_of : Functions → ℕ → Option Entry
entry_of t rip = holding (distance t.base rip) t.entries

unfoldable pub caller_in : Functions → Memory → Context → Answer CallerFrame
caller_in t m c = of_entry m c (distance t.base c.rip) (entry_of t c.rip) >>= rising c

-- the caller's context by the cases leaf, prologue, epilogue and body, or the first word of the
-- stack that can't be read, or Backward, where RSP would not rise (own)
unfoldable pub caller_of : Tables → Memory → Context → Answer CallerFrame
caller_of t m c = caller_in (functions_of t) m c

-- in the body of an entry, its info
abbrev pub asked_in : Bool → Option Entry → Option Info
asked_in true (Some e) = Some e.info
asked_in true None = None
asked_in false o = None
