-- Where an image has the code of a linear program, and what its function table says of it.
--
-- The main definitions: `ImagePlan`, `Gives`.
use Rattle.std.specs.Prelude.{◌≡◌, ◌⊎◌, ℕ, ◌+◌, ◌%◌, ◌^◌, ◌<◌, ◌≤◌, Bool, true, false, ◌||◌, ◌==◌, List, [], ◌∷◌, length, slice_get, Option, Some, None}
use Rattle.std.specs.List.{AllByRecursion}
use Rattle.seh_num.specs.declared.event.Event.TheVariants as events
use Rattle.x64_machine.specs.declared.cpu.Cpu.{Cpu}
use Rattle.eh_tables.specs.declared.layout.TheConstants.{EXCEPTION_EXECUTE_HANDLER}
use Rattle.eh_tables.specs.declared.scope.ScopeRecord.{ScopeRecord}
use Rattle.eh_tables.specs.Infos.{Info}
use Rattle.eh_tables.specs.Tables.{Entry}
use Rattle.virtual_unwind.specs.CallerOf.{Functions, distance}
use Rattle.seh_walk.specs.Asked as rows
use Rattle.seh_walk.specs.Asked.{is_end, is_searched, is_unwound}
use Rattle.host_model.specs.declared.funclet.Funclet.{Funclet}
use Rattle.host_model.specs.Funclets.{by_kind, arrivals}
use Rattle.template_code.specs.declared.layout.Layout.{Layout}
use Rattle.linear_code.specs.declared.program.Region.{Region}
use Rattle.linear_code.specs.declared.program.RegionKind.{RegionKind}
use Rattle.linear_code.specs.declared.program.RegionKind.TheVariants as kinds
use Rattle.linear_code.specs.Program.{LinearProgram, LinearBody, LinearFunclet}
use Rattle.linear_machine.specs.Frames.{BodyName, FunctionBody, FuncletBody, body_of, Frame, Resumption}
use Rattle.linear_machine.specs.Regions as regions
use Rattle.linear_machine.specs.Regions.{leads_to}

-- where an image has the code of each instruction of a linear program, where that code ends and
-- which entry of the function table it is in. It says where the funclets begin too, the layout of
-- each body's slots, and which of its locals are in registers.
pub record ImagePlan : Type 0 where
  pub address : BodyName → ℕ → ℕ  -- where the code of an instruction begins
  pub after : BodyName → ℕ → ℕ  -- where it ends
  pub funclet : ℕ → ℕ  -- the first byte of a funclet, by its number
  -- where a function begins as a vectored handler: the first byte of its name thunk
  pub handler : ℕ → ℕ
  pub leaf : BodyName → Bool  -- a leaf function, which has no frame and no entry
  -- in any other body, the entry of the function table that an instruction's code is in
  pub entry : BodyName → ℕ → Entry
  pub layout : BodyName → Layout  -- where the slots of a body are
  pub register : BodyName → ℕ → Option ℕ  -- the register that a local is in, by its number
  pub lands : BodyName → ℕ → Bool  -- an unwinding may land at this instruction
  -- a body that waits continues so from a state that was saved where it raised an exception; a
  -- leaf function with these numbers in its locals
  pub resumes : Resumption → Frame → List ℕ → Cpu → Bool

-- an address within the code of an instruction
pub record InCode (p : ImagePlan) (name : BodyName) (label rip : ℕ) : Type 0 where
  pub low : p.address name label ≤ rip
  pub high : rip < p.after name label

-- the body that has the region of a funclet
abbrev pub by_parent : ℕ → Option ℕ → BodyName
by_parent function None = FunctionBody function
by_parent function (Some parent) = FuncletBody parent

-- the body that a funclet belongs to
abbrev pub parent_body : Option LinearFunclet → Option BodyName
parent_body None = None
parent_body (Some f) = Some (by_parent f.function f.parent)

module _ (t : Functions) (fs : List Funclet) (program : LinearProgram) (p : ImagePlan) where
  -- ---- scope records and regions

  -- a target of a body, by the distance from the image's base
  abbrev pub target_rva : BodyName → ℕ → ℕ
  target_rva name label = distance t.base (p.address name label)

  -- a funclet of a body, with its event
  pub record IsFunclet (name : BodyName) (k : ℕ) : Type 0 where
    pub parent : parent_body (slice_get program.funclets k) ≡ Some name
    pub small : p.funclet k < 2 ^ 64

  -- a record of a `__finally` block has no JumpTarget
  pub record IsFinallyRow (name : BodyName) (row : ScopeRecord) (k : ℕ) : Type 0 where
    pub none : (row.jump_target == 0) ≡ true
    pub handler : (t.base + row.handler_address) % 2 ^ 64 ≡ p.funclet k
    pub funclet : IsFunclet name k
    pub named : (c : Cpu) → arrivals c (distance t.base (p.funclet k)) 1 fs
        ≡ by_kind c (k + 1) true ∷ []

  -- a record of an `__except` block jumps to it
  pub record JumpsTo (name : BodyName) (row : ScopeRecord) (label : ℕ) : Type 0 where
    pub jumps : (row.jump_target == 0) ≡ false
    pub target : (t.base + row.jump_target) % 2 ^ 64 ≡ p.address name label
    pub lands : p.lands name label ≡ true

  -- where the filter is a funclet, its address
  pub record IsFilterRow (name : BodyName) (row : ScopeRecord) (k label : ℕ) : Type 0 where
    pub to : JumpsTo name row label
    pub asks : (row.handler_address == EXCEPTION_EXECUTE_HANDLER) ≡ false
    pub handler : (t.base + row.handler_address) % 2 ^ 64 ≡ p.funclet k
    pub funclet : IsFunclet name k
    pub named : (c : Cpu) → arrivals c (distance t.base (p.funclet k)) 1 fs
        ≡ events.Filter (k + 1) ∷ []

  -- where it always takes over, HandlerAddress is 1
  pub record IsAlwaysRow (name : BodyName) (row : ScopeRecord) (label : ℕ) : Type 0 where
    pub to : JumpsTo name row label
    pub accepts : (row.handler_address == EXCEPTION_EXECUTE_HANDLER) ≡ true

  -- a row of an `__except` block, with a filter or without one
  abbrev pub IsHandlerRow : BodyName → ScopeRecord → Option ℕ → ℕ → Type 0
  IsHandlerRow name row None label = IsAlwaysRow name row label
  IsHandlerRow name row (Some k) label = IsFilterRow name row k label

  -- a row of a region of this kind
  abbrev pub IsOfKind : BodyName → ScopeRecord → RegionKind → Type 0
  IsOfKind name row (kinds.Finally k) = IsFinallyRow name row k
  IsOfKind name row (kinds.Filter k label) = IsHandlerRow name row (Some k) label
  IsOfKind name row (kinds.Always label) = IsHandlerRow name row None label

  -- the record holds the code of an instruction where the region holds the instruction, and an
  -- unwinding to a landing place ends at both or at neither
  pub record IsRegion (name : BodyName) (row : ScopeRecord) (r : Region) : Type 0 where
    pub holds : (label rip : ℕ) → InCode p name label rip
        → rows.holds row (distance t.base rip) ≡ regions.holds label r
    pub ends : (label : ℕ) → p.lands name label ≡ true
        → is_end (target_rva name label) row ≡ (regions.holds label r || leads_to r.kind label)
    pub kind : IsOfKind name row r.kind

  -- row by row
  abbrev pub AreRegions : BodyName → List ScopeRecord → List Region → Type 0
  AreRegions name [] [] = Unit {0}
  AreRegions name (x ∷ xs) (r ∷ rs) = IsRegion name x r × AreRegions name xs rs
  AreRegions name [] (r ∷ rs) = ⊥
  AreRegions name (x ∷ xs) [] = ⊥

  -- ---- the flags of an entry

  -- all rows are of `__finally` blocks
  abbrev pub AllFinally : List ScopeRecord → Type 0
  AllFinally [] = Unit {0}
  AllFinally (x ∷ xs) = ((x.jump_target == 0) ≡ true) × AllFinally xs

  -- all rows are of `__except` blocks
  abbrev pub AllExcept : List ScopeRecord → Type 0
  AllExcept [] = Unit {0}
  AllExcept (x ∷ xs) = ((x.jump_target == 0) ≡ false) × AllExcept xs

  -- an entry is asked in a search unless it has `__finally` blocks alone, and in an unwinding
  -- unless it has none
  pub record IsFlagged (i : Info) : Type 0 where
    pub searched : (is_searched i ≡ true) ⊎ AllFinally i.scopes
    pub unwound : (is_unwound i ≡ true) ⊎ AllExcept i.scopes

  -- ---- the whole table

  -- the entry of a cold part has no rows, and no region holds its instructions
  pub record HasNoRows (label : ℕ) (scopes : List ScopeRecord) (rs : List Region) : Type 0 where
    pub none : scopes ≡ []
    pub unheld : AllByRecursion (λ (r : Region). regions.holds label r ≡ false) rs

  -- any other entry has the regions of its body as rows
  abbrev pub HasRows : BodyName → ℕ → List ScopeRecord → List Region → Type 0
  HasRows name label scopes rs = AreRegions name scopes rs ⊎ HasNoRows label scopes rs

  -- the entry of an instruction
  pub record IsEntryOf (name : BodyName) (b : LinearBody) (label : ℕ) : Type 0 where
    pub rows : HasRows name label (p.entry name label).info.scopes b.regions
    pub flagged : IsFlagged (p.entry name label).info
    pub few : length (p.entry name label).info.scopes < 2 ^ 32

  -- each instruction has its entry
  pub record HasEntries (name : BodyName) (b : LinearBody) : Type 0 where
    pub entries : (label : ℕ) → IsEntryOf name b label
    -- no funclet begins where an unwinding lands
    pub landings : (label : ℕ) → p.lands name label ≡ true → (c : Cpu)
        → arrivals c (target_rva name label) 1 fs ≡ []

  -- a leaf function has no regions
  abbrev pub IsGiven : BodyName → LinearBody → Bool → Type 0
  IsGiven name b false = HasEntries name b
  IsGiven name b true = b.regions ≡ []

  -- the scope records of each entry are the regions of its body, row by row; that of a cold part
  -- has none, and no region holds its instructions (`HasRows`)
  abbrev pub Gives : Type 0
  Gives =
      (name : BodyName) (b : LinearBody) → body_of program name ≡ Some b
      → IsGiven name b (p.leaf name)
