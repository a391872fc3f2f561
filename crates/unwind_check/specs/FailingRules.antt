-- The rules on an entry, each by the boundaries at which it fails.
--
-- The main definitions: `HasInstr`, `Fails`, `primary_of`, `IsOwnEpilogue`, `IsLeastFault`,
-- `KeepsRules`.
use Rattle.std.specs.Prelude.{◌≡◌, ◌⊎◌, ℕ, ◌+◌, ◌^◌, ◌<◌, ◌≤◌, true, false, List, [], ◌∷◌, length, Option, Some, None}
use Rattle.flat_memory.specs.Memory.{Memory}
use Rattle.x64_instr.specs.declared.instruction.Instr.{Instr}
use Rattle.eh_tables.specs.declared.code.UnwindCode.{UnwindCode}
use Rattle.eh_tables.specs.declared.range.RuntimeFunction.{RuntimeFunction}
use Rattle.eh_tables.specs.declared.code.UnwindOperation.{UnwindOperation}
use Rattle.eh_tables.specs.Infos.{Info}
use Rattle.virtual_unwind.specs.Undone.{operations}
use Rattle.virtual_unwind.specs.Tail.{FetchedInstr, fetched_at, tail_at}
use Rattle.frame_rules.specs.Codes.{is_ordered}
use Rattle.frame_rules.specs.Epilogue.{is_epilogue}
use Rattle.frame_rules.specs.Body.{written, restored_by, with_restored, are_restored}
use Rattle.frame_rules.specs.States.{HasItems}
use Rattle.frame_rules.specs.Validated.{turned, fits}
use Rattle.unwind_check.specs.declared.rule.Rule.{Rule}
use Rattle.unwind_check.specs.declared.rule.Rule.TheVariants.{Decode, Chain, Codes, Prologue, StackWrite, Unsaved, Epilogue}
use Rattle.unwind_check.specs.declared.rule.Fault.{Fault}
use Rattle.unwind_check.specs.Boundaries.{IsBoundary}
use Rattle.unwind_check.specs.Codes.{keep_codes}
use Rattle.unwind_check.specs.Prologues.{Site, is_probed}
use Rattle.unwind_check.specs.Bodies.{keeps_stack, keeps_saved}
use Rattle.unwind_check.specs.Chains.{keeps_chain, primary}
use Rattle.unwind_check.specs.Faults.{prologue_of, site, entry_fault}

-- an entry: the memory of its code, the bytes of the stack probe, the ranges of its table, its own
-- range, its unwind info, and those that it is chained to
pub record CodeEntry : Type 0 where
  pub memory : Memory
  pub probe : List ℕ
  pub ranges : List RuntimeFunction
  pub begin : ℕ
  pub to : ℕ
  pub info : Info
  pub parents : List Info

-- where its prologue ends
abbrev pub body_begin : CodeEntry → ℕ
body_begin e = e.begin + e.info.prologue_size

-- the info by which its code is judged past the prologue: its own, or in a fragment that of the
-- function
abbrev pub primary_of : CodeEntry → Info
primary_of e = primary e.info e.parents

abbrev pub operations_of : CodeEntry → List UnwindOperation
operations_of e = operations (primary_of e).codes

abbrev pub prologue_instrs : CodeEntry → List FetchedInstr
prologue_instrs e = (prologue_of e.memory e.begin e.to e.info).items

abbrev pub tail_there : CodeEntry → ℕ → Option (List Instr)
tail_there e at = tail_at (primary_of e).frame_register e.memory at

-- ---- Decode

-- an instruction stands at a place: inside the entry, and on one side of the prologue's end
pub record HasInstr (e : CodeEntry) (at : ℕ) : Type 0 where
  pub item : FetchedInstr
  pub there : fetched_at e.memory at ≡ Some item
  pub sized : 0 < item.size
  pub inside : at + item.size ≤ e.to
  pub apart : (at + item.size ≤ body_begin e) ⊎ (body_begin e ≤ at)

-- none does; or, at the first byte, the prologue passes the entry's end
abbrev pub FailsDecode : CodeEntry → ℕ → Type 0
FailsDecode e at = (HasInstr e at → ⊥) ⊎ ((at ≡ e.begin) × (e.to < body_begin e))

-- ---- Prologue, which isn't asked of an entry that is chained

-- codes in the order of execution and the instructions of a prologue, at a distance from its first
-- byte, lead to others: past the one instruction of a code, or past the three of an allocation by
-- the stack probe
pub data Leads (s : Site) : ℕ → List UnwindCode → List FetchedInstr → ℕ → List UnwindCode
    → List FetchedInstr → Type 0 where
  here : {d : ℕ} {cs : List UnwindCode} {xs : List FetchedInstr} → Leads s d cs xs d cs xs
  past_one : {d k : ℕ} {c : UnwindCode} {cs ds : List UnwindCode} {x : FetchedInstr}
      {xs ys : List FetchedInstr}
      → fits s.frame_register s.frame_offset d c (x ∷ []) ≡ true
      → Leads s c.offset cs xs k ds ys → Leads s d (c ∷ cs) (x ∷ xs) k ds ys
  past_three : {d k : ℕ} {c : UnwindCode} {cs ds : List UnwindCode} {x y z : FetchedInstr}
      {xs ys : List FetchedInstr}
      → fits s.frame_register s.frame_offset d c (x ∷ []) ≡ false → is_probed s d c x y z ≡ true
      → Leads s c.offset cs xs k ds ys → Leads s d (c ∷ cs) (x ∷ y ∷ z ∷ xs) k ds ys

-- the instructions that are left don't begin with those of the first code that is left
abbrev pub AreOther : Site → ℕ → List UnwindCode → List FetchedInstr → Type 0
AreOther s d [] xs = Unit {0}
AreOther s d (c ∷ cs) [] = Unit {0}
AreOther s d (c ∷ cs) (x ∷ y ∷ z ∷ xs) =
    (fits s.frame_register s.frame_offset d c (x ∷ []) ≡ false)
    × (is_probed s d c x y z ≡ false)
AreOther s d (c ∷ cs) (x ∷ xs) = fits s.frame_register s.frame_offset d c (x ∷ []) ≡ false

-- an instruction of the prologue isn't what its code says
pub record HasOtherInstr (e : CodeEntry) (at : ℕ) : Type 0 where
  pub distance : ℕ
  pub codes : List UnwindCode
  pub item : FetchedInstr
  pub left : List FetchedInstr
  pub leads : Leads (site e.memory e.probe e.begin e.info) 0 (turned [] e.info.codes)
      (prologue_instrs e) distance codes (item ∷ left)
  pub place : at ≡ e.begin + distance
  pub other : AreOther (site e.memory e.probe e.begin e.info) distance codes (item ∷ left)

-- a code has no instruction
pub record LacksInstr (e : CodeEntry) : Type 0 where
  pub distance : ℕ
  pub code : UnwindCode
  pub codes : List UnwindCode
  pub leads : Leads (site e.memory e.probe e.begin e.info) 0 (turned [] e.info.codes)
      (prologue_instrs e) distance (code ∷ codes) []

abbrev pub FailsPrologue : CodeEntry → ℕ → Type 0
FailsPrologue e at =
    ((at ≡ e.begin) × ((is_ordered (operations e.info.codes) ≡ false) ⊎ LacksInstr e))
    ⊎ HasOtherInstr e at

-- ---- StackWrite and Unsaved

-- an instruction past the prologue and outside an epilogue
pub record IsOutside (e : CodeEntry) (at : ℕ) (x : FetchedInstr) : Type 0 where
  pub there : fetched_at e.memory at ≡ Some x
  pub past : body_begin e ≤ at
  pub outside : tail_there e at ≡ None

pub record FailsStackWrite (e : CodeEntry) (at : ℕ) : Type 0 where
  pub item : FetchedInstr
  pub is : IsOutside e at item
  pub writes : keeps_stack (primary_of e).frame_register (written item.instr) ≡ false

pub record FailsUnsaved (e : CodeEntry) (at : ℕ) : Type 0 where
  pub item : FetchedInstr
  pub is : IsOutside e at item
  pub writes : keeps_saved (operations_of e) (written item.instr) ≡ false

-- ---- Epilogue

-- the registers that the last of these instructions load from their places, one after another
abbrev pub loaded_by : CodeEntry → List ℕ → List FetchedInstr → List ℕ
loaded_by e rs [] = rs
loaded_by e rs (x ∷ xs) =
    loaded_by e (with_restored rs
    (restored_by (primary_of e).frame_register (primary_of e).frame_offset (operations_of e)
    x.instr)) xs

-- an epilogue of the function from one place up to another: it gives back the allocation and the
-- pushes, the registers that are saved by movs have been loaded by the instructions straight before
-- it, and it ends inside the entry
pub record IsOwnEpilogue (e : CodeEntry) (opening end : ℕ) : Type 0 where
  pub done : List FetchedInstr
  pub reached : HasItems e.memory (body_begin e) done opening
  pub rest : List Instr
  pub there : tail_there e opening ≡ Some rest
  pub restored : are_restored (loaded_by e [] done) (operations_of e) ≡ true
  pub whole : is_epilogue (primary_of e).frame_register (primary_of e).frame_offset
      (operations_of e) rest ≡ true
  pub all : List FetchedInstr
  pub ends : HasItems e.memory opening all end
  pub count : length all ≡ length rest
  pub inside : end ≤ e.to

pub record IsInOwnEpilogue (e : CodeEntry) (at : ℕ) : Type 0 where
  pub opening : ℕ
  pub end : ℕ
  pub is : IsOwnEpilogue e opening end
  pub from : opening ≤ at
  pub before : at < end

pub record FailsEpilogue (e : CodeEntry) (at : ℕ) : Type 0 where
  pub past : body_begin e ≤ at
  pub rest : List Instr
  pub there : tail_there e at ≡ Some rest
  pub other : IsInOwnEpilogue e at → ⊥

-- ---- all rules

-- a rule fails at a boundary, by a clause for each of the seven rules (own; Microsoft x64 ABI,
-- "Prolog and epilog" and "x64 exception handling"). They are Decode, Chain, Codes, Prologue,
-- StackWrite, Unsaved and Epilogue, in this order at one boundary.
abbrev pub Fails : CodeEntry → ℕ → Rule → Type 0
Fails e at Decode = FailsDecode e at
Fails e at Chain = (at ≡ e.begin) × (keeps_chain e.ranges e.info e.parents ≡ false)
Fails e at Codes =
    (e.parents ≡ []) × (at ≡ e.begin) × (keep_codes e.info (prologue_instrs e) ≡ false)
Fails e at Prologue = (e.parents ≡ []) × FailsPrologue e at
Fails e at StackWrite = FailsStackWrite e at
Fails e at Unsaved = FailsUnsaved e at
Fails e at Epilogue = FailsEpilogue e at

-- their order at one boundary
abbrev pub place_of : Rule → ℕ
place_of Decode = 0
place_of Chain = 1
place_of Codes = 2
place_of Prologue = 3
place_of StackWrite = 4
place_of Unsaved = 5
place_of Epilogue = 6

-- a fault comes before a rule that fails at a boundary, or is it
abbrev pub IsFirstOf : Fault → ℕ → Rule → Type 0
IsFirstOf f at r = (f.at < at) ⊎ ((f.at ≡ at) × (place_of f.rule ≤ place_of r))

-- the first boundary at which a rule fails, with the first rule that does
pub record IsLeastFault (e : CodeEntry) (f : Fault) : Type 0 where
  pub boundary : IsBoundary e.memory e.begin e.to f.at
  pub fails : Fails e f.at f.rule
  pub first : (at : ℕ) (r : Rule) → IsBoundary e.memory e.begin e.to at → Fails e at r
      → IsFirstOf f at r

-- no rule fails at any boundary
abbrev pub KeepsRules : CodeEntry → Type 0
KeepsRules e = (at : ℕ) (r : Rule) → IsBoundary e.memory e.begin e.to at → Fails e at r → ⊥

abbrev pub AreFaults : CodeEntry → Option Fault → Type 0
AreFaults e None = KeepsRules e
AreFaults e (Some f) = IsLeastFault e f

-- the first fault of an entry is the first boundary and the first rule that fails there
abbrev pub FaultsAreFirst : Type 0
FaultsAreFirst =
    (e : CodeEntry) → e.begin < e.to → e.to < 2 ^ 63
    → AreFaults e (entry_fault e.memory e.probe e.ranges e.begin e.to e.info e.parents)
