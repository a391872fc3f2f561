-- The converse of the laws on forms: a function of the right form keeps the rules, and so does a
-- fragment of one.
use Rattle.std.specs.Prelude.{◌≡◌, ℕ, ◌+◌, ◌^◌, ◌<◌, true, List, [], ◌∷◌, ◌++◌, None}
use Rattle.flat_memory.specs.Memory.{Memory}
use Rattle.eh_tables.specs.Infos.{Info}
use Rattle.virtual_unwind.specs.Undone.{operations}
use Rattle.virtual_unwind.specs.Tail.{FetchedInstr}
use Rattle.frame_rules.specs.Prologue.{is_call, items}
use Rattle.frame_rules.specs.Body.{Body, following, is_body}
use Rattle.frame_rules.specs.States.{HasItems}
use Rattle.frame_rules.specs.Rules.{FramedFunction, IsRight}
use Rattle.unwind_check.specs.Prologues.{is_call_of}
use Rattle.unwind_check.specs.Chains.{names_entry}
use Rattle.unwind_check.specs.Fragments.{IsFragmentOf}
use Rattle.unwind_check.specs.FailingRules.{CodeEntry, KeepsRules}

-- of instructions that stand from an address on, each call is of a routine of these bytes
abbrev pub CallsProbe : Memory → List ℕ → ℕ → List FetchedInstr → Type 0
CallsProbe m probe at [] = Unit {0}
CallsProbe m probe at (x ∷ xs) =
    (is_call x.instr ≡ true → is_call_of m probe (at + x.size) x.instr ≡ true)
    × CallsProbe m probe (at + x.size) xs

-- the code of an entry, which isn't chained, is a function of the right form: the instructions of
-- its prologue and those after it are in memory, one after another from its first byte to its end,
-- and each call in its prologue is of the stack probe
pub record IsRightEntry (e : CodeEntry) (f : FramedFunction) : Type 0 where
  pub info : f.info ≡ e.info
  pub right : IsRight f
  pub there : HasItems e.memory e.begin (items f.steps ++ f.rest) e.to
  pub probes : CallsProbe e.memory e.probe e.begin (items f.steps)
  pub alone : e.parents ≡ []
  pub some : e.begin < e.to
  pub low : e.to < 2 ^ 63

-- then no rule fails at any boundary of it
abbrev pub RightFunctionsKeepRules : Type 0
RightFunctionsKeepRules = (e : CodeEntry) (f : FramedFunction) → IsRightEntry e f → KeepsRules e

-- the code of an entry, which is chained, is a fragment of the function of an entry of the table:
-- its instructions are in memory, one after another from its first byte to its end, and keep the
-- rules for bodies by the codes of the function
pub record IsRightFragment (e : CodeEntry) (p : Info) (xs : List FetchedInstr) : Type 0 where
  pub parents : e.parents ≡ p ∷ []
  pub named : names_entry e.ranges e.info.parent ≡ true
  pub function : p.parent ≡ None
  pub fragment : IsFragmentOf e.info p
  pub keeps : is_body (following p.frame_register p.frame_offset (operations p.codes) xs (Body []))
      ≡ true
  pub there : HasItems e.memory e.begin xs e.to
  pub some : e.begin < e.to
  pub low : e.to < 2 ^ 63

-- then no rule fails at any boundary of it
abbrev pub RightFragmentsKeepRules : Type 0
RightFragmentsKeepRules =
    (e : CodeEntry) (p : Info) (xs : List FetchedInstr) → IsRightFragment e p xs → KeepsRules e
