-- What searches and unwindings come to in a single frame, on both sides.
use Rattle.std.specs.Prelude.{◌≡◌, ℕ, ◌+◌, true, ◌∷◌, [], List, Option, Some, None}
use Rattle.eh_tables.specs.declared.scope.ScopeRecord.{ScopeRecord}
use Rattle.virtual_unwind.specs.CallerOf.{Functions}
use Rattle.seh_walk.specs.Asked.{AskedRecord, first_with_jump_target, first_finally}
use Rattle.host_model.specs.declared.funclet.Funclet.{Funclet}
use Rattle.host_model.specs.Dispatch.{row_before}
use Rattle.linear_code.specs.declared.program.Region.{Region}
use Rattle.linear_code.specs.Program.{LinearProgram}
use Rattle.linear_machine.specs.Frames.{BodyName, Target, Waits, Unwinds, Store, Configuration, Seen, Next}
use Rattle.linear_machine.specs.Regions.{handlers_in}
use Rattle.linear_machine.specs.Unwinding.{arrive, left_store, run_finally, unwind_body}
use Rattle.match_stack.specs.ImagePlan.{ImagePlan, IsHandlerRow, IsFinallyRow}

module _ (t : Functions) (fs : List Funclet) (program : LinearProgram) (p : ImagePlan) where
  -- ---- searching: the records that are asked, against the regions that hold an instruction

  pub record NoHandler (asked : List AskedRecord) (regions : List Region) : Type 0 where
    pub first : first_with_jump_target asked ≡ None
    pub handlers : (activation depth : ℕ) → handlers_in regions activation depth ≡ []

  -- the first handler: its record, the row after it, and the regions left there
  pub record FirstHandler (name : BodyName) (scopes : List ScopeRecord) (asked : List AskedRecord)
      (regions : List Region) (left : ℕ → List Region) : Type 0 where
    pub index : ℕ
    pub row : ScopeRecord
    pub filter : Option ℕ
    pub target : ℕ
    pub first : first_with_jump_target asked ≡ Some (index, row)
    pub is : IsHandlerRow t fs program p name row filter target
    pub handlers :
        (activation depth : ℕ) → handlers_in regions activation depth
        ≡ record { filter = filter; activation = activation; depth = depth; target = target }
        ∷ handlers_in (left (index + 1)) activation depth
    pub before : row_before scopes (index + 1) ≡ Some row

  -- ---- unwinding: the same, for a configuration whose body is left

  -- no block is run, and the body is left
  pub record NoBlock (target : Target) (c : Configuration) (asked : List AskedRecord)
      (regions : List Region) : Type 0 where
    pub first : first_finally asked ≡ None
    pub leaves : (next : Next) (out : Store → Seen)
        → unwind_body program next target out regions c
        ≡ out (left_store c.frame.body c.frame.activation c.store)

  -- no block is run, and the unwinding arrives
  pub record Arrives (target : Target) (c : Configuration) (asked : List AskedRecord)
      (regions : List Region) : Type 0 where
    pub first : first_finally asked ≡ None
    pub arrives : (next : Next) (out : Store → Seen)
        → unwind_body program next target out regions c ≡ arrive target target.code next c

  -- the first block: its record, the row after it, and the regions left there
  pub record FirstBlock (target : Target) (c : Configuration) (scopes : List ScopeRecord)
      (asked : List AskedRecord) (regions : List Region) (left : ℕ → List Region) : Type 0 where
    pub index : ℕ
    pub row : ScopeRecord
    pub funclet : ℕ
    pub first : first_finally asked ≡ Some (index, row)
    pub is : IsFinallyRow t fs program p c.frame.body row funclet
    pub runs :
        (next : Next) (out : Store → Seen) → unwind_body program next target out regions c
        ≡ run_finally program funclet true target.held
        (Unwinds (left (index + 1)) target ∷ Waits c.frame ∷ c.below) next c
    pub before : row_before scopes (index + 1) ≡ Some row
