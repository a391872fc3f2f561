-- Locals in registers, computed.
use Rattle.std.proofs.Common.{◌≡◌, ℕ, List, [], ◌∷◌, None, Some, refl}
use Rattle.c_operations.specs.declared.operation.Size.{Size}
use Rattle.c_operations.specs.declared.operation.Size.TheVariants.{Int}
use Rattle.c_checked.specs.declared.expression.Conversion.TheVariants.{Kept}
use Rattle.c_checked.specs.Expression.{Expression, On, Read, Assign, Local}
use Rattle.c_checked.specs.Statement.{Statements, Funclet, Declare, Evaluate, TryExcept, TryFinally, Empty, Then}
use Rattle.c_checked.specs.Program.{Function}
use Rattle.lowering_registers.specs.Shared.{register_locals}

abbrev variable : ℕ → Expression
variable x = On (Read (Local x)) Kept

-- a function of two parameters
abbrev with_locals : List Size → Statements → Function
with_locals locals body = record {
  name = [];
  parameters = Int ∷ Int ∷ [];
  locals = locals;
  data_frame = None;
  returns = None;
  body = body;
}

abbrev eight : List Size
eight = Int ∷ Int ∷ Int ∷ Int ∷ Int ∷ Int ∷ Int ∷ Int ∷ []

-- of ten locals the first seven stand in registers
many : register_locals (with_locals eight Empty) ≡ 0 ∷ 1 ∷ 2 ∷ 3 ∷ 4 ∷ 5 ∷ 6 ∷ []
many = refl

-- __try { a; } __except (b) { c; } __try { d; } __finally { int e; }
shared : register_locals (with_locals eight
    (Then (TryExcept (Then (Evaluate (Some (variable 0))) Empty) (Funclet 1 (variable 1))
    (Then (Evaluate (Some (variable 2))) Empty))
    (Then (TryFinally (Then (Evaluate (Some (variable 3))) Empty) 2
    (Then (Declare (record { local = 4; stacked = None; value = None })) Empty)) Empty)))
    ≡ 0 ∷ 2 ∷ 3 ∷ 5 ∷ 6 ∷ 7 ∷ 8 ∷ []
shared = refl

-- __try { } __finally { __try { b = a; } __except (a) { } }, with a local more
inner : register_locals (with_locals (Int ∷ [])
    (Then (TryFinally Empty 1 (Then (TryExcept
    (Then (Evaluate (Some (On (Assign (Local 1) (variable 0)) Kept))) Empty)
    (Funclet 2 (variable 0)) Empty) Empty)) Empty)) ≡ 2 ∷ []
inner = refl
