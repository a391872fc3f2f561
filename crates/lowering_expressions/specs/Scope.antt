-- What is around a part of a program that is lowered.
use Rattle.std.specs.Prelude.{ℕ, ◌+◌, Option, None, Some}
use Rattle.c_checked.specs.declared.function.DataPart.{DataPart}
use Rattle.lowering_expressions.specs.declared.scope.ExceptionSource.TheVariants.{NoException, OfFilter, KeptIn}
use Rattle.lowering_expressions.specs.declared.scope.Names.{Names}
use Rattle.lowering_expressions.specs.declared.scope.Way.{Way}
use Rattle.lowering_expressions.specs.declared.scope.Way.TheVariants.{Nowhere, Jumps, Unwinds}
use Rattle.lowering_expressions.specs.declared.scope.LoweringContext.{LoweringContext}

-- in an `__except` block, in a filter, and in a `__finally` block
abbrev pub except_names : Names → Names
except_names n =
    record { exception = KeptIn n.free; abnormal = n.abnormal; free = n.free + 1; part = n.part }

abbrev pub filter_names : Names → Names
filter_names n =
    record { exception = OfFilter; abnormal = n.abnormal; free = n.free; part = n.part }

abbrev pub finally_names : Names → Names
finally_names n =
    record { exception = n.exception; abnormal = Some n.free; free = n.free + 1; part = n.part }

-- out of the body of a `__try` with a `__finally` block
abbrev pub unwound : Way → Way
unwound Nowhere = Nowhere
unwound (Jumps label) = Unwinds label
unwound (Unwinds label) = Unwinds label

-- in a function whose first free local and exit are these
abbrev pub function_scope : Option DataPart → ℕ → ℕ → LoweringContext
function_scope part free exit =
    record {
      names = record { exception = NoException; abnormal = None; free = free; part = part };
      exit = Jumps exit;
      loop_end = Nowhere;
      loop_next = Nowhere;
      leave = None;
    }

-- in a `__finally` block, out of which nothing leads
abbrev pub finally_scope : Names → LoweringContext
finally_scope names =
    record {
      names = finally_names names;
      exit = Nowhere;
      loop_end = Nowhere;
      loop_next = Nowhere;
      leave = None;
    }

abbrev pub in_loop : ℕ → ℕ → LoweringContext → LoweringContext
in_loop end next s =
    record {
      names = s.names;
      exit = s.exit;
      loop_end = Jumps end;
      loop_next = Jumps next;
      leave = s.leave;
    }

-- in the body of a `__try` with an `__except`, and in that block
abbrev pub in_try : ℕ → LoweringContext → LoweringContext
in_try end s =
    record {
      names = s.names;
      exit = s.exit;
      loop_end = s.loop_end;
      loop_next = s.loop_next;
      leave = Some end;
    }

abbrev pub in_except : LoweringContext → LoweringContext
in_except s =
    record {
      names = except_names s.names;
      exit = s.exit;
      loop_end = s.loop_end;
      loop_next = s.loop_next;
      leave = s.leave;
    }

-- in the body of a `__try` with a `__finally`
abbrev pub in_guarded : ℕ → LoweringContext → LoweringContext
in_guarded end s =
    record {
      names = s.names;
      exit = unwound s.exit;
      loop_end = unwound s.loop_end;
      loop_next = unwound s.loop_next;
      leave = Some end;
    }
