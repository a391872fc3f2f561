-- What the code's surroundings represent, and those of a place in a state.
use Rattle.std.specs.Prelude.{ℕ, Bool, [], Some, None}
use Rattle.x64_memory.specs.PageMaps.{memory_of}
use Rattle.c_checked.specs.Expression.{lvalue}
use Rattle.source_meaning.specs.State.{State, frame_of}
use Rattle.source_machine.specs.Frames.{Place}
use Rattle.source_operations.specs.Reserved.{reserved_below}
use Rattle.source_plans.specs.Views.{exception_of}
use Rattle.source_values.specs.declared.surroundings.Surroundings.{Surroundings as Surroundings'}
use Rattle.source_values.specs.declared.changes.Change.{Change as Change'}
use Rattle.source_values.specs.Direct.{Surroundings, Change}

abbrev pub surroundings_of : Surroundings' → Surroundings
surroundings_of k =
    record {
      locals = elim k.locals [ Some locals ↦ locals.now.items | None ↦ [] ];
      memory = memory_of k.memory.now;
      reserved = reserved_below k.data_end;
      exception = exception_of k.exception;
      abnormal = k.abnormal;
    }

-- those of a place in a state
abbrev pub around : (ℕ → Bool) → State → Place → Surroundings
around reserved st p =
    record {
      locals = frame_of st p.activation;
      memory = st.memory;
      reserved = reserved;
      exception = p.exception;
      abnormal = p.abnormal;
    }

abbrev pub change_of : Change' → Change
change_of c =
    record {
      target = lvalue c.target.now;
      address = c.address;
      written = c.written;
      value = c.value;
      left = c.left;
    }
