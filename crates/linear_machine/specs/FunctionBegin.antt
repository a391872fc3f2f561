-- Where a function begins.
use Rattle.std.specs.Prelude.{ℕ, ◌+◌, ◌-◌, List, [], ◌∷◌, ◌++◌, length, replicate, None}
use Rattle.seh_num.specs.declared.event.Event.{Event}
use Rattle.linear_code.specs.Program.{LinearFunction}
use Rattle.source_meaning.specs.Expressions.{no_exception}
use Rattle.linear_machine.specs.Frames.{FunctionBody, Item, Store, Configuration}

-- a function begins: its arguments are its first locals, and the others are 0; what it counts above
-- 1 is held until it ends
abbrev pub begin_function : ℕ → LinearFunction → List ℕ → ℕ → List Item → Store → List Event
    → Configuration
begin_function f function arguments held below store es = record {
  frame =
      record {
        body = FunctionBody f;
        next = 0;
        activation = length store.activations;
        exception = no_exception;
        held = held + (function.surplus + function.data_surplus);
        temporaries = [];
        landed = None;
      };
  below = below;
  store =
      record store {
        activations = store.activations ++ (arguments
            ++ replicate (function.body.locals - function.parameters) 0) ∷ [];
      };
  events = es;
}
