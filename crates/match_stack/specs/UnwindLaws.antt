-- What holds of every unwinding.
use Rattle.std.specs.Prelude.{ℕ, ◌+◌, ◌<◌, List, length, Option}
use Rattle.seh_num.specs.declared.event.Event.{Event}
use Rattle.flat_memory.specs.Memory.{Memory}
use Rattle.x64_machine.specs.declared.context.Context.{Context}
use Rattle.virtual_unwind.specs.Contexts.{rsp}
use Rattle.virtual_unwind.specs.CallerOf.{Functions}
use Rattle.seh_unwind.specs.Unwind as hosts
use Rattle.host_model.specs.declared.funclet.Funclet.{Funclet}
use Rattle.linear_code.specs.declared.program.Region.{Region}
use Rattle.linear_code.specs.Program.{LinearProgram}
use Rattle.linear_machine.specs.Frames.{Target, Item, Store}
use Rattle.linear_machine.specs.Unwinding as linear
use Rattle.match_stack.specs.Stack.{StackItem}
use Rattle.match_stack.specs.PlainWalks.{state}
use Rattle.match_stack.specs.ImagePlan.{ImagePlan}
use Rattle.match_stack.specs.ItemMatches.{Activation, IsAtRow, Aimed}
use Rattle.match_stack.specs.SearchLaws.{IsSearchedStack}
use Rattle.match_stack.specs.HostUnwind.{store_of, UnwoundAs}

-- to a target in the list, from a row of the first body on or from its first one
abbrev pub UnwindingIsTheLists : Type 0
UnwindingIsTheLists =
    (t : Functions) (fs : List Funclet) (program : LinearProgram) (p : ImagePlan) (m : Memory)
    (c : Context) (is : List StackItem) (items : List Item) (acts : List Activation) (row : ℕ)
    (left : Option (List Region))
    (target : Target) (frame address : ℕ) (source : Store) (events : List Event) (n : ℕ)
    → IsSearchedStack t fs program p m c is items acts → IsAtRow t fs program p row items left
    → Aimed t fs program p target.depth target.label frame address c is items → length is < n
    → UnwoundAs t fs program p m (record {
      target = target;
      frame = frame;
      address = address;
      low = rsp c;
      depth = length acts + target.held;
      source = source;
      events = events;
    })
    (hosts.unwind n t m frame address (state c row))
    (λ then. linear.unwind program then target items left events (store_of source acts))
