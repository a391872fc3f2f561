-- What holds of every search.
use Rattle.std.specs.Prelude.{ℕ, ◌<◌, List, length, Option}
use Rattle.flat_memory.specs.Memory.{Memory}
use Rattle.x64_machine.specs.declared.context.Context.{Context}
use Rattle.virtual_unwind.specs.CallerOf.{Functions}
use Rattle.seh_search.specs.Search.{search}
use Rattle.host_model.specs.declared.funclet.Funclet.{Funclet}
use Rattle.linear_code.specs.declared.program.Region.{Region}
use Rattle.linear_code.specs.Program.{LinearProgram}
use Rattle.linear_machine.specs.Frames.{Handler, Item}
use Rattle.linear_machine.specs.Regions.{handlers}
use Rattle.match_stack.specs.Stack.{StackItem, IsStack}
use Rattle.match_stack.specs.PlainWalks.{state}
use Rattle.match_stack.specs.ImagePlan.{ImagePlan, Gives}
use Rattle.match_stack.specs.ItemMatches.{Activation, IsAtRow, Onward, Linked}
use Rattle.match_stack.specs.HostSearch.{IsWide, SearchedAs}

-- the list is in the stack from a context on
pub record IsSearchedStack (t : Functions) (fs : List Funclet) (program : LinearProgram)
    (p : ImagePlan)
    (m : Memory) (c : Context) (is : List StackItem) (items : List Item)
    (acts : List Activation) : Type 0 where
  pub gives : Gives t fs program p
  pub stack : IsStack t m c is
  pub linked : Linked t fs program p m c is items acts
  pub wide : IsWide c.kept

-- from a row of the first body on, or from its first one
abbrev pub SearchIsTheLists : Type 0
SearchIsTheLists =
    (t : Functions) (fs : List Funclet) (program : LinearProgram) (p : ImagePlan) (m : Memory)
    (c : Context) (is : List StackItem) (items : List Item) (acts : List Activation) (row : ℕ)
    (left : Option (List Region)) (n : ℕ)
    → IsSearchedStack t fs program p m c is items acts → IsAtRow t fs program p row items left
    → length is < n
    → SearchedAs t fs program p m acts c is items (search n t m (state c row))
    (handlers program items left)

-- from where it was suspended
abbrev pub SearchContinues : Type 0
SearchContinues =
    (t : Functions) (fs : List Funclet) (program : LinearProgram) (p : ImagePlan) (m : Memory)
    (c : Context) (is : List StackItem) (items : List Item) (acts : List Activation) (to : Context)
    (row : ℕ) (found : List Handler) (n : ℕ)
    → IsSearchedStack t fs program p m c is items acts
    → Onward t fs program p to row found c is items → length is < n
    → SearchedAs t fs program p m acts c is items (search n t m (state to row)) found
