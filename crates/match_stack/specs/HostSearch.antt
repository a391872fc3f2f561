-- What a search of the host comes to, against the handlers that linear code still comes to.
--
-- The main definition: `SearchedAs`.
use Rattle.std.specs.Prelude.{◌≡◌, ℕ, ◌+◌, ◌^◌, ◌<◌, ◌≤◌, List, [], ◌∷◌, length, Option, Some, None}
use Rattle.seh_num.specs.declared.event.Event.TheVariants as events
use Rattle.flat_memory.specs.Memory.{Memory}
use Rattle.x64_machine.specs.declared.cpu.Cpu.{Cpu}
use Rattle.x64_machine.specs.declared.context.Context.{Context}
use Rattle.virtual_unwind.specs.Contexts.{rsp}
use Rattle.virtual_unwind.specs.CallerOf.{Functions, distance}
use Rattle.seh_records.specs.Laws.{AllSmall}
use Rattle.seh_search.specs.declared.search_result.SearchResult.{SearchResult}
use Rattle.seh_search.specs.declared.search_result.SearchResult.TheVariants as searches
use Rattle.host_model.specs.declared.funclet.Funclet.{Funclet}
use Rattle.host_model.specs.Funclets.{arrivals}
use Rattle.linear_code.specs.Program.{LinearProgram}
use Rattle.linear_machine.specs.Frames.{BodyName, Handler, Item}
use Rattle.match_stack.specs.Stack.{StackItem}
use Rattle.match_stack.specs.ImagePlan.{ImagePlan, IsFunclet}
use Rattle.match_stack.specs.ItemMatches.{Activation, Reaches, Onward, Aimed, JumpsBefore}

-- a context that a record can keep: its registers are nine numbers of 64 bits
pub record IsWide (kept : List ℕ) : Type 0 where
  pub count : length kept ≡ 9
  pub each : AllSmall kept

-- what a record keeps of a walk
pub record CanBeKept (frame row : ℕ) (to : Context) : Type 0 where
  pub frame_small : frame < 2 ^ 64
  pub row_small : row < 2 ^ 64
  pub rip_small : to.rip < 2 ^ 64
  pub registers : IsWide to.kept

module _ (t : Functions) (fs : List Funclet) (program : LinearProgram) (p : ImagePlan) where
  -- the filter of a handler is asked: with its frame in hand, and from the row after it on the
  -- others are asked
  pub record Asks (m : Memory) (acts : List Activation) (c : Context) (is : List StackItem)
      (items : List Item) (s : SearchResult) (k : ℕ) (h : Handler)
      (rest : List Handler) : Type 0 where
    pub to : Context
    pub next : ℕ
    pub frame : ℕ
    pub address : ℕ
    pub name : BodyName
    pub answer : s ≡ searches.Filter (p.funclet k) frame next to
    pub onward : Onward t fs program p to next rest c is items
    pub aimed : Aimed t fs program p h.depth h.target frame address c is items
    pub before : JumpsBefore t fs program p to.rip next address
    pub funclet : IsFunclet t fs program p name k
    pub named : (cpu : Cpu) → arrivals cpu (distance t.base (p.funclet k)) 1 fs
        ≡ events.Filter (k + 1) ∷ []
    pub reaches : Reaches t fs program p m name frame h.activation acts
    pub above : rsp c ≤ frame
    pub kept : CanBeKept frame next to

  -- a handler takes over at once
  pub record Accepts (c : Context) (is : List StackItem) (items : List Item) (s : SearchResult)
      (h : Handler) : Type 0 where
    pub frame : ℕ
    pub address : ℕ
    pub answer : s ≡ searches.Accept frame address
    pub aimed : Aimed t fs program p h.depth h.target frame address c is items
    pub above : rsp c ≤ frame
    pub frame_small : frame < 2 ^ 64
    pub address_small : address < 2 ^ 64

  abbrev pub FindsHandler : Memory → List Activation → Context → List StackItem → List Item
      → SearchResult → Option ℕ → Handler → List Handler → Type 0
  FindsHandler m acts c is items s None h rest = Accepts c is items s h
  FindsHandler m acts c is items s (Some k) h rest = Asks m acts c is items s k h rest

  -- a search comes to the filter or the acceptance of the first handler that is left, with its
  -- frame. After a filter the other handlers are asked; with no handler left it comes to nobody.
  abbrev pub SearchedAs : Memory → List Activation → Context → List StackItem → List Item
      → SearchResult → List Handler → Type 0
  SearchedAs m acts c is items s [] = s ≡ searches.Nobody
  SearchedAs m acts c is items s (h ∷ rest) = FindsHandler m acts c is items s h.filter h rest
