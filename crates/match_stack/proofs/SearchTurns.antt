-- A turn that searches does what linear code's search does.
use Rattle.std.proofs.Common.{◌≡◌, ◌⊎◌, inl, inr, ℕ, ◌+◌, ◌%◌, ◌^◌, ◌<◌, ◌≤◌, true, Option, Some, None, List, [], ◌∷◌, refl, sym, ap, subst, ◌∙◌, arith}
use Rattle.match_stack.specs.Words.{answer_return, pushed, context_below, On, Code, Rcx, Rsp, Cpu, context_of, State, register, rsp, Functions, DispatchRecord, placed, return_address_at, RecordFits, is_asking, filter_return, host_list, FilterOf, walk_in, steps, SearchResult, search, Funclet, Turn, Continues, arrived, in_hand, if_placed, entered, Exception, LinearProgram, Handler, Resumption, Item, Waits, Searches, Configuration, StackItem, Searching, ImagePlan, Activation, RecordHasRoom, FindsHandler, SearchedAs, IsWellFormed, Ends, after_search, consult, Asks, Accepts, IsSearching, SearchTurns, ResumesFrom}
use Rattle.seh_num.specs.declared.end.RunEnd.TheVariants as ends
use Rattle.match_stack.proofs.ListEnds.{in_stack}
use Rattle.match_stack.proofs.RecordMemory.{IsPlace, place_of, pushed_record_leaves_others}
use Rattle.match_stack.proofs.DispatchItems.{search_is_one_more}
use Rattle.match_stack.proofs.ContextWidths.{well_formed_with, wide_saved}
use Rattle.match_stack.proofs.SearchHandlers.{search_continues}
use Rattle.match_stack.specs.SearchOutcomes.{FilterBegins, TakesOver, NobodyTakesOver}
use Rattle.match_stack.proofs.FuncletEntry.{with_record, fits_in_hand, few_items, entered_stack, entered_first, arrives}

module _ (t : Functions) (fs : List Funclet) (program : LinearProgram) (p : ImagePlan) (s : State)
    (at : ℕ) (r : DispatchRecord) (is : List StackItem) (acts : List Activation)
    (exception : Exception) (resumption : Resumption) (found : List Handler) (c : Configuration)
    (h : IsSearching t fs program p s at r is acts exception found c)
    (resumes : ResumesFrom p resumption c.frame acts r.saved) where
  abbrev items : List Item
  items = Waits c.frame ∷ c.below

  abbrev handlers : List ℕ
  handlers = host_list p c.store

  abbrev turn_of : SearchResult → Turn
  turn_of x = arrived t fs (after_search t s at r x)

  -- RCX is the address of the EXCEPTION_POINTERS in the record above the filter's return address
  pointers_above : (hand : DispatchRecord) → RecordHasRoom s.memory at hand
      (rsp (context_of r.saved)) → (frame k : ℕ) → p.funclet k < 2 ^ 64 → frame < 2 ^ 64
      → let cpu : Cpu = (entered (with_record t fs program p s at hand) at filter_return
      (p.funclet k) ((at + 80) % 2 ^ 64) frame).cpu in register cpu Rcx ≡ register cpu Rsp + 88
  pointers_above hand room frame k handler_small frame_small =
      let old : State = with_record t fs program p s at hand in
      let well_formed : IsWellFormed handlers old = well_formed_with handlers s
      (placed s.memory at hand)
      h.well_formed in
      let b = room.below in
      let small = room.small in
      let place : IsPlace at = place_of s.memory at (omega arith) room.room in
      let l : 0x70000008 ≤ at = place.low in
      let first = entered_first handlers old at filter_return (p.funclet k) ((at + 80) % 2 ^ 64)
      frame
      well_formed
      handler_small (omega arith) frame_small in
      let sp = entered_stack handlers old at filter_return (p.funclet k) ((at + 80) % 2 ^ 64) frame
      well_formed
      handler_small (omega arith) frame_small in
      let e : (at + 80) % 2 ^ 64 ≡ return_address_at at + 88 = omega arith in
      first ∙ e ∙ ap (λ x. x + 88) (sym sp)

  -- a filter is asked
  filter_begins : (x : SearchResult) (k : ℕ) (f : Handler) (rest : List Handler) → f.filter ≡ Some k
      → Asks t fs program p s.memory acts (context_of r.saved) is items x k f rest
      → FilterBegins t fs program p s at r (turn_of x) (f ∷ rest) exception resumption is acts c
  unfolding arrives
  filter_begins x k f rest e a =
      let above = rsp (context_of r.saved) in
      let hand : DispatchRecord = in_hand r a.frame a.next a.to in
      let hand_fits : RecordFits hand = fits_in_hand r a.frame a.next a.to h.room.fits a.kept in
      let room : RecordHasRoom s.memory at hand
      above = record {
        fits = hand_fits;
        below = h.room.below;
        small = h.room.small;
        room = h.room.room;
      } in
      let kind : is_asking hand.kind ≡ true = ap is_asking h.kind in
      let new : State = entered (with_record t fs program p s at hand) at filter_return
      (p.funclet k) ((at + 80) % 2 ^ 64) a.frame in
      let le = a.above in
      let frame_small = a.kept.frame_small in
      record {
        filter = k;
        handler = f;
        asked = e;
        rest = rest;
        state = new;
        turns =
            ap turn_of a.answer
            ∙ ap (λ (o : Option ℕ). arrived t fs
            (if_placed s at hand (λ u. Continues
            (entered u at filter_return (p.funclet k) ((at + 80) % 2 ^ 64) a.frame) []) o))
            h.room.room
            ∙ ap (Continues new) (a.named new.cpu);
        goes = λ next. ap (λ (o : Option ℕ). consult program o f rest exception resumption next c)
            e;
        arrives = arrives t fs program p s at hand filter_return ((at + 80) % 2 ^ 64) a.frame above
            k f.activation a.name (Searching hand ∷ is) (Searches exception resumption
            (FilterOf f rest) ∷
            items)
            acts handlers
            h.well_formed h.on.data_alone room le frame_small (omega arith) (omega arith) a.funclet
            a.reaches
            (λ others. subst (λ k. On t fs program p (pushed s.memory at hand (answer_return k))
            (context_below (answer_return k) at others) (Searching hand ∷ is)
            (Searches exception resumption (FilterOf f rest) ∷ items) acts) h.kind
            (search_is_one_more t fs program p s.memory at hand is items acts exception resumption
            (FilterOf f rest) others h.on kind room
            (record {
              own = record { fits = hand_fits; room = h.room.room };
              carries = record {
                code = h.carries.code;
                flag = h.carries.flag;
                one_flag = h.carries.one_flag;
                count = h.carries.count;
                parameters = h.carries.parameters;
              };
              resumes = resumes;
              asks = record {
                kind = h.kind;
                onward = a.onward;
                address = a.address;
                aimed = a.aimed;
                before = a.before;
              };
              near = h.near;
            })));
        named = a.named new.cpu;
        hand = hand;
        same_saved = refl;
        list = refl;
        pointers = pointers_above hand room a.frame k a.funclet.small frame_small;
        untouched = pushed_record_leaves_others s.memory at hand filter_return above h.on.data_alone
            room (in_stack t fs program p s.memory (context_of r.saved) is items acts
            h.on.is_there.stack h.on.is_there.linked) (omega arith);
      }

  takes_over : (x : SearchResult) (f : Handler) (rest : List Handler) → f.filter ≡ None
      → Accepts t fs program p (context_of r.saved) is items x f
      → TakesOver t fs program p s at r (turn_of x) (f ∷ rest) exception resumption
      (context_of r.saved) is c
  takes_over x f rest e a =
      record {
        handler = f;
        frame = a.frame;
        address = a.address;
        turns = ap turn_of a.answer;
        goes = λ next. ap (λ (o : Option ℕ). consult program o f rest exception resumption next c)
            e;
        frame_small = a.frame_small;
        address_small = a.address_small;
        aimed = a.aimed;
      }

  abbrev Turned : SearchResult → List Handler → Type 0
  Turned x hs =
      FilterBegins t fs program p s at r (turn_of x) hs exception resumption is acts c
      ⊎ (TakesOver t fs program p s at r (turn_of x) hs exception resumption (context_of r.saved) is
      c
      ⊎ NobodyTakesOver t fs program p (turn_of x) hs exception resumption c)

  by_filter : (x : SearchResult) (f : Handler) (rest : List Handler) (o : Option ℕ) → f.filter ≡ o
      → FindsHandler t fs program p s.memory acts (context_of r.saved) is items x o f rest
      → Turned x (f ∷ rest)
  by_filter x f rest None e a = inr (inl (takes_over x f rest e a))
  by_filter x f rest (Some k) e a = inl (filter_begins x k f rest e a)

  found_turned : (x : SearchResult) (hs : List Handler)
      → SearchedAs t fs program p s.memory acts (context_of r.saved) is items x hs → Turned x hs
  found_turned x [] e =
      inr (inr (record {
        turns = ap turn_of e ∙ ap (λ v. Ends []
            (ends.Unhandled (let code : Code = record { 0 = v } in code))) h.carries.code;
        goes = λ next. refl;
      }))
  found_turned x (f ∷ rest) a = by_filter x f rest f.filter refl a

  pub searched : Turned (search steps t s.memory (walk_in r)) found
  searched =
      let small = h.room.small in
      let few = few_items t s.memory (context_of r.saved) is h.on.is_there.stack small in
      found_turned (search steps t s.memory (walk_in r)) found
      (search_continues t fs program p s.memory (context_of r.saved) is items acts r.walk r.row
      found steps
      (record {
        gives = h.gives;
        stack = h.on.is_there.stack;
        linked = h.on.is_there.linked;
        wide = wide_saved r h.room.fits;
      }) h.onward (omega arith))

pub search_turns : SearchTurns
search_turns t fs program p s at r is acts exception resumption found c h resumes = searched t fs
    program p s at r is acts exception resumption found c h resumes
