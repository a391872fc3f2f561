-- A turn that asks the vectored handlers does what linear code does.
use Rattle.std.proofs.Common.{◌≡◌, ◌⊎◌, inl, inr, ℕ, zero, suc, ◌+◌, ◌%◌, ◌^◌, ◌<◌, ◌≤◌, true, Option, Some, None, List, [], ◌∷◌, length, refl, ap, subst, ◌∙◌, arith}
use Rattle.std.specs.Prelude.{map, slice_get}
use Rattle.match_stack.specs.Words.{Memory, Context, context_of, State, rsp, word, Functions, DispatchRecord, placed, return_address_at, RecordFits, AllSmall, is_asking, answer_return, vectored_return, Funclet, Continues, entered, if_placed, searching, searches_on, asks_at, asks_on, Exception, LinearProgram, Resumption, VectoredAt, Searches, Waits, Configuration, handlers, ask_at, StackItem, Searching, context_below, ImagePlan, Activation, Onward, On, pushed, RecordHasRoom, IsWellFormed, host_list, IsAsking, HandlerBegins, SearchFollows, AskTurns, ResumesFrom}
use Rattle.match_stack.proofs.ListEnds.{in_stack}
use Rattle.match_stack.proofs.RecordMemory.{IsPlace, place_of, pushed_is, word_pushed, pushed_record_leaves_others}
use Rattle.match_stack.proofs.DispatchItems.{record_leaves_the_list, search_is_one_more}
use Rattle.match_stack.proofs.DispatchSteps.{onward_here, placed_room}
use Rattle.match_stack.proofs.ContextWidths.{well_formed_with}
use Rattle.match_stack.proofs.FuncletEntry.{with_record, entered_stack, entered_first, entered_well_formed}

-- the name thunk of a function, if there is one
abbrev mapped : (ℕ → ℕ) → Option ℕ → Option ℕ
mapped handler None = None
mapped handler (Some f) = Some (handler f)

-- the host has the name thunk of the handler at a place
there_in : (handler : ℕ → ℕ) (fs : List ℕ) (place : ℕ) (o : Option ℕ) → slice_get fs place ≡ o
    → slice_get (map handler fs) place ≡ mapped handler o
there_in handler [] place None e = refl
there_in handler [] place (Some f) e = absurd cc
there_in handler (x ∷ fs) zero None e = absurd cc
there_in handler (x ∷ fs) zero (Some f) e = ap (λ (o : Option ℕ). mapped handler o) e
there_in handler (x ∷ fs) (suc place) o e = there_in handler fs place o e

module _ (t : Functions) (fs : List Funclet) (program : LinearProgram) (p : ImagePlan) (s : State)
    (at : ℕ) (r : DispatchRecord) (is : List StackItem) (acts : List Activation)
    (exception : Exception) (resumption : Resumption) (place : ℕ) (c : Configuration)
    (h : IsAsking t fs program p s at r is acts exception place c)
    (resumes : ResumesFrom p resumption c.frame acts r.saved) where
  abbrev above : ℕ
  above = rsp (context_of r.saved)

  abbrev listed : List ℕ
  listed = host_list p c.store

  top : above ≤ 0x70800000
  top = in_stack t fs program p s.memory (context_of r.saved) is (Waits c.frame ∷ c.below) acts
      h.on.is_there.stack h.on.is_there.linked

  low : 0x70000008 ≤ at
  low =
      let b = h.room.below in
      let l = top in
      let q : IsPlace at = place_of s.memory at (omega arith) h.room.room in
      q.low

  -- what the host asks
  asked : (o : Option ℕ) → slice_get c.store.vectored place ≡ o
      → asks_on t s at r ≡ asks_at t s at r (mapped p.handler o)
  asked o e =
      ap (λ k. asks_at t s at r (slice_get s.vectored k)) h.row
      ∙ ap (λ (xs : List ℕ). asks_at t s at r (slice_get xs place)) h.well_formed.listed
      ∙ ap (asks_at t s at r) (there_in p.handler c.store.vectored place o e)

  -- ---- a handler begins

  abbrev after : ℕ → State
  after f = entered (with_record t fs program p s at r) at vectored_return (p.handler f)
      ((at + 80) % 2 ^ 64) 0

  with_it : IsWellFormed listed (with_record t fs program p s at r)
  with_it = well_formed_with listed s (placed s.memory at r) h.well_formed

  -- from its return address on the search waits
  on_top : (others : List ℕ) → On t fs program p (after 0).memory
      (context_below vectored_return at others) (Searching r ∷ is)
      (Searches exception resumption (VectoredAt place) ∷ Waits c.frame ∷ c.below) acts
  on_top others =
      subst (λ k. On t fs program p (pushed s.memory at r (answer_return k))
      (context_below (answer_return k) at others) (Searching r ∷ is)
      (Searches exception resumption (VectoredAt place) ∷ Waits c.frame ∷ c.below) acts) h.kind
      (search_is_one_more t fs program p s.memory at r is (Waits c.frame ∷ c.below) acts exception
      resumption (VectoredAt place) others h.on (ap is_asking h.kind) h.room
      (record {
        own = record { fits = h.room.fits; room = h.room.room };
        carries = h.carries;
        resumes = resumes;
        asks = record { kind = h.kind; row = h.row; walk = h.walk };
        near = h.near;
      }))

  begins : (f : ℕ) → slice_get c.store.vectored place ≡ Some f
      → HandlerBegins t fs program p s at r is acts exception resumption place c
  begins f e =
      let old : State = with_record t fs program p s at r in
      let back_small : vectored_return < 2 ^ 64 = omega arith in
      let below = h.room.below in
      let l = low in
      let u = top in
      let first_small : (at + 80) % 2 ^ 64 < 2 ^ 64 = omega arith in
      let none : 0 < 2 ^ 64 = omega arith in
      let small = h.handlers f in
      let sp = entered_stack listed old at vectored_return (p.handler f) ((at + 80) % 2 ^ 64) 0
      with_it small first_small none in
      let memory_is = pushed_is s.memory at r vectored_return above h.on.data_alone h.room
      back_small in
      let address : (at + 80) % 2 ^ 64 ≡ at + 80 = omega arith in
      let kind : is_asking r.kind ≡ true = ap is_asking h.kind in
      record {
        handler = f;
        listed = e;
        state = after f;
        turns = asked (Some f) e ∙ ap (λ (o : Option ℕ). if_placed s at r (λ u. Continues
            (entered u at vectored_return (p.handler f) ((at + 80) % 2 ^ 64) 0) []) o) h.room.room;
        goes = λ next. ap (λ (o : Option ℕ). ask_at program next o place exception resumption c) e;
        rip = refl;
        pointers = entered_first listed old at vectored_return (p.handler f) ((at + 80) % 2 ^ 64) 0
            with_it small first_small none ∙ address;
        stack = omega arith;
        returns =
            ap (word (after f).memory) sp
            ∙ ap (λ (m : Memory). word m (return_address_at at)) memory_is
            ∙ word_pushed s.memory at r vectored_return above h.on.data_alone h.room back_small;
        on = on_top;
        well_formed = entered_well_formed listed old at vectored_return (p.handler f)
            ((at + 80) % 2 ^ 64) 0 with_it small first_small none;
        untouched = pushed_record_leaves_others s.memory at r vectored_return above
            h.on.data_alone h.room top back_small;
      }

  -- ---- or the search

  -- the walk begins at the saved state
  first : Onward t fs program p (context_of r.saved) 0
      (handlers program (Waits c.frame ∷ c.below) None) (context_of r.saved) is
      (Waits c.frame ∷ c.below)
  first = onward_here t fs program p s.memory (context_of r.saved) is c.frame c.below acts
      h.on.is_there.linked

  follows : slice_get c.store.vectored place ≡ None
      → SearchFollows t fs program p s at r is acts exception resumption place c
  follows e =
      let new : DispatchRecord = searching r in
      let f = h.room.fits in
      let fits : RecordFits new = record {
        frame = (let z : 0 < 2 ^ 64 = omega arith in z);
        row = (let z : 0 < 2 ^ 64 = omega arith in z);
        target_frame = f.target_frame;
        target = f.target;
        code = f.code;
        flags = f.flags;
        count = f.count;
        rip = f.rip;
        walk_rip = subst (λ (w : Context). w.rip < 2 ^ 64) h.walk f.walk_rip;
        parameters = f.parameters;
        registers = f.registers;
        kept = subst (λ (w : Context). length w.kept ≡ 9) h.walk f.kept;
        parameters_small = f.parameters_small;
        registers_small = f.registers_small;
        kept_small = subst (λ (w : Context). AllSmall w.kept) h.walk f.kept_small;
      } in
      let room : RecordHasRoom s.memory at new above = record {
        fits = fits;
        below = h.room.below;
        small = h.room.small;
        room = h.room.room;
      } in
      record {
        turns = asked None e
            ∙ ap (λ (o : Option ℕ). if_placed s at new (λ u. searches_on t u at new) o) h.room.room;
        goes = λ next. ap (λ (o : Option ℕ). ask_at program next o place exception resumption c) e;
        searches = record {
          gives = h.gives;
          well_formed = well_formed_with listed s (placed s.memory at new) h.well_formed;
          on = record_leaves_the_list t fs program p s.memory at new (context_of r.saved) is
              (Waits c.frame ∷ c.below) acts h.on room;
          kind = refl;
          room = placed_room s.memory at new above room;
          carries = record {
            code = h.carries.code;
            flag = h.carries.flag;
            one_flag = h.carries.one_flag;
            count = h.carries.count;
            parameters = h.carries.parameters;
          };
          onward = first;
          near = h.near;
        };
      }

  pub ask_turned : HandlerBegins t fs program p s at r is acts exception resumption place c
      ⊎ SearchFollows t fs program p s at r is acts exception resumption place c
  ask_turned = by (slice_get c.store.vectored place) refl
    where
      by : (o : Option ℕ) → slice_get c.store.vectored place ≡ o
          → HandlerBegins t fs program p s at r is acts exception resumption place c
          ⊎ SearchFollows t fs program p s at r is acts exception resumption place c
      by (Some f) e = inl (begins f e)
      by None e = inr (follows e)

pub ask_turns : AskTurns
ask_turns t fs program p s at r is acts exception resumption place c h resumes =
    ask_turned t fs program p s at r is acts exception resumption place c h resumes
