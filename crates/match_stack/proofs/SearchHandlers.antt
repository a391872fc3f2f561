-- The host's search asks the handlers that linear code comes to, in their order.
use Rattle.std.proofs.Common.{◌≡◌, ◌⊎◌, inl, inr, ℕ, suc, ◌+◌, ◌%◌, ◌^◌, ◌<◌, ◌≤◌, Option, Some, None, List, [], ◌∷◌, ◌++◌, length, refl, sym, ap, subst, ◌∙◌, arith}
use Rattle.std.specs.Prelude.{filter, drop}
use Rattle.std.proofs.Math.Seq.{drop-nil}
use Rattle.match_stack.specs.Words.{Memory, Context, context_of, ScopeRecord, Entry, get, rsp, Functions, distance, rows_from, first_with_jump_target, SearchResult, search, Funclet, row_before, Region, LinearProgram, BodyName, FunctionBody, FuncletBody, body_of, Frame, Handler, Item, Waits, Searches, Unwinds, holds, regions_of, handlers_in, handlers, StackFrame, StackItem, Framed, Leaf, Searching, Unwinding, FrameIsAt, LeafIsAt, IsStack, after_frame, after_leaf, state, asked_row, chosen_or, plain_search, ImagePlan, HasRows, IsFlagged, IsHandlerRow, Gives, Activation, activations_below, HasActivation, Reaches, FrameWaits, LeafWaits, regions_from, IsAtRow, Onward, Aimed, Linked, NoHandler, FirstHandler, left_from, IsWide, FindsHandler, SearchedAs, by_handler, chosen, rows_of, IsEntryOf, HasEntries, IsGiven, IsActivation, IsInstruction}
use Rattle.seh_search.specs.declared.search_result.SearchResult.TheVariants as searches
use Rattle.match_stack.proofs.StackKeeping.{rises}
use Rattle.match_stack.proofs.ListWalks.{search_is_of_the_list}
use Rattle.match_stack.proofs.ScopeRows.{row_before_short}
use Rattle.match_stack.proofs.FrameSearch.{search_finds_the_handlers}
use Rattle.match_stack.specs.SearchLaws.{SearchIsTheLists, SearchContinues}
use Rattle.match_stack.proofs.ContextWidths.{wide_after, wide_after_leaf, wide_saved, wide_walk}
use Rattle.match_stack.proofs.EntryFlags.{searched_all}

pub activation_below : (name : BodyName) (acts : List Activation) (k base distance : ℕ)
    (register : ℕ → Option ℕ) → IsActivation (activations_below name acts) k base distance register
    → IsActivation acts k base distance register
activation_below (FunctionBody f) [] k base distance register h = absurd h
activation_below (FunctionBody f) (a ∷ outer) k base distance register h = inr h
activation_below (FuncletBody j) acts k base distance register h = h

pub at_first_row : (t : Functions) (fs : List Funclet) (program : LinearProgram) (p : ImagePlan)
    (items : List Item) → IsAtRow t fs program p 0 items None
at_first_row t fs program p [] = tt
at_first_row t fs program p (Waits b ∷ below) = refl
at_first_row t fs program p (Searches exception resumption asked ∷ below) = tt
at_first_row t fs program p (Unwinds rest target ∷ below) = tt

module _ (t : Functions) (fs : List Funclet) (program : LinearProgram) (p : ImagePlan) where
  -- a frame leads its funclets to its activation
  pub body_reaches : (m : Memory) (name : BodyName) (sp size k : ℕ) (acts : List Activation)
      (now : ℕ → ℕ) → sp + size + 8 < 2 ^ 64
      → HasActivation m now (p.register name) (p.layout name) sp size k acts name
      → Reaches t fs program p m name sp k acts
  body_reaches m (FunctionBody f) sp size k [] now lt h = absurd h
  body_reaches m (FunctionBody f) sp size k (a ∷ outer) now lt
      h = record { base = sp; leads = refl; activation = inl h.activation }
  body_reaches m (FuncletBody j) sp size k acts now lt h =
      record {
        base = h.base;
        leads = record {
          slot = h.slot;
          some = h.some;
          room = let r = h.room in omega arith;
          kept = h.kept;
        };
        activation = h.activation;
      }

  -- what holds of a rear part of the stack holds of all of it
  module _ (m : Memory) (acts acts' : List Activation) (c c' : Context) (is is' : List StackItem)
      (items items' : List Item) (rising : rsp c ≤ rsp c')
      (activations : (k base distance : ℕ) (register : ℕ → Option ℕ)
      → IsActivation acts' k base distance register → IsActivation acts k base distance register)
      (onward : (to : Context) (row : ℕ) (found : List Handler)
      → Onward t fs program p to row found c' is' items'
      → Onward t fs program p to row found c is items)
      (aimed : (depth label frame address : ℕ)
      → Aimed t fs program p depth label frame address c' is' items'
      → Aimed t fs program p depth label frame address c is items) where
    finds_outer : (s s' : SearchResult) (o : Option ℕ) (h : Handler) (rest : List Handler) → s ≡ s'
        → FindsHandler t fs program p m acts' c' is' items' s' o h rest
        → FindsHandler t fs program p m acts c is items s o h rest
    finds_outer s s' None h rest e x =
        record {
          frame = x.frame;
          address = x.address;
          answer = e ∙ x.answer;
          aimed = aimed h.depth h.target x.frame x.address x.aimed;
          above = let a : rsp c' ≤ x.frame = x.above in omega arith;
          frame_small = x.frame_small;
          address_small = x.address_small;
        }
    finds_outer s s' (Some k) h rest e x =
        record {
          to = x.to;
          next = x.next;
          frame = x.frame;
          address = x.address;
          name = x.name;
          answer = e ∙ x.answer;
          onward = onward x.to x.next rest x.onward;
          aimed = aimed h.depth h.target x.frame x.address x.aimed;
          before = x.before;
          funclet = x.funclet;
          named = x.named;
          reaches = record {
            base = x.reaches.base;
            leads = x.reaches.leads;
            activation = activations h.activation x.reaches.base (p.layout x.name).locals
                (p.register x.name)
                x.reaches.activation;
          };
          above = let a : rsp c' ≤ x.frame = x.above in omega arith;
          kept = x.kept;
        }

    pub searched_outer : (s s' : SearchResult) (found : List Handler) → s ≡ s'
        → SearchedAs t fs program p m acts' c' is' items' s' found
        → SearchedAs t fs program p m acts c is items s found
    searched_outer s s' [] e x = e ∙ x
    searched_outer s s' (h ∷ rest) e x = finds_outer s s' h.filter h rest e x

module _ (t : Functions) (fs : List Funclet) (program : LinearProgram) (p : ImagePlan)
    (g : Gives t fs program p) where
  -- the entries of a body that waits in its frame
  pub entries_of_body : (m : Memory) (c : Context) (f : StackFrame) (b : Frame) (below : List Item)
      (acts : List Activation) (body : FrameWaits t fs program p m c f b below acts)
      → HasEntries t fs program p b.body body.waits.code
  entries_of_body m c f b below acts body = subst
      (λ x. IsGiven t fs program p b.body body.waits.code x) body.framed
      (g b.body body.waits.code body.waits.body)

  -- that of its frame has the records of the body
  entry_of_body : (m : Memory) (c : Context) (f : StackFrame) (b : Frame) (below : List Item)
      (acts : List Activation) (body : FrameWaits t fs program p m c f b below acts)
      → IsEntryOf t fs program p b.body body.waits.code body.waits.label
  entry_of_body m c f b below acts body =
      (entries_of_body m c f b below acts body).entries body.waits.label

  pub flags_of_body : (m : Memory) (c : Context) (f : StackFrame) (b : Frame) (below : List Item)
      (acts : List Activation) (body : FrameWaits t fs program p m c f b below acts)
      → IsFlagged t fs program p f.entry.info
  flags_of_body m c f b below acts body = subst (λ (e : Entry). IsFlagged t fs program p e.info)
      (sym body.entry) (entry_of_body m c f b below acts body).flagged

  pub few_of_body : (m : Memory) (c : Context) (f : StackFrame) (b : Frame) (below : List Item)
      (acts : List Activation) (body : FrameWaits t fs program p m c f b below acts)
      → length f.entry.info.scopes < 2 ^ 32
  few_of_body m c f b below acts body = subst (λ (e : Entry). length e.info.scopes < 2 ^ 32)
      (sym body.entry) (entry_of_body m c f b below acts body).few

  pub instruction_of_body : (m : Memory) (c : Context) (f : StackFrame) (b : Frame)
      (below : List Item) (acts : List Activation)
      (body : FrameWaits t fs program p m c f b below acts)
      → IsInstruction t fs program p b.body b.next c.rip f.entry.info.scopes
      (regions_of (body_of program b.body))
  instruction_of_body m c f b below acts body =
      record {
        label = body.waits.label;
        inside = body.waits.instruction;
        same = body.waits.same;
        rows = subst (λ (e : Entry). HasRows t fs program p b.body body.waits.label e.info.scopes
            (regions_of (body_of program b.body))) (sym body.entry)
            (subst (λ (rs : List Region). HasRows t fs program p b.body body.waits.label
            (p.entry b.body body.waits.label).info.scopes rs) (sym (ap regions_of body.waits.body))
            (entry_of_body m c f b below acts body).rows);
      }

  module _ (m : Memory) (c : Context) (f : StackFrame) (is : List StackItem) (b : Frame)
      (below : List Item) (acts : List Activation) (is_there : FrameIsAt t m c f)
      (body : FrameWaits t fs program p m c f b below acts) (wide : IsWide c.kept) where
    abbrev outer : SearchResult
    outer = plain_search t (after_frame c f) 0 is

    abbrev rest_from : ℕ → List Handler
    rest_from row = handlers_in (regions_from t fs program p b row) b.activation (length below)
        ++ handlers program below None

    -- the first handler is of this frame
    finds_here : (index : ℕ) (row : ScopeRecord) (o : Option ℕ) (target : ℕ)
        → IsHandlerRow t fs program p b.body row o target
        → row_before f.entry.info.scopes (index + 1) ≡ Some row
        → FindsHandler t fs program p m acts c (Framed f ∷ is) (Waits b ∷ below)
        (chosen t.base (rsp c) c (index, row)) o
        (record { filter = o; activation = b.activation; depth = length below; target = target })
        (rest_from (index + 1))
    finds_here index row None target x e =
        let room = is_there.room in
        record {
          frame = rsp c;
          address = p.address b.body target;
          answer = ap (by_handler t.base (rsp c) c (index, row)) x.accepts
              ∙ ap (λ a. searches.Accept (rsp c) a) x.to.target;
          aimed = inl (record {
            at_depth = refl;
            at_frame = refl;
            at_address = refl;
            lands = x.to.lands;
          });
          above = omega arith;
          frame_small = omega arith;
          address_small = subst (λ a. a < 2 ^ 64) x.to.target
              (let a : (t.base + row.jump_target) % 2 ^ 64 < 2 ^ 64 = omega arith in a);
        }
    finds_here index row (Some k) target x e =
        let room = is_there.room in
        let few = few_of_body m c f b below acts body in
        let short = row_before_short f.entry.info.scopes index row
        (ap (row_before f.entry.info.scopes) (let a : suc index ≡ index + 1 = omega arith in a)
        ∙ e) in
        record {
          to = c;
          next = index + 1;
          frame = rsp c;
          address = p.address b.body target;
          name = b.body;
          answer = ap (by_handler t.base (rsp c) c (index, row)) x.asks
              ∙ ap (λ a. searches.Filter a (rsp c) (index + 1) c) x.handler;
          onward = inl (record { same = refl; finds_handlers = refl });
          aimed = inl (record {
            at_depth = refl;
            at_frame = refl;
            at_address = refl;
            lands = x.to.lands;
          });
          before = record {
            row = row;
            before = ap
                (λ (o : Option Entry). row_before (rows_of o) (index + 1)) is_there.found ∙ e;
            jumps = x.to.jumps;
            target = x.to.target;
          };
          funclet = x.funclet;
          named = x.named;
          reaches = body_reaches t fs program p m b.body (rsp c) f.slots b.activation acts (get c)
              (let e = is_there.slots in let o = is_there.room in omega arith)
              body.waits.activation;
          above = omega arith;
          kept = record {
            frame_small = omega arith;
            row_small = omega arith;
            rip_small = body.waits.small;
            registers = wide;
          };
        }

    -- from a row of this frame on
    pub from_row : (row : ℕ) → SearchedAs t fs program p m (activations_below b.body acts)
        (after_frame c f) is below outer (handlers program below None)
        → SearchedAs t fs program p m acts c (Framed f ∷ is) (Waits b ∷ below)
        (plain_search t c row (Framed f ∷ is)) (rest_from row)
    from_row row out = by (search_finds_the_handlers t fs program p b.body b.next c.rip row
        f.entry.info.scopes (regions_of (body_of program b.body))
        (instruction_of_body m c f b below acts body))
      where
        first : asked_row t c row f ≡ first_with_jump_target
            (rows_from (distance t.base c.rip) row f.entry.info.scopes)
        first = searched_all t fs program p f.entry.info (distance t.base c.rip) row
            (flags_of_body m c f b below acts body)

        by : NoHandler t fs program p (rows_from (distance t.base c.rip) row f.entry.info.scopes)
            (left_from b.next (regions_of (body_of program b.body)) row)
            ⊎ FirstHandler t fs program p b.body f.entry.info.scopes
            (rows_from (distance t.base c.rip) row f.entry.info.scopes)
            (left_from b.next (regions_of (body_of program b.body)) row)
            (left_from b.next (regions_of (body_of program b.body)))
            → SearchedAs t fs program p m acts c (Framed f ∷ is) (Waits b ∷ below)
            (plain_search t c row (Framed f ∷ is)) (rest_from row)
        by (inl none) =
            subst (λ (hs : List Handler). SearchedAs t fs program p m acts c (Framed f ∷ is)
            (Waits b ∷ below) (plain_search t c row (Framed f ∷ is))
            (hs ++ handlers program below None)) (sym (none.handlers b.activation (length below)))
            (searched_outer t fs program p m acts (activations_below b.body acts) c
            (after_frame c f) (Framed f ∷ is) is (Waits b ∷ below) below
            (let r = rises t m c (Framed f) is_there in omega arith)
            (activation_below b.body acts) (λ to row found o. inr o)
            (λ depth label frame address a. inr a)
            (plain_search t c row (Framed f ∷ is)) outer (handlers program below None)
            (ap (chosen_or t c outer) (first ∙ none.first)) out)
        by (inr x) =
            subst (λ (s : SearchResult). SearchedAs t fs program p m acts c (Framed f ∷ is)
            (Waits b ∷ below) s (rest_from row))
            (sym (ap (chosen_or t c outer) (first ∙ x.first)))
            (subst (λ (hs : List Handler). SearchedAs t fs program p m acts c (Framed f ∷ is)
            (Waits b ∷ below) (chosen t.base (rsp c) c (x.index, x.row))
            (hs ++ handlers program below None)) (sym (x.handlers b.activation (length below)))
            (finds_here x.index x.row x.filter x.target x.is x.before))

  -- a leaf function has no handler
  module _ (m : Memory) (c : Context) (back : ℕ) (is : List StackItem) (b : Frame)
      (below : List Item) (acts : List Activation) (is_there : LeafIsAt t m c back)
      (body : LeafWaits t fs program p m c back b below acts) where
    pub none_from : (row : ℕ) → regions_from t fs program p b row ≡ []
    none_from row = ap (λ (rs : List Region). filter (holds b.next) (drop row rs)) body.none
        ∙ ap (filter (holds b.next)) (drop-nil row)

    pub past_leaf : (row : ℕ) → SearchedAs t fs program p m (activations_below b.body acts)
        (after_leaf c back) is below (plain_search t (after_leaf c back) 0 is)
        (handlers program below None)
        → SearchedAs t fs program p m acts c (Leaf back ∷ is) (Waits b ∷ below)
        (plain_search t c row (Leaf back ∷ is))
        (handlers_in (regions_from t fs program p b row) b.activation (length below)
        ++ handlers program below None)
    past_leaf row out =
        subst (λ (rs : List Region). SearchedAs t fs program p m acts c (Leaf back ∷ is)
        (Waits b ∷ below) (plain_search t c row (Leaf back ∷ is))
        (handlers_in rs b.activation (length below) ++ handlers program below None))
        (sym (none_from row))
        (searched_outer t fs program p m acts (activations_below b.body acts) c (after_leaf c back)
        (Leaf back ∷ is) is (Waits b ∷ below) below
        (let r = rises t m c (Leaf back) is_there in omega arith)
        (activation_below b.body acts) (λ to row found o. inr o) (λ depth label frame address a. a)
        (plain_search t c row (Leaf back ∷ is)) (plain_search t (after_leaf c back) 0 is)
        (handlers program below None) refl out)

  pub searched_plainly : (m : Memory) (acts : List Activation) (is : List StackItem)
      (items : List Item) (c : Context) (row : ℕ) (left : Option (List Region))
      → IsStack t m c is → Linked t fs program p m c is items acts
      → IsAtRow t fs program p row items left → IsWide c.kept
      → SearchedAs t fs program p m acts c is items (plain_search t c row is)
      (handlers program items left)
  searched_plainly m acts [] [] c row left s h at wide = refl
  searched_plainly m acts (Framed f ∷ is) (Waits b ∷ below) c row left s h at wide =
      subst (λ (rs : List Region). SearchedAs t fs program p m acts c (Framed f ∷ is)
      (Waits b ∷ below) (plain_search t c row (Framed f ∷ is))
      (handlers_in rs b.activation (length below) ++ handlers program below None)) (sym at)
      (from_row m c f is b below acts s.0 h.0 wide row
      (searched_plainly m (activations_below b.body acts) is below (after_frame c f) 0 None s.1 h.2
      (at_first_row t fs program p below) (wide_after t m c f s.0 h.0.small)))
  searched_plainly m acts (Leaf back ∷ is) (Waits b ∷ below) c row left s h at wide =
      subst (λ (rs : List Region). SearchedAs t fs program p m acts c (Leaf back ∷ is)
      (Waits b ∷ below) (plain_search t c row (Leaf back ∷ is))
      (handlers_in rs b.activation (length below) ++ handlers program below None)) (sym at)
      (past_leaf m c back is b below acts s.0 h.0 row
      (searched_plainly m (activations_below b.body acts) is below (after_leaf c back) 0 None s.1
      h.2 (at_first_row t fs program p below) (wide_after_leaf t m c back s.0 wide)))
  searched_plainly m acts (Searching r ∷ is) (Searches exception resumption asked ∷ below) c
      row left s h at wide =
      searched_outer t fs program p m acts acts c (context_of r.saved) (Searching r ∷ is) is
      (Searches exception resumption asked ∷ below) below
      (let q = rises t m c (Searching r) s.0 in omega arith)
      (λ k base distance register i. i) (λ to row found o. o) (λ depth label frame address a. a) _ _
      _ refl
      (searched_plainly m acts is below (context_of r.saved) 0 None s.1 h.1
      (at_first_row t fs program p below) (wide_saved r h.0.own.fits))
  searched_plainly m acts (Unwinding r ∷ is) (Unwinds rest target ∷ below) c row left s h at wide =
      searched_outer t fs program p m acts acts c r.walk (Unwinding r ∷ is) is
      (Unwinds rest target ∷ below) below (let q = rises t m c (Unwinding r) s.0 in omega arith)
      (λ k base distance register i. i) (λ to row found o. o) (λ depth label frame address a. a) _ _
      _ refl
      (searched_plainly m acts is below r.walk r.row (Some rest) s.1 h.1 h.0.row
      (wide_walk r h.0.own.fits))
  searched_plainly m acts is items c row left s h at wide = absurd h

  -- from where it was suspended
  pub continues : (m : Memory) (acts : List Activation) (is : List StackItem) (items : List Item)
      (c : Context) (to : Context) (row : ℕ) (found : List Handler) (n : ℕ)
      → IsStack t m c is → Linked t fs program p m c is items acts → IsWide c.kept
      → Onward t fs program p to row found c is items → length is < n
      → SearchedAs t fs program p m acts c is items (search n t m (state to row)) found
  continues m acts (Framed f ∷ is) (Waits b ∷ below) c to row found n s h wide (inl o) lt =
      subst (λ (x : Context). SearchedAs t fs program p m acts c (Framed f ∷ is) (Waits b ∷ below)
      (search n t m (state x row)) found) o.same
      (subst (λ (x : SearchResult). SearchedAs t fs program p m acts c (Framed f ∷ is)
      (Waits b ∷ below) x found) (sym (search_is_of_the_list t m c row (Framed f ∷ is) n s lt))
      (subst (λ (x : List Handler). SearchedAs t fs program p m acts c (Framed f ∷ is)
      (Waits b ∷ below) (plain_search t c row (Framed f ∷ is)) x) (sym o.finds_handlers)
      (from_row m c f is b below acts s.0 h.0 wide row
      (searched_plainly m (activations_below b.body acts) is below (after_frame c f) 0 None s.1 h.2
      (at_first_row t fs program p below) (wide_after t m c f s.0 h.0.small)))))
  continues m acts (Framed f ∷ is) (Waits b ∷ below) c to row found n s h wide (inr o) lt =
      searched_outer t fs program p m acts (activations_below b.body acts) c (after_frame c f)
      (Framed f ∷ is) is (Waits b ∷ below) below
      (let q = rises t m c (Framed f) s.0 in omega arith)
      (activation_below b.body acts) (λ to row found o. inr o)
      (λ depth label frame address a. inr a) _ _ found refl
      (continues m (activations_below b.body acts) is below (after_frame c f) to row found n s.1 h.2
      (wide_after t m c f s.0 h.0.small) o (omega arith))
  continues m acts (Leaf back ∷ is) (Waits b ∷ below) c to row found n s h wide (inl o) lt =
      subst (λ (x : Context). SearchedAs t fs program p m acts c (Leaf back ∷ is) (Waits b ∷ below)
      (search n t m (state x row)) found) o.same
      (subst (λ (x : SearchResult). SearchedAs t fs program p m acts c (Leaf back ∷ is)
      (Waits b ∷ below) x found) (sym (search_is_of_the_list t m c row (Leaf back ∷ is) n s lt))
      (subst (λ (x : List Handler). SearchedAs t fs program p m acts c (Leaf back ∷ is)
      (Waits b ∷ below) (plain_search t c row (Leaf back ∷ is)) x) (sym o.finds_handlers)
      (past_leaf m c back is b below acts s.0 h.0 row
      (searched_plainly m (activations_below b.body acts) is below (after_leaf c back) 0 None s.1
      h.2 (at_first_row t fs program p below) (wide_after_leaf t m c back s.0 wide)))))
  continues m acts (Leaf back ∷ is) (Waits b ∷ below) c to row found n s h wide (inr o) lt =
      searched_outer t fs program p m acts (activations_below b.body acts) c (after_leaf c back)
      (Leaf back ∷ is) is (Waits b ∷ below) below
      (let q = rises t m c (Leaf back) s.0 in omega arith)
      (activation_below b.body acts) (λ to row found o. inr o) (λ depth label frame address a. a) _
      _ found refl
      (continues m (activations_below b.body acts) is below (after_leaf c back) to row found n s.1
      h.2 (wide_after_leaf t m c back s.0 wide) o (omega arith))
  continues m acts (Searching r ∷ is) (Searches exception resumption asked ∷ below) c to row
      found n s h wide o lt =
      searched_outer t fs program p m acts acts c (context_of r.saved) (Searching r ∷ is) is
      (Searches exception resumption asked ∷ below) below
      (let q = rises t m c (Searching r) s.0 in omega arith)
      (λ k base distance register i. i) (λ to row found o. o) (λ depth label frame address a. a) _ _
      found refl
      (continues m acts is below (context_of r.saved) to row found n s.1 h.1
      (wide_saved r h.0.own.fits) o (omega arith))
  continues m acts (Unwinding r ∷ is) (Unwinds rest target ∷ below) c to row found n s h wide o lt =
      searched_outer t fs program p m acts acts c r.walk (Unwinding r ∷ is) is
      (Unwinds rest target ∷ below) below (let q = rises t m c (Unwinding r) s.0 in omega arith)
      (λ k base distance register i. i) (λ to row found o. o) (λ depth label frame address a. a) _ _
      found refl
      (continues m acts is below r.walk to row found n s.1 h.1 (wide_walk r h.0.own.fits) o
      (omega arith))
  continues m acts [] items c to row found n s h wide o lt = absurd o
  continues m acts (Framed f ∷ is) [] c to row found n s h wide o lt = absurd h
  continues m acts (Framed f ∷ is) (Searches exception resumption asked ∷ below) c to row found
      n s h wide o lt =
      absurd h
  continues m acts (Framed f ∷ is) (Unwinds rest target ∷ below) c to row found n s h wide o lt =
      absurd h
  continues m acts (Leaf back ∷ is) [] c to row found n s h wide o lt = absurd h
  continues m acts (Leaf back ∷ is) (Searches exception resumption asked ∷ below) c to row
      found n s h wide o lt =
      absurd h
  continues m acts (Leaf back ∷ is) (Unwinds rest target ∷ below) c to row found n s h wide o lt =
      absurd h
  continues m acts (Searching r ∷ is) [] c to row found n s h wide o lt = absurd h
  continues m acts (Searching r ∷ is) (Waits b ∷ below) c to row found n s h wide o lt = absurd h
  continues m acts (Searching r ∷ is) (Unwinds rest target ∷ below) c to row found n s h wide o lt =
      absurd h
  continues m acts (Unwinding r ∷ is) [] c to row found n s h wide o lt = absurd h
  continues m acts (Unwinding r ∷ is) (Waits b ∷ below) c to row found n s h wide o lt = absurd h
  continues m acts (Unwinding r ∷ is) (Searches exception resumption asked ∷ below) c to row
      found n s h wide o lt =
      absurd h

pub search_is_the_lists : SearchIsTheLists
search_is_the_lists t fs program p m c is items acts row left n s at lt =
    subst (λ (x : SearchResult). SearchedAs t fs program p m acts c is items x
    (handlers program items left)) (sym (search_is_of_the_list t m c row is n s.stack lt))
    (searched_plainly t fs program p s.gives m acts is items c row left s.stack s.linked at s.wide)

pub search_continues : SearchContinues
search_continues t fs program p m c is items acts to row found n s o lt = continues t fs program p
    s.gives m acts is items c to row found n s.stack s.linked s.wide o lt
