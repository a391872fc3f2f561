-- A filter's frame leads to the record of its search, which carries its exception.
use Rattle.std.proofs.Common.{◌≡◌, ℕ, ◌+◌, ◌^◌, ◌<◌, ◌≤◌, List, ◌∷◌, Some, Ok, refl, sym, subst, ◌∙◌, arith}
use Rattle.match_turns.specs.Words.{STACK_START, STACK_END, bytes_of, Memory, number_at, Rsp, Context, context_of, State, register, rsp, Functions, DispatchRecord, RecordFits, Funclet, Field, ExceptionCode, Exception, field_of, LinearProgram, LinearFunclet, Frame, Handler, Resumption, Item, Waits, Searches, Unwinds, Configuration, field_at, field_width, IsField, MayRead, StackItem, Searching, IsStack, context_below, ImagePlan, Activation, activations_below, HasPointers, FuncletIsAbove, IsAbove, Linked, Sites, IsFilterBody, Asked, FilterOf}
use Rattle.virtual_unwind.specs.Undone.{word}
use Rattle.seh_records.specs.Record.{fetched}
use Rattle.linear_code.specs.declared.program.FuncletKind.TheVariants as funclets
use Rattle.x64_templates.specs.Exceptions.{HasException}
use Rattle.match_turns.proofs.Lemmas.{field_number, in_stack, word_is, may_read_written}
use Rattle.match_stack.specs.ItemMatches as linked
use Rattle.match_bodies.specs.Bodies.{RepresentsAt}
use Rattle.match_turns.proofs.RecordFields.{recorded_field, field_is_at, field_is, field_fits, field_small}

-- below a filter its search is the first
pub record IsAsked (exception : Exception) (items : List Item) : Type 0 where
  pub searched : Exception
  pub resumption : Resumption
  pub asked : Handler
  pub rest : List Handler
  pub below : List Item
  pub items_are : items ≡ Searches searched resumption (FilterOf asked rest) ∷ below
  pub same : exception ≡ searched

module _ (t : Functions) (fs : List Funclet) (program : LinearProgram) (p : ImagePlan) where
  no_block : (kind flag : ℕ) → funclets.Filter ≡ funclets.Finally flag → ⊥
  no_block kind flag e = cc

  filter_is_asked : (k : ℕ) (b : Frame) (f : LinearFunclet) (items : List Item)
      → f.kind ≡ funclets.Filter → FuncletIsAbove t fs program p k b (Some f) items
      → IsAsked b.exception items
  filter_is_asked k b f (Searches exception resumption (FilterOf asked rest) ∷ Waits w ∷ below) e h
      =
      let alike = h.1 in record {
        searched = exception;
        resumption = resumption;
        asked = asked;
        rest = rest;
        below = Waits w ∷ below;
        items_are = refl;
        same = alike.1;
      }
  filter_is_asked k b f (Unwinds rest target ∷ Waits w ∷ below) e h = absurd
      (no_block k h.0 (sym e ∙ h.1))
  filter_is_asked k b f (Waits w ∷ below) e h = absurd (no_block k h.0 (sym e ∙ h.1))
  filter_is_asked k b f items e h = absurd h

  asked_by : (b : Frame) (items : List Item) → IsFilterBody program b.body
      → IsAbove t fs program p b b.body items → IsAsked b.exception items
  asked_by b items f h =
      filter_is_asked f.number b f.funclet items f.kind
      (subst (λ o. FuncletIsAbove t fs program p f.number b o items) f.there
      (subst (λ name. IsAbove t fs program p b name items) f.is h))

  -- the record of a search on top of a list
  pub record HasRecord (m : Memory) (c : Context) (exception : Exception) : Type 0 where
    pub found : DispatchRecord
    pub fetches : fetched m (rsp c) ≡ Some found
    pub pointers : word m (rsp c + 80) ≡ Ok (rsp c + 96)
    pub carries : linked.HasException t fs program p found exception
    pub fits : RecordFits found
    pub high : rsp c + 1568 ≤ STACK_END

  record_on_top : (m : Memory) (c : Context) (is : List StackItem) (acts : List Activation)
      (exception : Exception) (resumption : Resumption) (asked : Asked) (below : List Item)
      → IsStack t m c is → Linked t fs program p m c is
      (Searches exception resumption asked ∷ below) acts → HasRecord m c exception
  record_on_top m c (Searching r ∷ is) acts exception resumption asked below s l =
      let top = in_stack t fs program p m (context_of r.saved) is below acts s.1 l.1 in
      let a = s.0.above in
      record {
        found = r;
        fetches = s.0.fetches;
        pointers = s.0.pointers;
        carries = l.0.carries;
        fits = l.0.own.fits;
        high = omega arith;
      }
  record_on_top m c is acts exception resumption asked below s l = absurd l

  module _ (q : Sites) (s : State) (c : Configuration) (b : RepresentsAt t fs program p q s c) where
    abbrev sp : ℕ
    sp = register s.cpu Rsp

    abbrev size : ℕ
    size = (p.layout c.frame.body).frame

    abbrev above : Context
    above = context_below b.body.back (sp + size + 8) b.body.others

    abbrev asked_here : IsFilterBody program c.frame.body → IsAsked c.frame.exception c.below
    asked_here f = asked_by c.frame c.below f b.body.above

    record_here : (f : IsFilterBody program c.frame.body)
        → HasRecord s.memory above c.frame.exception
    record_here f =
        let a = asked_here f in
        let on = b.body.below in
        subst (HasRecord s.memory above) (sym a.same)
        (record_on_top s.memory above b.body.is (activations_below c.frame.body b.body.acts)
        a.searched a.resumption (FilterOf a.asked a.rest) a.below on.is_there.stack
        (subst (λ items. Linked t fs program p s.memory above b.body.is items
        (activations_below c.frame.body b.body.acts)) a.items_are on.is_there.linked))

    pub pointers_here : (f : IsFilterBody program c.frame.body)
        → linked.KeepsPointers t fs program p s.memory (p.layout c.frame.body) sp size
    pointers_here f = let a = asked_here f in
        subst (HasPointers t fs program p s.memory (p.layout c.frame.body) sp size) a.items_are
        b.body.pointers

    -- bytes of the stack may be read
    reads : (at n x : ℕ) → STACK_START ≤ at → at + n ≤ STACK_END → number_at s.memory.byte n at ≡ x
        → MayRead s.memory n at x
    reads at n x low high e = record {
      high = omega arith;
      readable = λ a from to. may_read_written s.memory a
          (b.memory.stack a (omega arith) (omega arith));
      number = e;
    }

    width_most : (field : Field) → IsField field
        → field_at field + bytes_of (field_width field) ≤ 152
    width_most ExceptionCode is = omega arith
    width_most field is = omega arith

    -- what a filter reads is its exception's
    pub record ReadsException (field : Field) : Type 0 where
      pub has : HasException s.memory (sp + (p.layout c.frame.body).pointers) field
          (field_of field c.frame.exception)
      pub fits : field_number field (field_of field c.frame.exception)
          ≡ field_of field c.frame.exception
      pub small : field_of field c.frame.exception < 2 ^ 64

    pub reads_exception : (field : Field) → IsFilterBody program c.frame.body → IsField field
        → ReadsException field
    reads_exception field f is =
        let r = record_here f in
        let k = pointers_here f in
        let at = sp + size + 8 in
        let top = r.high in
        let room = k.room in
        let space = b.body.slots.space.space in
        let shallow = b.body.slots.space.shallow in
        let most = width_most field is in
        let same : recorded_field field r.found
        ≡ field_of field c.frame.exception = field_is t fs program p r.found c.frame.exception
        field r.carries in
        let to : at + 80 ≡ sp + size + 88 = omega arith in
        record {
          has = record {
            pointers = at + 80;
            exception = at + 96;
            keeps = reads (sp + (p.layout c.frame.body).pointers) 8 (at + 80) (omega arith)
                (omega arith) (word_is s.memory (sp + (p.layout c.frame.body).pointers)
                (sp + size + 88) k.kept ∙ sym to);
            leads = reads (at + 80) 8 (at + 96) (omega arith) (omega arith)
                (word_is s.memory (at + 80) (at + 96) r.pointers);
            holds = reads (at + 96 + field_at field) (bytes_of (field_width field))
                (field_of field c.frame.exception) (omega arith) (omega arith)
                (field_is_at s.memory at r.found field (omega arith) is r.fetches ∙ same);
          };
          fits = subst (λ x. field_number field x ≡ x) same
              (field_fits r.found field is r.fits r.carries.one_flag);
          small = subst (λ x. x < 2 ^ 64) same (field_small r.found field is r.fits);
        }
