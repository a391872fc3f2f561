-- Where a function was called its caller waits on the list, in the memory that the callee has by
-- then.
use Rattle.std.proofs.Common.{◌≡◌, ℕ, zero, suc, ◌+◌, ◌-◌, ◌*◌, ◌^◌, ◌<◌, ◌≤◌, true, false, Option, Some, List, [], ◌∷◌, ◌++◌, refl, sym, subst, ◌∙◌, arith}
use Rattle.std.specs.Prelude.{slice_get, take}
use Rattle.std.proofs.lemmas.List.{append_assoc}
use Rattle.match_turns.specs.Words.{IMAGE_BASE, IMAGE_RANGE_END, Memory, Rsp, Instr, context_of, State, register, Temporary, LinearBody, LinearFunclet, BodyName, FunctionBody, FuncletBody, body_of, Item, Waits, Searches, Unwinds, waiting, regions_of, Layout, sizes, put_back, keep, temporary_at, call, return_at, begin_call, passing_code, template_size, StackItem, context_below, InCode, HoldsWords, IsAbove, FuncletIsAbove, IsData, On, KeepsStackBut, Setting, InBody, IsResumed, IsLinkedStack, arguments_code, frame_of, slots_end, now_of, FilterOf}
use Rattle.linear_code.specs.declared.instruction.Instruction.TheVariants as instructions
use Rattle.match_turns.proofs.Lemmas.{sizes_append, call_size, template_some, others_of, frame_with, body_on_top, sp_low, label_near, end_near, code_end}
use Rattle.match_turns.proofs.Calls.CallReturn.{returns_at, call_template}
use Rattle.match_turns.proofs.Functions.FunctionFrame.{same_itself}
use Rattle.match_bodies.proofs.Places.ArgumentSpace.{outgoing_is_free}
use Rattle.match_bodies.proofs.Places.LeafRegisters.{activation_at, framed_hold}
use Rattle.match_turns.proofs.Calls.AtCall.{AtCall}

kept_some : (y : Layout) (first : ℕ) → 1 ≤ sizes (keep y (Temporary first))
unfolding template_size
kept_some y first = template_some y (instructions.Landing (Temporary first))

-- the first of some words
front : (m : Memory) (at end : ℕ) (vs : List ℕ) (n : ℕ) → HoldsWords m at end vs
    → HoldsWords m at end (take n vs)
front m at end [] n h = empty n
  where
    empty : (n : ℕ) → HoldsWords m at end (take n [])
    empty zero = h
    empty (suc n) = h
front m at end (v ∷ vs) zero h = fits (v ∷ vs) at h
  where
    fits : (ws : List ℕ) (a : ℕ) → HoldsWords m a end ws → a ≤ end
    fits [] a h = h
    fits (w ∷ ws) a h = let r = fits ws (a + 8) h.1 in omega arith
front m at end (v ∷ vs) (suc n) h = (h.0, front m (at + 8) end vs n h.1)

module _ {setting : Setting} (at_call : AtCall setting) where
  open setting use {functions as t, funclets as fs, program, plan as p, sites as q, image}
  open at_call use {
    roomy,
    state as s,
    configuration as c,
    represents as b,
    counted,
    number as f,
    first,
    count,
    at,
    few,
    framed,
  }

  abbrev y : Layout
  y = p.layout c.frame.body

  abbrev sp : ℕ
  sp = register s.cpu Rsp

  abbrev place : ℕ
  place = p.address c.frame.body c.frame.next

  abbrev pub back : ℕ
  back = returns_at y first count place

  -- the caller's state once the callee has returned, but for its memory
  abbrev pub later : State
  later = record s {
    cpu = record { registers = s.cpu.registers; rip = back; flags = s.cpu.flags };
  }

  abbrev called_at : ℕ
  called_at = q.function f

  abbrev passing : List Instr
  passing = passing_code y first 4 (count - 4)

  abbrev beginning : List Instr
  beginning = begin_call y first (place + sizes passing) called_at

  back_is : back ≡ place + sizes (passing ++ beginning)
  back_is =
      let five = call_size (return_at y first (place + sizes passing)) called_at in
      omega (
        arith,
        sizes_append passing beginning,
        sizes_append (arguments_code y first)
            (call (return_at y first (place + sizes passing)) called_at ∷ []),
      )

  resumed : IsResumed setting c.frame.body b.body.slots.code c.frame.next back
  resumed = record {
    instruction = instructions.Call f first count;
    there = at;
    continues = λ r. absurd r;
    done = passing ++ beginning;
    item = put_back Rsp (temporary_at y first);
    left = [];
    parts = sym (append_assoc passing beginning (put_back Rsp (temporary_at y first) ∷ []));
    here = back_is;
  }

  -- it is in the call's own code
  back_inside : (place ≤ back) × (back < place + template_size y (instructions.Call f first count))
  back_inside =
      let z = call_template y f first count in
      let k = kept_some y first in
      (omega arith, omega (arith, z, b.rip, k))

  in_code : InCode p c.frame.body c.frame.next back
  in_code =
      let e = code_end setting roomy s c b counted (instructions.Call f first count) at in
      let h = back_inside.1 in
      record { low = back_inside.0; high = omega (arith, b.rip) }

  pub back_near : (IMAGE_BASE < back) × (back < IMAGE_RANGE_END)
  back_near =
      let code = b.body.slots.code in
      let n = (label_near setting c.frame.body code b.body.slots.body c.frame.next).0 in
      let e = end_near setting c.frame.body code b.body.slots.body c.frame.next
      (instructions.Call f first count) at in
      let r = back_inside.1 in
      let l = back_inside.0 in
      let at_rip = b.rip in
      (omega arith, omega arith)

  back_small : back < 2 ^ 64
  back_small = let n = back_near.1 in omega arith

  above_waiting : (name : BodyName) (below : List Item) → IsAbove t fs program p c.frame name below
      → IsAbove t fs program p (waiting c first).frame name below
  above_waiting (FunctionBody n) below h = h
  above_waiting (FuncletBody k) below h = by_funclet (slice_get program.funclets k) below h
    where
      by_funclet : (o : Option LinearFunclet) (items : List Item)
          → FuncletIsAbove t fs program p k c.frame o items
          → FuncletIsAbove t fs program p k (waiting c first).frame o items
      by_funclet (Some g) (Searches exception resumption (FilterOf asked rest) ∷ Waits w ∷ below)
          h = h
      by_funclet (Some g) (Unwinds rest target ∷ Waits w ∷ below) h = h
      by_funclet (Some g) (Waits w ∷ below) h = h
      by_funclet o items h = absurd h

  abbrev in_body : InBody setting later (waiting c first)
  in_body = record {
    acts = b.body.acts;
    store = b.body.store;
    slots = record {
      code = b.body.slots.code;
      body = b.body.slots.body;
      label = c.frame.next;
      instruction = in_code;
      same = same_itself (regions_of (body_of program c.frame.body)) c.frame.next;
      small = back_small;
      activation = activation_at s.memory (p.register c.frame.body) y s.cpu later.cpu
          (p.leaf c.frame.body) (slots_end y (p.leaf c.frame.body)) c.frame.activation b.body.acts
          c.frame.body refl
          (framed_hold (now_of true later.cpu) (p.register c.frame.body) (p.leaf c.frame.body)
          b.body.acts c.frame.body framed) b.body.slots.activation;
      temporaries = front s.memory _ _ c.frame.temporaries first b.body.slots.temporaries;
      space = b.body.slots.space;
    };
    pointers = b.body.pointers;
    above = above_waiting c.frame.body c.below b.body.above;
    home = b.body.home;
    back = b.body.back;
    returns_to = b.body.returns_to;
    others = b.body.others;
    eight = b.body.eight;
    small = b.body.small;
    frame = frame_with s later.cpu (p.leaf c.frame.body)
        (frame_of p c.frame.body b.body.back b.body.others) refl b.body.frame;
    is = b.body.is;
    below = b.body.below;
  }

  -- the caller on top of what waits below it
  pub awaits : (m : Memory) (room : ℕ) → room ≤ 32 + 8 * b.body.slots.code.passed
      → p.leaf c.frame.body ≡ false → KeepsStackBut s.memory m sp sp (sp + room) → IsData m
      → (is : List StackItem) × On t fs program p m
      (context_below back sp (others_of s.cpu.registers)) is
      (Waits (waiting c first).frame ∷ c.below) b.body.acts
  awaits m room few framed keeps data_alone =
      let top = body_on_top t fs program p q image later (waiting c first) c.frame.next in_body
      resumed b.memory.code in
      let low = sp_low setting s c b counted in
      let is_there : IsLinkedStack t fs program p m (context_of later.cpu) top.is
      (Waits (waiting c first).frame ∷ c.below) b.body.acts =
      outgoing_is_free s.memory m t fs program p image.laid_out room (context_of later.cpu) keeps
      (omega arith) top.is (waiting c first).frame c.below b.body.acts
      (λ o e. subst (λ (x : LinearBody). room ≤ 32 + 8 * x.passed)
      (same_body b.body.slots.code o (sym b.body.slots.body ∙ e)) few) framed top.on.is_there in (
        top.is,
        record { is_there = is_there; data_alone = data_alone },
      )
    where
      same_body : (x o : LinearBody) → Some x ≡ Some o → x ≡ o
      same_body x o e = cc
