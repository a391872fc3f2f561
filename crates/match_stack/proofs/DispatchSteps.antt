-- Where a search or an unwinding begins, or continues.
use Rattle.std.proofs.Common.{◌≡◌, inl, ℕ, zero, suc, ◌+◌, ◌-◌, ◌%◌, ◌^◌, ◌<◌, ◌≤◌, Bool, Option, Some, None, List, ◌∷◌, length, refl, ap, subst, ◌∙◌, arith}
use Rattle.std.specs.Prelude.{not, ◌==◌, slice_index, replicate}
use Rattle.match_stack.specs.Words.{Code, Event, Memory, Cpu, Context, context_of, State, rsp, Functions, DispatchRecord, placed, misplaced, RecordFits, AllSmall, RECORD_SIZE, Funclet, with_event, if_placed, unwinds_on, Exception, LinearProgram, Frame, Item, Waits, handlers, StackItem, Framed, Leaf, ImagePlan, Activation, HasSpace, below_end, record_room, Onward, Linked, On, RecordHasRoom, IsWellFormed, place_below, place_of, parameters, count, new_record, if_finally, accepting, accepted, again, to_target, jumping, asks_on, raise_event, host_list, AsksHost, IsException, RaiseAsks, LocalUnwindUnwinds, AcceptanceUnwinds, AnswersContinue, FinallyReturnsUnwind}
use Rattle.seh_num.specs.declared.event.Event.TheVariants as events
use Rattle.seh_records.specs.declared.dispatch.Kind.{Kind}
use Rattle.seh_records.specs.declared.dispatch.Kind.TheVariants.{LocalUnwind, Vectored}
use Rattle.match_stack.proofs.ListKeeping.{misplaced_same}
use Rattle.match_stack.proofs.DispatchItems.{record_leaves_the_list}
use Rattle.match_stack.proofs.ContextWidths.{wide_of, well_formed_with}
use Rattle.match_stack.proofs.SearchHandlers.{at_first_row}

-- ---- records

-- a record is placed near the stack pointer
place_near : (sp : ℕ) → RECORD_SIZE + 15 ≤ sp → sp < 2 ^ 64 → sp ≤ place_below sp + record_room
place_near sp l h = let e : (sp + (2 ^ 64 - RECORD_SIZE)) % 2 ^ 64
    ≡ sp - RECORD_SIZE = omega arith in omega arith

-- and below it
pub place_low : (sp : ℕ) → RECORD_SIZE + 15 ≤ sp → sp < 2 ^ 64 → place_below sp + RECORD_SIZE ≤ sp
place_low sp l h = let e : (sp + (2 ^ 64 - RECORD_SIZE)) % 2 ^ 64
    ≡ sp - RECORD_SIZE = omega arith in omega arith

misplaced_placed : (m : Memory) (at : ℕ) (r : DispatchRecord)
    → misplaced (placed m at r) at ≡ misplaced m at
unfolding placed
misplaced_placed m at r = misplaced_same m (placed m at r).byte at

pub none_small : 0 < 2 ^ 64
none_small = omega arith

zeros_small : (n j : ℕ) → slice_index (replicate n 0) j < 2 ^ 64
zeros_small zero zero = none_small
zeros_small zero (suc j) = none_small
zeros_small (suc n) zero = none_small
zeros_small (suc n) (suc j) = zeros_small n j

parameters_count : (o : Option (Bool × ℕ)) → length (parameters o) ≡ 15
parameters_count None = refl
parameters_count (Some x) = refl

few_parameters : (o : Option (Bool × ℕ)) → count o < 2 ^ 32
few_parameters None = let e : 0 < 2 ^ 32 = omega arith in e
few_parameters (Some x) = let e : 2 < 2 ^ 32 = omega arith in e

flag_is : (flags : ℕ) (b : Bool) → flags < 2 → (flags == 1) ≡ b → (flags % 2 == 0) ≡ not b
flag_is zero b lt e = ap not e
flag_is (suc zero) b lt e = ap not e
flag_is (suc (suc n)) b lt e = absurd (omega arith)

fits_new : (handlers : List ℕ) (s : State) (kind : Kind) (code : Code) (flags : ℕ)
    (access : Option (Bool × ℕ)) (saved : Cpu) → IsWellFormed handlers (record s { cpu = saved })
    → code.0 < 2 ^ 32 → flags < 2
    → AllSmall (parameters access) → RecordFits (new_record kind code flags access saved)
fits_new handlers s kind code flags access saved well_formed a b c = record {
  frame = none_small;
  row = none_small;
  target_frame = none_small;
  target = none_small;
  code = a;
  flags = (let e : flags < 2 ^ 32 = omega arith in e);
  count = few_parameters access;
  rip = well_formed.rip_small;
  walk_rip = well_formed.rip_small;
  parameters = parameters_count access;
  registers = well_formed.count;
  kept = refl;
  parameters_small = c;
  registers_small = well_formed.small;
  kept_small = (wide_of saved well_formed.count well_formed.small).each;
}

fits_targeted : (r : DispatchRecord) (frame address : ℕ) → RecordFits r → frame < 2 ^ 64
    → address < 2 ^ 64 → RecordFits (record r { target_frame = frame; target = address })
fits_targeted r frame address f a b = record {
  frame = f.frame;
  row = f.row;
  target_frame = a;
  target = b;
  code = f.code;
  flags = f.flags;
  count = f.count;
  rip = f.rip;
  walk_rip = f.walk_rip;
  parameters = f.parameters;
  registers = f.registers;
  kept = f.kept;
  parameters_small = f.parameters_small;
  registers_small = f.registers_small;
  kept_small = f.kept_small;
}

fits_accepting : (r : DispatchRecord) (frame address : ℕ) → RecordFits r → frame < 2 ^ 64
    → address < 2 ^ 64 → RecordFits (accepting r frame address)
fits_accepting r frame address f a b = record {
  frame = none_small;
  row = none_small;
  target_frame = a;
  target = b;
  code = f.code;
  flags = f.flags;
  count = f.count;
  rip = f.rip;
  walk_rip = f.rip;
  parameters = f.parameters;
  registers = f.registers;
  kept = refl;
  parameters_small = f.parameters_small;
  registers_small = f.registers_small;
  kept_small = (wide_of r.saved f.registers f.registers_small).each;
}

pub fits_again : (r : DispatchRecord) → RecordFits r → RecordFits (again r)
fits_again r f = record {
  frame = none_small;
  row = none_small;
  target_frame = none_small;
  target = none_small;
  code = (let e : 0xC0000025 < 2 ^ 32 = omega arith in e);
  flags = (let e : 1 < 2 ^ 32 = omega arith in e);
  count = (let e : 0 < 2 ^ 32 = omega arith in e);
  rip = f.rip;
  walk_rip = f.rip;
  parameters = refl;
  registers = f.registers;
  kept = refl;
  parameters_small = λ j l. zeros_small 15 j;
  registers_small = f.registers_small;
  kept_small = (wide_of r.saved f.registers f.registers_small).each;
}

pub placed_room : (m : Memory) (at : ℕ) (r : DispatchRecord) (above : ℕ) → RecordHasRoom m at r
    above
    → RecordHasRoom (placed m at r) at r above
placed_room m at r above room = record {
  fits = room.fits;
  below = room.below;
  small = room.small;
  room = misplaced_placed m at r ∙ room.room;
}

with_record_below : (sp at depth : ℕ) → HasSpace sp below_end depth → sp ≤ at + record_room
    → HasSpace at (below_end + record_room) depth
with_record_below sp at depth h near = record {
  space = (let s = h.space in omega arith);
  shallow = h.shallow;
}

module _ (t : Functions) (fs : List Funclet) (program : LinearProgram) (p : ImagePlan) where
  -- from the innermost frame on
  pub onward_here : (m : Memory) (c : Context) (is : List StackItem) (b : Frame) (below : List Item)
      (acts : List Activation) → Linked t fs program p m c is (Waits b ∷ below) acts
      → Onward t fs program p c 0 (handlers program (Waits b ∷ below) None) c is (Waits b ∷ below)
  onward_here m c (Framed f ∷ is) b below acts h = inl
      (record { same = refl; finds_handlers = refl })
  onward_here m c (Leaf back ∷ is) b below acts h = inl
      (record { same = refl; finds_handlers = refl })
  onward_here m c is b below acts h = absurd h

  -- the space of the innermost body, with a record below it
  space_here : (m : Memory) (c : Context) (is : List StackItem) (b : Frame) (below : List Item)
      (acts : List Activation) (at : ℕ) → Linked t fs program p m c is (Waits b ∷ below) acts
      → rsp c ≤ at + record_room → HasSpace at (below_end + record_room) (length acts + b.held)
  space_here m c (Framed f ∷ is) b below acts at h near = with_record_below (rsp c) at
      (length acts + b.held) h.0.waits.space near
  space_here m c (Leaf back ∷ is) b below acts at h near = with_record_below (rsp c) at
      (length acts + b.held) h.0.waits.space near
  space_here m c is b below acts at h near = absurd h

  near_of : (s : State) (saved : Cpu) (is : List StackItem) (items : List Item)
      (acts : List Activation) (handlers : List ℕ)
      → AsksHost t fs program p s saved is items acts handlers → rsp (context_of saved) ≤ place_of
      saved + record_room
  near_of s saved is items acts handlers a = let n = a.well_formed_saved.count in
      place_near (rsp (context_of saved)) a.low (a.well_formed_saved.small 4 (omega arith))

  room_of : (s : State) (saved : Cpu) (is : List StackItem) (items : List Item)
      (acts : List Activation) (handlers : List ℕ) (r : DispatchRecord)
      → AsksHost t fs program p s saved is items acts handlers → RecordFits r → RecordHasRoom
      s.memory (place_of saved) r (rsp (context_of saved))
  room_of s saved is items acts handlers r a fits =
      let n = a.well_formed_saved.count in
      let small : rsp (context_of saved) < 2 ^ 64 = a.well_formed_saved.small 4 (omega arith) in
      record {
        fits = fits;
        below = place_low (rsp (context_of saved)) a.low small;
        small = small;
        room = a.room;
      }

event_is : (code : Code) (flags : ℕ) (access : Option (Bool × ℕ)) (exception : Exception)
    → IsException code flags access exception
    → (let e : Event = events.Raise code (flags == 1) access in e) ≡ raise_event exception
event_is code flags access exception e =
    ap (λ v. events.Raise (let c : Code = record { 0 = v } in c) (flags == 1) access) e.same_code
    ∙ ap (λ b. events.Raise (let c : Code = record { 0 = exception.code } in c) b access)
    e.same_flag
    ∙ ap (λ (o : Option (Bool × ℕ)). events.Raise
    (let c : Code = record { 0 = exception.code } in c) exception.flag o) e.same_access

pub raise_asks : RaiseAsks
raise_asks t fs program p s code flags access saved is acts exception c small a e =
    let r : DispatchRecord = new_record Vectored code flags access saved in
    let handlers = host_list p c.store in
    let fits : RecordFits r = fits_new handlers s Vectored code flags access saved
    a.well_formed_saved e.code_small e.one_flag e.access_small in
    record {
      turns = ap (λ (v : Event). with_event v (asks_on t s (place_of saved) r))
          (event_is code flags access exception e);
      asking = record {
        gives = a.gives;
        well_formed = a.well_formed;
        handlers = small;
        on = a.on;
        kind = refl;
        room = room_of t fs program p s saved is (Waits c.frame ∷ c.below) acts handlers r a fits;
        carries = record {
          code = e.same_code;
          flag = flag_is flags exception.flag e.one_flag e.same_flag;
          one_flag = e.one_flag;
          count = ap count e.same_access;
          parameters = ap parameters e.same_access;
        };
        row = refl;
        walk = refl;
        near = near_of t fs program p s saved is (Waits c.frame ∷ c.below) acts handlers a;
      };
    }

pub local_unwind_unwinds : LocalUnwindUnwinds
local_unwind_unwinds t fs program p s frame address saved is acts depth label f below source shown a
    frame_small address_small aimed =
    let at = place_of saved in
    let r : DispatchRecord = to_target saved frame address in
    let fits : RecordFits r = fits_targeted (new_record LocalUnwind (record { 0 = 0 }) 0 None saved)
    frame address (fits_new (host_list p source) s LocalUnwind (record { 0 = 0 }) 0 None saved
    a.well_formed_saved
    (let e : 0 < 2 ^ 32 = omega arith in e) (let e : 0 < 2 = omega arith in e)
    (λ j l. zeros_small 15 j)) frame_small address_small in
    let room : RecordHasRoom s.memory at r (rsp (context_of saved)) = room_of t fs program p s saved
    is (Waits f ∷ below) acts (host_list p source) r a fits in
    record {
      turns = ap (λ (o : Option ℕ). if_placed s at r (λ u. unwinds_on t u at r) o) a.room;
      unwinding = record {
        gives = a.gives;
        well_formed = well_formed_with (host_list p source) s (placed s.memory at r) a.well_formed;
        on = record_leaves_the_list t fs program p s.memory at r (context_of saved) is
            (Waits f ∷ below) acts a.on room;
        kind = refl;
        purpose = refl;
        room = placed_room s.memory at r (rsp (context_of saved)) room;
        at_row = at_first_row t fs program p (Waits f ∷ below);
        aimed = aimed;
        space = space_here t fs program p s.memory (context_of saved) is f below acts at
            a.on.is_there.linked (near_of t fs program p s saved is (Waits f ∷ below) acts
            (host_list p source) a);
      };
    }

pub acceptance_unwinds : AcceptanceUnwinds
acceptance_unwinds t fs program p s at r frame address is acts exception found h c a
    frame_small address_small aimed =
    let new : DispatchRecord = accepting r frame address in
    let above = rsp (context_of r.saved) in
    let room : RecordHasRoom s.memory at new above =
    record {
      fits = fits_accepting r frame address a.room.fits frame_small address_small;
      below = a.room.below;
      small = a.room.small;
      room = a.room.room;
    } in
    record {
      turns = ap (λ (o : Option ℕ). if_placed s at new (λ u. unwinds_on t u at new) o) a.room.room;
      unwinding = record {
        gives = a.gives;
        well_formed = well_formed_with (host_list p c.store) s (placed s.memory at new)
            a.well_formed;
        on = record_leaves_the_list t fs program p s.memory at new (context_of r.saved) is
            (Waits c.frame ∷ c.below) acts a.on room;
        kind = refl;
        purpose = (refl, a.carries.code);
        room = placed_room s.memory at new above room;
        at_row = at_first_row t fs program p (Waits c.frame ∷ c.below);
        aimed = aimed;
        space = space_here t fs program p s.memory (context_of r.saved) is c.frame c.below acts at
            a.on.is_there.linked a.near;
      };
    }

pub answers_continue : AnswersContinue
answers_continue t fs program p s r is acts exception resumption asked rest c h =
    let at = rsp (context_of s.cpu) in
    let above = rsp (context_of r.saved) in
    let is_there = h.on.is_there.stack.0 in
    let waits = h.on.is_there.linked.0 in
    let outer : On t fs program p s.memory (context_of r.saved) is (Waits c.frame ∷ c.below)
    acts = record {
      is_there = record {
        stack = h.on.is_there.stack.1;
        linked = h.on.is_there.linked.1;
      };
      data_alone = h.on.data_alone;
    } in
    let room : RecordHasRoom s.memory at r above =
    record {
      fits = waits.own.fits;
      below = is_there.above;
      small = is_there.small;
      room = waits.own.room;
    } in
    record {
      next = record {
        gives = h.gives;
        well_formed = h.well_formed;
        on = outer;
        kind = waits.asks.kind;
        room = room;
        carries = waits.carries;
        onward = waits.asks.onward;
        near = waits.near;
      };
      address = waits.asks.address;
      takes_over =
          ap (jumping t s at r) waits.asks.before.before
          ∙ ap (if_finally t s at r waits.asks.before.row.jump_target) waits.asks.before.jumps
          ∙ ap (accepted t s at r r.frame) waits.asks.before.target;
      frame_small = waits.own.fits.frame;
      address_small = subst (λ a. a < 2 ^ 64) waits.asks.before.target
          (let a : (t.base + waits.asks.before.row.jump_target) % 2 ^ 64 < 2 ^ 64 = omega arith
          in a);
      aimed = waits.asks.aimed;
      raises = refl;
      asks_anew = record {
        gives = h.gives;
        well_formed = h.well_formed;
        handlers = h.handlers;
        on = outer;
        kind = refl;
        room = record {
          fits = fits_again r waits.own.fits;
          below = is_there.above;
          small = is_there.small;
          room = waits.own.room;
        };
        carries = record {
          code = refl;
          flag = refl;
          one_flag = omega arith;
          count = refl;
          parameters = refl;
        };
        row = refl;
        walk = refl;
        near = waits.near;
      };
    }

pub finally_returns_unwind : FinallyReturnsUnwind
finally_returns_unwind t fs program p s r is acts rest target items source shown gives well_formed
    on =
    let is_there = on.is_there.stack.0 in
    let waits = on.is_there.linked.0 in
    record {
      gives = gives;
      well_formed = well_formed;
      on = record {
        is_there = record {
          stack = on.is_there.stack.1;
          linked = on.is_there.linked.1;
        };
        data_alone = on.data_alone;
      };
      kind = is_there.kind;
      purpose = waits.purpose;
      room = record {
        fits = waits.own.fits;
        below = is_there.above;
        small = is_there.small;
        room = waits.own.room;
      };
      at_row = waits.row;
      aimed = waits.aimed;
      space = waits.space;
    }
