-- The state in which a funclet begins.
use Rattle.std.proofs.Common.{◌≡◌, ℕ, ◌+◌, ◌*◌, ◌^◌, ◌<◌, ◌≤◌, Bool, true, false, List, [], ◌∷◌, length, refl, sym, ap, subst, ◌∙◌, arith}
use Rattle.std.specs.Prelude.{nat_eq, slice_index, slice_set}
use Rattle.std.proofs.Math.ListN.{length-set}
use Rattle.std.proofs.lemmas.List.{get_or-set_same, get_or-set_other}
use Rattle.std.proofs.lemmas.Bool.{eqb-true, eqb-false}
use Rattle.match_stack.specs.Words.{Memory, Rcx, Rsp, Context, context_of, State, register, rsp, word, Functions, DispatchRecord, placed, return_address_at, RecordFits, AllSmall, Funclet, entered, in_hand, LinearProgram, BodyName, Item, StackItem, Framed, Leaf, Searching, Unwinding, IsStack, after_frame, after_leaf, context_below, ImagePlan, Activation, Reaches, IsData, On, RecordHasRoom, pushed, IsWellFormed, Rdx, IsFunclet, CanBeKept}
use Rattle.match_stack.proofs.ContextWidths.{well_formed_with}
use Rattle.match_stack.proofs.ItemVisits.{set_head}
use Rattle.match_stack.proofs.ListKeeping.{reaches_above}
use Rattle.match_stack.proofs.RecordMemory.{IsPlace, place_of, bytes, pushed_is, keeps_above, word_pushed}
use Rattle.match_stack.specs.DispatchStates.{Arrives}

-- ---- registers

pub set_small : (xs : List ℕ) (i v : ℕ) → AllSmall xs → v < 2 ^ 64 → AllSmall (slice_set xs i v)
set_small xs i v h lt j l = by (nat_eq j i) refl
  where
    n : length (slice_set xs i v) ≡ length xs
    n = length-set xs i v

    by : (b : Bool) → nat_eq j i ≡ b → slice_index (slice_set xs i v) j < 2 ^ 64
    by true e =
        let s : j ≡ i = eqb-true j i e in
        let m = n in
        subst (λ x. x < 2 ^ 64) (sym (ap (slice_index (slice_set xs i v)) s
        ∙ get_or-set_same xs i v 0 (omega arith))) lt
    by false e =
        let m = n in
        subst (λ x. x < 2 ^ 64) (sym (get_or-set_other xs i j v 0 (eqb-false j i e)))
        (h j (omega arith))

module _ (handlers : List ℕ) (s : State) (at back handler first frame : ℕ)
    (well_formed : IsWellFormed handlers s)
    (handler_small : handler < 2 ^ 64) (first_small : first < 2 ^ 64) (frame_small : frame < 2 ^ 64)
  where
    abbrev after : State
    after = entered s at back handler first frame

    abbrev one : List ℕ
    one = slice_set s.cpu.registers 1 first

    abbrev two : List ℕ
    two = slice_set one 2 frame

    length_one : length one ≡ 16
    length_one = length-set s.cpu.registers 1 first ∙ well_formed.count

    length_two : length two ≡ 16
    length_two = length-set one 2 frame ∙ length_one

    pub entered_well_formed : IsWellFormed handlers after
    entered_well_formed = record {
      rip_small = handler_small;
      count = length-set two 4 (return_address_at at) ∙ length_two;
      small = set_small two 4 (return_address_at at)
          (set_small one 2 frame (set_small s.cpu.registers 1 first well_formed.small first_small)
          frame_small)
          (omega arith);
      listed = well_formed.listed;
    }

    pub entered_stack : register after.cpu Rsp ≡ return_address_at at
    entered_stack = get_or-set_same two 4 (return_address_at at) 0
        (let n = length_two in omega arith)

    pub entered_frame : register after.cpu Rdx ≡ frame
    entered_frame = get_or-set_other two 4 2 (return_address_at at) 0 (λ e. absurd (omega arith))
        ∙ get_or-set_same one 2 frame 0 (let n = length_one in omega arith)

    pub entered_first : register after.cpu Rcx ≡ first
    entered_first = get_or-set_other two 4 1 (return_address_at at) 0 (λ e. absurd (omega arith))
        ∙ get_or-set_other one 2 1 frame 0 (λ e. absurd (omega arith))
        ∙ get_or-set_same s.cpu.registers 1 first 0 (let n = well_formed.count in omega arith)

-- ---- a record with a frame in hand

pub fits_in_hand : (r : DispatchRecord) (frame row : ℕ) (walk : Context) → RecordFits r
    → CanBeKept frame row walk → RecordFits (in_hand r frame row walk)
fits_in_hand r frame row walk f k =
    record {
      frame = k.frame_small;
      row = k.row_small;
      target_frame = f.target_frame;
      target = f.target;
      code = f.code;
      flags = f.flags;
      count = f.count;
      rip = f.rip;
      walk_rip = k.rip_small;
      parameters = f.parameters;
      registers = f.registers;
      kept = k.registers.count;
      parameters_small = f.parameters_small;
      registers_small = f.registers_small;
      kept_small = k.registers.each;
    }

-- a list is shorter than the address space
pub few_items : (t : Functions) (m : Memory) (c : Context) (is : List StackItem) → IsStack t m c is
    → rsp c < 2 ^ 64 → rsp c + 8 * length is < 2 ^ 64
few_items t m c [] s lt = omega arith
few_items t m c (Framed f ∷ is) s lt =
    let room = s.0.room in
    let e = few_items t m (after_frame c f) is s.1 (omega arith) in
    omega arith
few_items t m c (Leaf back ∷ is) s lt =
    let k = s.0.kept in
    let up : rsp (after_leaf c back) ≡ rsp c + 8 = set_head c.kept (rsp c + 8) (omega arith) in
    let room = s.0.room in
    let e = few_items t m (after_leaf c back) is s.1 (omega arith) in
    omega arith
few_items t m c (Searching r ∷ is) s lt = let a = s.0.above in let b = s.0.small in
    let e = few_items t m (context_of r.saved) is s.1 b in omega arith
few_items t m c (Unwinding r ∷ is) s lt = let a = s.0.above in let b = s.0.small in
    let e = few_items t m r.walk is s.1 b in omega arith

module _ (t : Functions) (fs : List Funclet) (program : LinearProgram) (p : ImagePlan) where
  abbrev pub with_record : State → ℕ → DispatchRecord → State
  with_record s at r = record s { memory = placed s.memory at r }

  -- a funclet begins, with its record and its return address pushed
  unfoldable pub arrives : (s : State) (at : ℕ) (r : DispatchRecord)
      (back first frame above k activation : ℕ) (name : BodyName) (is : List StackItem)
      (items : List Item) (acts : List Activation) (handlers : List ℕ)
      → IsWellFormed handlers s → IsData s.memory → RecordHasRoom s.memory at r above → above
      ≤ frame
      → frame < 2 ^ 64 → back < 2 ^ 64 → first < 2 ^ 64 → IsFunclet t fs program p name k
      → Reaches t fs program p s.memory name frame activation acts
      → ((others : List ℕ) → On t fs program p (pushed s.memory at r back)
      (context_below back at others) is items acts)
      → Arrives t fs program p (entered (with_record s at r) at back (p.funclet k) first frame) k
      activation first items acts handlers
  arrives s at r back first frame above k activation name is items acts handlers well_formed d room
      le
      frame_small
      back_small first_small funclet reach on =
      let old : State = with_record s at r in
      let well_formed_old : IsWellFormed handlers old = well_formed_with handlers s
      (placed s.memory at r)
      well_formed in
      let new : State = entered old at back (p.funclet k) first frame in
      let stack_is = entered_stack handlers old at back (p.funclet k) first frame well_formed_old
      funclet.small
      first_small frame_small in
      let frame_is = entered_frame handlers old at back (p.funclet k) first frame well_formed_old
      funclet.small
      first_small frame_small in
      let memory_is = pushed_is s.memory at r back above d room back_small in
      let b = room.below in
      let t0 = room.small in
      let place : IsPlace at = place_of s.memory at (omega arith) room.room in
      let l : 0x70000008 ≤ at = place.low in
      record {
        rip = refl;
        name = name;
        funclet = funclet;
        argument = entered_first handlers old at back (p.funclet k) first frame well_formed_old
            funclet.small
            first_small frame_small;
        reaches =
            subst (λ x. Reaches t fs program p new.memory name x activation acts) (sym frame_is)
            (subst (λ (m : Memory). Reaches t fs program p m name frame activation acts)
            (sym memory_is)
            (reaches_above t fs program p s.memory
            (bytes s.memory at r back above d room back_small) frame name frame activation acts
            (keeps_above s.memory at r back above d room back_small frame (omega arith))
            (omega arith) reach));
        at = at;
        stack = omega arith;
        at_small = omega arith;
        back = back;
        returns =
            ap (word new.memory) stack_is
            ∙ ap (λ (m : Memory). word m (return_address_at at)) memory_is
            ∙ word_pushed s.memory at r back above d room back_small;
        is = is;
        on = on;
        well_formed = entered_well_formed handlers old at back (p.funclet k) first frame
            well_formed_old
            funclet.small first_small
            frame_small;
      }
