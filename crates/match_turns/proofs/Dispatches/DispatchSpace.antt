-- The room below a suspended search or unwinding.
use Rattle.std.proofs.Common.{◌≡◌, ℕ, ◌+◌, ◌*◌, ◌≤◌, true, false, List, ◌∷◌, length, sym, ◌∙◌, arith, inl, inr}
use Rattle.std.specs.Prelude.{nat_lt}
use Rattle.std.proofs.lemmas.Bool.{cases_lt, lt-ltb}
use Rattle.match_turns.specs.Words.{STACK_END, Memory, Context, rsp, Functions, Funclet, Exception, Region, LinearProgram, Frame, Target, Resumption, Item, Waits, Searches, Unwinds, StackItem, Framed, Leaf, Searching, Unwinding, ImagePlan, Activation, HasSpace, below_end, record_room, Linked, FRAME_BY_WEIGHT, Asked}

pub shallow_is : (n : ℕ) → nat_lt 1000 n ≡ false → n ≤ 1000
shallow_is n e = elim (cases_lt 1000 n) [
  | inl lt ↦ let x : true ≡ false = sym (lt-ltb 1000 n lt) ∙ e in absurd cc
  | inr le ↦ le
]

module _ (t : Functions) (fs : List Funclet) (program : LinearProgram) (p : ImagePlan) where
  -- below a record, by what waits where it was placed
  pub record HasRecordSpace (at depth : ℕ) : Type 0 where
    pub space : STACK_END ≤ at + (below_end + record_room) + FRAME_BY_WEIGHT * depth

  body_space : (m : Memory) (c : Context) (is : List StackItem) (f : Frame) (below : List Item)
      (acts : List Activation) → Linked t fs program p m c is (Waits f ∷ below) acts
      → HasSpace (rsp c) below_end (length acts + f.held)
  body_space m c (Framed x ∷ is) f below acts h = h.0.waits.space
  body_space m c (Leaf back ∷ is) f below acts h = h.0.waits.space
  body_space m c is f below acts h = absurd h

  pub search_space : (m : Memory) (c : Context) (is : List StackItem) (exception : Exception)
      (resumption : Resumption) (asked : Asked) (f : Frame)
      (below : List Item) (acts : List Activation)
      → Linked t fs program p m c is (Searches exception resumption asked ∷ Waits f ∷ below)
      acts → HasRecordSpace (rsp c) (length acts + f.held)
  search_space m c (Searching r ∷ is) exception resumption asked f below acts h =
      let near = h.0.near in
      let s = (body_space m _ is f below acts h.1).space in
      record { space = omega arith }
  search_space m c is exception resumption asked f below acts h = absurd h

  pub unwind_space : (m : Memory) (c : Context) (is : List StackItem) (rest : List Region)
      (target : Target) (items : List Item) (acts : List Activation)
      → Linked t fs program p m c is (Unwinds rest target ∷ items) acts
      → HasRecordSpace (rsp c) (length acts + target.held)
  unwind_space m c (Unwinding r ∷ is) rest target items acts h = record { space = h.0.space.space }
  unwind_space m c is rest target items acts h = absurd h
