-- The body that asks the host is in its body too with the state that the host saves of it: RSP is
-- the same, and RIP at the instruction or, where a call is the last of its code, at the next one.
use Rattle.std.proofs.Common.{◌≡◌, ℕ, zero, suc, ◌+◌, ◌^◌, ◌<◌, ◌≤◌, true, false, List, [], ◌∷◌, length, Option, Some, sym, ap, subst, arith}
use Rattle.std.specs.Prelude.{slice_get, slice_index, take}
use Rattle.match_turns.specs.Words.{STACK_END, Memory, Rsp, Cpu, kept_of, State, register, Functions, Funclet, Layout, LinearProgram, LinearFunclet, BodyName, FunctionBody, FuncletBody, body_of, Frame, Item, Waits, Searches, Unwinds, Configuration, with_last, context_below, ImagePlan, InCode, activations_below, home_end, below_end, HoldsWords, HasSpace, SameRegions, HasPointers, FuncletIsAbove, IsAbove, On, Sites, slots_end, last_temporary, frame_of, now_of, FilterOf}
use Rattle.match_bodies.specs.Bodies.{InBody, RepresentsAt}
use Rattle.match_bodies.proofs.Places.LeafRegisters.{activation_at, framed_hold}
use Rattle.match_turns.proofs.Lemmas.{IsFront, frame_with}

-- the first of some words
pub first_words : (m : Memory) (vs : List ℕ) (n : ℕ) → IsFront m vs (take n vs)
first_words m [] zero at end h = h
first_words m [] (suc n) at end h = h
first_words m (v ∷ vs) zero at end h = fits (v ∷ vs) at h
  where
    fits : (ws : List ℕ) (a : ℕ) → HoldsWords m a end ws → a ≤ end
    fits [] a h = h
    fits (w ∷ ws) a h = let r = fits ws (a + 8) h.1 in omega arith
first_words m (v ∷ vs) (suc n) at end h = (h.0, first_words m vs n (at + 8) end h.1)

module _ (t : Functions) (fs : List Funclet) (program : LinearProgram) (p : ImagePlan) (q : Sites)
  where
    -- what is below a body doesn't depend on its temporaries
    pub above_same : (b : Frame) (ts : List ℕ) (name : BodyName) (below : List Item)
        → IsAbove t fs program p b name below → IsAbove t fs program p
        (record b { temporaries = ts })
        name below
    above_same b ts (FunctionBody f) below h = h
    above_same b ts (FuncletBody k) below h = by_funclet (slice_get program.funclets k) below h
      where
        by_funclet : (f : Option LinearFunclet) (below : List Item)
            → FuncletIsAbove t fs program p k b f below
            → FuncletIsAbove t fs program p k (record b { temporaries = ts }) f below
        by_funclet (Some f) (Searches exception resumption (FilterOf asked rest) ∷ Waits w ∷ below)
            h = h
        by_funclet (Some f) (Unwinds rest target ∷ Waits w ∷ below) h = h
        by_funclet (Some f) (Waits w ∷ below) h = h
        by_funclet f below h = absurd h

    module _ (s : State) (c : Configuration) (b : RepresentsAt t fs program p q s c) (saved : Cpu)
        (label : ℕ) (ts : List ℕ)
        (registers : kept_of saved.registers ≡ kept_of s.cpu.registers)
        (inside : InCode p c.frame.body label saved.rip)
        (same : SameRegions t fs program p (body_of program c.frame.body) label c.frame.next)
        (small : saved.rip < 2 ^ 64) (front : IsFront s.memory c.frame.temporaries ts)
        (framed : p.leaf c.frame.body ≡ false) where
      abbrev y : Layout
      y = p.layout c.frame.body

      abbrev sp : register saved Rsp ≡ register s.cpu Rsp
      sp = ap (λ (ks : List ℕ). slice_index ks 0) registers

      abbrev size : ℕ
      size = slots_end y (p.leaf c.frame.body)

      abbrev end : ℕ
      end = last_temporary y c.frame.body (p.leaf c.frame.body)

      abbrev pub in_body : InBody t fs program p q (record s { cpu = saved })
          (with_last ts c)
      in_body = record {
        acts = b.body.acts;
        store = b.body.store;
        slots = record {
          code = b.body.slots.code;
          body = b.body.slots.body;
          label = label;
          instruction = record { low = inside.low; high = inside.high };
          same = same;
          small = small;
          activation = activation_at s.memory (p.register c.frame.body) y s.cpu saved
              (p.leaf c.frame.body) size c.frame.activation b.body.acts c.frame.body registers
              (framed_hold (now_of true saved) (p.register c.frame.body) (p.leaf c.frame.body)
              b.body.acts c.frame.body framed) b.body.slots.activation;
          temporaries = subst (λ x. HoldsWords s.memory (x + y.temporaries) (x + end) ts) (sym sp)
              (front _ _ b.body.slots.temporaries);
          space = subst (λ x. HasSpace x below_end (length b.body.acts + c.frame.held)) (sym sp)
              b.body.slots.space;
        };
        pointers = subst (λ x. HasPointers t fs program p s.memory y x y.frame c.below) (sym sp)
            b.body.pointers;
        above = above_same c.frame ts c.frame.body c.below b.body.above;
        home = λ leaf. subst (λ x. x + home_end ≤ STACK_END) (sym sp) (b.body.home leaf);
        back = b.body.back;
        returns_to = b.body.returns_to;
        others = b.body.others;
        eight = b.body.eight;
        small = b.body.small;
        frame = frame_with s saved (p.leaf c.frame.body)
            (frame_of p c.frame.body b.body.back b.body.others) registers b.body.frame;
        is = b.body.is;
        below = subst (λ x. On t fs program p s.memory
            (context_below b.body.back (x + y.frame + 8) b.body.others) b.body.is c.below
            (activations_below c.frame.body b.body.acts)) (sym sp) b.body.below;
      }
