-- The body that runs, with RIP elsewhere in the same instruction and other volatile registers, but
-- for those in which locals of a leaf function stand.
use Rattle.std.proofs.Common.{◌≡◌, ℕ, ◌+◌, ◌^◌, ◌<◌, ◌≤◌, true, List, [], ◌∷◌, length, refl, sym, ap, subst}
use Rattle.std.specs.Prelude.{slice_index}
use Rattle.std.specs.List.{AllByRecursion}
use Rattle.match_turns.specs.Words.{STACK_END, Rsp, Cpu, kept_of, State, register, Functions, Funclet, Region, LinearProgram, body_of, Configuration, holds, regions_of, context_below, ImagePlan, InCode, activations_below, home_end, below_end, HoldsWords, HasPointers, HasSpace, On, Sites, slots_end, last_temporary, frame_of, now_of, RegistersHold, leaf_values}
use Rattle.match_turns.proofs.Lemmas.{frame_with}
use Rattle.match_bodies.specs.Bodies.{InBody}
use Rattle.match_bodies.proofs.Places.LeafRegisters.{activation_at}

all_same : (label : ℕ) (rs : List Region) → AllByRecursion
    (λ (r : Region). holds label r ≡ holds label r) rs
all_same label [] = tt
all_same label (r ∷ rs) = (refl, all_same label rs)

pub in_body_at : (t : Functions) (fs : List Funclet) (program : LinearProgram) (p : ImagePlan)
    (q : Sites) (s : State) (c : Configuration) (cpu : Cpu)
    → (b : InBody t fs program p q s c) → kept_of cpu.registers ≡ kept_of s.cpu.registers
    → RegistersHold (now_of true cpu) (p.register c.frame.body) 0
    (leaf_values (p.leaf c.frame.body) c.frame.body b.acts)
    → InCode p c.frame.body c.frame.next cpu.rip → cpu.rip < 2 ^ 64
    → InBody t fs program p q (record s { cpu = cpu }) c
in_body_at t fs program p q s c cpu b registers hold inside small =
    let m = s.memory in
    let sp : register cpu Rsp ≡ register s.cpu Rsp = ap (λ (ks : List ℕ). slice_index ks 0)
    registers in
    let y = p.layout c.frame.body in
    let leaf = p.leaf c.frame.body in
    record {
      acts = b.acts;
      store = b.store;
      slots = record {
        code = b.slots.code;
        body = b.slots.body;
        label = c.frame.next;
        instruction = record { low = inside.low; high = inside.high };
        same = all_same c.frame.next (regions_of (body_of program c.frame.body));
        small = small;
        activation = activation_at m (p.register c.frame.body) y s.cpu cpu leaf (slots_end y leaf)
            c.frame.activation b.acts c.frame.body registers hold b.slots.activation;
        temporaries = subst (λ x. HoldsWords m (x + y.temporaries)
            (x + last_temporary y c.frame.body leaf) c.frame.temporaries) (sym sp)
            b.slots.temporaries;
        space = subst (λ x. HasSpace x below_end (length b.acts + c.frame.held)) (sym sp)
            b.slots.space;
      };
      pointers = subst (λ x. HasPointers t fs program p m y x y.frame c.below) (sym sp) b.pointers;
      above = b.above;
      home = λ e. subst (λ x. x + home_end ≤ STACK_END) (sym sp) (b.home e);
      back = b.back;
      returns_to = b.returns_to;
      others = b.others;
      eight = b.eight;
      small = b.small;
      frame = frame_with s cpu leaf (frame_of p c.frame.body b.back b.others) registers b.frame;
      is = b.is;
      below = subst (λ x. On t fs program p m (context_below b.back (x + y.frame + 8) b.others) b.is
          c.below (activations_below c.frame.body b.acts)) (sym sp) b.below;
    }

-- on the same activations
pub acts_at : (t : Functions) (fs : List Funclet) (program : LinearProgram) (p : ImagePlan)
    (q : Sites) (s : State) (c : Configuration) (cpu : Cpu)
    → (b : InBody t fs program p q s c)
    → (registers : kept_of cpu.registers ≡ kept_of s.cpu.registers)
    → (hold : RegistersHold (now_of true cpu) (p.register c.frame.body) 0
    (leaf_values (p.leaf c.frame.body) c.frame.body b.acts))
    → (inside : InCode p c.frame.body c.frame.next cpu.rip) → (small : cpu.rip < 2 ^ 64)
    → (in_body_at t fs program p q s c cpu b registers hold inside small).acts ≡ b.acts
unfolding in_body_at
acts_at t fs program p q s c cpu b registers hold inside small = refl
