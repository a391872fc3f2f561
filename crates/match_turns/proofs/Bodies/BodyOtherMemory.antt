-- The same body in another memory, whose stack is the same from RSP up, and with another list of
-- vectored handlers.
use Rattle.std.proofs.Common.{◌≡◌, ℕ, ◌+◌, ◌≤◌, false, List, map, sym, ap, ◌∙◌, arith, refl}
use Rattle.match_turns.specs.Words.{STACK_START, STACK_END, Memory, Rsp, context_of, State, register, Configuration, context_below, activations_below, BodyWaits, temporaries_end, KeepsStack, slots_end, last_temporary, Setting, IsMachineMemory, RepresentsAt, now_of}
use Rattle.match_turns.proofs.Lemmas.{end_within, reads_other, kept_by_other_memories, frame_stays, slots_within, IsCounted, sp_low, frame_top}
use Rattle.match_stack.proofs.ListMemories.{ReadsSame, body_kept, pointers_kept}

-- the stack from further up
pub higher_stack : (m m' : Memory) (low high : ℕ) → low ≤ high → KeepsStack m m' low
    → KeepsStack m m' high
higher_stack m m' low high le k = record {
  bytes = λ x from to. k.bytes x (omega arith) to;
  protection = k.protection;
  code = k.code;
  no_more_code = k.no_more_code;
}

module _ (setting : Setting) (s : State) (c : Configuration)
    (b : RepresentsAt setting s c) (counted : IsCounted setting c)
    (framed : setting.plan.leaf c.frame.body ≡ false)
    (m source : Memory) (keeps : KeepsStack s.memory m (register s.cpu Rsp))
    (memory : IsMachineMemory setting m source) (list handlers : List ℕ)
    (listed : list ≡ map setting.plan.handler handlers) where
  open setting use {functions as t, funclets as fs, program, plan as p}

  abbrev pub elsewhere : State
  elsewhere = record s { memory = m; vectored = list }

  abbrev pub source_elsewhere : Configuration
  source_elsewhere =
      record c { store = record c.store { memory = source; vectored = handlers } }

  abbrev sp : ℕ
  sp = register s.cpu Rsp

  abbrev frame : ℕ
  frame = (p.layout c.frame.body).frame

  low : STACK_START ≤ sp
  low = let l = sp_low setting s c b counted in omega arith

  top : sp + frame + 8 ≤ STACK_END
  top = frame_top setting s c b counted

  reads : ReadsSame s.memory m sp 0x70800000
  reads = reads_other s.memory m sp 0x70800000
      (record {
        bytes = keeps.bytes;
        protection = keeps.protection;
        code = keeps.code;
        no_more_code = keeps.no_more_code;
      }) low (omega arith)

  slots_low : slots_end (p.layout c.frame.body) (p.leaf c.frame.body) ≤ frame
  slots_low =
      let e = ap (slots_end (p.layout c.frame.body)) framed in
      let within = slots_within setting c.frame.body b.body.slots.code b.body.slots.body in
      omega arith

  end_is : last_temporary (p.layout c.frame.body) c.frame.body (p.leaf c.frame.body)
      ≡ temporaries_end (p.layout c.frame.body) c.frame.body
      (slots_end (p.layout c.frame.body) (p.leaf c.frame.body))
  end_is = ap (λ l. last_temporary (p.layout c.frame.body) c.frame.body l) framed
      ∙ ap (λ l. temporaries_end (p.layout c.frame.body) c.frame.body
      (slots_end (p.layout c.frame.body) l)) (sym framed)

  slots : BodyWaits t fs program p m (context_of s.cpu) (now_of (p.leaf c.frame.body) s.cpu)
      (slots_end (p.layout c.frame.body) (p.leaf c.frame.body))
      (last_temporary (p.layout c.frame.body) c.frame.body (p.leaf c.frame.body)) c.frame
      b.body.acts
  slots =
      let h = top in
      let e = slots_low in
      let f = end_is in
      let w = end_within s.memory (now_of (p.leaf c.frame.body) s.cpu) (p.register c.frame.body)
      (p.layout c.frame.body) sp
      (slots_end (p.layout c.frame.body) (p.leaf c.frame.body)) c.frame.activation b.body.acts
      c.frame.body b.body.slots.activation in
      body_kept s.memory m 0x70800000 t fs program p (context_of s.cpu)
      (now_of (p.leaf c.frame.body) s.cpu)
      (slots_end (p.layout c.frame.body) (p.leaf c.frame.body))
      (last_temporary (p.layout c.frame.body) c.frame.body (p.leaf c.frame.body)) c.frame
      b.body.acts reads (omega arith) (omega arith) b.body.slots

  pub represents_elsewhere : RepresentsAt setting elsewhere source_elsewhere
  represents_elsewhere =
      let l = low in
      let h = top in
      record {
        rip = b.rip;
        well_formed = record {
          rip_small = b.well_formed.rip_small;
          count = b.well_formed.count;
          small = b.well_formed.small;
          listed = listed;
        };
        memory = memory;
        body = record {
          acts = b.body.acts;
          store = b.body.store;
          slots = slots;
          pointers = pointers_kept s.memory m 0x70800000 t fs program p (p.layout c.frame.body) sp
              frame c.below reads (omega arith) b.body.pointers;
          above = b.body.above;
          home = b.body.home;
          back = b.body.back;
          returns_to = b.body.returns_to;
          others = b.body.others;
          eight = b.body.eight;
          small = b.body.small;
          frame = frame_stays setting c.frame.body b.body.slots.code b.body.slots.body s elsewhere
              b.body.back b.body.others (record { rest = refl; locals = λ r is free. refl })
              (λ a v from to w. reads.words a v (omega arith) (omega arith) w) b.body.frame;
          is = b.body.is;
          below = record {
            is_there = kept_by_other_memories t fs program p s.memory m
                (context_below b.body.back (sp + frame + 8) b.body.others) b.body.is c.below
                (activations_below c.frame.body b.body.acts)
                (higher_stack s.memory m sp (sp + frame + 8) (omega arith) keeps) (omega arith)
                b.body.below.is_there;
            data_alone = memory.data_alone;
          };
        };
        landed = b.landed;
      }

  -- with the same activations
  pub same_activations : represents_elsewhere.body.acts ≡ b.body.acts
  unfolding represents_elsewhere
  same_activations = λ i. b.body.acts
