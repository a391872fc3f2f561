-- A body that runs asks the host: it is on top of the list, with room for a record below.
use Rattle.std.proofs.Common.{◌≡◌, ℕ, ◌+◌, ◌^◌, ◌<◌, ◌≤◌, Bool, true, false, cond, List, ◌∷◌, Some, None, ap, ◌∙◌, arith}
use Rattle.std.specs.Prelude.{nat_lt}
use Rattle.std.proofs.lemmas.Bool.{le-ltb}
use Rattle.match_turns.specs.Words.{STACK_START, STACK_END, Memory, first_refused, may_write, with_bytes, context_of, State, rsp, Waits, Configuration, StackItem, Activation, KeepsAbove, IsWellFormed, AsksHost, Setting, HasProgram, InBody, IsMachineMemory, IsResumed, return_address_at, misplaced, place_below, host_list}
use Rattle.match_turns.proofs.Lemmas.{all_may, in_stack, kept_by_stores_below, body_on_top}

-- in the stack, far enough above its start, a record can be placed
pub record_fits : (m : Memory) (sp : ℕ) → STACK_START + 1592 ≤ sp → sp ≤ STACK_END
    → ((a : ℕ) → STACK_START ≤ a → a < STACK_END → may_write m a ≡ true)
    → misplaced m (place_below sp) ≡ None
unfolding misplaced
record_fits m sp low high may =
    let at = place_below sp in
    let below : at + 1568 ≤ sp = omega arith in
    let near : sp ≤ at + 1583 = omega arith in
    let from : return_address_at at + 8 ≡ at = omega arith in
    let first : nat_lt (2 ^ 64) (return_address_at at + 1576)
    ≡ false = le-ltb (2 ^ 64) (return_address_at at + 1576) (omega arith) in
    let second : nat_lt (return_address_at at) STACK_START
    ≡ false = le-ltb (return_address_at at) STACK_START (omega arith) in
    let third = all_may (may_write m) 1576 (return_address_at at) (omega arith)
    (λ a p q. may a (omega arith) (omega arith)) in
    ap (λ (b : Bool). cond b (Some 0) (cond (nat_lt (return_address_at at) STACK_START)
    (Some (return_address_at at)) (first_refused (may_write m) 1576 (return_address_at at))))
    first
    ∙ ap (λ (b : Bool). cond b (Some (return_address_at at))
    (first_refused (may_write m) 1576 (return_address_at at))) second
    ∙ third

module _ (setting : Setting) where
  open setting use {functions as t, funclets as fs, program, plan as p, sites as q, image}

  -- the body's state is saved, and bytes below its stack pointer may have been stored since
  pub record Asks (s saved : State) (byte : ℕ → ℕ) (c : Configuration)
      (acts : List Activation) : Type 0 where
    pub is : List StackItem
    pub asks : AsksHost t fs program p (record s { memory = with_bytes saved.memory byte })
        saved.cpu is (Waits c.frame ∷ c.below) acts (host_list p c.store)

  -- where the saved state is at a machine instruction of an instruction of the body
  pub asks_host : (s saved : State) (byte : ℕ → ℕ) (c : Configuration) (label : ℕ)
      (source : Memory) (at : InBody setting saved c)
      → IsResumed setting c.frame.body at.slots.code label saved.cpu.rip
      → HasProgram setting saved.memory → KeepsAbove saved.memory byte (rsp (context_of saved.cpu))
      → IsMachineMemory setting (with_bytes saved.memory byte) source
      → IsWellFormed (host_list p c.store) (record s { memory = with_bytes saved.memory byte })
      → IsWellFormed (host_list p c.store)
      (record s { cpu = saved.cpu; memory = with_bytes saved.memory byte })
      → Asks s saved byte c at.acts
  asks_host s saved byte c label source at resumed has keeps memory well_formed
      well_formed_saved =
      let m = saved.memory in
      let from = context_of saved.cpu in
      let top = body_on_top t fs program p q image saved c label at resumed has in
      let high = in_stack t fs program p m from top.is (Waits c.frame ∷ c.below)
      at.acts top.on.is_there.stack top.on.is_there.linked in
      let space = at.slots.space.space in
      let shallow = at.slots.space.shallow in
      let low : STACK_START + 1592 ≤ rsp from = omega arith in
      record {
        is = top.is;
        asks = record {
          gives = image.gives;
          well_formed = well_formed;
          well_formed_saved = well_formed_saved;
          on = record {
            is_there = kept_by_stores_below t fs program p m byte from top.is
                (Waits c.frame ∷ c.below) at.acts keeps top.on.is_there;
            data_alone = memory.data_alone;
          };
          low = omega arith;
          room = record_fits (with_bytes m byte) (rsp from) low high memory.stack;
        };
      }
