-- Where a fault is continued, the saved state is within the same operation.
use Rattle.std.proofs.Common.{◌≡◌, ℕ, List, [], ◌∷◌, Some, refl, sym, subst, arith}
use Rattle.std.specs.Prelude.{slice_get}
use Rattle.match_turns.specs.Words.{Cpu, context_of, State, distance, arrivals, Temporary, Instruction, LinearBody, body_of, SameOperation, Waits, Configuration, StackItem, InCode, Activation, locals_of, On, IsWellFormed, WorksAgain, IsWellMade, Setting, InBody, IsMachineMemory, WorksOn, ResumesFrom, leaf_values, slots_end, rsp, host_list}
use Rattle.linear_code.specs.declared.instruction.Instruction.TheVariants as instructions
use Rattle.match_turns.proofs.Lemmas.{code_ends, waits_in_body, all_front, label_in, body_there}
use Rattle.match_bodies.proofs.Places.LeafRegisters.{running_hold}
use Rattle.match_turns.proofs.Operations.OperationCode.{some_finish, whole_size, silent_within}

module _ (setting : Setting) (made : IsWellMade setting.program setting.plan)
    (s : State) (saved : Cpu) (is : List StackItem) (acts : List Activation) (c : Configuration)
    (on : On setting.functions setting.funclets setting.program setting.plan s.memory
    (context_of saved) is (Waits c.frame ∷ c.below) acts)
    (well_formed : IsWellFormed (host_list setting.plan c.store) (record s { cpu = saved }))
    (resumes : ResumesFrom setting.plan SameOperation c.frame acts saved)
    (memory : IsMachineMemory setting s.memory c.store.memory)
    (store : c.store.activations ≡ locals_of acts) where
  open setting use {functions as t, funclets as fs, program, plan as p, sites as q, image}

  abbrev values : List ℕ
  values = leaf_values (p.leaf c.frame.body) c.frame.body acts

  again : WorksAgain t fs program p q c.frame values saved
  again = (image.resumptions SameOperation c.frame values saved).said resumes

  abbrev i : Instruction
  i = instructions.Compute again.to again.operation (Temporary again.first) (Temporary again.second)

  there : (b : LinearBody) × (body_of program c.frame.body ≡ Some b)
  there = body_there (body_of program c.frame.body) c.frame.next i again.works

  at : slice_get there.0.code c.frame.next ≡ Some i
  at = label_in (body_of program c.frame.body) there.0 c.frame.next i there.1 again.works

  pub silent_there : arrivals saved (distance t.base saved.rip) 1 fs ≡ []
  silent_there =
      subst (λ a. arrivals saved (distance t.base a) 1 fs ≡ []) (sym again.here)
      (silent_within t fs program p q image made.room s.memory c.frame.body there.0 c.frame.next
      again.to again.operation (Temporary again.first) (Temporary again.second) memory.code
      there.1 at saved)

  inside : InCode p c.frame.body c.frame.next saved.rip
  inside =
      let y = p.layout c.frame.body in
      let n = code_ends setting c.frame.body there.0 there.1 c.frame.next i at in
      let w = whole_size y again.to again.operation (Temporary again.first)
      (Temporary again.second) in
      let f = some_finish y again.operation again.to in
      let h = again.here in
      record { low = omega arith; high = omega arith }

  abbrev u : State
  u = record s { cpu = saved }

  in_body : InBody setting u c
  in_body =
      subst (λ (xs : List (List ℕ)). InBody setting u
      (record c { store = record c.store { memory = c.store.memory; activations = xs } }))
      (sym store)
      (waits_in_body t fs program p q image u (context_of saved) is c.frame c.below acts
      c.frame.next c.frame.temporaries c.frame.landed c.store c.events on refl inside
      well_formed (all_front s.memory c.frame.temporaries) again.locals)

  pub works_on : WorksOn setting u c
  works_on = record {
    well_formed = well_formed;
    memory = memory;
    body = in_body;
    again = record {
      to = again.to;
      operation = again.operation;
      first = again.first;
      second = again.second;
      works = again.works;
      here = again.here;
      has_first = again.has_first;
      has_second = again.has_second;
      ready = again.ready;
      locals = running_hold s.memory (p.register c.frame.body) (p.layout c.frame.body) saved
          (p.leaf c.frame.body) (rsp (context_of saved))
          (slots_end (p.layout c.frame.body) (p.leaf c.frame.body)) c.frame.activation
          in_body.acts c.frame.body in_body.slots.activation;
    };
  }
