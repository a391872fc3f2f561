-- The body that waits for a call has its result: RAX goes to the temporary of the first argument,
-- and the next instruction begins.
use Rattle.std.proofs.Common.{◌≡◌, ℕ, ◌+◌, ◌-◌, ◌<◌, false, Some, None, List, [], ◌∷◌, ◌++◌, length, refl, sym, arith, append_assoc}
use Rattle.std.specs.Prelude.{slice_get}
use Rattle.match_turns.specs.Words.{Event, Rax, Instr, Context, kept_of, State, register, Temporary, HasSlots, LinearBody, body_of, Frame, Item, Waits, Layout, sizes, keep, call, return_at, begin_call, passing_code, template_size, StackItem, Activation, On, on_top, IsWellFormed, HaveRoom, counts_of, Setting, IsMachineMemory, arguments_code, Store, host_list}
use Rattle.linear_code.specs.declared.instruction.Instruction.TheVariants as instructions
use Rattle.match_turns.proofs.Lemmas.{sizes_append, call_size, passing_call_size, IsCounted, each}
use Rattle.match_turns.proofs.Calls.CallResult.{IsSurrounded, answered}
use Rattle.match_turns.proofs.Calls.CallResult as kept

-- where a call that passes arguments on the stack returns to
abbrev pub returns_at : Layout → (first count at : ℕ) → ℕ
returns_at y first count at = return_at y first (at + sizes (passing_code y first 4 (count - 4)))

pub call_template : (y : Layout) (f first count : ℕ)
    → template_size y (instructions.Call f first count)
    ≡ sizes (passing_code y first 4 (count - 4))
    + (sizes (arguments_code y first) + 5 + sizes (keep y (Temporary first)))
unfolding template_size
call_template y f first count = passing_call_size y first count 0 0

module _ (setting : Setting) (roomy : HaveRoom setting.program) where
  open setting use {functions as t, funclets as fs, program, plan as p, sites as q}

  -- after the callee's return RSP and the nonvolatile registers are the caller's, and the list is
  -- there from there on
  module _ (u : State) (w : Frame) (items : List Item) (acts : List Activation) (source : Store)
      (es : List Event) (above : Context) (is : List StackItem)
      (on : On t fs program p u.memory above is (Waits w ∷ items) acts)
      (registers : kept_of u.cpu.registers ≡ above.kept)
      (well_formed : IsWellFormed (host_list p source) u)
      (memory : IsMachineMemory setting u.memory source.memory)
      (o : LinearBody) (there : body_of program w.body ≡ Some o) (f first arguments : ℕ)
      (calls : slice_get o.code w.next ≡ Some (instructions.Call f first arguments))
      (within : w.next + 1 < length o.code)
      (held : length w.temporaries ≡ first) (free : w.landed ≡ None)
      (back : u.cpu.rip ≡ returns_at (p.layout w.body) first arguments (p.address w.body w.next))
      (framed : p.leaf w.body ≡ false) where
    abbrev layout : Layout
    layout = p.layout w.body

    abbrev passing : List Instr
    passing = passing_code layout first 4 (arguments - 4)

    abbrev beginning : List Instr
    beginning = begin_call layout first (p.address w.body w.next + sizes passing) (q.function f)

    fits : first < o.temporaries
    fits = let h = each (HasSlots (counts_of o)) o.code w.next
        (instructions.Call f first arguments)
        (roomy w.body o there).slots calls in let few = h.0 in omega arith

    back_is : u.cpu.rip ≡ p.address w.body w.next + sizes (passing ++ beginning)
    back_is =
        let at = p.address w.body w.next + sizes passing in
        let five = call_size (return_at layout first at) (q.function f) in
        omega (
          arith,
          back,
          sizes_append passing beginning,
          sizes_append (arguments_code layout first)
              (call (return_at layout first at) (q.function f) ∷ []),
        )

    -- in one turn, which keeps the shadow, the next instruction begins
    pub resumes : IsCounted setting (on_top w items source acts es)
        → IsSurrounded setting roomy w.body w.activation items (length acts)
        → kept.Resumes t fs program p q u (answered setting roomy w items source acts es
        (register u.cpu Rax))
    resumes counted surrounded =
        kept.resumes setting roomy u w items acts source es above is on registers well_formed
        memory o there (instructions.Call f first arguments) first (passing ++ beginning) calls
        (λ h. h) refl (sym (append_assoc passing beginning (keep layout (Temporary first)))) fits
        within held free back_is framed counted surrounded
