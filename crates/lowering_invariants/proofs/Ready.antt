-- A configuration that isn't stuck is at an instruction, and what that needs is there.
use Rattle.std.proofs.Common.{◌≡◌, ℕ, ◌+◌, ◌*◌, List, [], length, refl, ap, ◌∙◌, arith}
use Rattle.std.proofs.lemmas.Bool.{eqb-true, leb-true}
use Rattle.std.proofs.lemmas.Option.{slice_get_within}
use Rattle.std.specs.Prelude.{Bool, true, false, nat_eq, nat_le, if◌then◌else◌, slice_get, Option, Some, None}
use Rattle.lowering_invariants.specs.Words.{Event, Program, IsSound, Slot, Local, Temporary, Instruction, LinearProgram, Configuration, Seen, Stuck, Next, pick, with_some, read, write, with_temporary, with_temporaries, last_temporaries, at_label, forth, flag_of, is_constant, operand, written, computed, tested, waiting, count_of, built_in, end_body, not_landed, act, performed, is_reserved, field_of, instruction_at, exec, start, lowered, IsReached, ReachedContinues}
use Rattle.linear_code.specs.declared.instruction.Instruction.TheVariants as instructions
use Rattle.lowering_follows.specs.StepsPerTurn.{steps_per_turn_of}
use Rattle.lowering_invariants.proofs.Lemmas.{lowered_shows_no_more}
use Rattle.lowering_invariants.specs.Ready.{IsHeld, IsNextSlot, IsRead, held, IsReady}
use Rattle.lowering_invariants.proofs.Stacks.Turns.{there, come}

-- ---- slots

read_held : (c : Configuration) (slot : Slot) (v : ℕ) → read c slot ≡ Some v → IsHeld (held c) slot
read_held c (Local x) v e = tt
read_held c (Temporary i) v e = slice_get_within c.frame.temporaries i v e

operand_read : (b : Bool) (c : Configuration) (slot : Slot) (v : ℕ) → operand b c slot ≡ Some v
    → IsRead b (held c) slot
operand_read true c slot v e = tt
operand_read false c slot v e = read_held c slot v e

-- a choice that answers something was made
pub chosen : {A : Type 0} (b : Bool) (x y : A) → (if b then Some x else None) ≡ Some y → b ≡ true
chosen true x y e = refl
chosen false x y e = cc

pub some_temporaries : (c : Configuration) (o : Option (List ℕ)) (d : Configuration)
    → with_temporaries c o ≡ Some d → (ts : List ℕ) × (o ≡ Some ts)
some_temporaries c None d e = absurd (cc)
some_temporaries c (Some ts) d e = (ts, refl)

written_next : (c : Configuration) (to : Slot) (v : ℕ) (d : Configuration) → write c to v ≡ Some d
    → IsNextSlot (held c) to
written_next c (Local x) v d e = tt
written_next c (Temporary i) v d e =
    let f = some_temporaries c (with_temporary c.frame.temporaries i v) d e in
    leb-true i (length c.frame.temporaries) (chosen (nat_le i (length c.frame.temporaries)) _ f.0
    f.1)

pub last_are : (ts : List ℕ) (first count : ℕ) (vs : List ℕ)
    → last_temporaries ts first count ≡ Some vs → length ts ≡ first + count
last_are ts first count vs e = eqb-true (length ts) (first + count)
    (chosen (nat_eq (length ts) (first + count)) _ vs e)

-- the run doesn't end here for want of a rule
abbrev Goes : Seen → Type 0
Goes s = (es : List Event) → s ≡ Stuck es → ⊥

module _ (program : LinearProgram) (next : Next) (c : Configuration) where
  result_next : (to : Slot) (v : ℕ) (d : Configuration) → Goes (written d to v next)
      → IsNextSlot (held d) to
  result_next to v d h = let w = there d.events (write d to v) (λ c. next (forth c)) h in
      written_next d to v w.it w.is

  operands_read : (b : Bool) (first second : Slot) (go : ℕ → ℕ → Seen)
      → Goes (with_some c.events (operand b c first)
      (λ x. with_some c.events (operand b c second) (go x)))
      → IsRead b (held c) first × IsRead b (held c) second
  operands_read b first second go h =
      let x = there c.events (operand b c first)
      (λ x. with_some c.events (operand b c second) (go x)) h in
      let y = there c.events (operand b c second) (go x.it) x.moves in
      (operand_read b c first x.it x.is, operand_read b c second y.it y.is)

  ready : (i : Instruction) → Goes (act program i next c) → IsReady program c i
  ready (instructions.Compute to o first second) h = operands_read (is_constant o) first second
      (λ a b. computed program next to c (performed (is_reserved program.globals) o a b
      c.store.memory)) h
  ready (instructions.Information to field) h = result_next to (field_of field c.frame.exception) c
      h
  ready (instructions.Jump label) h = tt
  ready (instructions.JumpIfZero slot label) h =
      let x = there c.events (read c slot) (λ v. pick (nat_eq v 0)
      (next (at_label label (tested slot c))) (next (forth (tested slot c)))) h in
      read_held c slot x.it x.is
  ready (instructions.Call f first count) h =
      let vs = there c.events (last_temporaries c.frame.temporaries first count) _ h in
      let function = there c.events (slice_get program.functions f) _ vs.moves in
      (last_are c.frame.temporaries first count vs.it vs.is, (function.it, function.is))
  ready (instructions.CallBuiltIn f first) h =
      let vs = there c.events (last_temporaries c.frame.temporaries first (count_of f))
      (λ vs. built_in program next f vs (waiting c first)) h in
      last_are c.frame.temporaries first (count_of f) vs.it vs.is
  ready (instructions.CallFinally k) h = let flag = there c.events
      (flag_of (slice_get program.funclets k)) _ h in (flag.it, flag.is)
  ready (instructions.LocalUnwind label) h = tt
  ready (instructions.Landing to) h =
      let code = there c.events c.frame.landed (λ code. written (not_landed c) to code next) h in
      ((code.it, code.is), result_next to code.it (not_landed c) code.moves)
  ready instructions.Separator h = tt
  ready (instructions.Return from) h = let v = there c.events (read c from)
      (λ v. end_body program next c.frame.body v c) h in read_held c from v.it v.is

-- ---- configurations that are reached

pub not_stuck : (program : Program) → IsSound program → (c : Configuration)
    → IsReached (lowered program) c → Goes (exec (lowered program) 1 c)
unfolding with_some
not_stuck program h c r es e =
    let linear = lowered program in
    let never = (lowered_shows_no_more program h r.argument (r.turns + 1)
    ((r.turns + 1 + 1) * steps_per_turn_of program) (omega arith)).2 es in
    never (ap (λ o. with_some [] o (λ main. exec linear (r.turns + 1)
    (start linear r.argument main))) r.is_main
    ∙ come linear r.turns 1 (start linear r.argument r.main) c r.comes ∙ e)

pub continues : ReachedContinues
unfolding exec
continues program h c r =
    let linear = lowered program in
    let i = there c.events (instruction_at linear c) (λ i. act linear i (exec linear 0) c)
    (not_stuck program h c r) in
    record { instruction = i.it; at = i.is; ready = ready linear (exec linear 0) c i.it i.moves }
