-- Each turn keeps what waits as it is meant to be.
use Rattle.std.proofs.Common.{◌≡◌, inl, ℕ, List, ◌∷◌, length, refl, sym, ap, subst, ◌∙◌}
use Rattle.std.specs.Prelude.{Bool, true, false, not, nat_eq, slice_get, take, get_or, ℤ, Option, Some, None}
use Rattle.lowering_invariants.specs.Words.{W32, BuiltIn, Put, Protect, RaiseException, Walk, AddVectored, RemoveVectored, Operation, OperationResult, Gives, Raises, Undefined, performed, is_reserved, field_of, raised, Slot, Local, Temporary, Instruction, LinearProgram, LinearBody, LinearFunction, BodyName, body_of, AfterCall, SameOperation, Item, Waits, Store, Configuration, Finished, pick, read, write, with_temporary, with_temporaries, last_temporaries, set_local, at_label, forth, with_last, flag_of, is_constant, operand, written, computed, tested, count_of, built_in, not_landed, act, instruction_in, instruction_at, start, IsTurn, IsAskable, IsInstructionOf, AreBodies, MayWait, IsAbove, AreWaiting, CanBeAsked, IsStacked, LandsWell}
use Rattle.seh_num.specs.Widths.{low as low_bits}
use Rattle.source_meaning.specs.declared.ended.Ended.TheVariants as ends
use Rattle.linear_code.specs.Program.{depth_weight}
use Rattle.linear_code.specs.declared.instruction.Instruction.TheVariants as instructions
use Rattle.linear_machine.specs.BuiltInCalls.{CallsBuiltIn}
use Rattle.lowering_invariants.proofs.Lemmas.{each_added, each_left}
use Rattle.lowering_invariants.proofs.Moves.{Turn, Halts, Moves, pick_turn, some_turn, deeper_turn, kept}
use Rattle.lowering_invariants.proofs.Stacks.StackTargets.{same_it, taken}
use Rattle.lowering_invariants.proofs.Stacks.StackTargets.{all_at}
pub use Rattle.lowering_invariants.proofs.Stacks.StackTargets.{all_at}
use Rattle.lowering_invariants.proofs.Stacks.StackTurns.{none_lands, unwind_turn, raise_turn, end_turn}

-- ---- what a result leaves alone

pub record Keeps (c d : Configuration) : Type 0 where
  pub landed : d.frame.landed ≡ c.frame.landed
  pub body : d.frame.body ≡ c.frame.body
  pub exception : d.frame.exception ≡ c.frame.exception
  pub activation : d.frame.activation ≡ c.frame.activation
  pub below : d.below ≡ c.below
  pub handlers : d.store.vectored ≡ c.store.vectored

temporaries_keep : (c : Configuration) (o : Option (List ℕ)) (d : Configuration)
    → with_temporaries c o ≡ Some d → Keeps c d
temporaries_keep c None d e = absurd (cc)
temporaries_keep c (Some ts) d e = subst (Keeps c) (same_it (with_last ts c) d e) (record {
  landed = refl;
  body = refl;
  exception = refl;
  activation = refl;
  below = refl;
  handlers = refl;
})

pub write_keeps : (c : Configuration) (to : Slot) (v : ℕ) (d : Configuration)
    → write c to v ≡ Some d → Keeps c d
write_keeps c (Local x) v d e = subst (Keeps c)
    (same_it (record c { store = set_local c.store c.frame.activation x v }) d e) (record {
      landed = refl;
      body = refl;
      exception = refl;
      activation = refl;
      below = refl;
      handlers = refl;
    })
write_keeps c (Temporary i) v d e = temporaries_keep c (with_temporary c.frame.temporaries i v) d e

module _ (program : LinearProgram) (bodies : AreBodies program) where
  abbrev Ok : Configuration → Type 0
  Ok c = IsStacked program c

  abbrev Items : List Item → Type 0
  Items items = AreWaiting program items

  abbrev Askable : Store → Type 0
  Askable store = CanBeAsked program store.vectored

  -- ---- an instruction

  abbrev pub is_landing : Option Instruction → Bool
  is_landing (Some (instructions.Landing to)) = true
  is_landing i = false

  no_landing : (name : BodyName) (label : ℕ) (o : Option ℕ) (i : Instruction)
      → LandsWell program name label o → instruction_in (body_of program name) label ≡ Some i
      → is_landing (Some i) ≡ false → o ≡ None
  no_landing name label None i l e n = refl
  no_landing name label (Some code) i l e n = absurd (differ (sym n ∙ ap is_landing (sym e ∙ l.1)))
    where
      differ : false ≡ true → ⊥
      differ e = cc

  pub instruction_fits : (c : Configuration) (i : Instruction) → instruction_at program c ≡ Some i
      → IsInstructionOf program c.frame.body i
  instruction_fits c i at = of (body_of program c.frame.body) refl at
    where
      of : (o : Option LinearBody) → body_of program c.frame.body ≡ o
          → instruction_in o c.frame.next ≡ Some i → IsInstructionOf program c.frame.body i
      of None e at = absurd (cc)
      of (Some b) e at = all_at (IsInstructionOf program c.frame.body) b.code c.frame.next i
          (bodies c.frame.body b e).code at

  module _ (c : Configuration) (t : Ok c) where
    -- straight on, with no exception's code
    on_turn : (d : Configuration) → d.frame.landed ≡ None → d.frame.body ≡ c.frame.body
        → d.frame.exception ≡ c.frame.exception → d.frame.activation ≡ c.frame.activation
        → d.below ≡ c.below → Askable d.store → Turn Ok (λ next. next d)
    on_turn d l b e a w askable = Moves d (record {
      above = subst (λ items. IsAbove program d.frame.exception d.frame.activation d.frame.body
          items) (sym w)
          (subst (λ name. IsAbove program d.frame.exception d.frame.activation name c.below) (sym b)
          (subst (λ k. IsAbove program d.frame.exception k c.frame.body c.below) (sym a)
          (subst (λ x. IsAbove program x c.frame.activation c.frame.body c.below) (sym e)
          t.above)));
      below = subst Items (sym w) t.below;
      landed = none_lands program bodies d.frame.body d.frame.next d.frame.landed l;
      handlers = askable;
    }) (λ next. refl)

    -- the result in its slot
    written_turn : (b : Configuration) (to : Slot) (v : ℕ) → b.frame.landed ≡ None
        → b.frame.body ≡ c.frame.body → b.frame.exception ≡ c.frame.exception
        → b.frame.activation ≡ c.frame.activation → b.below ≡ c.below
        → b.store.vectored ≡ c.store.vectored → Turn Ok (λ next. written b to v next)
    written_turn b to v l n x a w h = some_turn Ok b.events (write b to v)
        (λ next d. next (forth d))
        (λ d e.
        let k = write_keeps b to v d e in
        on_turn (forth d) (k.landed ∙ l) (k.body ∙ n) (k.exception ∙ x) (k.activation ∙ a)
        (k.below ∙ w) (subst (CanBeAsked program) (sym (k.handlers ∙ h)) t.handlers))

    module _ (i : Instruction) (at : instruction_at program c ≡ Some i)
        (plain : is_landing (Some i) ≡ false) where
      pub unlanded : c.frame.landed ≡ None
      unlanded = no_landing c.frame.body c.frame.next c.frame.landed i t.landed at plain

      -- this body as one that waits
      pub waits : (ts : List ℕ) → MayWait program i (length ts)
          → Items (Waits (with_last ts c).frame ∷ c.below)
      waits ts m = (
        record { instruction = i; at = at; may = m; landed = unlanded },
        t.above,
        t.below,
      )

    computed_turn : (to : Slot) (o : Operation) (first second : Slot) (r : OperationResult)
        → instruction_at program c ≡ Some (instructions.Compute to o first second)
        → Turn Ok (λ next. computed program next to c r)
    computed_turn to o first second (Gives v memory) at =
        written_turn (record c { store = record c.store { memory = memory } }) to v
        (unlanded (instructions.Compute to o first second) at refl) refl refl refl refl refl
    computed_turn to o first second (Raises code access) at =
        raise_turn program bodies (record { code = code.0; flag = false; access = access })
        SameOperation c
        (record { to = to; operation = o; first = first; second = second; at = at })
        (waits (instructions.Compute to o first second) at refl c.frame.temporaries tt) t.handlers
    computed_turn to o first second (Undefined a) at =
        Halts (Finished (ends.Undefined a) c.events) (λ next. refl)

    built_in_turn : (k : BuiltIn) (first : ℕ) (vs ts : List ℕ)
        → instruction_at program c ≡ Some (instructions.CallBuiltIn k first) → length ts ≡ first
        → Turn Ok (λ next. built_in program next k vs (with_last ts c))
    built_in_turn Put first vs ts at n = on_turn _
        (unlanded (instructions.CallBuiltIn Put first) at refl) refl refl refl refl t.handlers
    built_in_turn Protect first vs ts at n = on_turn _
        (unlanded (instructions.CallBuiltIn Protect first) at refl) refl refl refl refl t.handlers
    built_in_turn RaiseException first vs ts at n =
        raise_turn program bodies (raised (get_or vs 0 0) (get_or vs 1 0)) AfterCall
        (with_last ts c) (first, at)
        (waits (instructions.CallBuiltIn RaiseException first) at refl ts n) t.handlers
    built_in_turn Walk first vs ts at n = on_turn _
        (unlanded (instructions.CallBuiltIn Walk first) at refl) refl refl refl refl t.handlers
    built_in_turn (AddVectored f) first vs ts at n =
        let i = instructions.CallBuiltIn (AddVectored f) first in
        let calls : CallsBuiltIn program (AddVectored f) = record {
          name = c.frame.body;
          label = c.frame.next;
          first = first;
          calls = at;
        } in
        on_turn _ (unlanded i at refl) refl refl refl refl
        (each_added (IsAskable program) (not (nat_eq (low_bits W32 (get_or vs 0 0)) 0)) f
        c.store.vectored (instruction_fits c i at, calls) t.handlers)
    built_in_turn (RemoveVectored f) first vs ts at n = on_turn _
        (unlanded (instructions.CallBuiltIn (RemoveVectored f) first) at refl) refl refl refl refl
        (each_left (IsAskable program) f c.store.vectored t.handlers)

    tested_turn : (slot : Slot) (label v : ℕ)
        → instruction_at program c ≡ Some (instructions.JumpIfZero slot label)
        → Turn Ok (λ next. pick (nat_eq v 0) (next (at_label label (tested slot c)))
        (next (forth (tested slot c))))
    tested_turn (Local x) label v at =
        let l = unlanded (instructions.JumpIfZero (Local x) label) at refl in
        pick_turn Ok (nat_eq v 0) (λ next. next (at_label label c)) (λ next. next (forth c))
        (λ e. on_turn _ l refl refl refl refl t.handlers)
        (λ e. on_turn _ l refl refl refl refl t.handlers)
    tested_turn (Temporary i) label v at =
        let l = unlanded (instructions.JumpIfZero (Temporary i) label) at refl in
        let d = with_last (take i c.frame.temporaries) c in
        pick_turn Ok (nat_eq v 0) (λ next. next (at_label label d)) (λ next. next (forth d))
        (λ e. on_turn _ l refl refl refl refl t.handlers)
        (λ e. on_turn _ l refl refl refl refl t.handlers)

    act_turn : (i : Instruction) → instruction_at program c ≡ Some i
        → Turn Ok (λ next. act program i next c)
    act_turn (instructions.Compute to o first second) at =
        some_turn Ok c.events (operand (is_constant o) c first) _ (λ a e.
        some_turn Ok c.events (operand (is_constant o) c second) _
        (λ b e. computed_turn to o first second
        (performed (is_reserved program.globals) o a b c.store.memory) at))
    act_turn (instructions.Information to field) at =
        written_turn c to (field_of field c.frame.exception)
        (unlanded (instructions.Information to field) at refl) refl refl refl refl refl
    act_turn (instructions.Jump label) at = on_turn _
        (unlanded (instructions.Jump label) at refl) refl refl refl refl t.handlers
    act_turn (instructions.JumpIfZero slot label) at =
        some_turn Ok c.events (read c slot) _ (λ v e. tested_turn slot label v at)
    act_turn (instructions.Call f first count) at =
        some_turn Ok c.events (last_temporaries c.frame.temporaries first count) _ (λ vs e.
        some_turn Ok c.events (slice_get program.functions f) _ (λ function g.
        deeper_turn Ok (depth_weight function) c.frame.held c.store c.events _ (Moves _ (record {
          above = (first, count, at);
          below = waits (instructions.Call f first count) at refl (take first c.frame.temporaries)
              (taken first count c.frame.temporaries vs e);
          landed = tt;
          handlers = t.handlers;
        }) (λ next. refl))))
    act_turn (instructions.CallBuiltIn f first) at =
        some_turn Ok c.events (last_temporaries c.frame.temporaries first (count_of f)) _
        (λ vs e. built_in_turn f first vs (take first c.frame.temporaries) at
        (taken first (count_of f) c.frame.temporaries vs e))
    act_turn (instructions.CallFinally k) at =
        some_turn Ok c.events (flag_of (slice_get program.funclets k)) _ (λ flag e.
        deeper_turn Ok 2 c.frame.held c.store c.events _ (Moves _ (record {
          above = (
            record {
              funclet = instruction_fits c (instructions.CallFinally k) at;
              activation = refl;
            },
            at,
          );
          below = waits (instructions.CallFinally k) at refl c.frame.temporaries tt;
          landed = tt;
          handlers = t.handlers;
        }) (λ next. refl)))
    act_turn (instructions.LocalUnwind label) at =
        unwind_turn program bodies (record {
          depth = length c.below;
          label = label;
          code = None;
          held = c.frame.held;
        }) (Waits c.frame ∷ c.below) None c.events c.store tt
        (waits (instructions.LocalUnwind label) at refl c.frame.temporaries tt)
        (inl (record { depth = refl; lands = at })) t.handlers
    act_turn (instructions.Landing to) at =
        some_turn Ok c.events c.frame.landed (λ next code. written (not_landed c) to code next)
        (λ code e. written_turn (not_landed c) to code refl refl refl refl refl refl)
    act_turn instructions.Separator at = on_turn _
        (unlanded instructions.Separator at refl) refl refl refl refl t.handlers
    act_turn (instructions.Return from) at = some_turn Ok c.events (read c from) _
        (λ v e. end_turn program bodies c.frame.body v c t.below t.handlers)

  pub stays_stacked : (c d : Configuration) → IsTurn program c d → Ok c → Ok d
  stays_stacked c d r t = kept Ok (λ next. act program r.instruction next c) d
      (act_turn c t r.instruction r.at) r.goes

  pub starts_stacked : (arg : ℤ) (main : LinearFunction) → Ok (start program arg main)
  starts_stacked arg main = record { above = refl; below = tt; landed = tt; handlers = tt }
