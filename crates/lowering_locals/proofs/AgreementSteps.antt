-- A configuration and the actual one, which agrees with it on set locals, continue together.
use Rattle.std.proofs.Common.{◌≡◌, ℕ, zero, ◌+◌, ◌-◌, List, [], ◌∷◌, ◌++◌, length, refl, sym, ap, subst, ◌∙◌}
use Rattle.std.specs.List.{AllByRecursion}
use Rattle.std.specs.Prelude.{false, nat_lt, slice_get, replicate, Option, Some}
use Rattle.linear_code.specs.Program.{depth_weight}
use Rattle.lowering_locals.specs.Words.{Deep, LinearProgram, LinearFunction, Frame, Waits, Configuration, Seen, Finished, Next, pick, with_some, deeper, last_temporaries, body_of, begin_function, waiting, act, instruction_at, instruction_in, start, main_arguments, Marks, next_marks, AreAlike, GoAlike, start_marks, called, IsReached}
use Rattle.linear_code.specs.declared.instruction.Instruction.TheVariants as instructions
use Rattle.lowering_invariants.specs.SmallNumbers.{AreSmall, HasSmallNumbers}
use Rattle.lowering_invariants.proofs.Stacks.TurnNumbers.{stays_small, reached_small}
use Rattle.lowering_locals.specs.Agreement.{AgreementContinues, AgreementAtCall, AgreementAtStart, AgreeingAreSmall}
use Rattle.lowering_locals.proofs.Lists.{as_long}
use Rattle.lowering_locals.proofs.Alike.{is_over, steps_are_alike, calls_are_alike, starts_are_alike, marked_is_reached, marked_continues}

-- ---- numbers of 64 bits

abbrev AllSmall : List (List ℕ) → Type 0
AllSmall acts = AllByRecursion AreSmall acts

left_small : (xs ys : List ℕ) → AreSmall (xs ++ ys) → AreSmall xs
left_small [] ys h = tt
left_small (x ∷ xs) ys h = (h.0, left_small xs ys h.1)

joined_small : (xs ys : List ℕ) → AreSmall xs → AreSmall ys → AreSmall (xs ++ ys)
joined_small [] ys h k = k
joined_small (x ∷ xs) ys h k = (h.0, joined_small xs ys h.1 k)

-- an activation that begins with other numbers after its arguments
pub other_small : (acts : List (List ℕ)) (arguments zeros values : List ℕ)
    → AllSmall (acts ++ (arguments ++ zeros) ∷ []) → AreSmall values
    → AllSmall (acts ++ (arguments ++ values) ∷ [])
other_small [] arguments zeros values h s = (
  joined_small arguments values
      (left_small arguments zeros h.0) s,
  tt,
)
other_small (a ∷ acts) arguments zeros values h
    s = (h.0, other_small acts arguments zeros values h.1 s)

alike_small : (marks : Marks) (c d : Configuration) → AreAlike marks c d
    → AllSmall d.store.activations → HasSmallNumbers c → HasSmallNumbers d
alike_small marks c d a s h = subst HasSmallNumbers (is_over marks c d a)
    (record { items = h.items; locals = s; pointer = h.pointer; handlers = h.handlers })

pub agreeing_are_small : AgreeingAreSmall
agreeing_are_small program c d t = alike_small t.marks c d t.alike t.small
    (reached_small program c (marked_is_reached program c t.marks t.marked))

-- ---- a step

pub same_place : (program : LinearProgram) (c d : Configuration) → d.frame ≡ c.frame
    → instruction_at program d ≡ instruction_at program c
same_place program c d e = ap (λ (f : Frame). instruction_in (body_of program f.body) f.next) e

pub agreement_continues : AgreementContinues
agreement_continues program reads c d t i at =
    let here : instruction_at program c ≡ Some i = sym (same_place program c d t.alike.frame)
    ∙ at in
    let both : GoAlike program i t.marks c d = steps_are_alike program i t.marks c d t.alike
    (reads c t.marks i t.marked here) in
    record {
      at = here;
      back = λ d' g.
          let r = both.back d' g in
          record {
            on = r.0;
            goes = r.1.one;
            agreement = record {
              marks = next_marks program i c r.0 t.marks;
              marked = marked_continues program c r.0 t.marks t.marked
                  (record { instruction = i; at = here; goes = r.1.one });
              alike = r.1.alike;
              small = (stays_small program d d' (record { instruction = i; at = at; goes = g })
                  (agreeing_are_small program c d t)).locals;
            };
          };
      end = both.back_end;
      seen = both.seen;
    }

-- ---- calls

call_goes : (program : LinearProgram) (c : Configuration) (f first count : ℕ)
    (function : LinearFunction) (arguments values : List ℕ)
    → last_temporaries c.frame.temporaries first count ≡ Some arguments
    → slice_get program.functions f ≡ Some function
    → nat_lt 1000 (length c.store.activations + c.frame.held + depth_weight function) ≡ false
    → (next : Next)
    → act program (instructions.Call f first count) next c
    ≡ next (called c c f first function arguments values)
unfolding pick with_some
call_goes program c f first count function arguments values e g n next =
    let begun : List ℕ → LinearFunction → Seen = λ vs function. next
    (begin_function f function vs c.frame.held (Waits (waiting c first).frame ∷ c.below) c.store
    c.events) in
    ap (λ (o : Option (List ℕ)). with_some c.events o
    (λ vs. with_some c.events (slice_get program.functions f)
    (λ function. deeper (depth_weight function) c.frame.held c.store c.events
    (begun vs function)))) e
    ∙ ap (λ (o : Option LinearFunction). with_some c.events o
    (λ function. deeper (depth_weight function) c.frame.held c.store c.events
    (begun arguments function))) g
    ∙ ap (λ b. pick b (Finished (Deep 1001) c.events) (begun arguments function)) n

pub agreement_at_call : AgreementAtCall
agreement_at_call program c d f first count function arguments values t at e g n long s =
    let i = instructions.Call f first count in
    let here : instruction_at program c ≡ Some i = sym (same_place program c d t.alike.frame)
    ∙ at in
    let own : last_temporaries c.frame.temporaries first count
    ≡ Some arguments = ap (λ (k : Frame). last_temporaries k.temporaries first count)
    (sym t.alike.frame) ∙ e in
    let held : nat_lt 1000 (length c.store.activations + c.frame.held + depth_weight function)
    ≡ false =
    ap (λ (k : Frame). nat_lt 1000 (length c.store.activations + k.held + depth_weight function))
    (sym t.alike.frame) ∙ ap (λ m. nat_lt 1000 (m + d.frame.held + depth_weight function))
    (sym (as_long t.marks c.store.activations d.store.activations t.alike.activations)) ∙ n in
    let goes = call_goes program c f first count function arguments values own g held in
    let on = called c d f first function arguments values in
    let other = called d d f first function arguments values in
    let zeros = replicate (function.body.locals - function.parameters) 0 in
    let small = (stays_small program d other (record {
      instruction = i;
      at = at;
      goes = call_goes program d f first count function arguments values
          e g n;
    }) (agreeing_are_small program c d t)).locals in
    record {
      on = on;
      goes = goes;
      agreement = record {
        marks = next_marks program i c on t.marks;
        marked = marked_continues program c on t.marks t.marked
            (record { instruction = i; at = here; goes = goes });
        alike = calls_are_alike program t.marks c d f first count function arguments values t.alike
            own g long;
        small = other_small d.store.activations arguments zeros values small s;
      };
    }

pub agreement_at_start : AgreementAtStart
agreement_at_start program arg main values is_main long s =
    let zeros = replicate (main.body.locals - main.parameters) 0 in
    let first : IsReached program (start program arg main) =
    record { argument = arg; main = main; is_main = is_main; turns = zero; comes = refl } in
    record {
      marks = start_marks program arg main;
      marked = record {
        argument = arg;
        main = main;
        is_main = is_main;
        turns = zero;
        comes = (refl, refl);
      };
      alike = starts_are_alike program arg main values long;
      small = other_small [] (main_arguments main.parameters arg) zeros values
          (reached_small program (start program arg main) first).locals s;
    }
