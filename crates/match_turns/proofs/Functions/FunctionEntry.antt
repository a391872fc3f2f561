-- A function is entered after its call, whatever its frame is.
use Rattle.std.proofs.Common.{◌≡◌, ℕ, ◌+◌, ◌-◌, ◌*◌, ◌≤◌, Bool, true, false, Some, List, [], length, refl, sym, ap, subst, ◌∙◌, arith, inl, inr}
use Rattle.std.specs.Prelude.{slice_get}
use Rattle.match_turns.specs.Words.{weight, weight_of, FRAME_BY_WEIGHT, STACK_START, STACK_END, Rsp, Instr, register, LinearBody, FunctionBody, body_of, Layout, sizes, spelled, parameters_code, check_stack, HasCode, IsFunctionLayout, IsLeafLayout, IsLayoutIf, Setting, Enters, arrived_in, local_registers, number_placed}
use Rattle.match_bodies.specs.CodeSites.{body_plan, making_size}
use Rattle.frame_rules.specs.Bytes.{prologue_code}
use Rattle.frame_rules.specs.Plan.{FramePlan}
use Rattle.frame_rules.specs.States.{IsEntry}
use Rattle.x64_templates.specs.Prologues.{prologue_turns}
use Rattle.match_bodies.proofs.Prologues.FrameCode.{few_turns, plan_depth}
use Rattle.match_bodies.proofs.Prologues.PlannedPrologues.{body_planned, body_probed}
use Rattle.match_bodies.proofs.Prologues.PrologueSteps.{small_at}
use Rattle.match_turns.proofs.Lemmas.{bytes_kept, may_read_written, stays_well_formed}
use Rattle.match_turns.proofs.Calls.CallArguments as calling
use Rattle.match_bodies.proofs.Places.LocalRegisters.{place_early}
use Rattle.match_turns.proofs.Functions.FunctionParameters.{parameters_stay, arguments_arrive}
use Rattle.match_turns.proofs.Functions.FunctionParameters as entering
use Rattle.match_turns.proofs.Functions.FunctionEntryCode.{making_frame, HasEntry, has_entry}
use Rattle.match_turns.proofs.Functions.FunctionPrologue.{Made, planned_frame}
use Rattle.match_turns.proofs.Calls.AtCall.{AtCall, callee_weight}

module _ {setting : Setting} (at_call : AtCall setting) where
  open setting use {functions as t, funclets as fs, program, plan as p, sites as q, image}
  open at_call use {
    state as s,
    represents as b,
    number as f,
    count,
    function as fn,
    found as callee,
    parameters,
    fits,
    some,
  }

  abbrev caller : ℕ
  caller = register s.cpu Rsp

  abbrev layout : Layout
  layout = p.layout (FunctionBody f)

  abbrev target : ℕ
  target = q.function f

  abbrev o : LinearBody
  o = fn.body

  abbrev there : body_of program (FunctionBody f) ≡ Some o
  there = entering.there at_call

  abbrev Goal : Type 0
  Goal = entering.InCallee at_call

  entry : (leaf : Bool) → p.leaf (FunctionBody f) ≡ leaf
      → HasEntry program p q f count s.memory leaf
  entry = has_entry t fs program p q image f count fn callee parameters s.memory b.memory.code

  -- code at the callee's first byte
  called_code : (to : ℕ) (code : List Instr) → HasCode s.memory to code
      → HasCode (entering.called at_call).memory to code
  called_code to code h =
      let k = entering.keeps at_call in
      record {
        is_there = bytes_kept s.memory _ to (spelled code) k.fixed k.protection h.is_there;
        placed = h.placed;
      }

  low : STACK_START + 196568 + FRAME_BY_WEIGHT * weight fn ≤ caller
  low = calling.low_callee at_call

  abbrev weighs : ℕ
  weighs = weight_of (slice_get program.functions f)

  top : caller + 40 ≤ STACK_END
  top = let a = calling.room_top at_call in omega arith

  -- ---- a leaf function

  leaf_entered : p.leaf (FunctionBody f) ≡ true → IsLeafLayout layout o → Goal
  leaf_entered leaf l =
      let x = low in
      let z = top in
      let e = l.frame in
      let n = l.few in
      let all : layout.arrivals ≡ count = image.arrivals f fn callee leaf ∙ parameters in
      let some = l.arrive in
      let none : parameters_code layout 0 count ≡ [] = parameters_stay layout 0 count (omega arith)
      in
      let begin = entry true leaf in
      let called = entering.called at_call in
      record {
        sp = caller - 8;
        place = omega arith;
        state = entering.at_callee at_call;
        turns = 0;
        exact = omega (arith, ap length none, begin.turns);
        soon = omega arith;
        comes = (let at : target ≡ target + making_size p q (FunctionBody f) =
            omega (arith, ap (λ x. sizes (making_frame p q f x)) leaf) in
            subst (λ a. Enters target a 0 (entering.at_callee at_call)
            (entering.at_callee at_call)) at refl);
        rip = (let y = begin.ends in omega (arith, ap sizes none));
        stack = calling.called_sp at_call;
        locals = λ i lt.
            ap (number_placed layout (caller - 8) (arrived_in (entering.at_callee at_call).cpu)
            (local_registers (entering.at_callee at_call).cpu.registers) called.memory i)
            (place_early layout i (omega arith))
            ∙ arguments_arrive called (entering.arguments at_call) (calling.in_registers at_call) i
            (omega arith);
        bytes = calling.called_bytes at_call;
        agrees = calling.called_agrees at_call;
        same = λ a own_byte out. refl;
      }

  -- ---- a function with a frame

  module _ (leaf : p.leaf (FunctionBody f) ≡ false) (l : IsFunctionLayout weighs layout o) where
    abbrev frame : ℕ
    frame = layout.frame

    abbrev sp : ℕ
    sp = caller - 8 - frame

    abbrev plan : FramePlan
    plan = body_plan p q (FunctionBody f)

    -- the state at its first byte
    begins : IsEntry frame (entering.at_callee at_call)
    begins =
        let x = low in
        let z = top in
        let k = l.small in
        let weight_is = callee_weight at_call in
        let a = image.addresses (FunctionBody f) o there in
        let first = a.first in
        let high = a.inside.high in
        let sp : register (entering.at_callee at_call).cpu Rsp ≡ caller - 8 =
        calling.called_sp at_call in
        let well = stays_well_formed s (entering.at_callee at_call) (entering.keeps at_call)
        (omega arith) b.well_formed in
        let may = entering.may_stack at_call in
        record {
          length = well.count;
          fits = small_at (entering.at_callee at_call).cpu.registers well.small;
          high = omega arith;
          low = omega arith;
          writable = λ a lo hi. may a (omega arith) (omega arith);
          readable = λ a lo hi. may_read_written (entering.called at_call).memory a
              (may a (omega arith) (omega arith));
        }

    made : Made (entering.called at_call) target
        (target + sizes (making_frame p q f false)) (entering.flags at_call) (caller - 8) sp
        (entering.arguments at_call) (prologue_turns plan)
    made = planned_frame (entering.called at_call) target (entering.flags at_call) (caller - 8)
        (entering.arguments at_call) (calling.called_sp at_call)
        (calling.in_registers at_call) plan q.check_stack frame
        (body_planned setting (FunctionBody f) o there some leaf)
        (plan_depth plan frame l.plan.whole) begins
        (called_code target (prologue_code plan) (entry false leaf).making)
        (body_probed setting (FunctionBody f) o there some)
        (called_code q.check_stack check_stack b.memory.code.check_stack)

    -- it takes four turns for each page, and one for each register that it saves
    soon : prologue_turns plan ≤ 21 + 8 * fn.surplus
    soon =
        let few = l.few in
        let n = few_turns plan in
        let whole = l.plan.whole in
        let small = l.small in
        let weight_is = callee_weight at_call in
        omega arith

    framed_entered : Goal
    framed_entered =
        let x = low in
        let z = top in
        let a = l.temporaries in
        let m = l.locals in
        let j = l.within in
        let k = l.small in
        let few = l.light in
        let weight_is = callee_weight at_call in
        entering.entered at_call sp (target + sizes (making_frame p q f false))
        (prologue_turns plan) made
        (record {
          none = l.none;
          low = omega arith;
          temporaries = omega arith;
          locals = omega arith;
          temporaries_small = omega arith;
          locals_small = omega arith;
          apart = inr (omega arith);
        })
        (record {
          none_arrive = l.none_arrive;
          base = refl;
          temporaries = omega arith;
          locals = omega arith;
          within = l.within;
        }) (omega arith) soon (omega arith)
        (entry false leaf).storing (entry false leaf).ends (λ a out i. elim i [
          | inl w ↦ (let g = w.0 in let h = w.1 in
              elim out [
                | inl o1 ↦ absurd (omega arith)
                | inr (inl o1) ↦ absurd (omega arith)
                | inr
                    (inr (inl o1)) ↦ (let o2 = o1.0 in let o3 = o1.1 in absurd (omega arith))
                | inr
                    (inr (inr o1)) ↦ absurd (omega arith)
              ])
          | inr w ↦ (let g = w.0 in let h = w.1 in
              elim out [
                | inl o1 ↦ absurd (omega arith)
                | inr (inl o1) ↦ absurd (omega arith)
                | inr
                    (inr (inl o1)) ↦ (let o2 = o1.0 in let o3 = o1.1 in absurd (omega arith))
                | inr
                    (inr (inr o1)) ↦ absurd (omega arith)
              ])
        ])
        (entry false leaf).turns (ap (λ x. target + sizes (making_frame p q f x)) (sym leaf))

  pub entered : Goal
  entered = by (p.leaf (FunctionBody f)) refl
    where
      by : (leaf : Bool) → p.leaf (FunctionBody f) ≡ leaf → Goal
      by true e = leaf_entered e (subst (λ x. IsLayoutIf program p weighs layout o x) e
          (image.laid_out (FunctionBody f) o there))
      by false e = framed_entered e (subst (λ x. IsLayoutIf program p weighs layout o x) e
          (image.laid_out (FunctionBody f) o there))
