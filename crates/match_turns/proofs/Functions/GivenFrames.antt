-- The function is entered, whatever its frame is.
use Rattle.std.proofs.Common.{◌≡◌, ℕ, ◌+◌, ◌-◌, ◌*◌, ◌<◌, ◌≤◌, Bool, true, false, Some, List, [], length, refl, sym, ap, subst, ◌∙◌, arith, inl, inr}
use Rattle.std.specs.Prelude.{slice_get, slice_index}
use Rattle.match_turns.specs.Words.{weight, weight_of, Memory, State, Functions, Funclet, LinearProgram, LinearBody, LinearFunction, FunctionBody, body_of, Layout, sizes, parameters_code, MachineView, ImagePlan, Sites, IsLayoutIf, IsFunctionLayout, IsLeafLayout, IsProgramImage, seen_by_templates, Enters}
use Rattle.match_bodies.specs.CodeSites.{body_plan, making_size}
use Rattle.match_bodies.specs.BodyViews.{arrived_in}
use Rattle.x64_templates.specs.Frames.{number_placed}
use Rattle.x64_templates.specs.Straight.{local_registers}
use Rattle.match_bodies.proofs.Places.LocalRegisters.{place_early}
use Rattle.match_bodies.specs.Setting.{Setting, setting_of}
use Rattle.seh_records.specs.Laws.{AllSmall}
use Rattle.frame_rules.specs.Plan.{FramePlan}
use Rattle.frame_rules.specs.States.{IsEntry, registers}
use Rattle.x64_templates.specs.Prologues.{prologue_turns}
use Rattle.match_bodies.proofs.Steps.BodyViews.{is_machine}
use Rattle.match_bodies.proofs.Prologues.FrameCode.{few_turns, plan_depth}
use Rattle.match_bodies.proofs.Prologues.PlannedPrologues.{body_planned, body_probed}
use Rattle.match_bodies.proofs.Prologues.PrologueSteps.{small_at}
use Rattle.match_turns.proofs.Lemmas.{may_read_written}
use Rattle.match_turns.proofs.Functions.FunctionParameters.{parameters_stay, arguments_arrive}
use Rattle.match_turns.proofs.Functions.FunctionPrologue.{Made, planned_frame}
use Rattle.match_turns.proofs.Functions.FunctionEntryCode.{making_frame, HasEntry, has_entry}
use Rattle.match_turns.proofs.Functions.GivenFunction as entering
use Rattle.match_turns.proofs.Functions.GivenFunction.{IsCalled}

module _ (t : Functions) (fs : List Funclet) (program : LinearProgram) (p : ImagePlan) (q : Sites)
    (image : IsProgramImage t fs program p q) (s : State) (source : Memory) (f : ℕ)
    (fn : LinearFunction) (top : ℕ) (arguments : ℕ → ℕ)
    (h : IsCalled t fs program p q s source f fn top arguments)
    (some : 0 < length fn.body.code) where
  abbrev layout : Layout
  layout = p.layout (FunctionBody f)

  abbrev target : ℕ
  target = q.function f

  abbrev o : LinearBody
  o = fn.body

  abbrev count : ℕ
  count = fn.parameters

  abbrev view : MachineView
  view = seen_by_templates s

  abbrev there : body_of program (FunctionBody f) ≡ Some o
  there = entering.there t fs program p q image s source f fn top arguments h

  abbrev Goal : Type 0
  Goal = entering.InFunction t fs program p q image s source f fn top arguments h

  abbrev setting : Setting
  setting = setting_of t fs program p q image

  entry : (leaf : Bool) → p.leaf (FunctionBody f) ≡ leaf
      → HasEntry program p q f count s.memory leaf
  entry = has_entry t fs program p q image f count fn h.function refl s.memory h.memory.code

  -- ---- a leaf function

  abbrev weighs : ℕ
  weighs = weight_of (slice_get program.functions f)

  weighs_so : weighs ≡ weight fn
  weighs_so = ap weight_of h.function

  leaf_entered : p.leaf (FunctionBody f) ≡ true → IsLeafLayout layout o → Goal
  leaf_entered leaf l =
      let e = l.frame in
      let n = l.few in
      let all : layout.arrivals ≡ count = image.arrivals f fn h.function leaf in
      let few = l.arrive in
      let none : parameters_code layout 0 count ≡ [] = parameters_stay layout 0 count (omega arith)
      in
      let begin = entry true leaf in
      let first : State = entering.first t fs program p q image s source f fn top arguments h in
      record {
        sp = top;
        place = omega arith;
        state = first;
        turns = 0;
        exact = omega (arith, ap length none, begin.turns);
        soon = omega arith;
        comes = (let at : target ≡ target + making_size p q (FunctionBody f) =
            omega (arith, ap (λ x. sizes (making_frame p q f x)) leaf) in
            subst (λ a. Enters target a 0 first first) at refl);
        rip = (let y = begin.ends in omega (arith, ap sizes none));
        stack = entering.view_stack t fs program p q image s source f fn top arguments h;
        locals = λ i lt.
            ap (number_placed layout top (arrived_in first.cpu)
            (local_registers first.cpu.registers) s.memory i) (place_early layout i (omega arith))
            ∙ arguments_arrive view arguments h.registers i (omega arith);
        bytes = h.memory.data_alone.bytes;
        agrees = h.memory.agrees;
        same = λ a own_byte out. refl;
      }

  -- ---- a function with a frame

  module _ (leaf : p.leaf (FunctionBody f) ≡ false) (l : IsFunctionLayout weighs layout o) where
    abbrev frame : ℕ
    frame = layout.frame

    abbrev sp : ℕ
    sp = top - frame

    abbrev plan : FramePlan
    plan = body_plan p q (FunctionBody f)

    -- the state at its first byte
    begins : IsEntry frame (entering.first t fs program p q image s source f fn top arguments h)
    begins =
        let x = h.low in
        let weight_is = weighs_so in
        let z = h.high in
        let k = l.small in
        let light = l.light in
        let first = entering.first t fs program p q image s source f fn top arguments h in
        let same : s.cpu.registers ≡ first.cpu.registers = ap (λ (u : State). u.cpu.registers)
        (is_machine s h.count) in
        let sp : registers first 4 ≡ top = ap (λ (rs : List ℕ). slice_index rs 4) (sym same)
        ∙ h.stack in
        record {
          length = ap (λ (rs : List ℕ). length rs) (sym same) ∙ h.count;
          fits = small_at first.cpu.registers (subst AllSmall same h.all_small);
          high = omega arith;
          low = omega arith;
          writable = λ a lo hi. h.memory.stack a (omega arith) (omega arith);
          readable = λ a lo hi. may_read_written s.memory a
              (h.memory.stack a (omega arith) (omega arith));
        }

    made : Made view target (target + sizes (making_frame p q f false)) s.cpu.flags top sp
        arguments (prologue_turns plan)
    made = planned_frame view target s.cpu.flags top arguments
        (entering.view_stack t fs program p q image s source f fn top arguments h)
        h.registers plan q.check_stack frame (body_planned setting (FunctionBody f) o there some
        leaf)
        (plan_depth plan frame l.plan.whole) begins (entry false leaf).making
        (body_probed setting (FunctionBody f) o there some) h.memory.code.check_stack

    -- it takes four turns for each page, and one for each register that it saves
    soon : prologue_turns plan ≤ 21 + 8 * fn.surplus
    soon =
        let few = l.few in
        let n = few_turns plan in
        let whole = l.plan.whole in
        let small = l.small in
        let weight_is = weighs_so in
        omega arith

    framed_entered : Goal
    framed_entered =
        let x = h.low in
        let weight_is = weighs_so in
        let z = h.high in
        let a = l.temporaries in
        let m = l.locals in
        let j = l.within in
        let k = l.small in
        let light = l.light in
        entering.entered t fs program p q image s source f fn top arguments h sp
        (target + sizes (making_frame p q f false)) (prologue_turns plan) made
        (record {
          none = l.none;
          low = omega arith;
          temporaries = omega arith;
          locals = omega arith;
          temporaries_small = omega arith;
          locals_small = omega arith;
          apart = inr (omega arith);
        })
        (record {
          none_arrive = l.none_arrive;
          base = refl;
          temporaries = omega arith;
          locals = omega arith;
          within = l.within;
        }) (omega arith) soon
        (omega arith) (entry false leaf).storing (entry false leaf).ends
        (λ a out i. elim i [
          | inl w ↦ (let g = w.0 in let u = w.1 in
              elim out [
                | inl o1 ↦ absurd (omega arith)
                | inr (inl o1) ↦ absurd (omega arith)
                | inr (inr o1) ↦ absurd (omega arith)
              ])
          | inr w ↦ (let g = w.0 in let u = w.1 in
              elim out [
                | inl o1 ↦ absurd (omega arith)
                | inr (inl o1) ↦ absurd (omega arith)
                | inr (inr o1) ↦ absurd (omega arith)
              ])
        ])
        (entry false leaf).turns (ap (λ x. target + sizes (making_frame p q f x)) (sym leaf))

  pub entered : Goal
  entered = by (p.leaf (FunctionBody f)) refl
    where
      by : (leaf : Bool) → p.leaf (FunctionBody f) ≡ leaf → Goal
      by true e = leaf_entered e (subst (λ x. IsLayoutIf program p weighs layout o x) e
          (image.laid_out (FunctionBody f) o there))
      by false e = framed_entered e (subst (λ x. IsLayoutIf program p weighs layout o x) e
          (image.laid_out (FunctionBody f) o there))
