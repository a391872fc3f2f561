-- From a routine's first byte its frame is made, and the shadow is kept.
use Rattle.std.proofs.Common.{◌≡◌, ℕ, ◌+◌, ◌^◌, ◌<◌, ◌≤◌, Bool, true, false, List, length, Some, sym, ap, subst, arith}
use Rattle.match_bodies.specs.Words.{frame_info, Rsp, context_of, State, register, AllSmall, LinearBody, BodyName, body_of, sizes, StackItem, AllKeep, begin_of, making_size, frame_code, Owed, nothing_owed, owed_of, owed_by, Setting}
use Rattle.frame_rules.specs.Plan.{FramePlan}
use Rattle.x64_templates.specs.Prologues.{prologue_turns}
use Rattle.match_bodies.specs.CodeSites.{body_plan}
use Rattle.match_bodies.specs.Setting.{HasProgram}
use Rattle.match_bodies.proofs.Places.StackTop.{leaf_layout}
use Rattle.match_bodies.proofs.Steps.BodyFrames.{owed_frame}
use Rattle.match_bodies.proofs.Walks.RoutineWalks.{StepsTo, Beneath}
use Rattle.match_bodies.proofs.Prologues.PlannedPrologues.{prologue_made}

-- so many instructions make a frame, those of `__chkstk` among them
abbrev pub making_steps : Bool → FramePlan → ℕ
making_steps true f = 0
making_steps false f = prologue_turns f

module _ (setting : Setting) where
  open setting use {functions as t, funclets as fs, program, plan as p, sites as q, image}

  module _ (name : BodyName) (b : LinearBody) (is : body_of program name ≡ Some b)
      (some : 0 < length b.code) where
    abbrev begin : ℕ
    begin = begin_of p q name

    abbrev frame : ℕ
    frame = (p.layout name).frame

    abbrev framing : FramePlan
    framing = body_plan p q name

    abbrev owed : Owed
    owed = owed_of p name

    module _ (top from back : ℕ) (others : List ℕ) (list : List StackItem) where
      pub record FrameMade (n : ℕ) (e u : State) : Type 0 where
        pub keeps : AllKeep t fs n e
        pub beneath : Beneath t u owed top from back others list
        pub has : HasProgram setting u.memory
        pub rip : u.cpu.rip ≡ begin + making_size p q name
        pub stack : register u.cpu Rsp + frame ≡ top

      -- ---- a leaf function has none

      leaf_made : (e u : State) → e.cpu.rip ≡ begin → register e.cpu Rsp ≡ top
          → Beneath t e nothing_owed top from back others list → HasProgram setting e.memory
          → p.leaf name ≡ true → StepsTo 0 e u → FrameMade 0 e u
      leaf_made e u at_begin at_top beneath has leaf r =
          let none = (leaf_layout t fs program p q name b leaf
          (image.laid_out name b is)).frame in
          let size : making_size p q name ≡ 0 = ap
          (λ l. sizes (frame_code framing l)) leaf in
          subst (FrameMade 0 e) r (record {
            keeps = tt;
            beneath = subst (λ l. Beneath t e (owed_by (frame_info p name) l) top from back others
                list) (sym leaf) beneath;
            has = has;
            rip = omega arith;
            stack = omega arith;
          })

      -- ---- any other body's is made by the prologue of its plan

      framed_made : (small : AllSmall others) (e u : State) → e.cpu.rip ≡ begin
          → Beneath t e nothing_owed top from back others list → HasProgram setting e.memory
          → frame ≤ top → p.leaf name ≡ false
          → StepsTo (prologue_turns framing) e u → FrameMade (prologue_turns framing) e u
      framed_made small e u at_begin beneath has room framed r =
          let high = beneath.above.high in
          let low : top < 2 ^ 63 = omega arith in
          let m = prologue_made setting name b is some top from back others list framed small
          low e u at_begin beneath has room r in
          let below = m.beneath in
          let whole = owed_frame setting name b is u.memory (context_of u.cpu) below.size back
          others below.owed in
          let at = below.at in
          record {
            keeps = m.keeps;
            beneath = below;
            has = m.has;
            rip = m.rip;
            stack = omega arith;
          }

      -- ---- whatever its size

      pub made_by : AllSmall others → (e u : State) → e.cpu.rip ≡ begin → register e.cpu Rsp ≡ top
          → Beneath t e nothing_owed top from back others list → HasProgram setting e.memory
          → frame ≤ top → (leaf : Bool) → p.leaf name ≡ leaf
          → StepsTo (making_steps leaf framing) e u → FrameMade (making_steps leaf framing) e u
      made_by small e u at_begin at_top beneath has room true leaf r =
          leaf_made e u at_begin at_top beneath has leaf r
      made_by small e u at_begin at_top beneath has room false framed r =
          framed_made small e u at_begin beneath has room framed r
