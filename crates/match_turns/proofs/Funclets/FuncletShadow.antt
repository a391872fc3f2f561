-- A funclet's frame is made and its arguments are stored, and the shadow is kept.
use Rattle.std.proofs.Common.{◌≡◌, ℕ, ◌+◌, ◌^◌, ◌<◌, ◌≤◌, Option, Some, None, List, ◌++◌, length, refl, sym, ap, ◌∙◌, arith}
use Rattle.match_turns.specs.Words.{STACK_START, STACK_END, Memory, Rsp, Instr, State, register, FuncletBody, funclet_body, Item, Activation, parent_base, keep_base, keep_argument, funclet_arguments, owed_of, Setting, IsMachineMemory}
use Rattle.match_bodies.specs.CodeSites.{arguments_code, body_plan}
use Rattle.x64_templates.specs.Prologues.{prologue_turns}
use Rattle.match_turns.proofs.Lemmas.{others_of, small_others, StepsTo, AllPlain, plain_steady, making_steps, EntryRan, entry_ran, base_plain}
use Rattle.match_turns.proofs.Funclets.FuncletPrologue.{LeadsBy}
use Rattle.match_turns.proofs.Funclets.FuncletFrame.{ArrivesBelow, IsPlanned}
use Rattle.match_turns.proofs.Calls.ReturnAddressPlace.{arrives_beneath}

-- the parent's base is near, where it is kept in a frame
pub near_parent : (m : Memory) (o : Option ℕ) (frame base : ℕ) → LeadsBy m o frame base → (away : ℕ)
    → o ≡ Some away → away < 2 ^ 31
near_parent m None frame base leads away e = absurd cc
near_parent m (Some x) frame base leads away e = let same : x ≡ away = cc in let n = leads.near in
    omega arith

module _ (setting : Setting) where
  open setting use {functions as t, funclets as fs, program, plan as p, sites as q, image}

  module _ (s : State) (k activation argument : ℕ) (items : List Item) (acts : List Activation)
      (l : IsPlanned setting k) (a : ArrivesBelow t fs program p s k activation argument
      items acts) (source : Memory) (memory : IsMachineMemory setting s.memory source)
      (some : 0 < length l.funclet.body.code) (low : STACK_START ≤ register s.cpu Rsp)
      (high : a.at ≤ STACK_END) (frame base : ℕ)
      (leads : LeadsBy s.memory (parent_base p l.funclet.parent) frame base) where
    abbrev pub base_code : List Instr
    base_code = keep_base (parent_base p l.funclet.parent) l.plan.layout.slot

    pub arguments_are : arguments_code program p (FuncletBody k)
        ≡ base_code ++ keep_argument (p.layout (FuncletBody k)) l.funclet.kind
    arguments_are =
        ap (λ o. funclet_arguments p (p.layout (FuncletBody k)) o) l.there
        ∙ ap (λ o. keep_base (parent_base p l.funclet.parent) (elim o [ Some b ↦ b | None ↦ 0 ])
        ++ keep_argument (p.layout (FuncletBody k)) l.funclet.kind) l.plan.layout.base

    pub base_is_plain : AllPlain (p.layout (FuncletBody k)).slots
        (p.layout (FuncletBody k)).frame 8 base_code
    base_is_plain =
        let x = l.plan.layout.small in
        let z = l.plan.layout.kept in
        let w = l.plan.layout.temporaries in
        let e = l.plan.layout.within in
        base_plain (p.layout (FuncletBody k)).slots (p.layout (FuncletBody k)).frame 8
        (parent_base p l.funclet.parent)
        l.plan.layout.slot (near_parent s.memory (parent_base p l.funclet.parent) frame base
        leads) (omega arith) (omega arith)

    pub funclet_ran : (n : ℕ) (w : State) (stored left : List Instr)
        → arguments_code program p (FuncletBody k) ≡ stored ++ left
        → n ≡ prologue_turns (body_plan p q (FuncletBody k)) + length stored → StepsTo n s w
        → AllPlain (p.layout (FuncletBody k)).slots (p.layout (FuncletBody k)).frame 8 stored
        → EntryRan t fs program p q image (FuncletBody k) l.funclet.body (ap funclet_body l.there)
        some (register s.cpu Rsp) (register s.cpu Rsp + 8) a.back (others_of s.cpu.registers) a.is
        n s w stored
    funclet_ran n w stored left parts count run plain =
        let small = l.plan.layout.small in
        let made : making_steps (p.leaf (FuncletBody k)) (body_plan p q (FuncletBody k))
        ≡ prologue_turns (body_plan p q (FuncletBody k)) =
        ap (λ leaf. making_steps leaf (body_plan p q (FuncletBody k))) l.plan.framed in
        entry_ran t fs program p q image (FuncletBody k) l.funclet.body (ap funclet_body l.there)
        some (register s.cpu Rsp) (register s.cpu Rsp + 8) a.back (others_of s.cpu.registers) a.is
        n s w stored left 8 parts
        (count ∙ ap (λ x. x + length stored) (sym made)) run a.rip refl
        (arrives_beneath setting s k activation argument items acts a high)
        (small_others s a.well_formed) memory.code (omega arith) refl
        (plain_steady (owed_of p (FuncletBody k)) (p.layout (FuncletBody k)).slots
        (p.layout (FuncletBody k)).frame 8 stored plain)
