-- Where a body begins an instruction, and where a funclet is called, the list is above the return
-- address.
use Rattle.std.proofs.Common.{◌≡◌, ℕ, ◌+◌, ◌^◌, ◌<◌, ◌≤◌, List, refl, sym, subst, arith}
use Rattle.match_turns.specs.Words.{STACK_END, Rsp, State, register, Item, Configuration, IsStack, context_below, Activation, context_of, nothing_owed, owed_of, Setting, RepresentsAt}
use Rattle.match_turns.proofs.Lemmas.{others_of, body_owed, returns_alone, Beneath, beneath_by, IsCounted, frame_top}
use Rattle.match_turns.proofs.Funclets.FuncletFrame.{ArrivesBelow}

module _ (setting : Setting) where
  open setting use {functions as t, funclets as fs, program, plan as p}

  module _ (s : State) (c : Configuration) (b : RepresentsAt setting s c)
      (counted : IsCounted setting c) where
    -- the return address of the body that runs
    abbrev pub top_of : ℕ
    top_of = register s.cpu Rsp + (p.layout c.frame.body).frame

    pub begins_beneath : Beneath t s (owed_of p c.frame.body) top_of (top_of + 8) b.body.back
        b.body.others b.body.is
    begins_beneath =
        let h = frame_top setting s c b counted in
        beneath_by t s (owed_of p c.frame.body) (p.layout c.frame.body).frame top_of b.body.back
        b.body.others b.body.is b.well_formed.count refl
        (body_owed setting s c b.body (omega arith)) b.body.below.is_there.stack (omega arith)
        b.memory.data_alone.no_code

  -- that of a funclet
  pub arrives_beneath : (s : State) (k activation first : ℕ) (items : List Item)
      (acts : List Activation) (a : ArrivesBelow t fs program p s k activation first items acts)
      → a.at ≤ STACK_END
      → Beneath t s nothing_owed (register s.cpu Rsp) (register s.cpu Rsp + 8) a.back
      (others_of s.cpu.registers) a.is
  arrives_beneath s k activation first items acts a high =
      let e = a.stack in
      let on = a.on in
      let flat : register s.cpu Rsp + 0 ≡ register s.cpu Rsp = omega arith in
      beneath_by t s nothing_owed 0 (register s.cpu Rsp) a.back (others_of s.cpu.registers) a.is
      a.well_formed.count flat
      (returns_alone s.memory (context_of s.cpu) a.back refl
      (let z : register s.cpu Rsp + 8 < 2 ^ 64 = omega arith in z) a.returns)
      (subst (λ n. IsStack t s.memory (context_below a.back n (others_of s.cpu.registers)) a.is)
      (sym e) on.is_there.stack) (omega arith) on.data_alone.no_code
