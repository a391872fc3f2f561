-- A piece of a body's template keeps the shadow.
use Rattle.std.proofs.Common.{◌≡◌, ℕ, ◌+◌, ◌^◌, ◌<◌, Some, List, ◌∷◌, ◌++◌, length, get_or, refl, sym, ap, subst, ◌∙◌, arith, append_assoc}
use Rattle.std.specs.Prelude.{slice_get}
use Rattle.match_bodies.specs.Words.{Memory, Rsp, Instr, Context, kept_of, State, register, Instruction, LinearBody, BodyName, body_of, sizes, template, Reaches, HasCode, IsReturn, AllKeep, links_of, FindsOwed, owed_of, Setting, WalkGives}
use Rattle.match_bodies.proofs.Lemmas.{sizes_append, code_split, IsFlow}
use Rattle.match_bodies.proofs.Walks.ReturnAddresses.{within_found}
use Rattle.match_bodies.proofs.Places.LabelPlaces.{template_there}
use Rattle.match_bodies.proofs.Keeping.FlowKeeping.{IsBelow, below_both, from_state, flow_keeps}
use Rattle.match_bodies.specs.Setting.{HasProgram}

module _ (setting : Setting) (name : BodyName) (b : LinearBody) (label : ℕ) (i : Instruction)
    (there : body_of setting.program name ≡ Some b) (at : slice_get b.code label ≡ Some i) where
  open setting use {functions as t, funclets as fs, program, plan as p, sites as q}

  abbrev code_of : List Instr
  code_of = template (links_of p q name) (p.layout name) (p.address name label) i

  module _ (goes : IsReturn i → ⊥) (before code after : List Instr)
      (parts : code_of ≡ before ++ (code ++ after)) where
    -- a walk finds the return address at each of its instructions
    pub piece_finds : (m : Memory) (a : ℕ) (done left : List Instr) (item : Instr)
        → a ≡ p.address name label + sizes before → HasProgram setting m
        → code ≡ done ++ (item ∷ left) → FindsOwed t m (a + sizes done) (owed_of p name)
    piece_finds m a done left item e has split =
        let all = parts ∙ ap (λ (xs : List Instr). before ++ (xs ++ after)) split
        ∙ ap (λ (xs : List Instr). before ++ xs) (append_assoc done (item ∷ left) after)
        ∙ sym (append_assoc before done ((item ∷ left) ++ after)) in
        let here : p.address name label + sizes (before ++ done)
        ≡ a + sizes done = omega (arith, sizes_append before done) in
        subst (λ x. FindsOwed t m x (owed_of p name)) here
        (within_found setting name b there m has label i at goes (before ++ done) (left ++ after)
        item all)

    -- and its code is there
    pub piece_there : (m : Memory) → HasProgram setting m
        → HasCode m (p.address name label + sizes before) code
    piece_there m has =
        let all = subst (HasCode m (p.address name label)) parts
        (template_there setting name b there m has label i at) in
        (code_split m (p.address name label + sizes before) code after
        (code_split m (p.address name label) before (code ++ after) all).1).0

    -- a run over the piece, with RSP as it was and what lies above the frame in both memories, and
    -- to where a walk finds the return address too
    pub piece_keeps : (u w : State) (kept : List ℕ) (back : ℕ) (others : List ℕ)
        (cs : List Context) → IsFlow code → Reaches (length code) u w
        → u.cpu.rip ≡ p.address name label + sizes before → kept_of u.cpu.registers ≡ kept
        → register w.cpu Rsp ≡ get_or kept 0 0
        → get_or kept 0 0 + (p.layout name).frame + 8 < 2 ^ 64
        → IsBelow t fs program p q (owed_of p name) u.memory kept (p.layout name).frame back others
        cs
        → IsBelow t fs program p q (owed_of p name) w.memory (kept_of w.cpu.registers)
        (p.layout name).frame back others cs
        → FindsOwed t w.memory w.cpu.rip (owed_of p name) → AllKeep t fs (length code) u
    piece_keeps u w kept back others cs flow r here same_begin same_end room begin end finds =
        let size = (p.layout name).frame in
        let o = owed_of p name in
        let own = kept_of u.cpu.registers in
        let back_to = sym same_begin in
        let sp : register w.cpu Rsp ≡ register u.cpu Rsp =
        same_end ∙ ap (λ (ks : List ℕ). get_or ks 0 0) back_to in
        let enough : register u.cpu Rsp + size + 8
        < 2 ^ 64 = subst (λ (ks : List ℕ). get_or ks 0 0 + size + 8 < 2 ^ 64) back_to room in
        let first = subst (λ (ks : List ℕ). IsBelow t fs program p q o u.memory ks size back others
        cs) back_to begin in
        let last = below_both t fs program p q o u.memory w.memory own (kept_of w.cpu.registers)
        size back others cs sp first end in
        let gives = subst (λ n. let x : Context = record {
          rip = back;
          kept = (n + size + 8) ∷ others;
        } in WalkGives t w (x ∷ cs)) sp
        (from_state t fs program p q o w (kept_of w.cpu.registers) size back others cs finds refl
        end) in
        flow_keeps t fs program p q o code u w size back others cs enough
        (λ m done left item has split. piece_finds m u.cpu.rip done left item here has split)
        first last
        flow.spelling flow.flow flow.once (subst (λ a. HasCode u.memory a code) (sym here)
        (piece_there u.memory begin.program_there)) r gives (omega arith)
