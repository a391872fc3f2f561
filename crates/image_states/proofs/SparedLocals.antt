-- The funclets of a program name those locals of their functions that stand in frames.
use Rattle.std.proofs.Common.{◌≡◌, ℕ, zero, suc, ◌-◌, Bool, cond, List, [], ◌∷◌, ◌++◌, length, map, Option, Some, None, refl, sym, ap, ◌∙◌, arith}
use Rattle.std.specs.Prelude.{slice_get, nat_eq, replicate}
use Rattle.std.specs.List.{AllByRecursion, list_any}
use Rattle.std.proofs.lemmas.Bool.{or_parts, ne_eqb, eqb-false}
use Rattle.x64_instr.specs.declared.register.Reg.{Reg}
use Rattle.template_code.specs.declared.layout.Place.TheVariants.{InRegister, InFrame}
use Rattle.template_code.specs.declared.layout.TheConstants.{MOST_REGISTERS, LOCAL_REGISTERS}
use Rattle.template_code.specs.Places.{place_among, place_of, register_number, register_of}
use Rattle.linear_code.specs.declared.instruction.Instruction.TheVariants as instructions
use Rattle.lowering_invariants.specs.Registers.{SlotHas, SlotsHave, FlagHas, IsInFrame, SparesRegisters}
use Rattle.match_bodies.specs.BodyViews.{IsReached}
use Rattle.match_bodies.specs.ProgramImages.{NamesReached}
use Rattle.image_states.specs.Words.{LinearFunction, LinearFunclet, LinearProgram, Instruction, Slot, Local, Temporary, FuncletBody, FuncletKind, Filter, Finally, RoutineView, register_if, functions_of, funclets_of, plan_of, sites_of, HasWholeImage}
use Rattle.image_link.specs.Routines.{framed, is_leaf}
use Rattle.template_code.proofs.Places.{place_late}
use Rattle.image_states.proofs.Lemmas.{some_same}
use Rattle.image_states.proofs.Slots.{owner_framed}

-- ---- one that isn't among those in registers

spared_among : (xs : List ℕ) (k : ℕ) (rs : List Reg) (x : ℕ) → IsInFrame xs x
    → place_among (map Some xs ++ replicate k None) rs x ≡ InFrame
spared_among [] zero rs x h = refl
spared_among [] (suc k) rs x h = refl
spared_among (n ∷ ns) k [] x h = refl
spared_among (n ∷ ns) k (r ∷ rs) x h =
    let p = or_parts (nat_eq x n) (list_any (nat_eq x) ns) h in
    ap (λ (b : Bool). cond b (InRegister r) (place_among (map Some ns ++ replicate k None) rs x))
    (ne_eqb n x (λ e. eqb-false x n p.0 (sym e)))
    ∙ spared_among ns k rs x p.1

-- of a function with a frame
spared_place : (f : LinearFunction) (x : ℕ) → IsInFrame f.registers x
    → place_of (framed f).layout x ≡ InFrame
spared_place f x h =
    place_late (framed f).layout x (omega arith)
    ∙ spared_among f.registers (MOST_REGISTERS - length f.registers) LOCAL_REGISTERS x h

-- ---- so a funclet reaches what it names

module _ (L M : ℕ → Type 0) (more : (x : ℕ) → L x → M x) where
  slot_has : (s : Slot) → SlotHas L s → SlotHas M s
  slot_has (Local x) h = more x h
  slot_has (Temporary i) h = tt

  slots_have : (i : Instruction) → SlotsHave L i → SlotsHave M i
  slots_have (instructions.Compute to o first second) h =
      (slot_has to h.0, slot_has first h.1, slot_has second h.2)
  slots_have (instructions.Information to field) h = slot_has to h
  slots_have (instructions.JumpIfZero slot label) h = slot_has slot h
  slots_have (instructions.Landing to) h = slot_has to h
  slots_have (instructions.Return from) h = slot_has from h
  slots_have i h = tt

  code_has : (is : List Instruction) → AllByRecursion (SlotsHave L) is
      → AllByRecursion (SlotsHave M) is
  code_has [] h = tt
  code_has (i ∷ is) h = (slots_have i h.0, code_has is h.1)

  flag_has : (k : FuncletKind) → FlagHas L k → FlagHas M k
  flag_has Filter h = tt
  flag_has (Finally flag) h = more flag h

module _ (program : LinearProgram) (c : HasWholeImage program) (k : ℕ) (f : LinearFunclet)
    (is : slice_get program.funclets k ≡ Some f) where
  s : SparesRegisters program f
  s = c.spares k f is

  reached : (x : ℕ) → IsInFrame s.function.registers x
      → IsReached (plan_of program) (FuncletBody k) x
  reached x h =
      let sized = c.funclets k f is in
      let own : sized.function ≡ s.function = some_same (sym sized.there ∙ s.there) in
      let routine = owner_framed program c f.function s.function s.there
      (sym (ap is_leaf own) ∙ sized.framed) in
      ap (λ (o : Option LinearFunclet). register_if program o x) is
      ∙ ap (λ (r : RoutineView). register_of r.layout x) routine
      ∙ ap (register_number x) (spared_place s.function x h)

  pub spared : NamesReached (functions_of program) (funclets_of program) program (plan_of program)
      (sites_of program) k f
  spared = record {
    flag = flag_has (IsInFrame s.function.registers) (IsReached (plan_of program) (FuncletBody k))
        reached f.kind s.flag;
    code = code_has (IsInFrame s.function.registers) (IsReached (plan_of program) (FuncletBody k))
        reached f.body.code s.code;
  }
