-- From a routine's first byte on the shadow is kept, while its frame is made and its arguments are
-- stored.
use Rattle.std.proofs.Common.{◌≡◌, ℕ, zero, suc, ◌+◌, ◌*◌, ◌^◌, ◌<◌, ◌≤◌, Bool, true, false, Option, Some, None, List, [], ◌∷◌, ◌++◌, length, refl, sym, ap, subst, ◌∙◌, arith, inl, inr, append_assoc}
use Rattle.std.specs.Prelude.{◌⊎◌, nat_lt, if◌then◌else◌}
use Rattle.match_bodies.specs.Words.{Reg, Rax, Rsp, Instr, State, register, AllSmall, Functions, Funclet, LinearProgram, LinearBody, BodyName, body_of, Layout, sizes, fetched, local_at, keep_register, HasCode, StackItem, ImagePlan, AllKeep, Sites, begin_of, making_size, HasProgram, IsProgramImage, FindsOwed, nothing_owed, owed_of, setting_of, Rdx, temporary_at, parameter_register, stack_parameter, parameter_code, parameters_code, passing_code, place_of, Place, InRegister, InFrame, Arriving, parameter_placed, W64, Owed}
use Rattle.template_code.specs.Calls.{arguments_code}
use Rattle.template_code.specs.Operations.{move}
use Rattle.x64_instr.specs.declared.operand.Operand.TheVariants as operands
use Rattle.match_bodies.proofs.Lemmas.{code_split, near}
use Rattle.match_bodies.specs.CodeSites as sites
use Rattle.match_bodies.proofs.Walks.RoutineWalks.{StepsTo, steps_split, keeps_split, Beneath, IsPlain, AllPlain, AllSteady, plain_steady, Finds, ran}
use Rattle.match_bodies.proofs.Steps.InstructionEffects.{above_rsp}
use Rattle.match_bodies.proofs.Walks.OwedCallers.{IsOwn}
use Rattle.match_bodies.proofs.Walks.ReturnAddresses.{argument_found}
use Rattle.match_bodies.proofs.Steps.BodyFrames.{codes_above, slots_within}
use Rattle.match_bodies.proofs.Prologues.PlannedPrologues.{frame_there}
use Rattle.match_bodies.proofs.Prologues.FrameMaking.{making_steps, made_by}

-- ---- what entries and calls are made of

pub plain_both : (d whole e : ℕ) (a b : List Instr) → AllPlain d whole e a → AllPlain d whole e b
    → AllPlain d whole e (a ++ b)
plain_both d whole e [] b p q = q
plain_both d whole e (i ∷ a) b p q = (p.0, plain_both d whole e a b p.1 q)

pub kept_plain : (d whole e : ℕ) (r : Reg) (k : ℕ) → k < 2 ^ 31
    → (k + 8 ≤ d) ⊎ ((whole + 8 ≤ k) × (k + 8 ≤ whole + e)) → IsPlain d whole e (keep_register r k)
kept_plain d whole e r k lt inside = (
  near k lt,
  inr
      (record { kept = r; offset = k; is = refl; inside = inside }),
)

pub fetched_plain : (d whole e : ℕ) (base : Reg) (k : ℕ) → k < 2 ^ 31
    → IsPlain d whole e (fetched Rax base k)
fetched_plain d whole e base k lt = (near k lt, inl refl)

-- the four registers of arguments
pub arguments_plain : (d whole e : ℕ) (y : Layout) (first : ℕ) → temporary_at y (first + 3) < 2 ^ 31
    → AllPlain d whole e (arguments_code y first)
arguments_plain d whole e y first lt = (
  (near (temporary_at y first) (omega arith), inl refl),
  (
    (near (temporary_at y (first + 1)) (omega arith), inl refl),
    (
      (near (temporary_at y (first + 2)) (omega arith), inl refl),
      ((near (temporary_at y (first + 3)) (omega arith), inl refl), tt),
    ),
  ),
)

-- those from the fifth on
pub passing_plain : (d whole e : ℕ) (y : Layout) (first i n : ℕ)
    → temporary_at y (first + i + n) < 2 ^ 31 → 8 * (i + n) ≤ d → d < 2 ^ 31 → AllPlain d whole e
    (passing_code y first i n)
passing_plain d whole e y first i zero lt le small = tt
passing_plain d whole e y first i (suc n) lt le small = (
  fetched_plain d whole e Rsp (temporary_at y (first + i)) (omega arith),
  (
    kept_plain d whole e Rax (8 * i) (omega arith) (inl (omega arith)),
    passing_plain d whole e y first (i + 1) n (omega arith) (omega arith) small,
  ),
)

pub steady_both : (o : Owed) (d whole e : ℕ) (a b : List Instr) → AllSteady o d whole e a
    → AllSteady o d whole e b → AllSteady o d whole e (a ++ b)
steady_both o d whole e [] b p q = q
steady_both o d whole e (i ∷ a) b p q = (p.0, steady_both o d whole e a b p.1 q)

-- a parameter that goes to the frame
framed_plain : (d whole e : ℕ) (y : Layout) (i : ℕ) (few : Bool) → local_at y i < 2 ^ 31
    → stack_parameter y i < 2 ^ 31 → (local_at y i + 8 ≤ d)
    ⊎ ((whole + 8 ≤ local_at y i) × (local_at y i + 8 ≤ whole + e))
    → AllPlain d whole e (if few then keep_register (parameter_register i) (local_at y i)
    ∷ [] else fetched Rax Rsp (stack_parameter y i) ∷ keep_register Rax (local_at y i) ∷ [])
framed_plain d whole e y i true lt lt' inside = (
  kept_plain d whole e (parameter_register i) (local_at y i)
      lt inside,
  tt,
)
framed_plain d whole e y i false lt lt' inside = (
  fetched_plain d whole e Rsp (stack_parameter y i) lt',
  (kept_plain d whole e Rax (local_at y i) lt inside, tt),
)

-- one that goes to a register
register_steady : (o : Owed) (d whole e : ℕ) (y : Layout) (i : ℕ) (r : Reg) (few : Bool)
    → stack_parameter y i < 2 ^ 31 → IsOwn o r
    → AllSteady o d whole e (if few then move W64 r (parameter_register i) ∷ []
    else fetched r Rsp (stack_parameter y i) ∷ [])
register_steady o d whole e y i r true lt own = (
  (
    refl,
    inr (record {
      filled = r;
      from = operands.Register (parameter_register i);
      is = refl;
      own = own;
    }),
  ),
  tt,
)
register_steady o d whole e y i r false lt own = (
  (
    near (stack_parameter y i) lt,
    inr (record {
      filled = r;
      from = operands.Memory (above_rsp (stack_parameter y i));
      is = refl;
      own = own;
    }),
  ),
  tt,
)

parameter_steady : (o : Owed) (d whole e : ℕ) (y : Layout) (i : ℕ) (place : Place)
    → ((r : Reg) → place ≡ InRegister r → IsOwn o r) → local_at y i < 2 ^ 31
    → stack_parameter y i < 2 ^ 31 → (local_at y i + 8 ≤ d)
    ⊎ ((whole + 8 ≤ local_at y i) × (local_at y i + 8 ≤ whole + e))
    → AllSteady o d whole e (parameter_placed y i place)
parameter_steady o d whole e y i (InRegister r) own lt lt' inside =
    register_steady o d whole e y i r (nat_lt i 4) lt' (own r refl)
parameter_steady o d whole e y i InFrame own lt lt' inside =
    plain_steady o d whole e (parameter_placed y i InFrame)
    (framed_plain d whole e y i (nat_lt i 4) lt lt' inside)
parameter_steady o d whole e y i Arriving own lt lt' inside = tt

-- parameters, where the codes save the registers to which some of them go
pub parameters_steady : (o : Owed) (d whole e : ℕ) (y : Layout) (i n : ℕ)
    → ((j : ℕ) (r : Reg) → place_of y j ≡ InRegister r → IsOwn o r) → local_at y (i + n) < 2 ^ 31
    → stack_parameter y (i + n) < 2 ^ 31
    → ((j : ℕ) → j < i + n → (local_at y j + 8 ≤ d)
    ⊎ ((whole + 8 ≤ local_at y j) × (local_at y j + 8 ≤ whole + e)))
    → AllSteady o d whole e (parameters_code y i n)
parameters_steady o d whole e y i zero own lt lt' inside = tt
parameters_steady o d whole e y i (suc n) own lt lt' inside =
    steady_both o d whole e (parameter_code y i) (parameters_code y (i + 1) n)
    (parameter_steady o d whole e y i (place_of y i) (own i) (omega arith) (omega arith)
    (inside i (omega arith)))
    (parameters_steady o d whole e y (i + 1) n own (omega arith) (omega arith)
    (λ j l. inside j (omega arith)))

-- where a funclet keeps its base
pub base_plain : (d whole e : ℕ) (parent : Option ℕ) (b : ℕ)
    → ((away : ℕ) → parent ≡ Some away → away < 2 ^ 31) → b + 8 ≤ d → d < 2 ^ 31
    → AllPlain d whole e (sites.keep_base parent b)
base_plain d whole e None b lt le small = (kept_plain d whole e Rdx b (omega arith) (inl le), tt)
base_plain d whole e (Some away) b lt le small = (
  fetched_plain d whole e Rdx away (lt away refl),
  (kept_plain d whole e Rax b (omega arith) (inl le), tt),
)

-- ---- a routine is entered

module _ (t : Functions) (fs : List Funclet) (program : LinearProgram) (p : ImagePlan) (q : Sites)
    (image : IsProgramImage t fs program p q) where
  module _ (name : BodyName) (b : LinearBody) (is : body_of program name ≡ Some b)
      (some : 0 < length b.code) (top from back : ℕ) (others : List ℕ) (list : List StackItem) where
    abbrev slots : ℕ
    slots = (p.layout name).slots

    abbrev frame : ℕ
    frame = (p.layout name).frame

    -- its frame is made, and these of its arguments are stored
    pub record EntryRan (n : ℕ) (e w : State) (stored : List Instr) : Type 0 where
      pub keeps : AllKeep t fs n e
      pub beneath : Beneath t w (owed_of p name) top from back others list
      pub has : HasProgram t fs program p q w.memory
      pub rip : w.cpu.rip ≡ begin_of p q name + making_size p q name + sizes stored
      pub stack : register w.cpu Rsp + frame ≡ top

    pub entry_ran : (n : ℕ) (e w : State) (a c : List Instr) (extra : ℕ)
        → sites.arguments_code program p name ≡ a ++ c
        → n ≡ making_steps (p.leaf name) (sites.body_plan p q name) + length a → StepsTo n e w
        → e.cpu.rip ≡ begin_of p q name → register e.cpu Rsp ≡ top
        → Beneath t e nothing_owed top from back others list → AllSmall others
        → HasProgram t fs program p q e.memory → frame ≤ top → from ≡ top + extra
        → AllSteady (owed_of p name) slots frame extra a → EntryRan n e w a
    entry_ran n e w a c extra parts count run here at_top beneath small has low up steady =
        let making = making_steps (p.leaf name) (sites.body_plan p q name) in
        let h = steps_split making (length a) e w (subst (λ k. StepsTo k e w) count run) in
        let u = h.0 in
        let m = made_by (setting_of t fs program p q image) name b is some top from back others list
        small e u here at_top beneath has low (p.leaf name) refl h.1 in
        let code = code_split u.memory (begin_of p q name + making_size p q name) a c
        (subst (HasCode u.memory (begin_of p q name + making_size p q name)) parts
        (frame_there (setting_of t fs program p q image) name b is some u.memory m.has).1) in
        let finds : Finds t fs program p q (owed_of p name) top from back others list u.cpu.rip a =
        λ done left split mem k.
        subst (λ x. FindsOwed t mem (x + sizes done) (owed_of p name)) (sym m.rip)
        (argument_found (setting_of t fs program p q image) name b is mem k some done (left ++ c)
        (parts ∙ ap (λ (xs : List Instr). xs ++ c) split ∙ append_assoc done left c)) in
        let r = ran t fs program p q (owed_of p name) top from back others list a u w slots frame
        extra h.2 steady (subst (λ x. HasCode u.memory x a) (sym m.rip) code.0) m.has m.beneath
        m.stack up (slots_within (setting_of t fs program p q image) name b is)
        (codes_above (setting_of t fs program p q image) name b is (register u.cpu Rsp)) finds in
        record {
          keeps = subst (λ k. AllKeep t fs k e) (sym count)
              (keeps_split t fs making (length a) e u h.1 m.keeps r.keeps);
          beneath = r.beneath;
          has = r.has;
          rip = r.rip ∙ ap (λ x. x + sizes a) m.rip;
          stack = ap (λ x. x + frame) r.stack ∙ m.stack;
        }
