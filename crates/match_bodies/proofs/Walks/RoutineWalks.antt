-- Code that runs below its routine's return address, and what a walk gives there.
use Rattle.std.proofs.Common.{◌≡◌, ℕ, zero, suc, ◌+◌, ◌%◌, ◌^◌, ◌<◌, ◌≤◌, Bool, true, false, List, [], ◌∷◌, ◌++◌, length, Option, Some, None, Ok, refl, sym, ap, subst, ◌∙◌, arith, inl, inr}
use Rattle.std.specs.Prelude.{◌⊎◌, slice_index}
use Rattle.std.proofs.lemmas.Bool.{cases_lt}
use Rattle.match_bodies.specs.Words.{W64, Rax, is_volatile, Protection, is_writable, Memory, executable, may_read, may_write, first_refused, number_at, with_bytes, access, Reg, Rsp, Instr, leading, chosen, is_encodable, Context, context_of, State, register, with_rip, effect, rsp, Functions, word, readable, Funclet, LinearProgram, spelled, size, sizes, keep_register, Steps, Reaches, ReachesInside, Enters, HasCode, StackItem, IsStack, Owned, context_below, state, ImagePlan, is_call, GivesCallers, WalkGives, AllKeep, Sites, HasProgram, caller_left, HasCaller, FindsOwed, Owed, IsOwed, Agree, calls}
use Rattle.match_bodies.proofs.Lemmas.{longest, bytes_kept, outside_page, bytes_split, spells, reads, kept_by_other_stores, nothing_below_is_owned, past_frame, straight, keep_first}
use Rattle.x64_instr.specs.Registers.{number}
use Rattle.x64_instr.specs.declared.operand.Operand.{Operand}
use Rattle.x64_instr.specs.declared.operand.RegisterOrMemory.TheVariants as places
use Rattle.x64_instr.specs.declared.instruction.Instr.TheVariants as instrs
use Rattle.x64_machine.specs.Effect.{step}
use Rattle.x64_templates.specs.Locals.{is_of_local}
use Rattle.virtual_unwind.proofs.Registers.{get-context}
use Rattle.frame_rules.proofs.Undoing.{saved_register}
use Rattle.match_bodies.proofs.Keeping.ChainKeeping.{inside_steps}
use Rattle.match_bodies.proofs.Walks.StackWalks.{callers, on_stack}
use Rattle.match_bodies.proofs.Steps.InstructionEffects.{others_of, is_idle, idle_leaves, idle_calls_nothing, fills, store_leaves}
use Rattle.match_stack.specs.Stack.{AreAbove, IsSavedAt}
use Rattle.match_stack.proofs.FrameWords.{saved_low}
use Rattle.match_bodies.proofs.Walks.OwedCallers.{owed_with, owed_in, owed_high, IsOwn, owed_beside}
use Rattle.match_bodies.proofs.Walks.SilentTurns.{program_kept}

-- ---- the instruction at RIP is run

module _ (s u : State) (i : Instr) (more : List Instr) (enc : is_encodable i ≡ true)
    (code : HasCode s.memory s.cpu.rip (i ∷ more)) where
  pub read_here : leading (executable s.memory 15 s.cpu.rip) ≡ Some (i, length (chosen i))
  unfolding size
  read_here =
      let l = code.placed.low in
      let h = code.placed.high in
      reads s i (chosen i) (spells i enc) (longest i)
      (bytes_split s.memory s.cpu.rip (chosen i) (spelled more) code.is_there).0
      (record { low = l; high = omega arith })

  pub effect_here : step s ≡ Ok u → effect (with_rip s (s.cpu.rip + size i)) i ≡ Ok u
  unfolding step size
  effect_here e =
      let l = code.placed.low in
      let h = code.placed.high in
      let next : (s.cpu.rip + length (chosen i)) % 2 ^ 64
      ≡ s.cpu.rip + length (chosen i) = omega arith in
      let stepped : step s ≡ effect (with_rip s (s.cpu.rip + length (chosen i))) i = rw
      (outside_page s.cpu.rip l, read_here, next) refl in
      sym stepped ∙ e

  -- what follows it is still there
  pub code_next : Steps s u → u.cpu.rip ≡ s.cpu.rip + size i → HasCode u.memory u.cpu.rip more
  unfolding size
  code_next st at =
      let l = code.placed.low in
      let h = code.placed.high in
      let next = s.cpu.rip + length (chosen i) in
      subst (λ a. HasCode u.memory a more) (sym at)
      (record {
        is_there = bytes_kept s.memory u.memory next (spelled more) st.fixed st.protection
            (bytes_split s.memory s.cpu.rip (chosen i) (spelled more) code.is_there).1;
        placed = record { low = omega arith; high = omega arith };
      })

-- ---- steps one after another

abbrev pub StepsTo : ℕ → State → State → Type 0
StepsTo zero s w = s ≡ w
StepsTo (suc n) s w = (u : State) × Steps s u × StepsTo n u w

pub reaches_steps : (n : ℕ) (s w : State) → Reaches n s w → StepsTo n s w
reaches_steps zero s w r = r
reaches_steps (suc n) s w r = (r.0, r.1.steps, reaches_steps n r.0 w r.2)

steps_inside : (from to n : ℕ) (s w : State) → ReachesInside from to n s w → StepsTo n s w
steps_inside from to zero s w r = r
steps_inside from to (suc n) s w r =
    (r.0, inside_steps from to s r.0 r.1, steps_inside from to n r.0 w r.2)

pub enters_steps : (from to n : ℕ) (s w : State) → Enters from to n s w → StepsTo n s w
enters_steps from to zero s w r = r
enters_steps from to (suc n) s w r = (r.0, r.1, steps_inside from to n r.0 w r.2)

-- where the first of them lead
pub steps_split : (m n : ℕ) (s w : State) → StepsTo (m + n) s w
    → (u : State) × StepsTo m s u × StepsTo n u w
steps_split zero n s w r = (
  s,
  refl,
  subst (λ k. StepsTo k s w)
      (let z : 0 + n ≡ n = omega arith in z) r,
)
steps_split (suc m) n s w r =
    let z : suc m + n ≡ suc (m + n) = omega arith in
    let r' = subst (λ k. StepsTo k s w) z r in
    let x = steps_split m n r'.0 w r'.2 in
    (x.0, (r'.0, r'.1, x.1), x.2)

pub keeps_split : (t : Functions) (fs : List Funclet) (m n : ℕ) (s u : State) → StepsTo m s u
    → AllKeep t fs m s → AllKeep t fs n u → AllKeep t fs (m + n) s
keeps_split t fs zero n s u r before after = subst (λ k. AllKeep t fs k s)
    (let z : n ≡ 0 + n = omega arith in z) (subst (AllKeep t fs n) (sym r) after)
keeps_split t fs (suc m) n s u r before after =
    let e : suc (m + n) ≡ suc m + n = omega arith in
    let first = before r.0 r.1.steps in
    subst (λ k. AllKeep t fs k s) e (keep_first t fs (m + n) s r.0 r.1.steps first.0
    (keeps_split t fs m n r.0 u r.2 first.1 after))

-- ---- words

-- a word that is read has its number
pub word_number : (m : Memory) (at v : ℕ) → word m at ≡ Ok v → number_at m.byte 8 at ≡ v
word_number m at v e = by (first_refused (may_read m) 8 at) e
  where
    by : (o : Option ℕ) → readable at (access false o (number_at m.byte 8 at)) ≡ Ok v
        → number_at m.byte 8 at ≡ v
    by None is = cc
    by (Some a) is = absurd cc

-- ---- below a return address

-- the context of a state, by its parts
pub context_is : (s : State) (rip sp : ℕ) (others : List ℕ) → s.cpu.rip ≡ rip
    → register s.cpu Rsp ≡ sp → others_of s.cpu.registers ≡ others
    → context_of s.cpu ≡ context_below rip sp others
context_is s rip sp others a b c = λ i. context_below (a i) (b i) (c i)

pub kept_same : (s u : State) → register u.cpu Rsp ≡ register s.cpu Rsp
    → others_of u.cpu.registers ≡ others_of s.cpu.registers
    → (context_of u.cpu).kept ≡ (context_of s.cpu).kept
kept_same s u stack others = λ i. stack i ∷ others i

module _ (t : Functions) where
  -- above a routine's return address is the list, for the registers that its caller has, and no
  -- byte below `from` is owned by it
  pub record ListAbove (m : Memory) (top from back : ℕ) (others : List ℕ) (is : List StackItem) :
      Type 0 where
    pub list : IsStack t m (context_below back (top + 8) others) is
    pub owned : (a : ℕ) → Owned (context_below back (top + 8) others) is a → from ≤ a
    pub past : top + 8 ≤ from
    pub high : top + 8 < 2 ^ 63
    pub limit : from < 2 ^ 63
    pub no_code : (a : ℕ) → may_write m a ≡ true → (m.protection a).execute ≡ false

  -- a routine runs below it, and these codes are still to be undone
  pub record Beneath (s : State) (o : Owed) (top from back : ℕ) (others : List ℕ)
      (is : List StackItem) : Type 0 where
    pub above : ListAbove s.memory top from back others is
    pub count : length s.cpu.registers ≡ 16
    pub size : ℕ
    pub at : register s.cpu Rsp + size ≡ top
    pub owed : IsOwed s.memory (context_of s.cpu) o size back others

  fixed_code : (m : Memory) (a : ℕ) (b : Bool) → may_write m a ≡ b
      → ((a : ℕ) → may_write m a ≡ true → (m.protection a).execute ≡ false)
      → (m.protection a).execute ≡ true → may_write m a ≡ false
  fixed_code m a true w alone e = let z : true ≡ false = sym e ∙ alone a w in absurd cc
  fixed_code m a false w alone e = w

  -- a step that leaves what is above leaves the list
  pub above_stays : (s u : State) (top from back : ℕ) (others : List ℕ) (is : List StackItem)
      → Steps s u → ((a : ℕ) → from ≤ a → u.memory.byte a ≡ s.memory.byte a)
      → ListAbove s.memory top from back others is → ListAbove u.memory top from back others is
  above_stays s u top from back others is st stays b =
      let m : Memory = with_bytes s.memory u.memory.byte in
      let is_m : m ≡ u.memory = ap (λ (f : ℕ → Protection).
      let x : Memory = record { protection = f; byte = u.memory.byte } in x)
      (sym st.protection) in
      let agree : Agree s.memory u.memory.byte
      (Owned (context_below back (top + 8) others) is) = record {
        code = λ a e. st.fixed a (fixed_code s.memory a (may_write s.memory a) refl b.no_code e);
        owned = λ a o. stays a (b.owned a o);
      } in
      record {
        list = subst (λ (x : Memory). IsStack t x (context_below back (top + 8) others) is) is_m
            (kept_by_other_stores t s.memory u.memory.byte (context_below back (top + 8) others) is
            agree b.list);
        owned = b.owned;
        past = b.past;
        high = b.high;
        limit = b.limit;
        no_code = λ a w. ap (λ (f : ℕ → Protection). (f a).execute) st.protection
            ∙ b.no_code a (ap (λ (f : ℕ → Protection). is_writable (f a).rights) (sym st.protection)
            ∙ w);
      }

  -- bytes that a step leaves
  abbrev pub Stays : State → State → Owed → ℕ → Type 0
  Stays s u o from = (a : ℕ)
      → (IsSavedAt (register s.cpu Rsp) (register s.cpu Rsp) o.codes a) ⊎ (from ≤ a)
      → u.memory.byte a ≡ s.memory.byte a

  pub beneath_stays : (s u : State) (o : Owed) (top from back : ℕ) (others : List ℕ)
      (is : List StackItem) → Steps s u → register u.cpu Rsp ≡ register s.cpu Rsp
      → others_of u.cpu.registers ≡ others_of s.cpu.registers → Stays s u o from
      → Beneath s o top from back others is → Beneath u o top from back others is
  beneath_stays s u o top from back others is st stack same stays b = record {
    above = above_stays s u top from back others is st (λ a le. stays a (inr le)) b.above;
    count = st.count ∙ b.count;
    size = b.size;
    at = ap (λ x. x + b.size) stack ∙ b.at;
    owed = owed_with u.memory (context_of s.cpu) (context_of u.cpu) o b.size back others
        (kept_same s u stack same)
        (owed_in s.memory u.memory (context_of s.cpu) o b.size back others st.protection
        (λ a w. stays a (inl w)) b.owed);
  }

  -- the callers there
  abbrev pub callers_above : (top back : ℕ) → List ℕ → List StackItem → List Context
  callers_above top back others is = context_below back (top + 8) others
      ∷ callers (context_below back (top + 8) others) is

  -- a walk gives them, where it finds the caller by the codes that are still to be undone
  pub gives_owed : (m : Memory) (c : Context) (o : Owed) (size top back : ℕ) (others : List ℕ)
      (is : List StackItem) → FindsOwed t m c.rip o → IsOwed m c o size back others
      → rsp c + size ≡ top → IsStack t m (context_below back (top + 8) others) is
      → GivesCallers t m (state c 0) (callers_above top back others is)
  gives_owed m c o size top back others is finds owed at list =
      let above = context_below back (top + 8) others in
      let same : caller_left c size back others
      ≡ above = ap (λ n. context_below back (n + 8) others) at in
      let k = subst (HasCaller t m c) same (finds c size back others refl owed) in
      subst (λ x. GivesCallers t m (state c 0) (x ∷ callers above is)) k.context
      (past_frame t m (state c 0) k.frame (state above 0) (callers above is) k.visits
      (on_stack t m above 0 is list))

  pub gives_above : (s : State) (o : Owed) (top from back : ℕ) (others : List ℕ)
      (is : List StackItem) → Beneath s o top from back others is
      → FindsOwed t s.memory s.cpu.rip o → WalkGives t s (callers_above top back others is)
  gives_above s o top from back others is b finds =
      gives_owed s.memory (context_of s.cpu) o b.size top back others is finds b.owed b.at
      b.above.list

-- ---- straight code

-- a register is kept in a slot of a routine's own frame, or in the home space above its return
-- address; d: from RSP up to the end of the slots, whole: up to the return address, e: from there
-- up to the end of what it may write
pub record IsKept (d whole e : ℕ) (i : Instr) : Type 0 where
  pub kept : Reg
  pub offset : ℕ
  pub is : i ≡ keep_register kept offset
  pub inside : (offset + 8 ≤ d) ⊎ ((whole + 8 ≤ offset) × (offset + 8 ≤ whole + e))

-- that, or volatile registers alone are written
abbrev pub IsPlain : (d whole e : ℕ) → Instr → Type 0
IsPlain d whole e i = (is_encodable i ≡ true) × ((is_idle i ≡ true) ⊎ IsKept d whole e i)

abbrev pub AllPlain : (d whole e : ℕ) → List Instr → Type 0
AllPlain d whole e [] = Unit {0}
AllPlain d whole e (i ∷ is) = IsPlain d whole e i × AllPlain d whole e is

-- or a register of a local is written, which the codes save
pub record IsFilled (o : Owed) (i : Instr) : Type 0 where
  pub filled : Reg
  pub from : Operand
  pub is : i ≡ instrs.Move W64 (places.Register filled) from
  pub own : IsOwn o filled

abbrev pub IsSteady : Owed → (d whole e : ℕ) → Instr → Type 0
IsSteady o d whole e i =
    (is_encodable i ≡ true) × (((is_idle i ≡ true) ⊎ IsKept d whole e i) ⊎ IsFilled o i)

abbrev pub AllSteady : Owed → (d whole e : ℕ) → List Instr → Type 0
AllSteady o d whole e [] = Unit {0}
AllSteady o d whole e (i ∷ is) = IsSteady o d whole e i × AllSteady o d whole e is

-- plain code is steady whatever the codes save
pub plain_steady : (o : Owed) (d whole e : ℕ) (code : List Instr) → AllPlain d whole e code
    → AllSteady o d whole e code
plain_steady o d whole e [] h = tt
plain_steady o d whole e (i ∷ is) h = ((h.0.0, inl h.0.1), plain_steady o d whole e is h.1)

steady_calls_nothing : (o : Owed) (d whole e : ℕ) (i : Instr)
    → ((is_idle i ≡ true) ⊎ IsKept d whole e i) ⊎ IsFilled o i → calls i ≡ false
steady_calls_nothing o d whole e i (inl (inl q)) = idle_calls_nothing i q
steady_calls_nothing o d whole e i (inl (inr k)) = ap calls k.is
steady_calls_nothing o d whole e i (inr f) = ap calls f.is

local_or_volatile : (r : Reg) → is_of_local r ≡ true → is_volatile r ≡ true → ⊥
local_or_volatile Rax e v = absurd cc
local_or_volatile r e v = absurd cc

other_place : (r q : Reg) (from : Operand) (k : ℕ)
    → instrs.Move W64 (places.Register r) from ≡ keep_register q k → ⊥
other_place r q from k e = absurd cc

-- such an instruction isn't plain
filled_or_plain : (o : Owed) (d whole e : ℕ) (i : Instr) → IsFilled o i → IsPlain d whole e i → ⊥
filled_or_plain o d whole e i f p = elim p.1 [
  | inl idle ↦ local_or_volatile f.filled f.own.local (subst (λ j. is_idle j ≡ true) f.is idle)
  | inr k ↦ other_place f.filled k.kept f.from k.offset (sym f.is ∙ k.is)
]

module _ (t : Functions) (fs : List Funclet) (program : LinearProgram) (p : ImagePlan) (q : Sites)
  where
    module _ (o : Owed) (top from back : ℕ) (others : List ℕ) (is : List StackItem) where
      -- after an instruction that isn't a jump
      pub record Moved (d whole e : ℕ) (s u : State) (i : Instr) : Type 0 where
        pub beneath : Beneath t u o top from back others is
        pub rip : u.cpu.rip ≡ s.cpu.rip + size i
        pub stack : register u.cpu Rsp ≡ register s.cpu Rsp
        pub keeps_others : IsPlain d whole e i
            → others_of u.cpu.registers ≡ others_of s.cpu.registers

      -- the words of the codes are so far above RSP at least
      abbrev pub AreBeyond : State → ℕ → Type 0
      AreBeyond s d = AreAbove (register s.cpu Rsp + d) (register s.cpu Rsp) (register s.cpu Rsp)
          o.codes

      pub steady_step : (s u : State) (d whole e : ℕ) (i : Instr) (more : List Instr)
          → IsSteady o d whole e i → HasCode s.memory s.cpu.rip (i ∷ more) → Steps s u
          → Beneath t s o top from back others is
          → register s.cpu Rsp + whole ≡ top → from ≡ top + e → d ≤ whole → AreBeyond s d
          → Moved d whole e s u i
      steady_step s u d whole e i more steady code st b at up within far =
          let effect' = effect_here s u i more steady.0 code st.steps in
          by steady.1 effect'
        where
          a : State
          a = with_rip s (s.cpu.rip + size i)

          by : ((is_idle i ≡ true) ⊎ IsKept d whole e i) ⊎ IsFilled o i → effect a i ≡ Ok u
              → Moved d whole e s u i
          by (inl (inl idle)) ef =
              let l = idle_leaves a u i idle ef in
              record {
                beneath = beneath_stays t s u o top from back others is st l.stack l.others
                    (λ x w. ap (λ (m : Memory). m.byte x) l.memory) b;
                rip = l.rip;
                stack = l.stack;
                keeps_others = λ p. l.others;
              }
          by (inl (inr k)) ef =
              let high = b.above.limit in
              let sp = register s.cpu Rsp in
              let size_is = b.at in
              let inside = k.inside in
              let l = store_leaves a u k.offset k.kept
              (elim inside [ inl x ↦ omega arith | inr x ↦ (let z = x.1 in omega arith) ])
              (subst (λ j. effect a j ≡ Ok u) k.is ef) in
              let stack : register u.cpu Rsp ≡ sp = ap (λ (r : List ℕ). slice_index r 4)
              l.registers in
              record {
                beneath = beneath_stays t s u o top from back others is st stack
                    (ap others_of l.registers)
                    (λ x w. l.beside x (elim w [
                      | inl own ↦
                          (let low = saved_low (sp + d) sp sp o.codes x far own in
                          let most = owed_high s.memory (context_of s.cpu) o b.size back others
                          b.owed x own in
                          elim inside [
                            | inl z ↦ inr (omega arith)
                            | inr z ↦ (let z0 = z.0 in inl (omega arith))
                          ])
                      | inr above ↦
                          inr (elim inside [
                            | inl z ↦ omega arith
                            | inr z ↦ (let z1 = z.1 in omega arith)
                          ])
                    ]))
                    b;
                rip = l.rip;
                stack = stack;
                keeps_others = λ p. ap others_of l.registers;
              }
          by (inr f) ef =
              let l = fills a u f.filled f.from (subst (λ j. effect a j ≡ Ok u) f.is ef) in
              let r = f.filled in
              let other = (saved_register o.register (number r) o.codes b.owed.allowed
              f.own.saved).1 in
              let stack : register u.cpu Rsp ≡ register s.cpu Rsp = l.beside 4 (λ z. other (sym z))
              in
              let byte : (x : ℕ) → u.memory.byte x ≡ s.memory.byte x =
              λ x. ap (λ (m : Memory). m.byte x) l.memory in
              record {
                beneath = record {
                  above = above_stays t s u top from back others is st (λ x le. byte x) b.above;
                  count = st.count ∙ b.count;
                  size = b.size;
                  at = ap (λ x. x + b.size) stack ∙ b.at;
                  owed = owed_beside u.memory (context_of s.cpu) (context_of u.cpu) o b.size back
                      others r f.own refl stack
                      (λ k nv ne. get-context u.cpu k nv ∙ l.beside k ne
                      ∙ sym (get-context s.cpu k nv))
                      (owed_in s.memory u.memory (context_of s.cpu) o b.size back others
                      st.protection (λ x w. byte x) b.owed);
                };
                rip = l.rip;
                stack = stack;
                keeps_others = λ p. absurd (filled_or_plain o d whole e i f p);
              }

      -- where straight code comes to
      pub record Ran (d whole e : ℕ) (s w : State) (code : List Instr) : Type 0 where
        pub keeps : AllKeep t fs (length code) s
        pub beneath : Beneath t w o top from back others is
        pub has : HasProgram t fs program p q w.memory
        pub rip : w.cpu.rip ≡ s.cpu.rip + sizes code
        pub stack : register w.cpu Rsp ≡ register s.cpu Rsp
        pub keeps_others : AllPlain d whole e code
            → others_of w.cpu.registers ≡ others_of s.cpu.registers

      -- a walk finds the caller at each of its instructions
      abbrev pub Finds : ℕ → List Instr → Type 0
      Finds rip code = (done left : List Instr) → code ≡ done ++ left → (m : Memory)
          → HasProgram t fs program p q m → FindsOwed t m (rip + sizes done) o

      pub ran : (code : List Instr) (s w : State) (d whole e : ℕ) → StepsTo (length code) s w
          → AllSteady o d whole e code → HasCode s.memory s.cpu.rip code
          → HasProgram t fs program p q s.memory
          → Beneath t s o top from back others is
          → register s.cpu Rsp + whole ≡ top → from ≡ top + e → d ≤ whole → AreBeyond s d
          → Finds s.cpu.rip code → Ran d whole e s w code
      ran [] s w d whole e r steady code has b at up within far finds =
          subst (λ (x : State). Ran d whole e s x []) r (record {
            keeps = tt;
            beneath = b;
            has = has;
            rip = (let z : s.cpu.rip ≡ s.cpu.rip + 0 = omega arith in z);
            stack = refl;
            keeps_others = λ p. refl;
          })
      ran (i ∷ code) s w d whole e r steady code' has b at up within far finds =
          let u = r.0 in
          let st = r.1 in
          let first = steady_step s u d whole e i code steady.0 code' st b at up within far in
          let has' = program_kept t fs program p q s.memory u.memory
          (record { protection = st.protection; fixed = st.fixed }) has in
          let at' : register u.cpu Rsp + whole ≡ top = omega (arith, first.stack) in
          let z : s.cpu.rip + 0 ≡ s.cpu.rip = omega arith in
          let next : s.cpu.rip + (size i + 0) ≡ u.cpu.rip = omega (arith, first.rip) in
          let before = gives_above t s o top from back others is b
          (subst (λ a. FindsOwed t s.memory a o) z (finds [] (i ∷ code) refl s.memory has)) in
          let after = gives_above t u o top from back others is first.beneath
          (subst (λ a. FindsOwed t u.memory a o) next (finds (i ∷ []) code refl u.memory has')) in
          let quiet = ap is_call (read_here s u i code steady.0.0 code')
          ∙ steady_calls_nothing o d whole e i steady.0.1 in
          let keep = straight t fs s u (callers_above t top back others is) st.steps quiet before
          after (let h : register u.cpu Rsp + 8 ≤ top + 8 = omega arith in h) in
          let finds' : Finds u.cpu.rip code = λ done left parts m h.
          (let same : s.cpu.rip + (size i + sizes done)
          ≡ u.cpu.rip + sizes done = omega (arith, first.rip) in
          subst (λ a. FindsOwed t m a o) same
          (finds (i ∷ done) left (ap (λ (xs : List Instr). i ∷ xs) parts) m h)) in
          let rest = ran code u w d whole e r.2 steady.1 (code_next s u i code steady.0.0 code' st
          first.rip)
          has' first.beneath at' up within
          (subst (λ x. AreAbove (x + d) x x o.codes) (sym first.stack) far) finds' in
          record {
            keeps = keep_first t fs (length code) s u st.steps keep rest.keeps;
            beneath = rest.beneath;
            has = rest.has;
            rip = rest.rip ∙ (let same : u.cpu.rip + sizes code
                ≡ s.cpu.rip + (size i + sizes code) = omega (arith, first.rip) in same);
            stack = rest.stack ∙ first.stack;
            keeps_others = λ p. rest.keeps_others p.1 ∙ first.keeps_others p.0;
          }

-- ---- where a list is above a return address

pub beneath_by : (t : Functions) (s : State) (o : Owed) (size top back : ℕ) (others : List ℕ)
    (is : List StackItem) → length s.cpu.registers ≡ 16 → register s.cpu Rsp + size ≡ top
    → IsOwed s.memory (context_of s.cpu) o size back others
    → IsStack t s.memory (context_below back (top + 8) others) is → top + 8 < 2 ^ 62
    → ((a : ℕ) → may_write s.memory a ≡ true → (s.memory.protection a).execute ≡ false)
    → Beneath t s o top (top + 8) back others is
beneath_by t s o size top back others is count at owed list high no_code = record {
  above = record {
    list = list;
    owned = λ a w. elim (cases_lt a (top + 8)) [
      | inl lt ↦ absurd
          (nothing_below_is_owned t s.memory (context_below back (top + 8) others) is a list lt w)
      | inr ge ↦ ge
    ];
    past = (let z : top + 8 ≤ top + 8 = omega arith in z);
    high = omega arith;
    limit = omega arith;
    no_code = no_code;
  };
  count = count;
  size = size;
  at = at;
  owed = owed;
}
