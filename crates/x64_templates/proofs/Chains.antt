-- A run over code that is placed at RIP passes its instructions one after another.
use Rattle.std.proofs.Common.{◌≡◌, ℕ, zero, suc, ◌+◌, ◌%◌, ◌^◌, true, List, [], ◌∷◌, ◌++◌, length, Some, Ok, refl, ap, sym, subst, ◌∙◌, arith, append_assoc, inl, inr}
use Rattle.std.specs.Prelude.{◌⊎◌}
use Rattle.x64_templates.specs.Words.{executable, Instr, leading, chosen, is_encodable, kept_of, State, Answer, with_rip, effect, size, sizes, spelled, Runs, Reaches, HasCode, keeps_registers, stores_nothing, StoresNothing, Flows, StoresOnce}
use Rattle.x64_templates.proofs.Lemmas.{longest, sizes_append}
use Rattle.x64_machine.specs.Effect.{step}
use Rattle.x64_templates.specs.Chains.{AllTurns, IsInside, IsTurnOf}
use Rattle.x64_templates.proofs.PlacedCode.{Encodable, outside_page, bytes_split, bytes_kept, spells, reads}
use Rattle.x64_templates.proofs.Keeping.{keeps, calls_nothing}

-- ---- one step

-- an instruction that is placed at RIP is read, and its effect is the step
pub record Decoded (s : State) (i : Instr) : Type 0 where
  pub read : leading (executable s.memory 15 s.cpu.rip) ≡ Some (i, size i)
  pub does : step s ≡ effect (with_rip s (s.cpu.rip + size i)) i

pub decoded : (s : State) (i : Instr) (rest : List Instr) → is_encodable i ≡ true
    → HasCode s.memory s.cpu.rip (i ∷ rest) → Decoded s i
unfolding step size
decoded s i rest spelling h =
    let low = h.placed.low in
    let high = h.placed.high in
    let parts = bytes_split s.memory s.cpu.rip (chosen i) (spelled rest) h.is_there in
    let r = reads s i (chosen i) (spells i spelling) (longest i) parts.0
    (record { low = low; high = omega arith }) in
    let rip : (s.cpu.rip + length (chosen i)) % 2 ^ 64
    ≡ s.cpu.rip + length (chosen i) = omega arith in
    record { read = r; does = rw (outside_page s.cpu.rip low, r, rip) refl }

-- the code that is left is there after the step
rest_is_at : (s u : State) (i : Instr) (rest : List Instr) → Runs s u
    → HasCode s.memory s.cpu.rip (i ∷ rest) → HasCode u.memory (s.cpu.rip + size i) rest
unfolding size
rest_is_at s u i rest r h =
    let low = h.placed.low in
    let high = h.placed.high in
    let parts = bytes_split s.memory s.cpu.rip (chosen i) (spelled rest) h.is_there in
    record {
      is_there = bytes_kept s.memory u.memory (s.cpu.rip + size i) (spelled rest)
          r.steps.fixed r.steps.protection parts.1;
      placed = record { low = omega arith; high = omega arith };
    }

same_state : (u v : State) → ◌≡◌ {A = Answer State} (Ok u) (Ok v) → u ≡ v
same_state u v e = cc

-- one step after another
pub turns_first : (Turn : State → State → Type 0) (n : ℕ) (s u : State) → step s ≡ Ok u → Turn s u
    → AllTurns Turn n u → AllTurns Turn (suc n) s
turns_first Turn n s u e one rest = λ v f. subst (λ (x : State). Turn s x × AllTurns Turn n x)
    (same_state u v (sym e ∙ f)) (one, rest)

-- ---- the effects of code that keeps registers

-- what a step leaves where an instruction that keeps registers is next
record Stepped (i : Instr) (s u : State) : Type 0 where
  pub read : leading (executable s.memory 15 s.cpu.rip) ≡ Some (i, size i)
  pub rip : u.cpu.rip ≡ s.cpu.rip + size i
  pub registers : kept_of u.cpu.registers ≡ kept_of s.cpu.registers
  pub memory : stores_nothing i ≡ true → u.memory ≡ s.memory

stepped : (i : Instr) (rest : List Instr) (s u : State) → is_encodable i ≡ true
    → keeps_registers i ≡ true → HasCode s.memory s.cpu.rip (i ∷ rest) → step s ≡ Ok u
    → Stepped i s u
stepped i rest s u spelling keep code e =
    let d = decoded s i rest spelling code in
    let k = keeps i (with_rip s (s.cpu.rip + size i)) u keep (sym d.does ∙ e) in
    record { read = d.read; rip = k.rip; registers = k.registers; memory = k.memory }

pub next_code : (i : Instr) (rest : List Instr) (s u : State) → Runs s u
    → u.cpu.rip ≡ s.cpu.rip + size i → HasCode s.memory s.cpu.rip (i ∷ rest)
    → HasCode u.memory u.cpu.rip rest
next_code i rest s u r e code = subst (λ a. HasCode u.memory a rest) (sym e)
    (rest_is_at s u i rest r code)

-- nothing is stored up to the end
memory_stays : (is : List Instr) (u w : State) → Encodable is → StoresNothing is
    → HasCode u.memory u.cpu.rip is → Reaches (length is) u w → u.memory ≡ w.memory
memory_stays [] u w spelling keep code r = ap (λ (x : State). x.memory) r
memory_stays (i ∷ is) u w spelling keep code r =
    let x = stepped i is u r.0 spelling.0 keep.0 code r.1.steps.steps in
    sym (x.memory keep.1) ∙ memory_stays is r.0 w spelling.1 keep.2
    (next_code i is u r.0 r.1 x.rip code) r.2

-- ---- every turn

module _ (Turn : State → State → Type 0) (code : List Instr) (s w : State)
    (each : (u v : State) → IsTurnOf code s w u v → Turn u v) where
  -- before something is stored memory is that of the begin, and after it that of the end
  Memories : List Instr → State → Type 0
  Memories left u = ((u.memory ≡ s.memory) × StoresOnce left)
      ⊎ ((u.memory ≡ w.memory) × StoresNothing left)

  either : (left : List Instr) (u : State) → Memories left u
      → (u.memory ≡ s.memory) ⊎ (u.memory ≡ w.memory)
  unfolding Memories
  either left u (inl m) = inl m.0
  either left u (inr m) = inr m.0

  -- the state before some of the instructions
  record At (done left : List Instr) (u : State) : Type 0 where
    parts : code ≡ done ++ left
    rip : u.cpu.rip ≡ s.cpu.rip + sizes done
    registers : kept_of u.cpu.registers ≡ kept_of s.cpu.registers
    spelling : Encodable left
    memory : Memories left u
    is_there : HasCode u.memory u.cpu.rip left

  inside : (done : List Instr) (i : Instr) (left : List Instr) (u : State) → At done (i ∷ left) u
      → IsInside code s w u
  inside done i left u at = record {
    done = done;
    item = i;
    left = left;
    parts = at.parts;
    rip = at.rip;
    registers = at.registers;
    memory = either (i ∷ left) u at.memory;
  }

  after : (done : List Instr) (i j : Instr) (is : List Instr) (u v : State)
      → keeps_registers i ≡ true → At done (i ∷ j ∷ is) u → Runs u v → Reaches (length (j ∷ is)) v w
      → At (done ++ (i ∷ [])) (j ∷ is) v
  unfolding Memories
  after done i j is u v keep at r rest =
      let x = stepped i (j ∷ is) u v at.spelling.0 keep at.is_there r.steps.steps in
      let there = next_code i (j ∷ is) u v r x.rip at.is_there in
      let a = at.rip in
      let b = x.rip in
      record {
        parts = at.parts ∙ sym (append_assoc done (i ∷ []) (j ∷ is));
        rip = omega (arith, sizes_append done (i ∷ []));
        registers = x.registers ∙ at.registers;
        spelling = at.spelling.1;
        memory = elim at.memory [
          | inl m ↦ elim m.1 [
            | inl k ↦ inl (x.memory k.0 ∙ m.0, k.1)
            | inr k ↦ inr (memory_stays (j ∷ is) v w at.spelling.1 k there rest, k)
          ]
          | inr m ↦ inr (x.memory m.1.1 ∙ m.0, m.1.2)
        ];
        is_there = there;
      }

  go : (done left : List Instr) (u : State) → Flows left → At done left u
      → Reaches (length left) u w → AllTurns Turn (length left) u
  go done [] u flow at r = tt
  go done (i ∷ []) u flow at r =
      let d = decoded u i [] at.spelling.0 at.is_there in
      turns_first Turn 0 u r.0 r.1.steps.steps
      (each u r.0 (record {
        steps = r.1.steps.steps;
        instruction = i;
        read = d.read;
        no_call = flow;
        from = inside done i [] u at;
        to = inr r.2;
      })) tt
  go done (i ∷ j ∷ is) u flow at r =
      let d = decoded u i (j ∷ is) at.spelling.0 at.is_there in
      let next = after done i j is u r.0 flow.0 at r.1 r.2 in
      turns_first Turn (length (j ∷ is)) u r.0 r.1.steps.steps
      (each u r.0 (record {
        steps = r.1.steps.steps;
        instruction = i;
        read = d.read;
        no_call = calls_nothing i flow.0;
        from = inside done i (j ∷ is) u at;
        to = inl (inside (done ++ (i ∷ [])) j is r.0 next);
      }))
      (go (done ++ (i ∷ [])) (j ∷ is) r.0 flow.1 next r.2)

  -- every step of a run over code that flows, and that stores once at most
  pub all_turns : Encodable code → Flows code → StoresOnce code → HasCode s.memory s.cpu.rip code
      → Reaches (length code) s w → AllTurns Turn (length code) s
  unfolding Memories
  all_turns spelling flow once is_there r =
      go [] code s flow (record {
        parts = refl;
        rip = omega arith;
        registers = refl;
        spelling = spelling;
        memory = inl (refl, once);
        is_there = is_there;
      }) r

-- ---- runs one after another

-- the rest of a run, past where its begin leads
pub rest_of : (m n k : ℕ) (s t w : State) → k ≡ m + n → Reaches m s t → Reaches k s w
    → Reaches n t w
rest_of zero n k s t w e a r =
    let z : k ≡ n = omega arith in
    subst (λ (x : State). Reaches n x w) a (subst (λ j. Reaches j s w) z r)
rest_of (suc m) n zero s t w e a r = absurd (omega arith)
rest_of (suc m) n (suc k) s t w e a r =
    let same : r.0 ≡ a.0 = same_state r.0 a.0 (sym r.1.steps.steps ∙ a.1.steps.steps) in
    rest_of m n k a.0 t w (omega arith) a.2 (subst (λ (x : State). Reaches k x w) same r.2)
