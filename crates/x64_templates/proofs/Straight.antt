-- Instructions in memory are run one after another.
use Rattle.x64_templates.proofs.Lemmas.{sizes_append, longest}
use Rattle.std.proofs.Common.{◌≡◌, ◌≢◌, ℕ, suc, ◌+◌, ◌≤◌, false, List, [], ◌∷◌, ◌++◌, length, Ok, Err, refl, sym, ap, subst, ◌∙◌, arith}
use Rattle.x64_templates.specs.Words.{Protection, is_writable, Memory, may_write, Instr, chosen, Flags, ◌>>=◌, State, Answer, with_rip, effect, IsCodeAt, IsPlaced, spelled, Reaches, AllStraight, takes_frame, NoneTakesFrame, effects, MachineView, machine, Executes, size, sizes, Steps}
use Rattle.x64_templates.proofs.PlacedCode.{bytes_kept, Encodable, bytes_split, spells, reads, steps, no_turns, one_turn, reaches_then}
use Rattle.x64_templates.proofs.Leaves.{Left, leaves, bound}
use Rattle.x64_templates.proofs.Registers.{registers_stay}

-- ---- runs

-- what a stretch of instructions comes to
pub record Ran (n : ℕ) (s t : State) : Type 0 where
  pub comes : Reaches n s t
  pub left : Left s.memory t

pub live : (a to : ℕ) → IsPlaced a to → a ≢ 0
live a to p z = let l = p.low in absurd (omega arith)

pub nothing_left : (s : State) → Left s.memory s
nothing_left s = record { protection = refl; byte = λ a fix. refl }

pub still_fixed : (m : Memory) (t : State) (a : ℕ) → Left m t → may_write m a ≡ false
    → may_write t.memory a ≡ false
still_fixed m t a l fix = ap (λ (f : ℕ → Protection). is_writable (f a).rights) l.protection ∙ fix

pub left_then : (m : Memory) (t u : State) → Left m t → Left t.memory u → Left m u
left_then m t u a b = record {
  protection = b.protection ∙ a.protection;
  byte = λ x fix. b.byte x (still_fixed m t x a fix) ∙ a.byte x fix;
}

pub ran_then : (m n : ℕ) (s t u : State) → Ran m s t → Ran n t u → Ran (m + n) s u
ran_then m n s t u a b = record {
  comes = reaches_then m n s t u a.comes b.comes;
  left = left_then s.memory t u a.left b.left;
}

-- one instruction, of whatever kind
pub one_steps : (i : Instr) (s t : State) → Encodable (i ∷ [])
    → IsCodeAt s.memory s.cpu.rip (chosen i) → IsPlaced s.cpu.rip (s.cpu.rip + size i)
    → effect (with_rip s (s.cpu.rip + size i)) i ≡ Ok t → Steps s t
unfolding size
one_steps i s t enc is_there placed e =
    let l = leaves i (with_rip s (s.cpu.rip + length (chosen i))) t e in
    let r = registers_stay i (with_rip s (s.cpu.rip + length (chosen i))) t e in
    record {
      live = live s.cpu.rip (s.cpu.rip + length (chosen i)) placed;
      rip_small = let h = placed.high in omega arith;
      steps = steps s t i (chosen i) (spells i enc.0) (longest i) is_there placed e;
      protection = l.left.protection;
      fixed = λ a fix. l.left.byte a fix;
      count = r.count;
      small = r.small;
    }

pub one_runs : (i : Instr) (s t : State) → Encodable (i ∷ []) → takes_frame i ≡ false
    → IsCodeAt s.memory s.cpu.rip (chosen i) → IsPlaced s.cpu.rip (s.cpu.rip + size i)
    → effect (with_rip s (s.cpu.rip + size i)) i ≡ Ok t → Ran 1 s t
unfolding size
one_runs i s t enc inside is_there placed e = record {
  comes = one_turn s t (record {
    steps = one_steps i s t enc is_there placed e;
    instruction = i;
    bytes = length (chosen i);
    read = reads s i (chosen i) (spells i enc.0) (longest i) is_there placed;
    inside = inside;
  });
  left = let l = leaves i (with_rip s (s.cpu.rip + length (chosen i))) t e in
      record { protection = l.left.protection; byte = l.left.byte };
}

within : (a n b c : ℕ) → IsPlaced a (a + n) → b + c ≤ n → IsPlaced (a + b) (a + b + c)
within a n b c p le = let l = p.low in let h = p.high in
    record { low = omega arith; high = omega arith }

-- where a stretch of straight instructions has come, and how
pub record Went (is : List Instr) (s t : State) : Type 0 where
  pub ran : Ran (length is) s t
  pub rip : t.cpu.rip ≡ s.cpu.rip + sizes is

went_nowhere : (s t : State) → s ≡ t → Went [] s t
went_nowhere s t e = subst (Went [] s) e (record {
  ran = record { comes = no_turns s s refl; left = nothing_left s };
  rip = let z : s.cpu.rip ≡ s.cpu.rip + 0 = omega arith in z;
})

next_rip : (a b c n m : ℕ) → b ≡ a + n → c ≡ b + m → c ≡ a + (n + m)
next_rip a b c n m p q = omega arith

pub straight_runs : (is : List Instr) (s t : State) → Encodable is → AllStraight is
    → NoneTakesFrame is → IsCodeAt s.memory s.cpu.rip (spelled is)
    → IsPlaced s.cpu.rip (s.cpu.rip + sizes is) → effects is s ≡ Ok t → Went is s t
unfolding effects size
straight_runs [] s t enc str inside is_there placed e = went_nowhere s t (let f : s ≡ t = cc in f)
straight_runs (i ∷ is) s t enc str inside is_there placed e =
    let next = s.cpu.rip + length (chosen i) in
    let b = bound (effect (with_rip s next) i) (effects is) t e in
    let l = leaves i (with_rip s next) b.0 b.1 in
    let parts = bytes_split s.memory s.cpu.rip (chosen i) (spelled is) is_there in
    let first = one_runs i s b.0 (enc.0, tt) inside.0 parts.0
    (let q : IsPlaced (s.cpu.rip + 0) (s.cpu.rip + 0 + length (chosen i)) = within s.cpu.rip
    (length (chosen i) + sizes is) 0 (length (chosen i)) placed
    (let le : 0 + length (chosen i) ≤ length (chosen i) + sizes is = omega arith in le) in
    let z : s.cpu.rip + 0 ≡ s.cpu.rip = omega arith in
    subst (λ a. IsPlaced a (a + length (chosen i))) z q) b.1 in
    let at : b.0.cpu.rip ≡ next = l.rip str.0 in
    let there = bytes_kept s.memory b.0.memory next (spelled is) (λ a fix. first.left.byte a fix)
    first.left.protection parts.1 in
    let rest = straight_runs is b.0 t enc.1 str.1 inside.1
    (subst (λ a. IsCodeAt b.0.memory a (spelled is)) (sym at) there)
    (subst (λ a. IsPlaced a (a + sizes is)) (sym at)
    (within s.cpu.rip (length (chosen i) + sizes is) (length (chosen i)) (sizes is) placed
    (let le : length (chosen i) + sizes is ≤ length (chosen i) + sizes is = omega arith in le)))
    b.2 in
    record {
      ran = subst (λ n. Ran n s t) (let one : 1 + length is ≡ suc (length is) = omega arith in one)
          (ran_then 1 (length is) s b.0 t first rest.ran);
      rip = next_rip s.cpu.rip b.0.cpu.rip t.cpu.rip (length (chosen i)) (sizes is) at rest.rip;
    }

-- ---- effects of lists

bind_assoc : {A B C : Type 0} (x : Answer A) (f : A → Answer B) (g : B → Answer C)
    → (x >>= λ a. f a >>= g) ≡ ((x >>= f) >>= g)
bind_assoc (Ok a) f g = refl
bind_assoc (Err e) f g = refl

bind_same : {A B : Type 0} (x : Answer A) (f g : A → Answer B) → ((a : A) → f a ≡ g a)
    → (x >>= f) ≡ (x >>= g)
bind_same (Ok a) f g h = h a
bind_same (Err e) f g h = refl

pub effects_append : (is js : List Instr) (s : State)
    → effects (is ++ js) s ≡ (effects is s >>= effects js)
unfolding effects
effects_append [] js s = refl
effects_append (i ∷ is) js s =
    let x = effect (with_rip s (s.cpu.rip + size i)) i in
    bind_same x (effects (is ++ js)) (λ u. effects is u >>= effects js)
    (λ u. effects_append is js u) ∙ bind_assoc x (effects is) (effects js)

-- ---- views

pub executes_nothing : (v : MachineView) → Executes [] v v
unfolding effects
executes_nothing v rip f = (
  f,
  ap (λ (a : ℕ). Ok (machine v a f))
      (let z : rip ≡ rip + 0 = omega arith in z),
)

pub executes_one : (i : Instr) (v w : MachineView)
    → ((rip : ℕ) (f : Flags) → (g : Flags) × (effect (machine v rip f) i ≡ Ok (machine w rip g)))
    → Executes (i ∷ []) v w
unfolding effects
executes_one i v w h rip f =
    let r = h (rip + size i) f in (
      r.0,
      ap (λ (x : Answer State). x >>= effects []) r.1
          ∙ ap (λ (a : ℕ). Ok (machine w a r.0)) (let z : rip + size i
          ≡ rip + (size i + 0) = omega arith in z),
    )

pub executes_then : (is js : List Instr) (u v w : MachineView) → Executes is u v → Executes js v w
    → Executes (is ++ js) u w
executes_then is js u v w p q rip f =
    let a = p rip f in
    let b = q (rip + sizes is) a.0 in (
      b.0,
      effects_append is js (machine u rip f) ∙ ap (λ (x : Answer State). x >>= effects js) a.1
          ∙ b.1 ∙ ap (λ (r : ℕ). Ok (machine w r b.0))
          (let z : rip + sizes is + sizes js ≡ rip
          + sizes (is ++ js) = omega (arith, sizes_append is js) in z),
    )
