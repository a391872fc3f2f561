-- What a chain of steps keeps.
use Rattle.std.proofs.Common.{◌≡◌, ℕ, zero, suc, ◌^◌, ◌<◌, false, List, [], ◌∷◌, length, refl, ap, subst, ◌∙◌, arith, inl, inr}
use Rattle.match_bodies.specs.Words.{Protection, is_writable, may_write, State, Steps, Reaches, RunsInside, ReachesInside, Enters, IsWellFormed, AllSmall, AreSmall}
use Rattle.match_bodies.proofs.Lemmas.{step_keeps_vectored}

-- protections, bytes that may not be written, and the host's list of handlers; and registers are as
-- many, and small
pub record Keeps (s u : State) : Type 0 where
  pub protection : u.memory.protection ≡ s.memory.protection
  pub fixed : (a : ℕ) → may_write s.memory a ≡ false → u.memory.byte a ≡ s.memory.byte a
  pub count : length u.cpu.registers ≡ length s.cpu.registers
  pub small : AreSmall s.cpu.registers → AreSmall u.cpu.registers
  pub handlers : u.vectored ≡ s.vectored

pub keeps_nothing : (s u : State) → s ≡ u → Keeps s u
keeps_nothing s u e = subst (Keeps s) e (record
    { protection = refl; fixed = λ a f. refl; count = refl; small = λ h. h; handlers = refl })

pub keeps_then : (s t u : State) → Keeps s t → Keeps t u → Keeps s u
keeps_then s t u a b = record {
  protection = b.protection ∙ a.protection;
  fixed = λ x f. b.fixed x (ap (λ (g : ℕ → Protection). is_writable (g x).rights) a.protection ∙ f)
      ∙ a.fixed x f;
  count = b.count ∙ a.count;
  small = λ h. b.small (a.small h);
  handlers = b.handlers ∙ a.handlers;
}

pub step_keeps : (s u : State) → Steps s u → Keeps s u
step_keeps s u r = record {
  protection = r.protection;
  fixed = r.fixed;
  count = r.count;
  small = r.small;
  handlers = step_keeps_vectored s u r.steps;
}

pub reaches_keeps : (n : ℕ) (s u : State) → Reaches n s u → Keeps s u
reaches_keeps zero s u r = keeps_nothing s u r
reaches_keeps (suc n) s u r = keeps_then s r.0 u (step_keeps s r.0 r.1.steps)
    (reaches_keeps n r.0 u r.2)

-- inside a prologue too
pub inside_steps : (from to : ℕ) (s u : State) → RunsInside from to s u → Steps s u
inside_steps from to s u r = elim r [ inl x ↦ x.steps | inr x ↦ x.0 ]

inside_keeps : (from to n : ℕ) (s u : State) → ReachesInside from to n s u → Keeps s u
inside_keeps from to zero s u r = keeps_nothing s u r
inside_keeps from to (suc n) s u r = keeps_then s r.0 u
    (step_keeps s r.0 (inside_steps from to s r.0 r.1)) (inside_keeps from to n r.0 u r.2)

pub enters_keeps : (from to n : ℕ) (s u : State) → Enters from to n s u → Keeps s u
enters_keeps from to zero s u r = keeps_nothing s u r
enters_keeps from to (suc n) s u r = keeps_then s r.0 u (step_keeps s r.0 r.1)
    (inside_keeps from to n r.0 u r.2)

-- ---- registers

pub all_are : (rs : List ℕ) → AllSmall rs → AreSmall rs
all_are [] h = tt
all_are (r ∷ rs) h = (h 0 (omega arith), all_are rs (λ j lt. h (suc j) (omega arith)))

pub are_all : (rs : List ℕ) → AreSmall rs → AllSmall rs
are_all [] h j lt = absurd (omega arith)
are_all (r ∷ rs) h zero lt = h.0
are_all (r ∷ rs) h (suc j) lt = are_all rs h.1 j (omega arith)

pub stays_well_formed : {handlers : List ℕ} (s u : State) → Keeps s u → u.cpu.rip < 2 ^ 64
    → IsWellFormed handlers s → IsWellFormed handlers u
stays_well_formed s u k lt h = record {
  rip_small = lt;
  count = k.count ∙ h.count;
  small = are_all u.cpu.registers (k.small (all_are s.cpu.registers h.small));
  listed = k.handlers ∙ h.listed;
}
