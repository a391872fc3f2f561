-- Instructions lead from states that fit to states that fit.
use Rattle.std.proofs.Common.{◌≡◌, ℕ, ◌+◌, ◌%◌, ◌^◌, Bool, true, false, cond, ◌||◌, ◌&&◌, eqb, [], ◌∷◌, Option, Some, None, refl, sym, ap, subst, ◌∙◌, arith, inl, inr}
use Rattle.std.proofs.lemmas.Bool.{cases_eq, or_cases, and_parts, eqb-true}
use Rattle.frame_rules.specs.Words.{Instr, State, registers, with_rip, is_nonvolatile}
use Rattle.frame_rules.specs.Body.{is_a_call}
use Rattle.frame_known.specs.Knowledge.{Known, Entry, Place, Nothing, Knowledge, Is, HasRegisters, Fits, with_known, unchanged}
use Rattle.frame_known.specs.After.{is_below, from_stack, registers_after, stored, store_of}
use Rattle.x64_instr.specs.Reading.{bit}
use Rattle.x64_lengths.specs.declared.effects.Effects.{Effects}
use Rattle.frame_known.specs.Measured.{Obeys, forgotten_by}
use Rattle.frame_known.specs.Laws.{EntryFits, LessFits, AfterFits, OthersFit, CallsFit, StepsOnce, stepped, StepsFit}
use Rattle.frame_known.proofs.Fitting.{is_same, with-same, with-other}
use Rattle.frame_known.proofs.Memories.{named_after, protection_after}
use Rattle.frame_known.proofs.Registers.{registers_are}
use Rattle.frame_known.proofs.Numbers.{numbers_stay}

-- what isn't below RSP
from_stack_named : (top : Known) (words : ℕ → Option ℕ) (j r : ℕ)
    → from_stack top words j ≡ Some r → words j ≡ Some r
from_stack_named top words j r h = go (is_below top j) h
  where
    go : (b : Bool) → cond b None (words j) ≡ Some r → words j ≡ Some r
    go true h = absurd cc
    go false h = h

pub after_fits : AfterFits
after_fits e s t known a x he n fits h sp =
    let u = with_rip s a in
    let hu : HasRegisters u = record {
      length = fits.numbers.length;
      bounded = fits.numbers.bounded;
    } in
    let words = named_after e u t known x he hu n fits.is fits.words h sp in
    record {
      numbers = numbers_stay s t a x fits.numbers h;
      protection = protection_after u t x n h ∙ fits.protection;
      is = registers_are e u t known x he hu n fits.is fits.words h;
      words = λ k r z. words.named k r (from_stack_named
          (registers_after x known 4) (stored known.words (store_of x known.registers)) k r z);
      back = words.back ∙ fits.back;
    }

measured_fits : (e s t : State) (known : Knowledge) (next : ℕ) (x : Effects) → Fits e s known
    → Obeys x s t next → (r : ℕ) → Is e (registers t r) (forgotten_by x.general known.registers r)
measured_fits e s t known next x fits o r = go (eqb (bit r x.general) 0) refl
  where
    go : (b : Bool) → eqb (bit r x.general) 0 ≡ b
        → Is e (registers t r) (cond b (known.registers r) Nothing)
    go true h = is_same e (registers s r) (registers t r) (known.registers r) (known.registers r)
        (o.kept r (eqb-true (bit r x.general) 0 h)) refl (fits.is r)
    go false h = tt

pub others_fit : OthersFit
others_fit e s t known next x fits o sp = record {
  numbers = o.numbers;
  protection = o.protection ∙ fits.protection;
  is = measured_fits e s t known next x fits o;
  words = λ k r z.
      let top = forgotten_by x.general known.registers 4 in
      let w = from_stack_named top known.words k r z in
      sp.words k r w ∙ fits.words k r w;
  back = sp.back ∙ fits.back;
}

pub calls_fit : CallsFit
calls_fit e s u known probe fits done sp = record {
  numbers = done.numbers;
  protection = done.protection ∙ fits.protection;
  is = λ r. go r (is_nonvolatile r || (probe && eqb r 0)) refl;
  words = λ k r z. let w = from_stack_named (known.registers 4) known.words k r z in
      sp.words k r w ∙ fits.words k r w;
  back = sp.back ∙ fits.back;
}
  where
    stays : (r : ℕ) → (is_nonvolatile r || (probe && eqb r 0)) ≡ true
        → registers u r ≡ registers s r
    stays r h = elim (or_cases (is_nonvolatile r) (probe && eqb r 0) h) [
      | inl nv ↦ done.kept r nv
      | inr p ↦
          let q = and_parts probe (eqb r 0) p in
          let z = eqb-true r 0 q.1 in
          ap (registers u) z ∙ done.rax q.0 ∙ ap (registers s) (sym z)
    ]

    go : (r : ℕ) (b : Bool) → (is_nonvolatile r || (probe && eqb r 0)) ≡ b
        → Is e (registers u r) (cond b (known.registers r) Nothing)
    go r true h = is_same e (registers s r) (registers u r) (known.registers r) (known.registers r)
        (stays r h) refl (fits.is r)
    go r false h = tt

pub entry_fits : EntryFits
entry_fits e he = record {
  numbers = he;
  protection = refl;
  is = λ r. elim (cases_eq r 4) [
    | inl same ↦ is_same e (registers e 4) (registers e r) (Place 0)
        (with_known unchanged 4 (Place 0) r)
        (ap (registers e) same) (with-same unchanged 4 r (Place 0) same)
        (let b = he.bounded 4 in
        let z : registers e 4 ≡ (registers e 4 + 0) % 2 ^ 64 = omega arith in z)
    | inr other ↦ is_same e (registers e r) (registers e r) (unchanged r)
        (with_known unchanged 4 (Place 0) r) refl
        (with-other unchanged 4 r (Place 0) other) (same_there r (is_nonvolatile r))
  ];
  words = λ k r z. absurd cc;
  back = refl;
}
  where
    same_there : (r : ℕ) (b : Bool) → Is e (registers e r) (cond b (Entry r) Nothing)
    same_there r true = refl
    same_there r false = tt

pub less_fits : LessFits
less_fits e s known less fits h = record {
  numbers = fits.numbers;
  protection = fits.protection;
  is = λ r. elim (h.registers r) [
    | inl none ↦ is_same e (registers s r) (registers s r) Nothing (less.registers r) refl none tt
    | inr same ↦ is_same e (registers s r) (registers s r) (known.registers r) (less.registers r)
        refl same (fits.is r)
  ];
  words = λ k r z. elim (h.words k) [
    | inl none ↦ absurd cc
    | inr same ↦ fits.words k r (sym same ∙ z)
  ];
  back = fits.back;
}

steps_once : (e s u : State) (known : Knowledge) (x : Instr) (b : Bool) → is_a_call x ≡ b
    → HasRegisters e → Fits e s known → StepsOnce b e s known x u → Fits e u (stepped b x known)
steps_once e s u known x true n he fits h = calls_fit e s u known false fits h.0 h.1
steps_once e s u known x false n he fits h = after_fits e s u known h.0 x he n fits h.1 h.2

pub steps_fit : StepsFit
steps_fit e s t known [] he fits h = subst (λ (u : State). Fits e u known) h fits
steps_fit e s t known (x ∷ xs) he fits h = steps_fit e h.0 t (stepped (is_a_call x) x known) xs he
    (steps_once e s h.0 known x (is_a_call x) refl he fits h.1) h.2
