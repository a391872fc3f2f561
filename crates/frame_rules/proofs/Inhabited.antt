-- The states of the body.
use Rattle.std.proofs.Common.{◌≡◌, ◌≢◌, ℕ, zero, suc, ◌+◌, ◌^◌, ◌<◌, ◌≤◌, Bool, true, false, cond, not, ◌&&◌, ◌||◌, eqb, List, [], ◌∷◌, ◌++◌, Option, Some, None, refl, sym, ap, subst, ◌∙◌, arith, inl, inr}
use Rattle.std.specs.Prelude.{◌⊎◌}
use Rattle.std.proofs.lemmas.Bool.{cases_eq, false≢true, and_parts, or_from, or_parts, or_cases, eqb-true, eqb-false, ne_eqb, not-true}
use Rattle.frame_rules.specs.Words.{W32, W64, Memory, next, first_refused, may_read, Rax, Rsp, Instr, number, State, with_rip, UnwindOperation, Push, Allocate, SetFrame, Save, SaveVector, MachineFrame, is_nonvolatile, FetchedInstr, is_saved, IsWord, Stack, bytes, does, is_stack, sets_size, subtracts, is_step, PrologueStep, items, ArePrologueSteps, written, is_a_call, has, may_write_all, registers, RunsThrough, KeepsWord, KeepsWords, is_other, writes, is_written, ops, BodyBegins, BodyContinues}
use Rattle.x64_instr.specs.declared.operand.RegisterOrMemory.TheVariants as places
use Rattle.x64_instr.specs.declared.operand.Operand.TheVariants as operands
use Rattle.x64_instr.specs.declared.instruction.Operation.TheVariants as computes
use Rattle.x64_instr.specs.declared.instruction.Instr.TheVariants as instrs
use Rattle.frame_rules.specs.Body.{may_write}
use Rattle.frame_rules.proofs.Prologues.{turn_plain, turn_call, size_plain, subtracts_plain, does_plain, large_of}
use Rattle.frame_rules.proofs.Writing.{writes_no_other}
use Rattle.frame_rules.proofs.EveryFrame.{following_running}

-- ---- words that may be read

cond_none : (b : Bool) (o : Option ℕ) (at : ℕ) → cond b o (Some at) ≡ None → (b ≡ true) × (o ≡ None)
cond_none true o at e = (refl, e)
cond_none false o at e = absurd cc

may_all : (may : ℕ → Bool) (n at : ℕ) → at + n ≤ 2 ^ 64 → first_refused may n at ≡ None → (a : ℕ)
    → at ≤ a → a < at + n → may a ≡ true
unfolding first_refused
may_all may zero at le e a p q = absurd (omega arith)
may_all may (suc n) at le e a p q =
    let h = cond_none (may at) (first_refused may n (next at)) at e in
    elim (cases_eq a at) [
      | inl same ↦ ap may same ∙ h.0
      | inr ne ↦
          let z : next at ≡ at + 1 = omega arith in
          may_all may n (at + 1) (omega arith) (sym (ap (first_refused may n) z) ∙ h.1) a
          (omega arith) (omega arith)
    ]

same_word : (m : Memory) (at v : ℕ) → IsWord m at v → KeepsWord m m at
same_word m at v w a p q = (may_all (may_read m) 8 at w.high w.readable a p q, refl)

same_words : (m : Memory) (old : ℕ → ℕ) (back base at : ℕ) (xs : List UnwindOperation)
    → Stack m old back base at xs → KeepsWords m m base at xs
same_words m old back base at [] s = same_word m at back s.1
same_words m old back base at (Push r ∷ xs) s =
    (same_word m at (old r) s.0, same_words m old back base (at + 8) xs s.1)
same_words m old back base at (Allocate k ∷ xs) s = same_words m old back base (at + k) xs s
same_words m old back base at (SetFrame ∷ xs) s = same_words m old back base at xs s
same_words m old back base at (Save r k ∷ xs)
    s = (same_word m (base + k) (old r) s.0, same_words m old back base at xs s.1)
same_words m old back base at (SaveVector r k ∷ xs) s = absurd s
same_words m old back base at (MachineFrame k ∷ xs) s = absurd s

-- ---- the registers that a prologue leaves

abbrev Still : ℕ → State → State → Type 0
Still f e s = (r : ℕ) → is_nonvolatile r ≡ true → r ≢ 4 → r ≢ f → registers s r ≡ registers e r

one_register : (k r : ℕ) → r ≢ k → has r (k ∷ []) ≡ false
one_register k r ne = or_from (eqb k r) false (ne_eqb k r (λ e. ne (sym e))) refl

does_writes : (f offset : ℕ) (op : UnwindOperation) (i : Instr) (r : ℕ) → does f offset op i ≡ true
    → r ≢ 4 → r ≢ f → has r (written i) ≡ false
does_writes f offset (Push k) (instrs.Push q) r d four fr = one_register 4 r four
does_writes f offset (Allocate k) (instrs.Arithmetic computes.Sub W64 (places.Register Rsp)
    (operands.Immediate v)) r d four fr = one_register 4 r four
does_writes f offset SetFrame (instrs.LoadAddress W64 to m) r d four fr = one_register (number to) r
    (λ e. fr (e ∙ eqb-true (number to) f (and_parts (eqb (number to) f) (is_stack offset m) d).0))
does_writes f offset (Save k n) (instrs.Move W64 (places.Memory m) (operands.Register q)) r d four
    fr =
    refl
does_writes f offset op i r d four fr = absurd (false≢true d)

does_no_call : (f offset : ℕ) (op : UnwindOperation) (i : Instr) → does f offset op i ≡ true
    → is_a_call i ≡ false
does_no_call f offset (Push r) (instrs.Call to) e = absurd (false≢true e)
does_no_call f offset (Allocate r) (instrs.Call to) e = absurd (false≢true e)
does_no_call f offset SetFrame (instrs.Call to) e = absurd (false≢true e)
does_no_call f offset (Save r k) (instrs.Call to) e = absurd (false≢true e)
does_no_call f offset (SaveVector r k) (instrs.Call to) e = absurd (false≢true e)
does_no_call f offset (MachineFrame k) (instrs.Call to) e = absurd (false≢true e)
does_no_call f offset op i e = refl

size_writes : (k : ℕ) (i : Instr) (r : ℕ) → sets_size k i ≡ true → is_nonvolatile r ≡ true
    → (is_a_call i ≡ false) × (has r (written i) ≡ false)
size_writes k (instrs.Move W32 (places.Register Rax) (operands.Immediate v)) r e nv =
    (refl, one_register 0 r (λ z. false≢true (ap is_nonvolatile (sym z) ∙ nv)))
size_writes k (instrs.Move W64 (places.Register Rax) (operands.Immediate v)) r e nv =
    (refl, one_register 0 r (λ z. false≢true (ap is_nonvolatile (sym z) ∙ nv)))
size_writes k i r e nv = absurd (false≢true e)

subtracts_writes : (i : Instr) (r : ℕ) → subtracts i ≡ true → r ≢ 4
    → (is_a_call i ≡ false) × (has r (written i) ≡ false)
subtracts_writes (instrs.Arithmetic computes.Sub W64 (places.Register Rsp) (operands.Register Rax))
    r e four =
    (refl, one_register 4 r four)
subtracts_writes i r e four = absurd (false≢true e)

-- after a step's instructions: the state, and the run of what follows them
record StillAfter (f : ℕ) (e t : State) (xs : List FetchedInstr) : Type 0 where
  to : State
  still : Still f e to
  runs : RunsThrough to xs t

still_items : (f offset : ℕ) (op : UnwindOperation) (its xs : List FetchedInstr) (e s t : State)
    → is_step f offset op its ≡ true → Still f e s → RunsThrough s (its ++ xs) t
    → StillAfter f e t xs
still_items f offset op [] xs e s t h st runs = absurd (false≢true h)
still_items f offset op (x ∷ []) xs e s t h st runs = record {
  to = runs.0;
  still = λ r nv four fr. writes_no_other _ runs.0 x.instr r (does_no_call f offset op x.instr h)
      (turn_plain s runs.0 x (does_plain f offset op x.instr h) runs.1)
      (does_writes f offset op x.instr r h four fr) ∙ st r nv four fr;
  runs = runs.2;
}
still_items f offset op (x ∷ y ∷ []) xs e s t h st runs = absurd (false≢true h)
still_items f offset op (x ∷ y ∷ z ∷ []) xs e s t h st runs =
    let large = large_of op x.instr y.instr z.instr h in
    let s1 = runs.0 in
    let second = runs.2 in
    let s2 = second.0 in
    let third = second.2 in
    let s3 = third.0 in
    let call = turn_call s1 s2 y large.calls second.1 in
    record {
      to = s3;
      still = λ r nv four fr.
          (let q = subtracts_writes z.instr r large.takes four in
          writes_no_other _ s3 z.instr r q.0
          (turn_plain s2 s3 z (subtracts_plain z.instr large.takes) third.1) q.1)
          ∙ call.kept r (inl nv)
          ∙ (let q = size_writes large.size x.instr r large.sets nv in
          writes_no_other _ s1 x.instr r q.0
          (turn_plain s s1 x (size_plain large.size x.instr large.sets) runs.1) q.1)
          ∙ st r nv four fr;
      runs = third.2;
    }
still_items f offset op (x ∷ y ∷ z ∷ w ∷ its) xs e s t h st runs = absurd (false≢true h)

still_steps : (f offset at : ℕ) (ss : List PrologueStep) (e s t : State)
    → ArePrologueSteps f offset at ss → Still f e s → RunsThrough s (items ss) t → Still f e t
still_steps f offset at [] e s t h st runs = subst (Still f e) runs st
still_steps f offset at (k ∷ ss) e s t h st runs =
    let n = still_items f offset k.code.operation k.items (items ss) e s t h.0.does st runs in
    still_steps f offset (at + bytes k.items) ss e n.to t h.1 n.still n.runs

pub body_begins : BodyBegins
body_begins f e p right entry runs =
    let run = following_running f e right entry p runs in
    let still = still_steps f.info.frame_register f.info.frame_offset 0 f.steps e e p right.steps
    (λ r nv four fr. refl) runs in
    record {
      length = run.length;
      stack = refl;
      frame = λ ne. refl;
      words = same_words p.memory (registers e) _ (registers p 4) (registers p 4) (ops f)
          run.holds.stack;
      others = λ r nv four fr w. still r nv four fr;
    }

-- ---- an instruction of the body

may_not : (f : ℕ) (xs : List UnwindOperation) (rs : List ℕ) (k : ℕ) → may_write_all f xs rs ≡ true
    → (k ≡ 4) ⊎ ((f ≢ 0) × (k ≡ f)) → has k rs ≡ false
may_not f xs [] k h e = refl
may_not f xs (r ∷ rs) k h e =
    let p = and_parts (may_write f xs r) (may_write_all f xs rs) h in
    let q = and_parts (not (eqb r 4)) ((eqb f 0 || not (eqb r f))
    && (not (is_nonvolatile r) || is_saved r xs)) p.0 in
    let o = and_parts (eqb f 0 || not (eqb r f)) (not (is_nonvolatile r) || is_saved r xs) q.1 in
    or_from (eqb r k) (has k rs) (ne_eqb r k (λ z. elim e [
      | inl four ↦ eqb-false r 4 (not-true (eqb r 4) q.0) (z ∙ four)
      | inr fr ↦ elim (or_cases (eqb f 0) (not (eqb r f)) o.0) [
        | inl none ↦ fr.0 (eqb-true f 0 none)
        | inr other ↦ eqb-false r f (not-true (eqb r f) other) (z ∙ fr.1)
      ]
    ])) (may_not f xs rs k p.1 e)

written_here : (f r : ℕ) (done : List FetchedInstr) (x : FetchedInstr) (left : List FetchedInstr)
    → is_written f r (done ++ (x ∷ left)) ≡ false → writes f r x ≡ false
written_here f r [] x left h = (or_parts (writes f r x) (is_written f r left) h).0
written_here f r (y ∷ done) x left h = written_here f r done x left
    (or_parts (writes f r y) (is_written f r (done ++ (x ∷ left))) h).1

pub body_continues : BodyContinues
body_continues f e p s t a x done left parts role may call ef long words b =
    let fr = f.info.frame_register in
    let keeps : (r : ℕ) → has r (written x.instr) ≡ false
    → registers t r ≡ registers s r = λ r h. writes_no_other (with_rip s a) t x.instr r call ef
    h in
    record {
      length = long;
      stack = keeps 4 (may_not fr (ops f) (written x.instr) 4 may (inl refl)) ∙ b.stack;
      frame = λ ne. keeps fr (may_not fr (ops f) (written x.instr) fr may (inr (ne, refl)))
          ∙ b.frame ne;
      words = words;
      others = λ r nv four nf w.
          keeps r (sym (ap (λ y. is_other y && has r (written x.instr)) role)
          ∙ written_here fr r done x left (sym (ap (is_written fr r) parts) ∙ w))
          ∙ b.others r nv four nf w;
    }
