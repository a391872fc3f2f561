-- The states of the body have the frame of all codes.
use Rattle.std.proofs.Common.{◌≡◌, ◌≢◌, ℕ, Bool, true, false, not, ◌&&◌, ◌||◌, eqb, List, [], ◌∷◌, ◌++◌, Option, Some, None, refl, sym, ap, subst, ◌∙◌, inl, inr}
use Rattle.std.proofs.lemmas.Bool.{cases_eq, false≢true, and_parts, or_cases, or_from, or_right, not-true, ne_eqb}
use Rattle.frame_rules.specs.Words.{Instr, State, UnwindOperation, Push, Allocate, SetFrame, Save, SaveVector, MachineFrame, sets_frame, is_nonvolatile, Role, Opens, Restores, Ends, Other, FetchedInstr, role_of, is_saved, is_allowed, are_allowed, Stack, Framed, HoldsFrame, is_pop, written, has, may_write_all, restored_by, with_restored, Mode, Body, Leaving, only_if, is_ends, leaving, from_body, and_then, following, is_body, registers, is_other, writes, is_written, InBody}
use Rattle.x64_instr.specs.declared.instruction.Instr.TheVariants as instrs
use Rattle.frame_rules.specs.Body.{may_write, next}
use Rattle.frame_rules.proofs.Undoing.{saved_register, framed_saved}
use Rattle.frame_rules.proofs.Words.{kept_words}
use Rattle.frame_rules.proofs.Steps.{Running}

-- ---- modes

pub only : (m : Option Mode) (b : Bool) (to : Mode) → only_if m b ≡ Some to
    → (b ≡ true) × (m ≡ Some to)
only m true to e = (refl, e)
only m false to e = absurd cc

pub record Next (f offset : ℕ) (ops : List UnwindOperation) (x : FetchedInstr)
    (xs : List FetchedInstr) (m : Mode) : Type 0 where
  pub to : Mode
  pub is : next f offset ops x m ≡ Some to
  pub rest : is_body (following f offset ops xs to) ≡ true

pub next_mode : (f offset : ℕ) (ops : List UnwindOperation) (x : FetchedInstr)
    (xs : List FetchedInstr) (m : Mode) → is_body (following f offset ops (x ∷ xs) m) ≡ true
    → Next f offset ops x xs m
next_mode f offset ops x xs m h = go (next f offset ops x m) refl h
  where
    go : (o : Option Mode) → next f offset ops x m ≡ o
        → is_body (and_then (following f offset ops xs) o) ≡ true → Next f offset ops x xs m
    go (Some to) e h = record { to = to; is = e; rest = h }
    go None e h = absurd (false≢true h)

-- modes after lists joined
pub following-append : (f offset : ℕ) (ops : List UnwindOperation) (xs ys : List FetchedInstr)
    (m to : Mode) → following f offset ops xs m ≡ Some to
    → following f offset ops (xs ++ ys) m ≡ following f offset ops ys to
following-append f offset ops [] ys m to e = ap
    (λ (o : Option Mode). and_then (following f offset ops ys) o) e
following-append f offset ops (x ∷ xs) ys m to e = go
    (λ k h. following-append f offset ops xs ys k to h) (next f offset ops x m) e
  where
    go : ((k : Mode) → following f offset ops xs k ≡ Some to
        → following f offset ops (xs ++ ys) k ≡ following f offset ops ys to) → (o : Option Mode)
        → and_then (following f offset ops xs) o ≡ Some to
        → and_then (following f offset ops (xs ++ ys)) o ≡ following f offset ops ys to
    go more (Some k) e = more k e
    go more None e = absurd cc

-- ---- roles

pub pop_role : (f r : ℕ) (plain : Bool) (i : Instr) → is_pop r i ≡ true
    → role_of f plain i ≡ Restores
pop_role f r plain (instrs.Pop q) e = refl
pop_role f r plain i e = absurd (false≢true e)

ends_not_other : (r : Role) (b : Bool) → is_ends r ≡ true → (is_other r && b) ≡ false
ends_not_other Ends b e = refl
ends_not_other Opens b e = absurd (false≢true e)
ends_not_other Restores b e = absurd (false≢true e)
ends_not_other Other b e = absurd (false≢true e)

-- ---- what the body doesn't write

not_among : (f : ℕ) (ops : List UnwindOperation) (q : ℕ) (rs : List ℕ) → is_nonvolatile q ≡ true
    → is_saved q ops ≡ false → may_write_all f ops rs ≡ true → has q rs ≡ false
not_among f ops q [] nv s h = refl
not_among f ops q (r ∷ rs) nv s h =
    let p = and_parts (may_write f ops r) (may_write_all f ops rs) h in
    let first = and_parts (not (eqb r 4)) ((eqb f 0 || not (eqb r f))
    && (not (is_nonvolatile r) || is_saved r ops)) p.0 in
    let may = (and_parts (eqb f 0 || not (eqb r f)) (not (is_nonvolatile r) || is_saved r ops)
    first.1).1 in
    or_from (eqb r q) (has q rs) (ne_eqb r q (λ e. elim
    (or_cases (not (is_nonvolatile r)) (is_saved r ops) may) [
      | inl volatile ↦ false≢true (sym (not-true (is_nonvolatile r) volatile)
          ∙ (ap is_nonvolatile e ∙ nv))
      | inr saved ↦ false≢true (sym s ∙ (ap (λ x. is_saved x ops) (sym e) ∙ saved))
    ])) (not_among f ops q rs nv s p.1)

leaving_unwritten : (f q : ℕ) (rs : List ℕ) (x : FetchedInstr) (to : Mode)
    → leaving f rs x ≡ Some to → writes f q x ≡ false
leaving_unwritten f q [] x to e = ends_not_other (role_of f x.plain x.instr)
    (has q (written x.instr)) (only (Some (Body [])) (is_ends (role_of f x.plain x.instr)) to e).0
leaving_unwritten f q (r ∷ rs) x to e = ap (λ (y : Role). is_other y && has q (written x.instr))
    (pop_role f r x.plain x.instr (only (Some (Leaving rs)) (is_pop r x.instr) to e).0)

body_unwritten : (f offset : ℕ) (ops : List UnwindOperation) (q : ℕ) (rs : List ℕ)
    (x : FetchedInstr) (r : Role) (to : Mode) → is_nonvolatile q ≡ true → is_saved q ops ≡ false
    → from_body f offset ops rs x r ≡ Some to → (is_other r && has q (written x.instr)) ≡ false
body_unwritten f offset ops q rs x Other to nv s e = not_among f ops q (written x.instr) nv s
    (only (Some (Body (with_restored rs (restored_by f offset ops x.instr))))
    (may_write_all f ops (written x.instr)) to e).0
body_unwritten f offset ops q rs x Opens to nv s e = refl
body_unwritten f offset ops q rs x Restores to nv s e = refl
body_unwritten f offset ops q rs x Ends to nv s e = refl

next_unwritten : (f offset : ℕ) (ops : List UnwindOperation) (q : ℕ) (x : FetchedInstr)
    (m to : Mode) → is_nonvolatile q ≡ true → is_saved q ops ≡ false
    → next f offset ops x m ≡ Some to → writes f q x ≡ false
next_unwritten f offset ops q x (Body rs) to nv s e = body_unwritten f offset ops q rs x
    (role_of f x.plain x.instr) to nv s e
next_unwritten f offset ops q x (Leaving rs) to nv s e = leaving_unwritten f q rs x to e

pub unwritten : (f offset : ℕ) (ops : List UnwindOperation) (q : ℕ) (xs : List FetchedInstr)
    (m : Mode) → is_nonvolatile q ≡ true → is_saved q ops ≡ false
    → is_body (following f offset ops xs m) ≡ true → is_written f q xs ≡ false
unwritten f offset ops q [] m nv s h = refl
unwritten f offset ops q (x ∷ xs) m nv s h =
    let n = next_mode f offset ops x xs m h in
    or_from (writes f q x) (is_written f q xs) (next_unwritten f offset ops q x m n.to nv s n.is)
    (unwritten f offset ops q xs n.to nv s n.rest)

-- ---- the frame in the body

-- a frame register that is set is saved
pub frame_is_saved : (f : ℕ) (xs : List UnwindOperation) → are_allowed f xs ≡ true
    → sets_frame xs ≡ true → is_saved f xs ≡ true
frame_is_saved f [] a s = absurd (false≢true s)
frame_is_saved f (Push r ∷ xs) a s = or_right (eqb r f) (is_saved f xs)
    (frame_is_saved f xs (and_parts (is_allowed f xs (Push r)) (are_allowed f xs) a).1 s)
frame_is_saved f (Allocate n ∷ xs) a s = frame_is_saved f xs a s
frame_is_saved f (SetFrame ∷ xs) a s = (and_parts (not (eqb f 0)) (is_saved f xs)
    (and_parts (is_allowed f xs SetFrame) (are_allowed f xs) a).0).1
frame_is_saved f (Save r n ∷ xs) a s = or_right (eqb r f) (is_saved f xs)
    (frame_is_saved f xs (and_parts (is_allowed f xs (Save r n)) (are_allowed f xs) a).1 s)
frame_is_saved f (SaveVector r n ∷ xs) a s = absurd (false≢true a)
frame_is_saved f (MachineFrame n ∷ xs) a s = absurd (false≢true a)

-- a register that isn't saved isn't the frame register
pub not_frame : (f q : ℕ) (xs : List UnwindOperation) → are_allowed f xs ≡ true
    → (f ≢ 0 → sets_frame xs ≡ true) → is_nonvolatile q ≡ true → is_saved q xs ≡ false → q ≢ f
not_frame f q xs a set nv free e = elim (cases_eq f 0) [
  | inl z ↦ false≢true (ap is_nonvolatile (sym (e ∙ z)) ∙ nv)
  | inr ne ↦ false≢true (sym free ∙ (ap (λ k. is_saved k xs) e ∙ frame_is_saved f xs a (set ne)))
]

pub body_holds : (f offset back : ℕ) (e p s : State) (ops : List UnwindOperation)
    (rest : List FetchedInstr) → are_allowed f ops ≡ true → (f ≢ 0 → sets_frame ops ≡ true)
    → is_body (following f offset ops rest (Body [])) ≡ true → Running f offset e back ops p
    → InBody f ops rest e p s → HoldsFrame f offset s.memory (registers e) back (registers s) ops
    ops
body_holds f offset back e p s ops rest allowed frame body run b = record {
  stack = subst (λ x. Stack s.memory (registers e) back x x ops) (sym b.stack)
      (kept_words p.memory s.memory (registers e) back (registers p 4) (registers p 4) ops b.words
      run.holds.stack);
  framed = subst (λ x. Framed f offset (registers s) x ops) (sym b.stack)
      (framed_saved f offset (registers p) (registers s) (registers p 4) ops allowed
      (λ y. sym (b.frame (λ z. false≢true (ap is_nonvolatile (sym z)
      ∙ (saved_register f f ops allowed y).0)))) run.holds.framed);
  others = λ q nv ne z. b.others q nv ne (not_frame f q ops allowed frame nv z)
      (unwritten f offset ops q rest (Body []) nv z body);
}
