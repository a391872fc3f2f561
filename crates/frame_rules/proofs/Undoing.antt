-- Undoing codes gives the caller.
use Rattle.std.proofs.Common.{◌≡◌, ◌≢◌, ℕ, zero, suc, ◌+◌, ◌%◌, ◌^◌, ◌<◌, ◌≤◌, true, false, not, ◌&&◌, ◌||◌, eqb, leb, List, [], ◌∷◌, length, get_or, Option, Ok, refl, sym, ap, subst, ◌∙◌, arith, inl, inr, length-set, set, get_or-set_same, get_or-set_other}
use Rattle.std.proofs.lemmas.Bool.{cases_eq, and_parts, or_cases, or_from, or_right, false≢true, not-true, eqb-false, eqb-true, ne_eqb}
use Rattle.std.proofs.lemmas.Grind.{common_steps, same_number_lists}
use Rattle.frame_rules.specs.Words.{Memory, number_at, access, Context, UnwindOperation, Push, Allocate, SetFrame, Save, SaveVector, MachineFrame, Info, is_nonvolatile, get, rsp, with_rsp, rsp_raised, ◌>>=◌, readable, word, below_frame, Undo, going, undone_one, undone, all_undone, returned, returned_or, popped, at_start, depth, allocation, are_apart, may_save, is_allowed, are_allowed, is_saved, saves, IsWord, Stack, Framed, Others, left_to, UndoingRestores}
use Rattle.virtual_unwind.specs.Contexts.{set as with_register}
use Rattle.virtual_unwind.specs.Undone.{Answer}
use Rattle.frame_rules.proofs.Lemmas.{get-set_same, get-set_other, get-rsp_same, get-rsp_other}
use Rattle.virtual_unwind.proofs.Registers.{length-set as kept-set}

-- ---- words

pub word-is : (m : Memory) (at v : ℕ) → IsWord m at v → word m at ≡ Ok v
word-is m at v h = ap (λ (o : Option ℕ). readable at (access false o (number_at m.byte 8 at)))
    h.readable ∙ ap Ok h.value

-- ---- the frame register

-- a register that is saved is nonvolatile, and not RSP
pub saved_register : (f r : ℕ) (ops : List UnwindOperation) → are_allowed f ops ≡ true
    → is_saved r ops ≡ true → (is_nonvolatile r ≡ true) × (r ≢ 4)
saved_register f r [] a s = absurd (false≢true s)
saved_register f r (x ∷ ops) a s = elim (or_cases (saves r x) (is_saved r ops) s) [
  | inl here ↦ by_code x (and_parts (is_allowed f ops x) (are_allowed f ops) a).0 here
  | inr later ↦ saved_register f r ops (and_parts (is_allowed f ops x) (are_allowed f ops) a).1
      later
]
  where
    fits : (q : ℕ) → may_save q ops ≡ true → eqb q r ≡ true → (is_nonvolatile r ≡ true) × (r ≢ 4)
    fits q m e =
        let p = and_parts (is_nonvolatile q) (not (eqb q 4) && not (is_saved q ops)) m in
        let n = and_parts (not (eqb q 4)) (not (is_saved q ops)) p.1 in
        let same : q ≡ r = eqb-true q r e in (
          ap is_nonvolatile (sym same) ∙ p.0,
          λ four. eqb-false q 4 (not-true (eqb q 4) n.0)
              (same ∙ four),
        )

    by_code : (x : UnwindOperation) → is_allowed f ops x ≡ true → saves r x ≡ true
        → (is_nonvolatile r ≡ true) × (r ≢ 4)
    by_code (Push q) m e = fits q m e
    by_code (Allocate n) m e = absurd (false≢true e)
    by_code SetFrame m e = absurd (false≢true e)
    by_code (Save q n) m e = fits q (and_parts (may_save q ops) _ m).0 e
    by_code (SaveVector q n) m e = absurd (false≢true e)
    by_code (MachineFrame n) m e = absurd (false≢true e)

-- where codes set the frame register, they save it
pub framed_saved : (f offset : ℕ) (now after : ℕ → ℕ) (at : ℕ) (ops : List UnwindOperation)
    → are_allowed f ops ≡ true → (is_saved f ops ≡ true → now f ≡ after f)
    → Framed f offset now at ops → Framed f offset after at ops
framed_saved f offset now after at [] a e h = tt
framed_saved f offset now after at (Push r ∷ ops) a e h = framed_saved f offset now after (at + 8)
    ops (and_parts _ (are_allowed f ops) a).1 (λ s. e (or_right (eqb r f) (is_saved f ops) s)) h
framed_saved f offset now after at (Allocate n ∷ ops) a e h = framed_saved f offset now after
    (at + n) ops a e h
framed_saved f offset now after at (SetFrame ∷ ops) a e
    h = (
      sym (e (and_parts (not (eqb f 0)) (is_saved f ops)
          (and_parts (not (eqb f 0) && is_saved f ops) (are_allowed f ops) a).0).1)
          ∙ h.0,
      framed_saved f offset now after at ops
          (and_parts (not (eqb f 0) && is_saved f ops) (are_allowed f ops) a).1 e h.1,
    )
framed_saved f offset now after at (Save r n ∷ ops) a e h = framed_saved f offset now after at ops
    (and_parts _ (are_allowed f ops) a).1 (λ s. e (or_right (eqb r f) (is_saved f ops) s)) h
framed_saved f offset now after at (SaveVector r n ∷ ops) a e h = absurd (false≢true a)
framed_saved f offset now after at (MachineFrame x ∷ ops) a e h = absurd (false≢true a)

-- ---- one register restored

pub others_after : (old now after : ℕ → ℕ) (r : ℕ) (ops : List UnwindOperation) → after r ≡ old r
    → ((q : ℕ) → r ≢ q → q ≢ 4 → after q ≡ now q)
    → ((q : ℕ) → is_nonvolatile q ≡ true → q ≢ 4 → (eqb r q || is_saved q ops) ≡ false
    → now q ≡ old q) → Others old after ops
others_after old now after r ops same rest others q n four s = elim (cases_eq r q) [
  | inl e ↦ subst (λ x. after x ≡ old x) e same
  | inr ne ↦ rest q ne four ∙ others q n four (or_from (eqb r q) (is_saved q ops) (ne_eqb r q ne) s)
]

-- ---- the stack rises to the return address

pub stack_depth : (m : Memory) (old : ℕ → ℕ) (back base at : ℕ) (ops : List UnwindOperation)
    → Stack m old back base at ops → at + depth ops ≡ old 4
stack_depth m old back base at [] h = omega (arith, h.0)
stack_depth m old back base at (Push r ∷ ops) h = let d = stack_depth m old back base (at + 8) ops
    h.1 in omega arith
stack_depth m old back base at (Allocate n ∷ ops) h = let d = stack_depth m old back base (at + n)
    ops h in omega arith
stack_depth m old back base at (SetFrame ∷ ops) h = let d = stack_depth m old back base at ops h in
    omega arith
stack_depth m old back base at (Save r n ∷ ops) h = let d = stack_depth m old back base at ops
    h.1 in omega arith
stack_depth m old back base at (SaveVector r n ∷ ops) h = absurd h
stack_depth m old back base at (MachineFrame x ∷ ops) h = absurd h

pub return_word : (m : Memory) (old : ℕ → ℕ) (back base at : ℕ) (ops : List UnwindOperation)
    → Stack m old back base at ops → IsWord m (old 4) back
return_word m old back base at [] h = subst (λ a. IsWord m a back) h.0 h.1
return_word m old back base at (Push r ∷ ops) h = return_word m old back base (at + 8) ops h.1
return_word m old back base at (Allocate n ∷ ops) h = return_word m old back base (at + n) ops h
return_word m old back base at (SetFrame ∷ ops) h = return_word m old back base at ops h
return_word m old back base at (Save r n ∷ ops) h = return_word m old back base at ops h.1
return_word m old back base at (SaveVector r n ∷ ops) h = absurd h
return_word m old back base at (MachineFrame x ∷ ops) h = absurd h

-- ---- all codes undone

pub record Restored (m : Memory) (base : ℕ) (i : Info) (old : ℕ → ℕ) (ops : List UnwindOperation)
    (u : Undo) : Type 0 where
  pub after : Undo
  pub is : undone m base i ops u ≡ Ok after
  pub returned : after.is_returned ≡ u.is_returned
  pub kept : length after.context.kept ≡ 9
  pub now : (r : ℕ) → is_nonvolatile r ≡ true → get after.context r ≡ old r

step : (m : Memory) (base : ℕ) (i : Info) (old : ℕ → ℕ) (x : UnwindOperation)
    (ops : List UnwindOperation) (u v : Undo) → undone_one m base i u x ≡ Ok v
    → v.is_returned ≡ u.is_returned → Restored m base i old ops v
    → Restored m base i old (x ∷ ops) u
step m base i old x ops u v e r h = record {
  after = h.after;
  is = ap (λ (a : Answer Undo). a >>= undone m base i ops) e ∙ h.is;
  returned = h.returned ∙ r;
  kept = h.kept;
  now = h.now;
}

pub rsp_length : (c : Context) (v : ℕ) → length c.kept ≡ 9 → length (with_rsp c v).kept ≡ 9
rsp_length c v n = length-set c.kept 0 v ∙ n

-- RSP moved
record IsMoved (i : Info) (old : ℕ → ℕ) (c : Context) (at : ℕ) (ops : List UnwindOperation) : Type 0
  where
    kept : length c.kept ≡ 9
    top : get c 4 ≡ at
    framed : Framed i.frame_register i.frame_offset (get c) (get c 4) ops
    others : Others old (get c) ops

moved : (i : Info) (old : ℕ → ℕ) (c : Context) (v at : ℕ) (ops : List UnwindOperation)
    → length c.kept ≡ 9 → are_allowed i.frame_register ops ≡ true → v ≡ at
    → Framed i.frame_register i.frame_offset (get c) at ops → Others old (get c) ops
    → IsMoved i old (with_rsp c v) at ops
moved i old c v at ops n a e f o =
    let top : get (with_rsp c v) 4 ≡ at = get-rsp_same c v n ∙ e in
    let framed = framed_saved i.frame_register i.frame_offset (get c) (get (with_rsp c v)) at ops a
    (λ y. sym (get-rsp_other c i.frame_register v
    (saved_register i.frame_register i.frame_register ops a y).1)) f in
    record {
      kept = rsp_length c v n;
      top = top;
      framed = subst (λ x. Framed i.frame_register i.frame_offset (get (with_rsp c v)) x ops)
          (sym top) framed;
      others = λ q nv four s. get-rsp_other c q v four ∙ o q nv four s;
    }

pub restores : (i : Info) (m : Memory) (old : ℕ → ℕ) (back base : ℕ) (ops : List UnwindOperation)
    (u : Undo) → length u.context.kept ≡ 9 → old 4 < 2 ^ 64 → i.frame_offset ≤ 2 ^ 64
    → are_allowed i.frame_register ops ≡ true → Stack m old back base (get u.context 4) ops
    → Framed i.frame_register i.frame_offset (get u.context) (get u.context 4) ops
    → Others old (get u.context) ops → Restored m base i old ops u
restores i m old back base [] u n lt ol a s f o = record {
  after = u;
  is = refl;
  returned = refl;
  kept = n;
  now = λ r nv. elim (cases_eq r 4) [
    | inl e ↦ subst (λ x. get u.context x ≡ old x) (sym e) s.0
    | inr ne ↦ o r nv ne refl
  ];
}
restores i m old back base (Push r ∷ ops) u n lt ol a s f o =
    let c = u.context in
    let parts = and_parts (may_save r ops) (are_allowed i.frame_register ops) a in
    let once = and_parts (is_nonvolatile r) (not (eqb r 4) && not (is_saved r ops)) parts.0 in
    let apart = and_parts (not (eqb r 4)) (not (is_saved r ops)) once.1 in
    let ne : r ≢ 4 = eqb-false r 4 (not-true (eqb r 4) apart.0) in
    let after = rsp_raised (with_register c r (old r)) 8 in
    let kept : length (with_register c r (old r)).kept ≡ 9 = kept-set c r (old r) ∙ n in
    let stays : rsp (with_register c r (old r)) ≡ rsp c = get-set_other c r 4 (old r) ne in
    let d = stack_depth m old back base (rsp c + 8) ops s.1 in
    let up : (rsp (with_register c r (old r)) + 8) % 2 ^ 64 ≡ rsp c + 8 = rw stays (omega arith) in
    let top : get after 4 ≡ rsp c + 8 = get-rsp_same (with_register c r (old r))
    ((rsp (with_register c r (old r)) + 8) % 2 ^ 64) kept ∙ up in
    let here : get after r ≡ old r = get-rsp_other (with_register c r (old r)) r
    ((rsp (with_register c r (old r)) + 8) % 2 ^ 64) ne ∙ get-set_same c r (old r) n once.0 in
    let rest : (q : ℕ) → r ≢ q → q ≢ 4 → get after q
    ≡ get c q = λ q a b. get-rsp_other (with_register c r (old r)) q
    ((rsp (with_register c r (old r)) + 8) % 2 ^ 64) b ∙ get-set_other c r q (old r) a in
    let framed = framed_saved i.frame_register i.frame_offset (get c) (get after) (rsp c + 8) ops
    parts.1 (λ y. sym (rest i.frame_register
    (λ e. false≢true (sym (not-true (is_saved r ops) apart.1) ∙ (ap (λ q. is_saved q ops) e ∙ y)))
    (saved_register i.frame_register i.frame_register ops parts.1 y).1)) f in
    let v : Undo = record { context = after; is_returned = u.is_returned } in
    let more = restores i m old back base ops v (grind (arith, common_steps, kept)) lt ol parts.1
    (subst (λ x. Stack m old back base x ops) (sym top) s.1)
    (subst (λ x. Framed i.frame_register i.frame_offset (get after) x ops) (sym top) framed)
    (others_after old (get c) (get after) r ops here rest o) in
    step m base i old (Push r) ops u v (ap (λ (w : Answer ℕ). w
    >>= λ x. going u (rsp_raised (with_register c r x) 8)) (word-is m (rsp c) (old r) s.0)) refl
    more
restores i m old back base (Allocate k ∷ ops) u n lt ol a s f o =
    let c = u.context in
    let d = stack_depth m old back base (rsp c + k) ops s in
    let up : (rsp c + k) % 2 ^ 64 ≡ rsp c + k = omega arith in
    let after = moved i old c ((rsp c + k) % 2 ^ 64) (rsp c + k) ops n a up f o in
    let v : Undo = record { context = rsp_raised c k; is_returned = u.is_returned } in
    step m base i old (Allocate k) ops u v refl refl
    (restores i m old back base ops v after.kept lt ol a
    (subst (λ x. Stack m old back base x ops) (sym after.top) s) after.framed after.others)
restores i m old back base (SetFrame ∷ ops) u n lt ol a s f o =
    let c = u.context in
    let parts = and_parts (not (eqb i.frame_register 0) && is_saved i.frame_register ops)
    (are_allowed i.frame_register ops) a in
    let d = stack_depth m old back base (rsp c) ops s in
    let set = f.0 in
    let back_at : below_frame i c ≡ rsp c = omega arith in
    let after = moved i old c (below_frame i c) (rsp c) ops n parts.1 back_at f.1 o in
    let v : Undo = record { context = with_rsp c (below_frame i c); is_returned = u.is_returned } in
    step m base i old SetFrame ops u v refl refl
    (restores i m old back base ops v after.kept lt ol parts.1
    (subst (λ x. Stack m old back base x ops) (sym after.top) s) after.framed after.others)
restores i m old back base (Save r k ∷ ops) u n lt ol a s f o =
    let c = u.context in
    let parts = and_parts (may_save r ops && (leb (k + 8) (allocation ops) && are_apart k ops))
    (are_allowed i.frame_register ops) a in
    let once = and_parts (is_nonvolatile r) (not (eqb r 4) && not (is_saved r ops))
    (and_parts (may_save r ops) _ parts.0).0 in
    let apart = and_parts (not (eqb r 4)) (not (is_saved r ops)) once.1 in
    let ne : r ≢ 4 = eqb-false r 4 (not-true (eqb r 4) apart.0) in
    let after = with_register c r (old r) in
    let stays : get after 4 ≡ rsp c = get-set_other c r 4 (old r) ne in
    let high = s.0.high in
    let at : (base + k) % 2 ^ 64 ≡ base + k = omega arith in
    let rest : (q : ℕ) → r ≢ q → q ≢ 4 → get after q
    ≡ get c q = λ q x y. get-set_other c r q (old r) x in
    let framed = framed_saved i.frame_register i.frame_offset (get c) (get after) (rsp c) ops
    parts.1 (λ y. sym (rest i.frame_register
    (λ e. false≢true (sym (not-true (is_saved r ops) apart.1) ∙ (ap (λ q. is_saved q ops) e ∙ y)))
    (saved_register i.frame_register i.frame_register ops parts.1 y).1)) f in
    let v : Undo = record { context = after; is_returned = u.is_returned } in
    let more = restores i m old back base ops v (kept-set c r (old r) ∙ n) lt ol parts.1
    (subst (λ x. Stack m old back base x ops) (sym stays) s.1)
    (subst (λ x. Framed i.frame_register i.frame_offset (get after) x ops) (sym stays) framed)
    (others_after old (get c) (get after) r ops (get-set_same c r (old r) n once.0) rest o) in
    step m base i old (Save r k) ops u v (ap (λ a. word m a >>= λ x. going u (with_register c r x))
    at ∙ ap (λ (w : Answer ℕ). w >>= λ x. going u (with_register c r x))
    (word-is m (base + k) (old r) s.0)) refl more
restores i m old back base (SaveVector r k ∷ ops) u n lt ol a s f o = absurd s
restores i m old back base (MachineFrame x ∷ ops) u n lt ol a s f o = absurd s

-- ---- a context, by its registers

following_front : (xs : List ℕ) (v k : ℕ) → k ≢ 0 → get_or (set xs 0 v) k 0 ≡ get_or xs k 0
following_front xs v k ne = get_or-set_other xs 0 k v 0 ne

front : (xs : List ℕ) (v : ℕ) → length xs ≡ 9 → get_or (set xs 0 v) 0 0 ≡ v
front xs v n = get_or-set_same xs 0 v 0 (omega arith)

pub left_with : (old : ℕ → ℕ) (back : ℕ) (c : Context) → length c.kept ≡ 9
    → ((r : ℕ) → is_nonvolatile r ≡ true → get c r ≡ old r) → old 4 + 8 < 2 ^ 64
    → rsp_raised (record c { rip = back }) 8 ≡ left_to old back
left_with old back c n h lt = ap (λ (xs : List ℕ).
    let x : Context = record { rip = back; kept = xs } in x)
    (same_number_lists (set c.kept 0 v) (left_to old back).kept long each)
  where
    v : ℕ
    v = (get_or c.kept 0 0 + 8) % 2 ^ 64

    long : length (set c.kept 0 v) ≡ 9
    long = length-set c.kept 0 v ∙ n

    risen : v ≡ old 4 + 8
    risen = let e : get_or c.kept 0 0 ≡ old 4 = h 4 refl in omega arith

    each : (k : ℕ) → k < length (set c.kept 0 v)
        → get_or (set c.kept 0 v) k 0 ≡ get_or (left_to old back).kept k 0
    each zero k = front c.kept v n ∙ risen
    each (suc zero) k = following_front c.kept v 1 (λ e. absurd (omega arith)) ∙ h 3 refl
    each (suc (suc zero)) k = following_front c.kept v 2 (λ e. absurd (omega arith)) ∙ h 5 refl
    each (suc (suc (suc zero))) k = following_front c.kept v 3 (λ e. absurd (omega arith))
        ∙ h 6 refl
    each (suc (suc (suc (suc zero)))) k = following_front c.kept v 4 (λ e. absurd (omega arith))
        ∙ h 7 refl
    each (suc (suc (suc (suc (suc zero))))) k = following_front c.kept v 5
        (λ e. absurd (omega arith)) ∙ h 12 refl
    each (suc (suc (suc (suc (suc (suc zero)))))) k = following_front c.kept v 6
        (λ e. absurd (omega arith)) ∙ h 13 refl
    each (suc (suc (suc (suc (suc (suc (suc zero))))))) k = following_front c.kept v 7
        (λ e. absurd (omega arith)) ∙ h 14 refl
    each (suc (suc (suc (suc (suc (suc (suc (suc zero)))))))) k = following_front c.kept v 8
        (λ e. absurd (omega arith)) ∙ h 15 refl
    each (suc (suc (suc (suc (suc (suc (suc (suc (suc k))))))))) lt = absurd
        (let l = long in omega arith)

-- the return address popped
pub popped_is : (m : Memory) (old : ℕ → ℕ) (back : ℕ) (c : Context) → length c.kept ≡ 9
    → ((r : ℕ) → is_nonvolatile r ≡ true → get c r ≡ old r) → old 4 + 8 < 2 ^ 64
    → IsWord m (old 4) back → popped m c ≡ Ok (left_to old back)
popped_is m old back c n h lt w =
    ap (λ a. word m a >>= λ v. Ok (rsp_raised (record c { rip = v }) 8)) (h 4 refl)
    ∙ ap (λ (a : Answer ℕ). a >>= λ v. Ok (rsp_raised (record c { rip = v }) 8))
    (word-is m (old 4) back w) ∙ ap Ok (left_with old back c n h lt)

pub undoing : UndoingRestores
undoing i m c base old back ops n lt ol a s f o =
    let u = at_start c in
    let r = restores i m old back base ops u n (omega arith) ol a s f o in
    ap (λ (x : Answer Undo). x >>= λ v. all_undone m base [] v >>= returned m) r.is
    ∙ ap (λ b. returned_or m r.after.context b) r.returned
    ∙ popped_is m old back r.after.context r.kept r.now lt
    (return_word m old back base (get c 4) ops s)
