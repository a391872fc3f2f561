-- Codes that are allowed and in order keep the rules for codes.
use Rattle.std.proofs.Common.{◌≡◌, ◌≢◌, ℕ, ◌+◌, ◌<◌, Bool, true, false, not, ◌&&◌, ◌||◌, eqb, ltb, leb, List, [], ◌∷◌, ◌++◌, refl, sym, ap, subst, ◌∙◌, arith}
use Rattle.std.proofs.lemmas.Bool.{false≢true, and_parts, and_from, or_left, or_right, or_from, eq-eqb, ne_eqb, eqb-false, ltb-true}
use Rattle.eh_tables.specs.declared.code.UnwindCode.{UnwindCode}
use Rattle.eh_tables.specs.declared.code.UnwindOperation.{UnwindOperation}
use Rattle.eh_tables.specs.declared.code.UnwindOperation.TheVariants.{Push, Allocate, SetFrame, Save, SaveVector, MachineFrame}
use Rattle.eh_tables.specs.Infos.{Info}
use Rattle.virtual_unwind.specs.Undone.{operations}
use Rattle.virtual_unwind.specs.Tail.{FetchedInstr}
use Rattle.virtual_unwind.specs.CallerOf.{sets_frame}
use Rattle.frame_rules.specs.Codes.{allocation, is_saved, are_pushes, is_allocated, is_ordered, may_save, are_apart, is_allowed, are_allowed}
use Rattle.frame_rules.specs.Prologue.{bytes, is_step, are_sized, PrologueStep, items, codes_onto, ArePrologueSteps}
use Rattle.frame_rules.specs.Body.{has}
use Rattle.frame_rules.proofs.Order.{Ordered, push, allocate, frame, save, ordered, pushes_unframed}
use Rattle.unwind_check.specs.Codes.{are_plain, are_saved_once, are_placed, is_pushed, frame_is_set, ends, is_offset, are_at_ends, have_registers}

-- ---- the registers

plain : (f : ℕ) (xs : List UnwindOperation) → are_allowed f xs ≡ true → are_plain xs ≡ true
plain f [] h = refl
plain f (Push r ∷ xs) h =
    plain f xs (and_parts (is_allowed f xs (Push r)) (are_allowed f xs) h).1
plain f (Allocate n ∷ xs) h = plain f xs h
plain f (SetFrame ∷ xs) h = plain f xs (and_parts (is_allowed f xs SetFrame) (are_allowed f xs) h).1
plain f (Save r n ∷ xs) h =
    plain f xs (and_parts (is_allowed f xs (Save r n)) (are_allowed f xs) h).1
plain f (SaveVector r n ∷ xs) h = absurd (false≢true h)
plain f (MachineFrame n ∷ xs) h = absurd (false≢true h)

saved_once : (f : ℕ) (xs : List UnwindOperation) → are_allowed f xs ≡ true
    → are_saved_once xs ≡ true
saved_once f [] h = refl
saved_once f (Push r ∷ xs) h =
    let p = and_parts (may_save r xs) (are_allowed f xs) h in
    and_from (may_save r xs) (are_saved_once xs) p.0 (saved_once f xs p.1)
saved_once f (Allocate n ∷ xs) h = saved_once f xs h
saved_once f (SetFrame ∷ xs) h =
    saved_once f xs (and_parts (is_allowed f xs SetFrame) (are_allowed f xs) h).1
saved_once f (Save r n ∷ xs) h =
    let p = and_parts (may_save r xs && (leb (n + 8) (allocation xs) && are_apart n xs))
    (are_allowed f xs) h in
    and_from (may_save r xs) (are_saved_once xs)
    (and_parts (may_save r xs) (leb (n + 8) (allocation xs) && are_apart n xs) p.0).0
    (saved_once f xs p.1)
saved_once f (SaveVector r n ∷ xs) h = absurd (false≢true h)
saved_once f (MachineFrame n ∷ xs) h = absurd (false≢true h)

-- ---- the places

pushes_placed : (size : ℕ) (xs : List UnwindOperation) → are_pushes xs ≡ true
    → are_placed size xs ≡ true
pushes_placed size [] h = refl
pushes_placed size (Push r ∷ xs) h = pushes_placed size xs h
pushes_placed size (Allocate n ∷ xs) h = absurd (false≢true h)
pushes_placed size (SetFrame ∷ xs) h = absurd (false≢true h)
pushes_placed size (Save r n ∷ xs) h = absurd (false≢true h)
pushes_placed size (SaveVector r n ∷ xs) h = absurd (false≢true h)
pushes_placed size (MachineFrame n ∷ xs) h = absurd (false≢true h)

placed : (f size : ℕ) (xs : List UnwindOperation) → Ordered xs → are_allowed f xs ≡ true
    → allocation xs ≡ size → are_placed size xs ≡ true
placed f size [] o h e = refl
placed f size (Push r ∷ xs) (push p o) h e = pushes_placed size xs p
placed f size (Allocate n ∷ xs) (allocate p o) h e = pushes_placed size xs p
placed f size (SetFrame ∷ xs) (frame t p o) h e = placed f size xs o
    (and_parts (is_allowed f xs SetFrame) (are_allowed f xs) h).1 (omega (arith, e))
placed f size (Save r n ∷ xs) (save o) h e =
    let same : allocation xs ≡ size = omega (arith, e) in
    let p = and_parts (may_save r xs && (leb (n + 8) (allocation xs) && are_apart n xs))
    (are_allowed f xs) h in
    let q = (and_parts (may_save r xs) (leb (n + 8) (allocation xs) && are_apart n xs) p.0).1 in
    and_from (leb (n + 8) size && are_apart n xs) (are_placed size xs)
    (subst (λ z. (leb (n + 8) z && are_apart n xs) ≡ true) same q) (placed f size xs o p.1 same)
placed f size (SaveVector r n ∷ xs) o h e = elim o [ ]
placed f size (MachineFrame n ∷ xs) o h e = elim o [ ]

-- ---- the frame register

unset : (f : ℕ) (xs : List UnwindOperation) → eqb f 0 ≡ true → are_allowed f xs ≡ true
    → sets_frame xs ≡ false
unset f [] e h = refl
unset f (Push r ∷ xs) e h =
    unset f xs e (and_parts (is_allowed f xs (Push r)) (are_allowed f xs) h).1
unset f (Allocate n ∷ xs) e h = unset f xs e h
unset f (SetFrame ∷ xs) e h = absurd (false≢true (sym (ap not e)
    ∙ (and_parts (not (eqb f 0)) (is_saved f xs)
    (and_parts (is_allowed f xs SetFrame) (are_allowed f xs) h).0).0))
unset f (Save r n ∷ xs) e h =
    unset f xs e (and_parts (is_allowed f xs (Save r n)) (are_allowed f xs) h).1
unset f (SaveVector r n ∷ xs) e h = absurd (false≢true h)
unset f (MachineFrame n ∷ xs) e h = absurd (false≢true h)

-- of pushes alone those that are saved are pushed
pushes_saved : (r : ℕ) (xs : List UnwindOperation) → are_pushes xs ≡ true
    → is_saved r xs ≡ is_pushed r xs
pushes_saved r [] h = refl
pushes_saved r (Push q ∷ xs) h = ap (λ b. eqb q r || b) (pushes_saved r xs h)
pushes_saved r (Allocate n ∷ xs) h = absurd (false≢true h)
pushes_saved r (SetFrame ∷ xs) h = absurd (false≢true h)
pushes_saved r (Save q n ∷ xs) h = absurd (false≢true h)
pushes_saved r (SaveVector q n ∷ xs) h = absurd (false≢true h)
pushes_saved r (MachineFrame n ∷ xs) h = absurd (false≢true h)

allocated_saved : (r : ℕ) (xs : List UnwindOperation) → is_allocated xs ≡ true
    → is_saved r xs ≡ is_pushed r xs
allocated_saved r [] h = refl
allocated_saved r (Push q ∷ xs) h = pushes_saved r (Push q ∷ xs) h
allocated_saved r (Allocate n ∷ xs) h = pushes_saved r xs h
allocated_saved r (SetFrame ∷ xs) h = absurd (false≢true h)
allocated_saved r (Save q n ∷ xs) h = absurd (false≢true h)
allocated_saved r (SaveVector q n ∷ xs) h = absurd (false≢true h)
allocated_saved r (MachineFrame n ∷ xs) h = absurd (false≢true h)

frame_pushed : (f : ℕ) (xs : List UnwindOperation) → Ordered xs → are_allowed f xs ≡ true
    → sets_frame xs ≡ true → is_pushed f xs ≡ true
frame_pushed f [] o h s = absurd (false≢true s)
frame_pushed f (Push r ∷ xs) (push p o) h s = absurd (false≢true (sym (pushes_unframed xs p) ∙ s))
frame_pushed f (Allocate n ∷ xs) (allocate p o) h s =
    absurd (false≢true (sym (pushes_unframed xs p) ∙ s))
frame_pushed f (SetFrame ∷ xs) (frame t p o) h s = sym (allocated_saved f xs t)
    ∙ (and_parts (not (eqb f 0)) (is_saved f xs)
    (and_parts (is_allowed f xs SetFrame) (are_allowed f xs) h).0).1
frame_pushed f (Save r n ∷ xs) (save o) h s = frame_pushed f xs o
    (and_parts (is_allowed f xs (Save r n)) (are_allowed f xs) h).1 s
frame_pushed f (SaveVector r n ∷ xs) o h s = elim o [ ]
frame_pushed f (MachineFrame n ∷ xs) o h s = elim o [ ]

set_right : (f : ℕ) (xs : List UnwindOperation) (b : Bool) → eqb f 0 ≡ b → Ordered xs
    → are_allowed f xs ≡ true → (f ≢ 0 → sets_frame xs ≡ true) → frame_is_set xs f b ≡ true
set_right f xs true e o h s = ap not (unset f xs e h)
set_right f xs false e o h s =
    let set = s (eqb-false f 0 e) in
    and_from (is_pushed f xs) (sets_frame xs) (frame_pushed f xs o h set) set

pub right_registers : (i : Info) → is_ordered (operations i.codes) ≡ true
    → are_allowed i.frame_register (operations i.codes) ≡ true
    → (i.frame_register ≢ 0 → sets_frame (operations i.codes) ≡ true)
    → have_registers i (operations i.codes) ≡ true
right_registers i o h s =
    let ops = operations i.codes in
    let f = i.frame_register in
    let q = ordered ops o in
    and_from (are_plain ops) (are_saved_once ops && (are_placed (allocation ops) ops
    && frame_is_set ops f (eqb f 0))) (plain f ops h)
    (and_from (are_saved_once ops) (are_placed (allocation ops) ops
    && frame_is_set ops f (eqb f 0)) (saved_once f ops h)
    (and_from (are_placed (allocation ops) ops) (frame_is_set ops f (eqb f 0))
    (placed f (allocation ops) ops q h refl) (set_right f ops (eqb f 0) refl q h s)))

-- ---- each code is at the end of an instruction

end_there : (d : ℕ) (x : FetchedInstr) (xs ys : List FetchedInstr)
    → has (d + bytes (x ∷ xs)) (ends d ((x ∷ xs) ++ ys)) ≡ true
end_there d x [] ys =
    let e : d + x.size ≡ d + bytes (x ∷ []) = omega arith in
    or_left (eqb (d + x.size) (d + bytes (x ∷ [])))
    (has (d + bytes (x ∷ [])) (ends (d + x.size) ys))
    (eq-eqb (d + x.size) (d + bytes (x ∷ [])) e)
end_there d x (y ∷ xs) ys =
    let k : d + x.size + bytes (y ∷ xs) ≡ d + bytes (x ∷ y ∷ xs) = omega arith in
    or_right (eqb (d + x.size) (d + bytes (x ∷ y ∷ xs)))
    (has (d + bytes (x ∷ y ∷ xs)) (ends (d + x.size) ((y ∷ xs) ++ ys)))
    (subst (λ n. has n (ends (d + x.size) ((y ∷ xs) ++ ys)) ≡ true) k
    (end_there (d + x.size) y xs ys))

later_ends : (n d : ℕ) (xs ys : List FetchedInstr) → has n (ends (d + bytes xs) ys) ≡ true
    → has n (ends d (xs ++ ys)) ≡ true
later_ends n d [] ys h =
    let e : d + bytes [] ≡ d = omega arith in subst (λ k. has n (ends k ys) ≡ true) e h
later_ends n d (x ∷ xs) ys h =
    let e : d + bytes (x ∷ xs) ≡ d + x.size + bytes xs = omega arith in
    or_right (eqb (d + x.size) n) (has n (ends (d + x.size) (xs ++ ys)))
    (later_ends n (d + x.size) xs ys (subst (λ k. has n (ends k ys) ≡ true) e h))

-- no code of these is past a place
abbrev UpTo : ℕ → List UnwindCode → Type 0
UpTo d cs = (n : ℕ) → d < n → is_offset n cs ≡ false

sized_step : (f offset : ℕ) (c : UnwindCode) (xs : List FetchedInstr)
    → is_step f offset c.operation xs ≡ true → are_sized xs ≡ true → 0 < bytes xs
sized_step f offset c [] s h = absurd (false≢true s)
sized_step f offset c (x ∷ xs) s h =
    let p = ltb-true 0 x.size (and_parts (ltb 0 x.size) (are_sized xs) h).0 in omega (arith, p)

step_ends : (f offset : ℕ) (c : UnwindCode) (d : ℕ) (xs ys : List FetchedInstr)
    → is_step f offset c.operation xs ≡ true → has (d + bytes xs) (ends d (xs ++ ys)) ≡ true
step_ends f offset c d [] ys s = absurd (false≢true s)
step_ends f offset c d (x ∷ xs) ys s = end_there d x xs ys

module _ (f offset : ℕ) (ns : List ℕ) where
  pub at_ends : (d : ℕ) (done : List UnwindCode) (ss : List PrologueStep)
      → ArePrologueSteps f offset d ss
      → ((n : ℕ) → has n (ends d (items ss)) ≡ true → has n ns ≡ true)
      → are_at_ends ns done ≡ true → UpTo d done
      → are_at_ends ns (codes_onto done ss) ≡ true
  at_ends d done [] a in_ends kept up = kept
  at_ends d done (s ∷ ss) a in_ends kept up =
      let end = a.0.ends in
      let pos = sized_step f offset s.code s.items a.0.does a.0.sized in
      let past : d < s.code.offset = omega (arith, end, pos) in
      let here : has s.code.offset ns ≡ true = subst (λ n. has n ns ≡ true) (sym end)
      (in_ends (d + bytes s.items) (step_ends f offset s.code d s.items (items ss) a.0.does)) in
      at_ends (d + bytes s.items) (s.code ∷ done) ss a.1
      (λ n h. in_ends n (later_ends n d s.items (items ss) h))
      (and_from (has s.code.offset ns && not (is_offset s.code.offset done)) (are_at_ends ns done)
      (and_from (has s.code.offset ns) (not (is_offset s.code.offset done)) here
      (ap not (up s.code.offset past))) kept)
      (λ n lt. or_from (eqb s.code.offset n) (is_offset n done)
      (ne_eqb s.code.offset n (λ e. omega (arith, e, lt, end)))
      (up n (omega (arith, lt, pos))))
