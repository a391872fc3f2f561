-- Chained fragments.
use Rattle.std.proofs.Common.{◌≡◌, ℕ, ◌+◌, ◌-◌, ◌%◌, ◌^◌, Bool, true, false, not, eqb, ltb, List, [], ◌∷◌, Option, Some, None, Ok, Err, refl, sym, ap, ◌∙◌, arith}
use Rattle.std.proofs.lemmas.Bool.{le-ltb}
use Rattle.frame_rules.specs.Words.{Memory, Instr, Context, Info, UnwindCode, get, ◌>>=◌, Undo, operations, undone, returned, tail_at, found, base_if, has_frame, at_start, unwound, in_body, past_prologue, by_distance, context_found, FragmentsUnwindAsParents}
use Rattle.virtual_unwind.specs.Undone.{Answer}

contexts : (frame : ℕ) (asked : Option Info) (a : Answer Context)
    → context_found (found frame asked a) ≡ a
contexts frame asked (Ok c) = refl
contexts frame asked (Err e) = refl

base_same : (i p : Info) (c : Context) (b : Bool) → i.frame_register ≡ p.frame_register
    → i.frame_offset ≡ p.frame_offset → base_if i c b ≡ base_if p c b
base_same i p c false r o = refl
base_same i p c true r o = ap (λ k. (get c k + (2 ^ 64 - i.frame_offset)) % 2 ^ 64) r
    ∙ ap (λ k. (get c p.frame_register + (2 ^ 64 - k)) % 2 ^ 64) o

bases : (i p : Info) (c : Context) → i.frame_register ≡ p.frame_register
    → i.frame_offset ≡ p.frame_offset → base_if i c (has_frame i) ≡ base_if p c (has_frame p)
bases i p c r o = ap (λ k. base_if i c (not (eqb k 0))) r ∙ base_same i p c (has_frame p) r o

-- the parent's codes alone
joined : (m : Memory) (base : ℕ) (a : Answer Undo)
    → ((a >>= λ u. Ok u) >>= returned m) ≡ (a >>= λ u. returned m u)
joined m base (Ok u) = refl
joined m base (Err e) = refl

chained : (m : Memory) (base : ℕ) (i p : Info) (c : Context)
    → unwound m base i (p ∷ []) [] c ≡ unwound m base p [] (operations p.codes) c
chained m base i p c = joined m base (undone m base p (operations p.codes) (at_start c))

bodies : (m : Memory) (i p : Info) (c : Context) → i.codes ≡ []
    → i.frame_register ≡ p.frame_register → i.frame_offset ≡ p.frame_offset
    → context_found (in_body m i (p ∷ []) c) ≡ context_found (in_body m p [] c)
bodies m i p c e r o =
    let base = base_if i c (has_frame i) in
    let base' = base_if p c (has_frame p) in
    contexts base (Some i) (unwound m base i (p ∷ []) (operations i.codes) c)
    ∙ ap (λ (cs : List UnwindCode). unwound m base i (p ∷ []) (operations cs) c) e
    ∙ chained m base i p c
    ∙ ap (λ b. unwound m b p [] (operations p.codes) c) (bases i p c r o)
    ∙ sym (contexts base' (Some p) (unwound m base' p [] (operations p.codes) c))

by_tail : (m : Memory) (i p : Info) (c : Context) (o : Option (List Instr)) → i.codes ≡ []
    → i.frame_register ≡ p.frame_register → i.frame_offset ≡ p.frame_offset
    → context_found (past_prologue m i (p ∷ []) c o) ≡ context_found (past_prologue m p [] c o)
by_tail m i p c (Some is) e r o = refl
by_tail m i p c None e r o = bodies m i p c e r o

pub fragments : FragmentsUnwindAsParents
fragments m i p c d e z r o =
    let none : ltb d i.prologue_size ≡ false = le-ltb d i.prologue_size (omega arith) in
    ap (λ b. context_found (by_distance m i (p ∷ []) c d b)) none
    ∙ ap (λ k. context_found (past_prologue m i (p ∷ []) c (tail_at k m c.rip))) r
    ∙ by_tail m i p c (tail_at p.frame_register m c.rip) e r o
