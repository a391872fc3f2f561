-- What a walk comes to at each kind of item.
use Rattle.std.proofs.Common.{◌≡◌, ℕ, ◌+◌, ◌-◌, ◌%◌, ◌^◌, ◌<◌, ◌≤◌, Bool, true, false, Option, Some, None, Ok, Err, List, [], ◌∷◌, length, refl, sym, ap, ◌∙◌, arith}
use Rattle.std.specs.Prelude.{nat_lt, nat_eq, not, slice_index, slice_set}
use Rattle.std.proofs.lemmas.Bool.{lt-ltb}
use Rattle.match_stack.specs.Words.{Memory, Instr, Context, context_of, Info, Entry, rsp, word, Functions, distance, fetched, RECORD_SIZE, WalkState, walk_in, filter_return, finally_return, vectored_return, is_search, is_vectored, is_asking, answer_return, StackFrame, FrameIsAt, LeafIsAt, after_frame, after_leaf, caller_frame, caller_of_leaf, state, rsp_raised, Answer, popped, operations, CallerFrame, found, in_body, by_distance, past_prologue, of_entry, rising, risen, caller_in, visited, if_over, if_filter, framed, past_filter, past_finally, past_vectored, if_kind, above, if_above, saved_in, FrameIsVisited, LeafIsVisited, SearchIsPassed, UnwindingIsPassed, StackIsOver, IsAsTold, IsChain, IsFragment, telling, teller, told, at_entry, get, base_if}
use Rattle.seh_num.specs.Answers.{◌>>=◌}
use Rattle.eh_tables.specs.declared.code.UnwindCode.{UnwindCode}
use Rattle.virtual_unwind.specs.CallerOf.{unwound, at_start, has_frame}
use Rattle.virtual_unwind.specs.Undone.{Undo, undone, returned}
use Rattle.seh_walk.specs.Walk.{if_finally, if_vectored}
use Rattle.seh_records.specs.declared.dispatch.Kind.{Kind}
use Rattle.seh_records.specs.declared.dispatch.Kind.TheVariants as kinds
use Rattle.match_stack.proofs.Lemmas.{undoing}
use Rattle.match_stack.proofs.FrameWords.{left_is}

pub set_head : (kept : List ℕ) (v : ℕ) → 0 < length kept → slice_index (slice_set kept 0 v) 0 ≡ v
set_head [] v lt = absurd (omega arith)
set_head (k ∷ ks) v lt = refl

abbrev up_by : ℕ → List ℕ → ℕ → Answer Context
up_by x ks v = Ok (rsp_raised (record { rip = v; kept = x ∷ ks }) 8)

-- the base of a fragment is its function's
base_same : (i p : Info) (c : Context) (b : Bool) → IsFragment i p → base_if i c b ≡ base_if p c b
base_same i p c false h = refl
base_same i p c true h = ap (λ k. (get c k + (2 ^ 64 - i.frame_offset)) % 2 ^ 64) h.register
    ∙ ap (λ k. (get c p.frame_register + (2 ^ 64 - k)) % 2 ^ 64) h.offset

base_of : (i p : Info) (c : Context) → IsFragment i p
    → base_if i c (has_frame i) ≡ base_if p c (has_frame p)
base_of i p c h = ap (λ k. base_if i c (not (nat_eq k 0))) h.register
    ∙ base_same i p c (has_frame p) h

-- and it has no codes beside those of its function
rest_alone : (m : Memory) (a : Answer Undo)
    → ((a >>= λ u. Ok u) >>= returned m) ≡ (a >>= λ u. returned m u)
rest_alone m (Ok u) = refl
rest_alone m (Err e) = refl

unwound_by : (m : Memory) (base : ℕ) (i p : Info) (c : Context) → i.codes ≡ []
    → unwound m base i (p ∷ []) (operations i.codes) c
    ≡ unwound m base p [] (operations p.codes) c
unwound_by m base i p c e =
    ap (λ (xs : List UnwindCode). unwound m base i (p ∷ []) (operations xs) c) e
    ∙ rest_alone m (undone m base p (operations p.codes) (at_start c))

-- undoing the codes of a frame gives its caller, with the registers that were saved
undone_found : (m : Memory) (c : Context) (f : StackFrame)
    → length c.kept ≡ 9 → length f.others ≡ 8 → rsp c + f.size + 8 < 2 ^ 64 → IsAsTold m c f
    → unwound m (rsp c) (teller f.entry) [] (told f) c ≡ Ok (after_frame c f)
undone_found m c f kept eight room h =
    undoing (teller f.entry) m c (rsp c) (at_entry c f) f.return_address (told f) kept room
    h.offset h.allowed h.stack h.framed h.others ∙ ap Ok (left_is c f eight)

found_by : (m : Memory) (c : Context) (f : StackFrame) (parents : List Info)
    → IsChain f.entry.info parents
    → base_if (telling f.entry.info parents) c (has_frame (telling f.entry.info parents)) ≡ rsp c
    → unwound m (rsp c) (telling f.entry.info parents) []
    (operations (telling f.entry.info parents).codes) c ≡ Ok (after_frame c f)
    → in_body m f.entry.info parents c ≡ Ok (caller_frame c f)
found_by m c f [] chain base e =
    let i = f.entry.info in
    ap (λ b. found b (Some i) (unwound m b i [] (operations i.codes) c)) base
    ∙ ap (found (rsp c) (Some i)) e
found_by m c f (p ∷ []) chain base e =
    let i = f.entry.info in
    ap (λ b. found b (Some i) (unwound m b i (p ∷ []) (operations i.codes) c))
    (base_of i p c chain ∙ base)
    ∙ ap (found (rsp c) (Some i)) (unwound_by m (rsp c) i p c chain.codes ∙ e)
found_by m c f (p ∷ r ∷ ps) chain base e = absurd chain

body_found : (m : Memory) (c : Context) (f : StackFrame) → IsChain f.entry.info f.entry.parents
    → length c.kept ≡ 9 → length f.others ≡ 8 → rsp c + f.size + 8 < 2 ^ 64 → IsAsTold m c f
    → in_body m f.entry.info f.entry.parents c ≡ Ok (caller_frame c f)
body_found m c f chain kept eight room h =
    found_by m c f f.entry.parents chain h.base (undone_found m c f kept eight room h)

pub frame_called : (t : Functions) (m : Memory) (c : Context) (f : StackFrame) → FrameIsAt t m c f
    → caller_in t m c ≡ Ok (caller_frame c f)
unfolding caller_in
frame_called t m c f h =
    let rva = distance t.base c.rip in
    let rises : nat_lt (rsp c) (rsp (after_frame c f)) ≡ true = lt-ltb _ _ (omega arith) in
    ap (λ (o : Option Entry). of_entry m c rva o >>= rising c) h.found
    ∙ ap (λ b. by_distance m f.entry.info f.entry.parents c (rva - f.entry.range.begin) b
    >>= rising c) h.past_prologue
    ∙ ap (λ (o : Option (List Instr)). past_prologue m f.entry.info f.entry.parents c o
    >>= rising c) h.not_epilogue
    ∙ ap (λ (r : Answer CallerFrame). r >>= rising c)
    (body_found m c f h.chain h.kept h.eight h.room h.is_told)
    ∙ ap (risen c (caller_frame c f)) rises

pub frame_is_visited : FrameIsVisited
unfolding visited
frame_is_visited t m c row f h =
    let w : WalkState = state c row in
    ap (if_over t m w) h.live ∙ ap (if_filter t m w) h.not_filter
    ∙ ap (if_finally t m w) h.not_finally
    ∙ ap (if_vectored t m w) h.not_vectored ∙ ap framed (frame_called t m c f h)

-- the return address popped
leaf_popped : (m : Memory) (rip : ℕ) (kept : List ℕ) (back : ℕ) → 0 < length kept
    → slice_index kept 0 + 8 < 2 ^ 64 → word m (slice_index kept 0) ≡ Ok back
    → popped m (record { rip = rip; kept = kept })
    ≡ Ok (record { rip = back; kept = slice_set kept 0 (slice_index kept 0 + 8) })
leaf_popped m rip [] back lt room w = absurd (omega arith)
leaf_popped m rip (k ∷ ks) back lt room w =
    let e : (k + 8) % 2 ^ 64 ≡ k + 8 = omega arith in
    ap (λ (o : Answer ℕ). o >>= up_by k ks) w
    ∙ ap (λ x. Ok (record { rip = back; kept = x ∷ ks })) e

leaf_called : (t : Functions) (m : Memory) (c : Context) (back : ℕ) → LeafIsAt t m c back
    → caller_in t m c ≡ Ok (caller_of_leaf c back)
unfolding caller_in
leaf_called t m c back h =
    let up : rsp (after_leaf c back) ≡ rsp c + 8 = set_head c.kept (rsp c + 8)
    (let k = h.kept in omega arith) in
    let rises : nat_lt (rsp c) (rsp (after_leaf c back)) ≡ true = lt-ltb _ _ (omega arith) in
    ap (λ (o : Option Entry). of_entry m c (distance t.base c.rip) o >>= rising c) h.none
    ∙ ap (λ (r : Answer Context). found (rsp c) None r >>= rising c)
    (leaf_popped m c.rip c.kept back (let k = h.kept in omega arith) h.room h.returns)
    ∙ ap (risen c (caller_of_leaf c back)) rises

pub leaf_is_visited : LeafIsVisited
unfolding visited
leaf_is_visited t m c row back h =
    let w : WalkState = state c row in
    ap (if_over t m w) h.live ∙ ap (if_filter t m w) h.not_filter
    ∙ ap (if_finally t m w) h.not_finally
    ∙ ap (if_vectored t m w) h.not_vectored ∙ ap framed (leaf_called t m c back h)

-- a return address of the host isn't the end
at_filter : (t : Functions) (m : Memory) (w : WalkState) → w.context.rip ≡ filter_return
    → visited t m w ≡ past_filter (rsp w.context) (fetched m (rsp w.context))
unfolding visited
at_filter t m w e = ap (λ a. if_over t m w (nat_eq a 0)) e
    ∙ ap (λ a. if_filter t m w (nat_eq a filter_return)) e

at_finally : (t : Functions) (m : Memory) (w : WalkState) → w.context.rip ≡ finally_return
    → visited t m w ≡ past_finally (rsp w.context) (fetched m (rsp w.context))
unfolding visited
at_finally t m w e = ap (λ a. if_over t m w (nat_eq a 0)) e
    ∙ ap (λ a. if_filter t m w (nat_eq a filter_return)) e
    ∙ ap (λ a. if_finally t m w (nat_eq a finally_return)) e

at_vectored : (t : Functions) (m : Memory) (w : WalkState) → w.context.rip ≡ vectored_return
    → visited t m w ≡ past_vectored (rsp w.context) (fetched m (rsp w.context))
unfolding visited
at_vectored t m w e = ap (λ a. if_over t m w (nat_eq a 0)) e
    ∙ ap (λ a. if_filter t m w (nat_eq a filter_return)) e
    ∙ ap (λ a. if_finally t m w (nat_eq a finally_return)) e
    ∙ ap (λ a. if_vectored t m w (nat_eq a vectored_return)) e

pub stack_is_over : StackIsOver
unfolding visited
stack_is_over t m c row e = ap (λ a. if_over t m (state c row) (nat_eq a 0)) e

pub search_is_passed : SearchIsPassed
search_is_passed t m c row r h =
    let order : rsp c + RECORD_SIZE ≤ rsp (context_of r.saved) = h.above in
    let rises : nat_lt (rsp c) (rsp (context_of r.saved)) ≡ true = lt-ltb _ _ (omega arith) in
    by_kind r.kind refl ∙ ap (if_above (rsp c) (saved_in r)) rises
  where
    by_kind : (k : Kind) → r.kind ≡ k
        → visited t m (state c row) ≡ above (rsp c) (saved_in r)
    by_kind kinds.Search e = at_filter t m (state c row) (h.at_host ∙ ap answer_return e)
        ∙ ap (past_filter (rsp c)) h.fetches
        ∙ ap (λ k. if_kind (rsp c) (above (rsp c) (saved_in r)) (is_search k)) e
    by_kind kinds.Vectored e = at_vectored t m (state c row) (h.at_host ∙ ap answer_return e)
        ∙ ap (past_vectored (rsp c)) h.fetches
        ∙ ap (λ k. if_kind (rsp c) (above (rsp c) (saved_in r)) (is_vectored k)) e
    by_kind kinds.ExceptionUnwind e = absurd (let no : false ≡ true = sym (ap is_asking e) ∙ h.kind
        in cc)
    by_kind kinds.LocalUnwind e = absurd (let no : false ≡ true = sym (ap is_asking e) ∙ h.kind in
        cc)

pub unwinding_is_passed : UnwindingIsPassed
unwinding_is_passed t m c row r h =
    let order : rsp c + RECORD_SIZE ≤ rsp r.walk = h.above in
    let rises : nat_lt (rsp c) (rsp r.walk) ≡ true = lt-ltb _ _ (omega arith) in
    at_finally t m (state c row) h.at_host ∙ ap (past_finally (rsp c)) h.fetches
    ∙ ap (if_kind (rsp c) (above (rsp c) (walk_in r))) h.kind
    ∙ ap (if_above (rsp c) (walk_in r)) rises
