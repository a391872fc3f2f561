-- RSP rises in a walk, and stays an address.
use Rattle.std.proofs.Common.{◌≡◌, ℕ, zero, suc, ◌+◌, ◌%◌, ◌^◌, ◌<◌, Bool, true, false, eqb, ltb, Option, Some, None, Ok, Err, get_or, refl, subst, lit<}
use Rattle.std.proofs.lemmas.Bool.{ltb-true}
use Rattle.flat_memory.specs.Memory.{Memory, first_refused, may_read}
use Rattle.x64_machine.specs.declared.context.Context.{Context}
use Rattle.x64_machine.specs.Contexts.{context_of}
use Rattle.virtual_unwind.specs.Contexts.{rsp}
use Rattle.seh_num.specs.Answers.{◌>>=◌}
use Rattle.virtual_unwind.specs.Undone.{Answer}
use Rattle.virtual_unwind.specs.CallerOf.{Functions, CallerFrame, distance, entry_of, of_entry, rising, risen, caller_in}
use Rattle.seh_records.specs.declared.dispatch.Kind.{Kind}
use Rattle.seh_records.specs.declared.dispatch.DispatchRecord.{DispatchRecord}
use Rattle.seh_records.specs.Words.{words_at}
use Rattle.seh_records.specs.Record.{fetched, if_readable, if_marked, of_kind, kind_of, mark, word}
use Rattle.seh_records.specs.Laws.{AreBytes}
use Rattle.seh_records.specs.declared.layout.TheConstants.{RECORD_SIZE}
use Rattle.seh_walk.specs.declared.walk.WalkState.{WalkState}
use Rattle.seh_walk.specs.Walk.{Visited, visited, if_over, if_filter, if_finally, if_vectored, if_above, above, if_kind, is_search, is_unwinding, is_vectored, saved_in, walk_in, past_filter, past_finally, past_vectored, framed, filter_return, finally_return, vectored_return}
use Rattle.seh_walk.specs.Laws.{ContinuesAt, WalksRise, WalksStayBelow}
use Rattle.seh_walk.proofs.Bounded.{eight_small, IsSmallFound, caller_small}

-- ---- what a step keeps, for any P of RSP before and after

module _ (t : Functions) (m : Memory) (w : WalkState) (P : ℕ → Type 0) where
  abbrev Keeps : Visited → Type 0
  Keeps i = (u : WalkState) → ContinuesAt i u → P (rsp u.context)

  above_keeps : (at : ℕ) (v : WalkState) → (at < rsp v.context → P (rsp v.context))
      → Keeps (above at v)
  above_keeps at v h u l = go (ltb at (rsp v.context)) refl l
    where
      go : (b : Bool) → ltb at (rsp v.context) ≡ b → ContinuesAt (if_above at v b) u
          → P (rsp u.context)
      go true e l = subst (λ (x : WalkState). P (rsp x.context)) l
          (h (ltb-true at (rsp v.context) e))
      go false e l = absurd l

  kind_keeps : (at : ℕ) (i : Visited) (b : Bool) → Keeps i → Keeps (if_kind at i b)
  kind_keeps at i true h = h
  kind_keeps at i false h = λ u l. absurd l

  filter_keeps : (at : ℕ) (o : Option DispatchRecord)
      → ((r : DispatchRecord) → o ≡ Some r → at < rsp (context_of r.saved)
      → P (rsp (context_of r.saved))) → Keeps (past_filter at o)
  filter_keeps at None h = λ u l. absurd l
  filter_keeps at (Some r) h = kind_keeps at (above at (saved_in r)) (is_search r.kind)
      (above_keeps at (saved_in r) (h r refl))

  vectored_keeps : (at : ℕ) (o : Option DispatchRecord)
      → ((r : DispatchRecord) → o ≡ Some r → at < rsp (context_of r.saved)
      → P (rsp (context_of r.saved))) → Keeps (past_vectored at o)
  vectored_keeps at None h = λ u l. absurd l
  vectored_keeps at (Some r) h = kind_keeps at (above at (saved_in r)) (is_vectored r.kind)
      (above_keeps at (saved_in r) (h r refl))

  finally_keeps : (at : ℕ) (o : Option DispatchRecord)
      → ((r : DispatchRecord) → o ≡ Some r → at < rsp r.walk → P (rsp r.walk))
      → Keeps (past_finally at o)
  finally_keeps at None h = λ u l. absurd l
  finally_keeps at (Some r) h = kind_keeps at (above at (walk_in r)) (is_unwinding r.kind)
      (above_keeps at (walk_in r) (h r refl))

  framed_keeps : (a : Answer CallerFrame) → ((f : CallerFrame) → a ≡ Ok f → P (rsp f.context))
      → Keeps (framed a)
  framed_keeps (Ok f) h u l = subst (λ (x : WalkState). P (rsp x.context)) l (h f refl)
  framed_keeps (Err e) h u l = absurd l

  module _ (saved : (r : DispatchRecord) → fetched m (rsp w.context) ≡ Some r
      → rsp w.context < rsp (context_of r.saved) → P (rsp (context_of r.saved)))
      (walk : (r : DispatchRecord) → fetched m (rsp w.context) ≡ Some r
      → rsp w.context < rsp r.walk → P (rsp r.walk))
      (caller : (f : CallerFrame) → caller_in t m w.context ≡ Ok f → P (rsp f.context)) where
    by_vectored : (b : Bool) → Keeps (if_vectored t m w b)
    by_vectored true = vectored_keeps (rsp w.context) (fetched m (rsp w.context)) saved
    by_vectored false = framed_keeps (caller_in t m w.context) caller

    by_finally : (b : Bool) → Keeps (if_finally t m w b)
    by_finally true = finally_keeps (rsp w.context) (fetched m (rsp w.context)) walk
    by_finally false = by_vectored (eqb w.context.rip vectored_return)

    by_filter : (b : Bool) → Keeps (if_filter t m w b)
    by_filter true = filter_keeps (rsp w.context) (fetched m (rsp w.context)) saved
    by_filter false = by_finally (eqb w.context.rip finally_return)

    by_end : (b : Bool) → Keeps (if_over t m w b)
    by_end true = λ u l. absurd l
    by_end false = by_filter (eqb w.context.rip filter_return)

    pub keeps : Keeps (visited t m w)
    unfolding visited
    keeps = by_end (eqb w.context.rip 0)

-- ---- RSP rises

risen_above : (c : Context) (a : Answer CallerFrame) (f : CallerFrame) → (a >>= rising c) ≡ Ok f
    → rsp c < rsp f.context
risen_above c (Err x) f e = absurd cc
risen_above c (Ok g) f e = go (ltb (rsp c) (rsp g.context)) refl e
  where
    same : {x y : CallerFrame} → (let o : Answer CallerFrame = Ok x in o) ≡ Ok y → x ≡ y
    same e = cc

    go : (b : Bool) → ltb (rsp c) (rsp g.context) ≡ b → risen c g b ≡ Ok f → rsp c < rsp f.context
    go true h e = subst (λ (x : CallerFrame). rsp c < rsp x.context) (same e)
        (ltb-true (rsp c) (rsp g.context) h)
    go false h e = absurd cc

caller_above : (t : Functions) (m : Memory) (c : Context) (f : CallerFrame) → caller_in t m c ≡ Ok f
    → rsp c < rsp f.context
unfolding caller_in
caller_above t m c f e = risen_above c (of_entry m c (distance t.base c.rip) (entry_of t c.rip)) f e

pub walks_rise : WalksRise
walks_rise t m w u l = keeps t m w (λ n. rsp w.context < n) (λ r e h. h) (λ r e h. h)
    (λ f e. caller_above t m w.context f e) u l

-- ---- RSP stays an address

run_small : (byte : ℕ → ℕ) (n x k : ℕ) → AreBytes byte → get_or (words_at byte n x) k 0 < 2 ^ 64
unfolding words_at
run_small byte zero x k h = lit< tt
run_small byte (suc n) x zero h = eight_small byte x h
run_small byte (suc n) x (suc k) h = run_small byte n ((x + 8) % 2 ^ 64) k h

abbrev IsSmallRecord : Option DispatchRecord → Type 0
IsSmallRecord None = Unit {0}
IsSmallRecord (Some r) = (rsp (context_of r.saved) < 2 ^ 64) × (rsp r.walk < 2 ^ 64)

fetched_small : (m : Memory) (at : ℕ) → AreBytes m.byte → IsSmallRecord (fetched m at)
unfolding fetched
fetched_small m at h = by_reading (first_refused (may_read m) RECORD_SIZE at)
  where
    by_kind : (o : Option Kind) → IsSmallRecord (of_kind m at o)
    by_kind None = tt
    by_kind (Some k) = (
      run_small m.byte 16 ((at + 0x178) % 2 ^ 64) 4 h,
      run_small m.byte 9 ((at + 1496) % 2 ^ 64) 0 h,
    )

    by_mark : (b : Bool) → IsSmallRecord (if_marked m at b)
    by_mark true = by_kind (kind_of (word m at 40))
    by_mark false = tt

    by_reading : (o : Option ℕ) → IsSmallRecord (if_readable m at o)
    by_reading (Some a) = tt
    by_reading None = by_mark (eqb (word m at 32) mark)

pub walks_stay_below : WalksStayBelow
walks_stay_below t m w u bytes small l =
    let at = rsp w.context in
    keeps t m w (λ n. n < 2 ^ 64) (λ r e h. (subst IsSmallRecord e (fetched_small m at bytes)).0)
    (λ r e h. (subst IsSmallRecord e (fetched_small m at bytes)).1)
    (λ f e. subst IsSmallFound e (caller_small m bytes t w.context small)) u l
