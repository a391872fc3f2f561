-- Callers, by the function tables.
use Rattle.std.proofs.Common.{◌≡◌, ℕ, ◌-◌, true, ltb, List, [], Option, Some, None, refl, sym, ap, subst, ◌∙◌, arith, inl, inr}
use Rattle.std.proofs.lemmas.Bool.{cases_eq, lt-ltb}
use Rattle.frame_rules.specs.Words.{Context, context_of, State, Info, is_nonvolatile, get, rsp, ◌>>=◌, popped, CallerFrame, distance, in_entry, of_entry, leaf, risen, rising, caller_in, caller_of, IsWord, left_to, registers, return_address, FindsContext, IsFound, EntriesAreFound, LeavesAreFound}
use Rattle.eh_tables.specs.Tables.{Entry, Tables, entries_of, holding}
use Rattle.virtual_unwind.specs.Undone.{Answer}
use Rattle.frame_rules.proofs.Lemmas.{get-context}
use Rattle.frame_rules.proofs.Undoing.{popped_is}
use Rattle.frame_rules.proofs.Bodies.{body_holds}
use Rattle.frame_rules.proofs.Frames.{first_running, finds}
use Rattle.frame_rules.proofs.EveryFrame.{frames_are_right}

-- RSP rises
rises : (c : Context) (a : Answer CallerFrame) (to : Context) → FindsContext a to (rsp c)
    → IsFound (a >>= rising c) to
rises c a to h =
    let up : ltb (rsp c) (rsp h.found.context)
    ≡ true = ap (λ (x : Context). ltb (rsp c) (rsp x)) h.context
    ∙ lt-ltb (rsp c) (rsp to) h.rises in
    record {
      found = h.found;
      is = ap (λ (x : Answer CallerFrame). x >>= rising c) h.is ∙ ap (risen c h.found) up;
      context = h.context;
    }

looked_up : (t : Tables) (s : State) (o : Option Entry) (to : Context)
    → holding (distance t.image.base s.cpu.rip) (entries_of t) ≡ o
    → IsFound (of_entry s.memory (context_of s.cpu) (distance t.image.base s.cpu.rip) o
    >>= rising (context_of s.cpu)) to → IsFound (caller_of t s.memory (context_of s.cpu)) to
unfolding caller_of caller_in
looked_up t s o to e h = subst (λ (x : Option Entry). IsFound
    (of_entry s.memory (context_of s.cpu) (distance t.image.base s.cpu.rip) x
    >>= rising (context_of s.cpu)) to) (sym e) h

pub entries_are_found : EntriesAreFound
entries_are_found t entry f e s begin d to held info parents at right first is_there lt rip st =
    let away : distance t.image.base s.cpu.rip - entry.range.begin ≡ d = omega arith in
    let h = frames_are_right f e s begin d to right first is_there lt rip st in
    let h1 = subst (λ (i : Info). FindsContext (in_entry s.memory i [] (context_of s.cpu) d)
    (left_to (registers e) (return_address e)) (registers s 4)) (sym info) h in
    let h2 = subst (λ (is : List Info). FindsContext
    (in_entry s.memory entry.info is (context_of s.cpu) d)
    (left_to (registers e) (return_address e)) (registers s 4)) (sym parents) h1 in
    let h3 = subst (λ k. FindsContext (in_entry s.memory entry.info entry.parents (context_of s.cpu)
    k) (left_to (registers e) (return_address e)) (registers s 4)) (sym away) h2 in
    looked_up t s (Some entry) (left_to (registers e) (return_address e)) held
    (rises (context_of s.cpu) (of_entry s.memory (context_of s.cpu)
    (distance t.image.base s.cpu.rip) (Some entry)) (left_to (registers e) (return_address e)) h3)

pub leaves_are_found : LeavesAreFound
leaves_are_found t rest e s held body first b =
    let old = registers e in
    let back = return_address e in
    let high = first.high in
    let holds = body_holds 0 0 back e e s [] rest refl (λ ne. absurd (ne refl)) body
    (first_running 0 0 0 e first) b in
    let now : (r : ℕ) → is_nonvolatile r ≡ true
    → get (context_of s.cpu) r ≡ old r = λ r nv. get-context s.cpu r nv ∙ elim (cases_eq r 4) [
      | inl z ↦ subst (λ k. registers s k ≡ old k) (sym z) holds.stack.0
      | inr ne ↦ holds.others r nv ne refl
    ] in
    let word = subst (λ a. IsWord s.memory a back) holds.stack.0 holds.stack.1 in
    let top = holds.stack.0 in
    looked_up t s None (left_to old back) held
    (rises (context_of s.cpu) (leaf s.memory (context_of s.cpu)) (left_to old back)
    (finds (registers s 4) None (popped s.memory (context_of s.cpu)) old back (registers s 4)
    (popped_is s.memory old back (context_of s.cpu) refl now (omega arith) word) (omega arith)))
