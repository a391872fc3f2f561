-- In each state of a function that is right its caller is found.
use Rattle.std.proofs.Common.{◌≡◌, ◌≢◌, ℕ, ◌+◌, ◌^◌, ◌<◌, ◌≤◌, true, ◌&&◌, eqb, ltb, List, [], ◌∷◌, ◌++◌, Option, Some, None, refl, sym, ap, subst, ◌∙◌, arith, inl, inr}
use Rattle.std.proofs.lemmas.Bool.{false≢true, and_parts, lt-ltb, le-ltb, not-true, eqb-false}
use Rattle.std.proofs.lemmas.List.{append-nil}
use Rattle.frame_rules.specs.Words.{Instr, context_of, State, UnwindCode, operations, Other, FetchedInstr, role_of, tail_at, left, has_frame, sets_frame, run_by, past_prologue, by_distance, in_entry, depth, pushes, pushed, Others, HoldsFrame, left_to, pops, is_epilogue, bytes, items, codes_onto, Mode, Body, Leaving, following, is_body, registers, RunsThrough, IsEntry, return_address, HasItems, FramedFunction, ops, IsRight, InPrologue, IsBody, IsLeaving, FindsContext, FramesAreRight}
use Rattle.frame_rules.proofs.Undoing.{stack_depth}
use Rattle.frame_rules.proofs.Order.{ordered, AllFollow, all_follow}
use Rattle.frame_rules.proofs.Steps.{Running}
use Rattle.frame_rules.proofs.Prologues.{Good, AtMost, run_done}
use Rattle.frame_rules.proofs.Entering.{entering}
use Rattle.frame_rules.proofs.Bodies.{following-append, body_holds}
use Rattle.frame_rules.proofs.Tails.{trails, opens_here, no_tail}
use Rattle.frame_rules.proofs.Leaving.{InLoads, InPops, Known}
use Rattle.frame_rules.proofs.EpilogueRuns.{Has, leave_run, pushed_or_loaded}
use Rattle.frame_rules.proofs.Epilogues.{pops_restore, epilogue_restores}
use Rattle.frame_rules.proofs.Frames.{others_context, framed_context, based, finds, first_running, good_run, at_end, items_split, other_or_not}

module _ (f : FramedFunction) (e : State) (right : IsRight f) (entry : IsEntry (depth (ops f)) e)
  where
    abbrev fr : ℕ
    fr = f.info.frame_register

    abbrev off : ℕ
    off = f.info.frame_offset

    abbrev old : ℕ → ℕ
    old = registers e

    abbrev back : ℕ
    back = return_address e

    good : Good fr (depth (ops f)) (ops f)
    good = record {
      ordered = ordered (ops f) right.ordered;
      allowed = right.allowed;
      deep = omega arith;
    }

    pub known : Known fr off old (ops f)
    known = record {
      ordered = ordered (ops f) right.ordered;
      allowed = right.allowed;
      frame = right.frame;
      high = entry.high;
      fits = entry.fits;
    }

    -- ---- the prologue

    run_to : (done left : List FetchedInstr) (s : State) → items f.steps ≡ done ++ left
        → RunsThrough e done s → Running fr off e back
        (operations (run_by (bytes done) f.info.codes))
        s
    run_to done left s parts runs =
        let z : 0 + bytes done ≡ bytes done = omega arith in
        let good' = subst (λ (cs : List UnwindCode). Good fr (depth (ops f)) (operations cs))
        right.codes good in
        let follow = subst (λ (cs : List UnwindCode). AllFollow fr (operations cs)) right.codes
        (all_follow fr (ops f) good.ordered right.frame) in
        let at = entering fr off back (depth (ops f)) e entry right.offset 0 [] f.steps done left e
        s
        right.steps tt good' follow parts (first_running fr off (depth (ops f)) e entry) runs in
        subst (λ d. Running fr off e back (operations (run_by d f.info.codes)) s) z
        (subst (λ (cs : List UnwindCode). Running fr off e back
        (operations (run_by (0 + bytes done) cs)) s) (sym right.codes) at)

    in_prologue : (s : State) (d : ℕ) → InPrologue f e s d
        → FindsContext (in_entry s.memory f.info [] (context_of s.cpu) d) (left_to old back)
        (registers s 4)
    in_prologue s d h =
        let run = run_to h.done h.left s h.parts h.runs in
        let codes = run_by (bytes h.done) f.info.codes in
        let g = good_run fr (depth (ops f)) (bytes h.done) f.info.codes good in
        let here = h.here in
        let before = h.before in
        let lt : ltb d f.info.prologue_size ≡ true = lt-ltb d f.info.prologue_size (omega arith) in
        let found = based f.info old back s (operations codes)
        (has_frame f.info && sets_frame (operations codes)) None right.offset entry.high g.ordered
        g.allowed (λ b. (and_parts (has_frame f.info) (sets_frame (operations codes)) b).1)
        run.holds in
        subst (λ b. FindsContext (by_distance s.memory f.info [] (context_of s.cpu) d b)
        (left_to old back) (registers s 4)) (sym lt)
        (subst (λ k. FindsContext (by_distance s.memory f.info [] (context_of s.cpu) k true)
        (left_to old back) (registers s 4)) (sym here) found)

    -- the state after it
    pub following_running : (p : State) → RunsThrough e (items f.steps) p
        → Running fr off e back (ops f) p
    following_running p runs =
        let all = run_to (items f.steps) [] p (sym (append-nil (items f.steps))) runs in
        let z : 0 + bytes (items f.steps) ≡ bytes (items f.steps) = omega arith in
        let most = subst (λ d. AtMost d (codes_onto [] f.steps)) z
        (at_end fr off 0 [] f.steps right.steps tt) in
        let same : run_by (bytes (items f.steps)) f.info.codes
        ≡ f.info.codes = run_done (bytes (items f.steps)) f.info.codes
        (subst (λ (cs : List UnwindCode). AtMost (bytes (items f.steps)) cs) (sym right.codes)
        most) in
        subst (λ (cs : List UnwindCode). Running fr off e back (operations cs) p) same all

    -- ---- past it

    pub past : (s : State) (d : ℕ) (o : Option (List Instr)) → f.info.prologue_size ≤ d
        → tail_at fr s.memory s.cpu.rip ≡ o → FindsContext
        (past_prologue s.memory f.info [] (context_of s.cpu) o) (left_to old back) (registers s 4)
        → FindsContext (in_entry s.memory f.info [] (context_of s.cpu) d) (left_to old back)
        (registers s 4)
    past s d o le t h =
        subst (λ b. FindsContext (by_distance s.memory f.info [] (context_of s.cpu) d b)
        (left_to old back) (registers s 4)) (sym (le-ltb d f.info.prologue_size le))
        (subst (λ (x : Option (List Instr)). FindsContext
        (past_prologue s.memory f.info [] (context_of s.cpu) x) (left_to old back) (registers s 4))
        (sym t) h)

    -- all codes undone
    pub whole : (s : State) → HoldsFrame fr off s.memory old back (registers s) (ops f) (ops f)
        → FindsContext (past_prologue s.memory f.info [] (context_of s.cpu) None) (left_to old back)
        (registers s 4)
    whole s h = based f.info old back s (ops f) (has_frame f.info) (Some f.info) right.offset
        entry.high (ordered (ops f) right.ordered) right.allowed
        (λ b. right.frame (eqb-false fr 0 (not-true (eqb fr 0) b))) h

    -- the instructions that are left from a place in the body
    rest_from : (s : State) (begin to : ℕ) (done left : List FetchedInstr)
        → HasItems s.memory begin (items f.steps ++ f.rest) to → f.rest ≡ done ++ left
        → HasItems s.memory (begin + (f.info.prologue_size + bytes done)) left to
    rest_from s begin to done left h parts =
        let a = items_split s.memory begin (items f.steps) f.rest to h in
        let b = items_split s.memory (begin + bytes (items f.steps)) done left to
        (subst (λ (xs : List FetchedInstr). HasItems s.memory (begin + bytes (items f.steps)) xs to)
        parts a) in
        let p = right.prologue_size in
        subst (λ x. HasItems s.memory x left to)
        (let z : begin + bytes (items f.steps) + bytes done
        ≡ begin + (f.info.prologue_size + bytes done) = omega arith in z) b

    pub no_tail_at : (s : State) (to : ℕ) (x : FetchedInstr) (xs : List FetchedInstr)
        → HasItems s.memory s.cpu.rip (x ∷ xs) to → role_of fr x.plain x.instr ≡ Other
        → tail_at fr s.memory s.cpu.rip ≡ None
    unfolding tail_at
    no_tail_at s to x xs h other = no_tail 0xFFFF_FFFF_FFFF_FFFF fr s.memory s.cpu.rip x
        (omega arith)
        h.0 other

    in_body : (s : State) (begin d to : ℕ) → HasItems s.memory begin (items f.steps ++ f.rest) to
        → s.cpu.rip ≡ begin + d → IsBody f e s d
        → FindsContext (in_entry s.memory f.info [] (context_of s.cpu) d) (left_to old back)
        (registers s 4)
    in_body s begin d to is_there rip h =
        let here = h.here in
        let r = rest_from s begin to h.done (h.item ∷ h.left) is_there h.parts in
        let at : begin + (f.info.prologue_size + bytes h.done) ≡ s.cpu.rip = omega arith in
        let r' = subst (λ a. HasItems s.memory a (h.item ∷ h.left) to) at r in
        past s d None (omega arith) (no_tail_at s to h.item h.left r' h.other)
        (whole s (body_holds fr off back e h.following s (ops f) f.rest right.allowed right.frame
        right.body (following_running h.following h.runs) h.in_body))

    -- ---- the epilogue

    popping : (s : State) (is : List Instr) (rs : List ℕ) → InPops fr old back rs s
        → pops rs is ≡ true → FindsContext (past_prologue s.memory f.info [] (context_of s.cpu)
        (Some is)) (left_to old back) (registers s 4)
    popping s is rs h p =
        let d = stack_depth s.memory old back h.base (registers s 4) (pushed rs) h.stack in
        let high = entry.high in
        finds _ None (left s.memory is (context_of s.cpu)) old back (registers s 4)
        (pops_restore fr s.memory (context_of s.cpu) h.base old back rs is refl (omega arith)
        h.allowed h.stack (others_context old s (pushed rs) h.others) p) (omega arith)

    opening : (s : State) (is : List Instr) (rs : List ℕ) → InLoads fr off old back (ops f) rs s
        → Others old (registers s) (pushed (pushes (ops f))) → is_epilogue fr off (ops f) is ≡ true
        → FindsContext (past_prologue s.memory f.info [] (context_of s.cpu) (Some is))
        (left_to old back) (registers s 4)
    opening s is rs h o p =
        let d = stack_depth s.memory old back (registers s 4) (registers s 4)
        (ops f) h.holds.stack in
        let high = entry.high in
        finds _ None (left s.memory is (context_of s.cpu)) old back (registers s 4)
        (epilogue_restores f.info s.memory (context_of s.cpu) (registers s 4) old back (ops f) is
        refl (omega arith) right.ordered right.allowed right.frame h.holds.stack
        (framed_context fr off (registers s 4) s (ops f) right.allowed h.holds.framed)
        (others_context old s (pushed (pushes (ops f))) o) p) (omega arith)

    pub by_mode : (s : State) (d to : ℕ) (m : Mode) (ys : List FetchedInstr) → ys ≢ []
        → f.info.prologue_size ≤ d → to < 2 ^ 63 → HasItems s.memory s.cpu.rip ys to
        → is_body (following fr off (ops f) ys m) ≡ true → Has fr off old back (ops f) s m
        → FindsContext (in_entry s.memory f.info [] (context_of s.cpu) d) (left_to old back)
        (registers s 4)
    unfolding tail_at
    by_mode s d to m [] ne le lt is_there b h = absurd (ne refl)
    by_mode s d to (Leaving rs) (y ∷ ys) ne le lt is_there b h =
        let t = trails fr off (ops f) s.memory rs 0xFFFF_FFFF_FFFF_FFFF s.cpu.rip to true (y
        ∷ ys) lt
        (omega arith) is_there b in
        past s d (Some t.instrs) le t.is (popping s t.instrs rs h t.pops)
    by_mode s d to (Body rs) (y ∷ ys) ne le lt is_there b h = elim
        (other_or_not (role_of fr y.plain y.instr)) [
          | inl other ↦ past s d None le (no_tail_at s to y ys is_there other) (whole s h.holds)
          | inr other ↦
              let o = opens_here fr off (ops f) s.memory 0xFFFF_FFFF_FFFF_FFFF s.cpu.rip to y ys rs
              lt
              (omega arith) is_there b other in
              past s d (Some o.is_there.instrs) le o.is_there.is
              (opening s o.is_there.instrs rs h (λ q nv four z. elim
              (pushed_or_loaded q rs (ops f) o.restored z) [
                | inl x ↦ h.holds.others q nv four x
                | inr x ↦ h.restored q x
              ]) o.is_there.epilogue)
        ]

    -- the frame on the way through an epilogue
    pub leaving_has : (s : State) (d : ℕ) → (h : IsLeaving f e s d)
        → Has fr off old back (ops f) s h.to
    leaving_has s d h =
        let holds = body_holds fr off back e h.following h.from (ops f) f.rest right.allowed
        right.frame right.body (following_running h.following h.runs) h.in_body in
        let loads : InLoads fr off old back (ops f) []
        h.from = record {
          length = h.in_body.length;
          holds = holds;
          restored = λ r z. absurd (false≢true z);
        } in
        leave_run fr off back old (ops f) h.run h.from s (Body []) h.to known h.mode_here h.leave
        loads h.runs_on

    -- the modes that follow
    pub leaving_modes : (s : State) (d : ℕ) → (h : IsLeaving f e s d)
        → is_body (following fr off (ops f) h.left h.to) ≡ true
    leaving_modes s d h =
        let modes = ap (λ (xs : List FetchedInstr). following fr off (ops f) xs (Body [])) h.parts
        ∙ following-append fr off (ops f) h.done (h.run ++ h.left) (Body []) (Body []) h.mode
        ∙ following-append fr off (ops f) h.run h.left (Body []) h.to h.mode_here in
        ap is_body (sym modes) ∙ right.body

    is_leaving : (s : State) (begin d to : ℕ) → HasItems s.memory begin (items f.steps ++ f.rest) to
        → to < 2 ^ 63 → s.cpu.rip ≡ begin + d → IsLeaving f e s d
        → FindsContext (in_entry s.memory f.info [] (context_of s.cpu) d) (left_to old back)
        (registers s 4)
    is_leaving s begin d to is_there lt rip h =
        let here = h.here in
        let r = items_split s.memory (begin + (f.info.prologue_size + bytes h.done)) h.run h.left to
        (rest_from s begin to h.done (h.run ++ h.left) is_there h.parts) in
        let at : begin + (f.info.prologue_size + bytes h.done) + bytes h.run
        ≡ s.cpu.rip = omega arith in
        by_mode s d to h.to h.left h.continues (omega arith) lt
        (subst (λ a. HasItems s.memory a h.left to) at r) (leaving_modes s d h) (leaving_has s d h)

pub frames_are_right : FramesAreRight
frames_are_right f e s begin d to right entry is_there lt rip (inl h) = in_prologue f e right entry
    s d h
frames_are_right f e s begin d to right entry is_there lt rip (inr (inl h)) = in_body f e right
    entry s begin d to is_there rip h
frames_are_right f e s begin d to right entry is_there lt rip (inr (inr h)) = is_leaving f e right
    entry s begin d to is_there lt rip h
