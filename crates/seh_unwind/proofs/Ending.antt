-- An unwinding decides within as many steps as there are addresses above its stack pointer.
use Rattle.std.proofs.Common.{◌≡◌, ℕ, zero, suc, ◌+◌, ◌^◌, ◌<◌, ◌≤◌, Bool, true, false, eqb, ltb, Option, Some, None, Ok, Err, refl, arith}
use Rattle.std.specs.Prelude.{Result}
use Rattle.flat_memory.specs.Memory.{Memory}
use Rattle.x64_machine.specs.declared.context.Context.{Context}
use Rattle.virtual_unwind.specs.Contexts.{rsp}
use Rattle.virtual_unwind.specs.CallerOf.{Functions, CallerFrame, distance}
use Rattle.seh_records.specs.Laws.{AreBytes}
use Rattle.seh_walk.specs.declared.walk.WalkState.{WalkState}
use Rattle.seh_walk.specs.Asked.{AskedRecord, unwound, first_finally}
use Rattle.seh_walk.specs.Walk.{Visited, Over, Past, Frame, Broken, visited, continue_walk, steps}
use Rattle.seh_walk.specs.Laws.{ContinuesAt}
use Rattle.seh_walk.proofs.Walking.{walks_rise, walks_stay_below}
use Rattle.seh_unwind.specs.declared.unwind_result.UnwindResult.{UnwindResult}
use Rattle.seh_unwind.specs.Unwind.{unwind, decided, by_row, if_target, if_past}
use Rattle.seh_unwind.specs.Laws.{UnwindingsEnd}

same : {u v : WalkState} → (let r : Result WalkState UnwindResult = Ok u in r) ≡ Ok v → u ≡ v
same e = cc

target_leads : (c : Context) (v u : WalkState) (b : Bool) → if_target v c b ≡ Ok u → v ≡ u
target_leads c v u true e = absurd cc
target_leads c v u false e = same e

row_leads : (t : Functions) (frame : ℕ) (c : Context) (v u : WalkState) (b : Bool)
    (o : Option AskedRecord) → by_row t frame c v b o ≡ Ok u → v ≡ u
row_leads t frame c v u b None e = target_leads c v u b e
row_leads t frame c v u b (Some r) e = absurd cc

past_leads : (t : Functions) (frame target : ℕ) (w : WalkState) (f : CallerFrame) (v u : WalkState)
    (b : Bool) → if_past t frame target w f v b ≡ Ok u → v ≡ u
past_leads t frame target w f v u true e = absurd cc
past_leads t frame target w f v u false e = row_leads t f.frame w.context v u (eqb f.frame frame)
    (first_finally (unwound f.asked (distance t.base w.context.rip) w.row (eqb f.frame frame)
    (distance t.base target))) e

leads : (t : Functions) (frame target : ℕ) (w : WalkState) (i : Visited) (u : WalkState)
    → decided t frame target w i ≡ Ok u → ContinuesAt i u
leads t frame target w Over u e = cc
leads t frame target w (Past v) u e = same e
leads t frame target w (Broken y) u e = cc
leads t frame target w (Frame f v) u e = past_leads t frame target w f v u (ltb frame f.frame) e

enough : (n k : ℕ) (t : Functions) (m : Memory) (frame target : ℕ) (w : WalkState) → AreBytes m.byte
    → rsp w.context < 2 ^ 64 → 2 ^ 64 ≤ n + rsp w.context → 2 ^ 64 ≤ k + rsp w.context
    → unwind n t m frame target w ≡ unwind k t m frame target w
unfolding unwind
enough zero k t m frame target w bytes small p q = absurd (omega arith)
enough (suc n) zero t m frame target w bytes small p q = absurd (omega arith)
enough (suc n) (suc k) t m frame target w bytes small p q = go
    (λ u l b a c. enough n k t m frame target u bytes b a c)
    (decided t frame target w (visited t m w)) refl
  where
    go : ((u : WalkState) → ContinuesAt (visited t m w) u → rsp u.context < 2 ^ 64
        → 2 ^ 64 ≤ n + rsp u.context → 2 ^ 64 ≤ k + rsp u.context
        → unwind n t m frame target u ≡ unwind k t m frame target u)
        → (r : Result WalkState UnwindResult) → decided t frame target w (visited t m w) ≡ r
        → continue_walk (unwind n t m frame target) r ≡ continue_walk (unwind k t m frame target) r
    go more (Err s) e = refl
    go more (Ok u) e =
        let l = leads t frame target w (visited t m w) u e in
        let rises = walks_rise t m w u l in
        more u l (walks_stay_below t m w u bytes small l) (omega arith) (omega arith)

pub unwindings_end : UnwindingsEnd
unwindings_end t m frame target w n bytes above below le = enough n steps t m frame target w bytes
    below (omega arith) (omega arith)
