-- A search decides within as many steps as there are addresses above its stack pointer.
use Rattle.std.proofs.Common.{◌≡◌, ℕ, zero, suc, ◌+◌, ◌^◌, ◌<◌, ◌≤◌, Option, Some, None, Ok, Err, refl, arith}
use Rattle.std.specs.Prelude.{Result}
use Rattle.flat_memory.specs.Memory.{Memory}
use Rattle.x64_machine.specs.declared.context.Context.{Context}
use Rattle.virtual_unwind.specs.Contexts.{rsp}
use Rattle.virtual_unwind.specs.CallerOf.{Functions, distance}
use Rattle.seh_records.specs.Laws.{AreBytes}
use Rattle.seh_walk.specs.declared.walk.WalkState.{WalkState}
use Rattle.seh_walk.specs.Asked.{AskedRecord, searched, first_with_jump_target}
use Rattle.seh_walk.specs.Walk.{Visited, Over, Past, Frame, Broken, visited, continue_walk, steps}
use Rattle.seh_walk.specs.Laws.{ContinuesAt}
use Rattle.seh_walk.proofs.Walking.{walks_rise, walks_stay_below}
use Rattle.seh_search.specs.declared.search_result.SearchResult.{SearchResult}
use Rattle.seh_search.specs.Search.{search, decided, by_row}
use Rattle.seh_search.specs.Laws.{SearchesEnd}

same : {u v : WalkState} → (let r : Result WalkState SearchResult = Ok u in r) ≡ Ok v → u ≡ v
same e = cc

row_leads : (t : Functions) (frame : ℕ) (c : Context) (v u : WalkState) (o : Option AskedRecord)
    → by_row t frame c v o ≡ Ok u → v ≡ u
row_leads t frame c v u None e = same e
row_leads t frame c v u (Some r) e = absurd cc

leads : (t : Functions) (w : WalkState) (i : Visited) (u : WalkState) → decided t w i ≡ Ok u
    → ContinuesAt i u
leads t w Over u e = cc
leads t w (Past v) u e = same e
leads t w (Broken y) u e = cc
leads t w (Frame f v) u e = row_leads t f.frame w.context v u
    (first_with_jump_target (searched f.asked (distance t.base w.context.rip) w.row)) e

enough : (n k : ℕ) (t : Functions) (m : Memory) (w : WalkState) → AreBytes m.byte
    → rsp w.context < 2 ^ 64 → 2 ^ 64 ≤ n + rsp w.context → 2 ^ 64 ≤ k + rsp w.context
    → search n t m w ≡ search k t m w
unfolding search
enough zero k t m w bytes small p q = absurd (omega arith)
enough (suc n) zero t m w bytes small p q = absurd (omega arith)
enough (suc n) (suc k) t m w bytes small p q = go (λ u l b a c. enough n k t m u bytes b a c)
    (decided t w (visited t m w)) refl
  where
    go : ((u : WalkState) → ContinuesAt (visited t m w) u → rsp u.context < 2 ^ 64
        → 2 ^ 64 ≤ n + rsp u.context → 2 ^ 64 ≤ k + rsp u.context → search n t m u ≡ search k t m u)
        → (r : Result WalkState SearchResult) → decided t w (visited t m w) ≡ r
        → continue_walk (search n t m) r ≡ continue_walk (search k t m) r
    go more (Err s) e = refl
    go more (Ok u) e =
        let l = leads t w (visited t m w) u e in
        let rises = walks_rise t m w u l in
        more u l (walks_stay_below t m w u bytes small l) (omega arith) (omega arith)

pub searches_end : SearchesEnd
searches_end t m w n bytes above below le = enough n steps t m w bytes below (omega arith)
    (omega arith)
