-- The code that makes a frame: by its size, and as the prologue of its plan.
use Rattle.std.proofs.Common.{◌≡◌, ℕ, zero, suc, ◌++◌, ◌+◌, ◌*◌, ◌/◌, ◌<◌, ◌≤◌, ◌==◌, Bool, true, false, not, List, [], ◌∷◌, length, refl, ap, ◌∙◌, arith}
use Rattle.std.specs.Prelude.{◌&&◌, nat_le, if◌then◌else◌}
use Rattle.std.specs.List.{flat_map}
use Rattle.std.proofs.lemmas.Bool.{eqb-true, ne_eqb, le-leb}
use Rattle.match_bodies.specs.Words.{Instr, size, sizes, frame_code, Layout, LinearBody}
use Rattle.std.proofs.lemmas.List.{append-nil}
use Rattle.eh_tables.specs.declared.code.UnwindOperation.{UnwindOperation}
use Rattle.x64_instr.specs.Registers.{register}
use Rattle.x64_instr.specs.declared.instruction.Instr.TheVariants as instrs
use Rattle.template_code.specs.Frames.{frame_plan, plan_of_layout, saving_plan}
use Rattle.frame_rules.specs.Bytes.{prologue_code, spell}
use Rattle.frame_rules.specs.Codes.{depth, pushed}
use Rattle.frame_rules.specs.Plan.{FramePlan, Saved, allocation_then, allocating, epilogue, frame_then, instructions_of, load_of, loads_then, frame_size, opening_then, operations_of, pops_then, saves_then, spelled_by, steps_of, turned}
use Rattle.frame_rules.specs.Prologue.{bytes, items}
use Rattle.frame_rules.proofs.Frames.{bytes-append}
use Rattle.frame_rules.proofs.Sizes.{frame_has_its_size}
use Rattle.match_stack.specs.Stack.{AreAbove}
use Rattle.match_bodies.specs.CodeSites.{epilogue_through}
use Rattle.x64_templates.specs.Prologues.{codes_turns, none_stores, prologue_turns}
use Rattle.x64_templates.proofs.PrologueParts.{bytes_sizes}
use Rattle.match_bodies.specs.Layouts.{AreSavedAbove, IsFuncletLayout, saved_count}
use Rattle.match_bodies.proofs.Lemmas.{sizes_append}

-- the prologue of a plan that saves nothing is the allocation
made_code : (n probe : ℕ) → 0 < n
    → prologue_code (frame_plan n probe) ≡ allocating probe n (nat_le n 4096)
made_code n probe some =
    ap (λ none. flat_map (instructions_of (frame_plan n probe))
    (turned [] (allocation_then (not none) n [])))
    (ne_eqb n 0 (λ z. (let e : n ≡ 0 = z in absurd (omega arith))))
    ∙ append-nil (allocating probe n (nat_le n 4096))

bare_by : (pushes saves : ℕ) (framed : Bool) (size slots probe : ℕ)
    → saved_count (saving_plan pushes saves framed size slots probe) ≡ 0
    → saving_plan pushes saves framed size slots probe ≡ frame_plan size probe
bare_by zero zero false size slots probe e = refl
bare_by zero zero true size slots probe e = absurd (omega arith)
bare_by zero (suc n) framed size slots probe e = absurd (omega arith)
bare_by (suc n) saves framed size slots probe e = absurd (omega arith)

-- a layout whose frame saves nothing
pub record IsBare (y : Layout) : Type 0 where
  pub bare : saved_count (plan_of_layout y 0) ≡ 0
  pub whole : frame_size (plan_of_layout y 0) ≡ y.frame + 8
  pub some : 0 < y.frame
  pub small : y.frame ≤ 4096

-- as a funclet's
pub funclet_bare : (y function : Layout) (b : LinearBody) → IsFuncletLayout y function b → IsBare y
funclet_bare y function b h =
    let passed = h.passed in
    let kept = h.kept in
    let temporaries = h.temporaries in
    let within = h.within in
    record { bare = h.bare; whole = h.plan.whole; some = omega arith; small = h.small }

-- has a plan of its allocation alone
bare_plan : (y : Layout) (probe : ℕ) → IsBare y → plan_of_layout y probe ≡ frame_plan y.frame probe
bare_plan y probe h =
    let bare = h.bare in
    let whole = h.whole in
    bare_by y.pushes y.saves y.framed y.size y.slots probe bare
    ∙ ap (λ n. frame_plan n probe) (let e : y.size ≡ y.frame = omega arith in e)

-- whose code is one instruction
pub made_small : (y : Layout) (probe : ℕ) (leaf : Bool) → leaf ≡ false → IsBare y
    → frame_code (plan_of_layout y probe) leaf ≡ allocating 0 y.frame true
made_small y probe leaf e h = ap (frame_code (plan_of_layout y probe)) e
    ∙ ap prologue_code (bare_plan y probe h)
    ∙ made_code y.frame probe h.some
    ∙ ap (allocating probe y.frame) (le-leb y.frame 4096 h.small)

-- ---- the prologue of a plan

-- the sizes of the steps of some codes
pub steps_sizes : (p : FramePlan) (at : ℕ) (xs : List UnwindOperation)
    → bytes (items (steps_of spell p at xs)) ≡ sizes (flat_map (instructions_of p) xs)
steps_sizes p at [] = refl
steps_sizes p at (x ∷ xs) =
    let is = instructions_of p x in
    let more = at + bytes (spelled_by spell is) in
    let first = bytes_sizes is in
    let rest = steps_sizes p more xs in
    omega (
      arith,
      bytes-append (spelled_by spell is) (items (steps_of spell p more xs)),
      sizes_append is (flat_map (instructions_of p) xs),
    )

-- one that saves nothing is run in one turn where it allocates at most a page
plan_turns : (n probe : ℕ) → 0 < n → n ≤ 4096 → prologue_turns (frame_plan n probe) ≡ 1
plan_turns n probe some small =
    ap (λ none. codes_turns (turned [] (allocation_then (not none) n [])))
    (ne_eqb n 0 (λ z. (let e : n ≡ 0 = z in absurd (omega arith))))
    ∙ ap (λ few. let k : ℕ = (if few then 1 else 8 + 4 * (n / 4096)) + 0 in k)
    (le-leb n 4096 small)

pub bare_turns : (y : Layout) (probe : ℕ) → IsBare y → prologue_turns (plan_of_layout y probe) ≡ 1
bare_turns y probe h =
    ap prologue_turns (bare_plan y probe h) ∙ plan_turns y.frame probe h.some h.small

-- and stores nothing then
plan_unstored : (n probe : ℕ) → n ≤ 4096
    → none_stores (operations_of (frame_plan n probe)) ≡ true
plan_unstored n probe small = by (not (n == 0))
  where
    by : (some : Bool) → none_stores (allocation_then some n []) ≡ true
    by true = ap (λ few. not (not few) && true) (le-leb n 4096 small)
    by false = refl

pub bare_unstored : (y : Layout) (probe : ℕ) → IsBare y
    → none_stores (operations_of (plan_of_layout y probe)) ≡ true
bare_unstored y probe h =
    ap (λ q. none_stores (operations_of q)) (bare_plan y probe h)
    ∙ plan_unstored y.frame probe h.small

-- ---- the turns of any plan

turned_turns : (done xs : List UnwindOperation)
    → codes_turns (turned done xs) ≡ codes_turns done + codes_turns xs
turned_turns done [] = let z : codes_turns done ≡ codes_turns done + 0 = omega arith in z
turned_turns done (x ∷ xs) = let r = turned_turns (x ∷ done) xs in omega arith

pushed_turns : (rs : List ℕ) → codes_turns (pushed rs) ≡ length rs
pushed_turns [] = refl
pushed_turns (r ∷ rs) = let e = pushed_turns rs in omega arith

allocation_turns : (n : ℕ) (some few : Bool) (xs : List UnwindOperation) → nat_le n 4096 ≡ few
    → codes_turns (allocation_then some n xs) ≤ 8 + 4 * (n / 4096) + codes_turns xs
allocation_turns n true true xs e =
    omega (arith, ap (λ x. let k : ℕ = if x then 1 else 8 + 4 * (n / 4096) in k) e)
allocation_turns n true false xs e =
    omega (arith, ap (λ x. let k : ℕ = if x then 1 else 8 + 4 * (n / 4096) in k) e)
allocation_turns n false few xs e = omega arith

setting_turns : (framed : Bool) (xs : List UnwindOperation)
    → codes_turns (frame_then framed xs) ≤ 1 + codes_turns xs
setting_turns true xs = omega arith
setting_turns false xs = omega arith

saves_turns : (ss : List Saved) (xs : List UnwindOperation)
    → codes_turns (saves_then ss xs) ≡ length ss + codes_turns xs
saves_turns [] xs = let z : codes_turns xs ≡ 0 + codes_turns xs = omega arith in z
saves_turns (s ∷ ss) xs = let e = saves_turns ss xs in omega arith

-- one for each register that is saved and for the frame register, and eight at most, with four for
-- each page
pub few_turns : (f : FramePlan) → prologue_turns f ≤ saved_count f + 9 + 4 * (f.size / 4096)
few_turns f =
    let xs = allocation_then (not (f.size == 0)) f.size (pushed f.pushes) in
    let a = pushed_turns f.pushes in
    let b = allocation_turns f.size (not (f.size == 0)) (nat_le f.size 4096)
    (pushed f.pushes) refl in
    let c = setting_turns (not (f.frame == 0)) xs in
    let d = saves_turns f.saves (frame_then (not (f.frame == 0)) xs) in
    let e = turned_turns [] (operations_of f) in
    omega arith

-- ---- its epilogue

pops_sizes : (popped : List ℕ) (r : ℕ) → sizes (pops_then (popped ++ (r ∷ [])) [])
    ≡ sizes (pops_then popped []) + size (instrs.Pop (register r))
pops_sizes [] r = omega arith
pops_sizes (q ∷ popped) r = let e = pops_sizes popped r in omega arith

opening_sizes : (f : FramePlan) (none : Bool) (is js : List Instr) (n : ℕ)
    → sizes is ≡ sizes js + n → sizes (opening_then f none is) ≡ sizes (opening_then f none js) + n
opening_sizes f true is js n e = e
opening_sizes f false is js n e = omega (arith, e)

loads_sizes : (ss : List Saved) (is js : List Instr) (n : ℕ) → sizes is ≡ sizes js + n
    → sizes (loads_then ss is) ≡ sizes (loads_then ss js) + n
loads_sizes [] is js n e = e
loads_sizes (s ∷ ss) is js n e = let r = loads_sizes ss is js n e in omega arith

-- the loads come before what follows them
pub loads_before : (ss : List Saved) (is : List Instr)
    → sizes (loads_then ss is) ≡ sizes (loads_then ss []) + sizes is
loads_before [] is = (let z : sizes is ≡ 0 + sizes is = omega arith in z)
loads_before (s ∷ ss) is = let r = loads_before ss is in omega arith

-- one load more
pub loads_through : (done : List Saved) (s : Saved)
    → sizes (loads_then (done ++ (s ∷ [])) []) ≡ sizes (loads_then done []) + size (load_of s)
loads_through [] s = omega arith
loads_through (x ∷ done) s = let r = loads_through done s in omega arith

-- one pop more
pub through_pop : (f : FramePlan) (popped : List ℕ) (r : ℕ)
    → sizes (epilogue_through f (popped ++ (r ∷ [])))
    ≡ sizes (epilogue_through f popped) + size (instrs.Pop (register r))
through_pop f popped r = loads_sizes f.saves _ _ (size (instrs.Pop (register r)))
    (opening_sizes f (f.size == 0) (pops_then (popped ++ (r ∷ [])) []) (pops_then popped [])
    (size (instrs.Pop (register r))) (pops_sizes popped r))

-- it has an instruction for each register that is saved, one that raises RSP, and the return
pops_count : (rs : List ℕ) (is : List Instr) → length (pops_then rs is) ≡ length rs + length is
pops_count [] is = (let z : length is ≡ 0 + length is = omega arith in z)
pops_count (r ∷ rs) is = let e = pops_count rs is in omega arith

loads_count : (ss : List Saved) (is : List Instr)
    → length (loads_then ss is) ≡ length ss + length is
loads_count [] is = (let z : length is ≡ 0 + length is = omega arith in z)
loads_count (s ∷ ss) is = let e = loads_count ss is in omega arith

opening_count : (f : FramePlan) (none : Bool) (is : List Instr)
    → (length is ≤ length (opening_then f none is))
    × (length (opening_then f none is) ≤ length is + 1)
opening_count f true is = (omega arith, omega arith)
opening_count f false is = (omega arith, omega arith)

pub epilogue_count : (f : FramePlan) → (1 ≤ length (epilogue f))
    × (length (epilogue f) ≤ saved_count f + 2)
epilogue_count f =
    let is = pops_then f.pushes (instrs.Return ∷ []) in
    let o = opening_count f (f.size == 0) is in
    let o0 = o.0 in
    let o1 = o.1 in
    let a = loads_count f.saves (opening_then f (f.size == 0) is) in
    let b = pops_count f.pushes (instrs.Return ∷ []) in
    (omega arith, omega arith)

-- of a layout without a frame it is the return alone
pub leaf_ending : (y : Layout) → plan_of_layout y 0 ≡ frame_plan 0 0
    → epilogue (plan_of_layout y 0) ≡ instrs.Return ∷ []
leaf_ending y none = ap epilogue none

-- ---- its unwind codes

-- they lead up to its end
pub plan_depth : (f : FramePlan) (n : ℕ) → frame_size f ≡ n + 8 → depth (operations_of f) ≡ n
plan_depth f n e = let h = frame_has_its_size f in omega arith

above_pushes : (low base at : ℕ) (rs : List ℕ) → low ≤ at → AreAbove low base at (pushed rs)
above_pushes low base at [] le = le
above_pushes low base at (r ∷ rs) le = (le, above_pushes low base (at + 8) rs (omega arith))

above_allocation : (low base at n : ℕ) (none : Bool) (rs : List ℕ) → (n == 0) ≡ none
    → low ≤ at + n → AreAbove low base at (allocation_then (not none) n (pushed rs))
above_allocation low base at n true rs e le =
    let z = eqb-true n 0 e in above_pushes low base at rs (omega arith)
above_allocation low base at n false rs e le = above_pushes low base (at + n) rs le

above_framed : (low base at : ℕ) (b : Bool) (xs : List UnwindOperation) → AreAbove low base at xs
    → AreAbove low base at (frame_then b xs)
above_framed low base at true xs h = h
above_framed low base at false xs h = h

above_saves : (low base at : ℕ) (ss : List Saved) (xs : List UnwindOperation)
    → AreSavedAbove low ss → AreAbove (base + low) base at xs
    → AreAbove (base + low) base at (saves_then ss xs)
above_saves low base at [] xs a h = h
above_saves low base at (s ∷ ss) xs a h =
    let le = a.0 in (omega arith, above_saves low base at ss xs a.1 h)

-- so are all that its codes tell of, where its saves and the end of its allocation are
pub above_plan : (f : FramePlan) (low at : ℕ) → AreSavedAbove low f.saves → low ≤ f.size
    → AreAbove (at + low) at at (operations_of f)
above_plan f low at saves le =
    let xs = allocation_then (not (f.size == 0)) f.size (pushed f.pushes) in
    above_saves low at at f.saves (frame_then (not (f.frame == 0)) xs) saves
    (above_framed (at + low) at at (not (f.frame == 0)) xs
    (above_allocation (at + low) at at f.size (f.size == 0) f.pushes refl (omega arith)))
