-- The unwind codes of frames, and what their infos say.
use Rattle.std.proofs.Common.{◌≡◌, ℕ, zero, suc, ◌+◌, ◌-◌, ◌*◌, ◌/◌, ◌%◌, ◌<◌, ◌≤◌, Bool, true, false, List, [], ◌∷◌, ◌++◌, length, drop, refl, sym, ap, subst, ◌∙◌, arith, length-append}
use Rattle.std.specs.Prelude.{if◌then◌else◌, nat_lt}
use Rattle.std.specs.List.{AllByRecursion}
use Rattle.std.proofs.lemmas.List.{drop_all}
use Rattle.arrayvec.specs.ArrayVec.{ArrayVec}
use Rattle.eh_write.specs.declared.unwind_info.UnwindInfo.{UnwindInfo}
use Rattle.eh_tables.specs.declared.code.UnwindCode.{UnwindCode}
use Rattle.eh_tables.specs.declared.code.UnwindOperation.{UnwindOperation}
use Rattle.eh_tables.specs.declared.code.UnwindOperation.TheVariants.{Push, Allocate, SetFrame, Save, SaveVector, MachineFrame}
use Rattle.eh_write.specs.declared.unwind_info.Trailer.TheVariants.{Nothing}
use Rattle.pe_image.specs.Numbers.{u16, u32}
use Rattle.eh_write.specs.Written.{CanBeWritten, OperationFits, AreFalling, IsTrailer, codes_bytes, operation_bytes, slot, is_small, is_short}
use Rattle.eh_write.specs.declared.unwind_info.Trailer.{Trailer}
use Rattle.frame_rules.specs.Prologue.{bytes, items, codes_onto}
use Rattle.frame_rules.specs.Plan.{spelled_by, instructions_of, turned, steps_of, operations_of}
use Rattle.frame_rules.specs.Plan as rules
use Rattle.frame_rules.specs.Bytes.{spell}
use Rattle.frame_rules.proofs.Frames.{bytes-append}
use Rattle.frame_layout.specs.declared.frame.FrameLayout.{FrameLayout}
use Rattle.frame_layout.specs.Layout.{IsFrame}
use Rattle.frame_layout.specs.Plans.{frame_register_if, frame_distance_if, plan_of, IsStep}
use Rattle.frame_layout.specs.Infos.{prologue_bytes, codes_of, info_of, Describes}
use Rattle.frame_layout.proofs.Counts.{by_pushes}
use Rattle.frame_layout.proofs.Steps.{pushing, setting, saving, after, saving_next, executed, HasRegisters, IsShort, frame_registers, operations_executed, executed_short, executed_steps}
use Rattle.frame_layout.proofs.Sizes.{run, taken, taken_first, step_same, prologue_taken, prologue_few, executed_bytes}

-- ---- the codes of steps, from an offset on

abbrev pub coded : FrameLayout → ℕ → ℕ → List UnwindCode → List UnwindOperation → List UnwindCode
coded f probe at done xs = codes_onto done (steps_of spell (plan_of f probe) at xs)

abbrev code_at : ℕ → UnwindOperation → UnwindCode
code_at offset x = record { offset = offset; operation = x }

coded_same : (f : FrameLayout) (probe at : ℕ) (done : List UnwindCode) (xs : List UnwindOperation)
    → coded f probe at done xs ≡ coded f 0 at done xs
coded_same f probe at done [] = refl
coded_same f probe at done (x ∷ xs) =
    let next = at + run (instructions_of (plan_of f 0) x) in
    ap (λ n. coded f probe (at + n) (code_at (at + n) x ∷ done) xs) (step_same f probe x)
    ∙ coded_same f probe next (code_at next x ∷ done) xs

steps_bytes : (f : FrameLayout) (probe at : ℕ) (xs : List UnwindOperation)
    → taken f probe xs ≡ bytes (items (steps_of spell (plan_of f probe) at xs))
steps_bytes f probe at [] = refl
steps_bytes f probe at (x ∷ xs) =
    let is = spelled_by spell (instructions_of (plan_of f probe) x) in
    let next = at + bytes is in
    let r = steps_bytes f probe next xs in
    let a = taken_first f probe x xs in
    omega (arith, bytes-append is (items (steps_of spell (plan_of f probe) next xs)))

-- the codes are those of the steps
pub codes_are : (f : FrameLayout) → 0 < f.size → codes_of f ≡ coded f 0 0 [] (executed f)
unfolding codes_of
codes_are f some = ap (coded f 0 0 []) (operations_executed f 0 some)

-- ---- what holds of them

pub all_coded : (P : UnwindOperation → Type 0) (f : FrameLayout) (at : ℕ) (done : List UnwindCode)
    (xs : List UnwindOperation)
    → AllByRecursion (λ (c : UnwindCode). P c.operation) done → AllByRecursion P xs
    → AllByRecursion (λ (c : UnwindCode). P c.operation) (coded f 0 at done xs)
all_coded P f at done [] a b = a
all_coded P f at done (x ∷ xs) a b =
    let next = at + run (instructions_of (plan_of f 0) x) in
    all_coded P f next (code_at next x ∷ done) xs (b.0, a) b.1

falling_coded : (f : FrameLayout) (at : ℕ) (done : List UnwindCode) (xs : List UnwindOperation)
    → AreFalling at done → AreFalling (at + taken f 0 xs) (coded f 0 at done xs)
falling_coded f at done [] h = let e : at ≡ at + 0 = omega arith in
    subst (λ n. AreFalling n done) e h
falling_coded f at done (x ∷ xs) h =
    let next = at + run (instructions_of (plan_of f 0) x) in
    let a = taken_first f 0 x xs in
    let e : next + taken f 0 xs ≡ at + taken f 0 (x ∷ xs) = omega arith in
    subst (λ n. AreFalling n (coded f 0 at done (x ∷ xs))) e
    (falling_coded f next (code_at next x ∷ done) xs
    (let l : next ≤ next = omega arith in (l, falling_less at next done (omega arith) h)))
  where
    falling_less : (a b : ℕ) (cs : List UnwindCode) → a ≤ b → AreFalling a cs → AreFalling b cs
    falling_less a b [] le h = tt
    falling_less a b (c ∷ cs) le h = let l = h.0 in (omega arith, h.1)

-- each is one of a frame, and none has an offset past the prologue
pub codes_steps : (f : FrameLayout) → IsFrame f
    → AllByRecursion (λ (c : UnwindCode). IsStep f.framed c.operation) (codes_of f)
codes_steps f h = subst (AllByRecursion (λ (c : UnwindCode). IsStep f.framed c.operation))
    (sym (codes_are f h.some))
    (all_coded (IsStep f.framed) f 0 [] (executed f) tt (executed_steps f h))

pub codes_short : (f : FrameLayout) → HasRegisters f
    → AllByRecursion (λ (c : UnwindCode). IsShort f.framed c.operation) (codes_of f)
codes_short f h = subst (AllByRecursion (λ (c : UnwindCode). IsShort f.framed c.operation))
    (sym (codes_are f h.some))
    (all_coded (IsShort f.framed) f 0 [] (executed f) tt (executed_short f h))

pub codes_falling : (f : FrameLayout) → HasRegisters f → AreFalling (prologue_bytes f) (codes_of f)
codes_falling f h =
    let e : 0 + taken f 0 (executed f) ≡ prologue_bytes f =
    omega (arith, executed_bytes f h.some) in
    subst (λ n. AreFalling n (codes_of f)) e
    (subst (AreFalling (0 + taken f 0 (executed f))) (sym (codes_are f h.some))
    (falling_coded f 0 [] (executed f) tt))

offsets_below : (n last : ℕ) (cs : List UnwindCode) → last ≤ n → AreFalling last cs
    → AllByRecursion (λ (c : UnwindCode). c.offset ≤ n) cs
offsets_below n last [] le h = tt
offsets_below n last (c ∷ cs) le h = let l = h.0 in
    (omega arith, offsets_below n c.offset cs (omega arith) h.1)

pub codes_offsets : (f : FrameLayout) → HasRegisters f
    → AllByRecursion (λ (c : UnwindCode). c.offset ≤ 57) (codes_of f)
codes_offsets f h = offsets_below 57 (prologue_bytes f) (codes_of f) (prologue_few f h).1
    (codes_falling f h)

-- ---- how many bytes they take

abbrev allocation_by : ℕ → ℕ → Bool → Bool → List ℕ
allocation_by offset n small short = if small then slot offset 2 (n / 8 - 1)
    else (if short then slot offset 1 0 ++ u16 (n / 8) else slot offset 1 1 ++ u32 n)

abbrev saving_by : ℕ → ℕ → ℕ → ℕ → ℕ → ℕ → Bool → List ℕ
saving_by offset op far unit r n short =
    if short then slot offset op r ++ u16 (n / unit) else slot offset far r ++ u32 n

abbrev most : UnwindOperation → ℕ
most (Allocate n) = 6
most (Save r n) = 6
most (SaveVector r n) = 6
most x = 2

allocation_few : (offset n : ℕ) (small short : Bool)
    → length (allocation_by offset n small short) ≤ 6
unfolding u16 u32
allocation_few offset n true short = omega arith
allocation_few offset n false true = omega arith
allocation_few offset n false false = omega arith

saving_few : (offset op far unit r n : ℕ) (short : Bool)
    → length (saving_by offset op far unit r n short) ≤ 6
unfolding u16 u32
saving_few offset op far unit r n true = omega arith
saving_few offset op far unit r n false = omega arith

operation_few : (offset : ℕ) (x : UnwindOperation) → length (operation_bytes offset x) ≤ most x
operation_few offset (Push r) = omega arith
operation_few offset (Allocate n) = allocation_few offset n (is_small n) (is_short 8 n)
operation_few offset SetFrame = omega arith
operation_few offset (Save r n) = saving_few offset 4 5 8 r n (is_short 8 n)
operation_few offset (SaveVector r n) = saving_few offset 8 9 16 r n (is_short 16 n)
operation_few offset (MachineFrame e) = omega arith

abbrev most_of : List UnwindOperation → ℕ
most_of [] = 0
most_of (x ∷ xs) = most x + most_of xs

coded_few : (f : FrameLayout) (at : ℕ) (done : List UnwindCode) (xs : List UnwindOperation)
    → length (codes_bytes (coded f 0 at done xs)) ≤ length (codes_bytes done) + most_of xs
coded_few f at done [] = omega arith
coded_few f at done (x ∷ xs) =
    let next = at + run (instructions_of (plan_of f 0) x) in
    let r = coded_few f next (code_at next x ∷ done) xs in
    let o = operation_few next x in
    omega (arith, length-append (operation_bytes next x) (codes_bytes done))

most_both : (xs ys : List UnwindOperation) → most_of (xs ++ ys) ≡ most_of xs + most_of ys
most_both [] ys = omega arith
most_both (x ∷ xs) ys = let r = most_both xs ys in omega arith

pushing_most : (k : ℕ) (framed : Bool) → k ≤ 3 → most_of (pushing k framed) ≤ 8
pushing_most = by_pushes (λ k framed. most_of (pushing k framed) ≤ 8)
    (omega arith) (omega arith) (omega arith) (omega arith) (omega arith) (omega arith)
    (omega arith) (omega arith)

setting_most : (framed : Bool) → most_of (setting framed) ≤ 2
setting_most true = omega arith
setting_most false = omega arith

saving_most : (at n : ℕ) → most_of (saving at n) ≡ 6 * n
saving_most at zero = refl
saving_most at (suc n) =
    let r = saving_most at n in
    let e = ap most_of (sym (ap (saving at) (after n)) ∙ saving_next at n) in
    omega (arith, most_both (saving at n) (Save (12 + n) (at + 8 * n) ∷ []))

-- 20 slots at most
pub codes_few : (f : FrameLayout) → HasRegisters f → length (codes_bytes (codes_of f)) ≤ 40
codes_few f h =
    let a = pushing_most f.pushes f.framed h.pushes in
    let b = setting_most f.framed in
    let c = saving_most f.slots f.saves in
    let four = h.saves in
    let few = coded_few f 0 [] (executed f) in
    let e = ap (λ cs. length (codes_bytes cs)) (codes_are f h.some) in
    omega (
      arith,
      most_both (pushing f.pushes f.framed)
          (Allocate f.size ∷ (setting f.framed ++ saving f.slots f.saves)),
      most_both (setting f.framed) (saving f.slots f.saves),
    )

-- each slot is two bytes

allocation_even : (offset n : ℕ) (small short : Bool)
    → length (allocation_by offset n small short) % 2 ≡ 0
unfolding u16 u32
allocation_even offset n true short = refl
allocation_even offset n false true = refl
allocation_even offset n false false = refl

saving_even : (offset op far unit r n : ℕ) (short : Bool)
    → length (saving_by offset op far unit r n short) % 2 ≡ 0
unfolding u16 u32
saving_even offset op far unit r n true = refl
saving_even offset op far unit r n false = refl

operation_even : (offset : ℕ) (x : UnwindOperation) → length (operation_bytes offset x) % 2 ≡ 0
operation_even offset (Push r) = refl
operation_even offset (Allocate n) = allocation_even offset n (is_small n) (is_short 8 n)
operation_even offset SetFrame = refl
operation_even offset (Save r n) = saving_even offset 4 5 8 r n (is_short 8 n)
operation_even offset (SaveVector r n) = saving_even offset 8 9 16 r n (is_short 16 n)
operation_even offset (MachineFrame e) = refl

pub codes_even : (cs : List UnwindCode) → length (codes_bytes cs) % 2 ≡ 0
codes_even [] = refl
codes_even (c ∷ cs) =
    let a = operation_even c.offset c.operation in
    let r = codes_even cs in
    omega (arith, length-append (operation_bytes c.offset c.operation) (codes_bytes cs))

-- ---- the info

pub describes : (f : FrameLayout) (probe : ℕ)
    → Describes (info_of f Nothing) (rules.unwind_of spell (plan_of f probe))
unfolding codes_of
describes f probe = record {
  prologue_size = sym (prologue_taken f probe)
      ∙ steps_bytes f probe 0 (turned [] (operations_of (plan_of f 0)));
  frame_register = refl;
  frame_offset = refl;
  codes = sym (coded_same f probe 0 [] (turned [] (operations_of (plan_of f 0))));
  trailer = refl;
}

register_small : (b : Bool) → frame_register_if b < 16
register_small true = omega arith
register_small false = omega arith

distance_sixteenth : (b : Bool) → frame_distance_if b % 16 ≡ 0
distance_sixteenth true = refl
distance_sixteenth false = refl

step_fits : (framed : Bool) (x : UnwindOperation) → IsStep framed x
    → OperationFits (nat_lt 0 (frame_register_if framed)) x
step_fits framed (Push r) h = omega arith
step_fits framed (Allocate n) h = tt
step_fits true SetFrame h = refl
step_fits false SetFrame h = absurd cc
step_fits framed (Save r n) h = h.0
step_fits framed (SaveVector r n) h = absurd h
step_fits framed (MachineFrame e) h = absurd h

-- what holds of each code by what holds of its operation
pub codes_all : (P Q : UnwindOperation → Type 0) (cs : List UnwindCode)
    → ((x : UnwindOperation) → P x → Q x) → AllByRecursion (λ (c : UnwindCode). P c.operation) cs
    → AllByRecursion (λ (c : UnwindCode). Q c.operation) cs
codes_all P Q [] w h = tt
codes_all P Q (c ∷ cs) w h = (w c.operation h.0, codes_all P Q cs w h.1)

pub can_be_written : (f : FrameLayout) (t : Trailer) → IsFrame f → IsTrailer t
    → CanBeWritten (info_of f t)
can_be_written f t h is =
    let few = codes_few f (frame_registers f h) in
    record {
      register = register_small f.framed;
      offset = distance_sixteenth f.framed;
      codes = codes_all (IsStep f.framed) (OperationFits (nat_lt 0 (frame_register_if f.framed)))
          (codes_of f) (step_fits f.framed) (codes_steps f h);
      order = falling (codes_of f) (codes_falling f (frame_registers f h));
      slots = omega arith;
      trailer = is;
    }
  where
    most_bytes : prologue_bytes f ≤ 255
    most_bytes = let few = (prologue_few f (frame_registers f h)).1 in omega arith

    falling : (cs : List UnwindCode) → AreFalling (prologue_bytes f) cs → AreFalling 255 cs
    falling [] h = tt
    falling (c ∷ cs) h = let l = h.0 in let m = most_bytes in (omega arith, h.1)

-- ---- the info that the steps make

pub info_made : (f : FrameLayout) (offset register distance : ℕ) (codes : ArrayVec UnwindCode)
    (xs : List UnwindOperation) (i : ℕ)
    → xs ≡ turned [] (operations_of (plan_of f 0)) → length xs ≤ i
    → coded f 0 offset codes.items (drop i xs) ≡ coded f 0 0 [] xs
    → offset + taken f 0 (drop i xs) ≡ taken f 0 xs
    → register ≡ frame_register_if f.framed → distance ≡ frame_distance_if f.framed
    → ◌≡◌ {A = UnwindInfo} (record {
      prologue_size = offset;
      frame_register = register;
      frame_offset = distance;
      codes = codes;
      trailer = Nothing;
    }) (info_of f Nothing)
unfolding codes_of
info_made f offset register distance codes xs i are le cs left r d =
    let none = drop_all i xs le in
    let all : codes.items ≡ codes_of f = ap (coded f 0 offset codes.items) (sym none) ∙ cs
    ∙ ap (coded f 0 0 []) are in
    let size : offset ≡ prologue_bytes f =
    (let a = ap (taken f 0) none in
    let b = ap (taken f 0) are ∙ prologue_taken f 0 in omega arith) in
    λ j. record {
      prologue_size = size j;
      frame_register = r j;
      frame_offset = d j;
      codes = record { items = all j };
      trailer = Nothing;
    }
