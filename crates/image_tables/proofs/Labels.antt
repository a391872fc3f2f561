-- Where the instructions of a body begin, whose cold parts stand apart: each takes some bytes.
use Rattle.std.proofs.Common.{◌≡◌, ◌⊎◌, ℕ, zero, suc, ◌+◌, ◌<◌, ◌≤◌, Bool, true, false, List, [], ◌∷◌, length, take, get_or, Option, Some, None, refl, sym, ap, ◌∙◌, arith, inl, inr}
use Rattle.std.specs.Prelude.{if◌then◌else◌, slice_get}
use Rattle.x64_emit.proofs.Rooms.{copied_size}
use Rattle.seh_num.specs.declared.width.Width.TheVariants.{W64}
use Rattle.x64_instr.specs.declared.register.Reg.{Reg}
use Rattle.template_code.specs.Operations.{move}
use Rattle.template_code.specs.declared.layout.Place.{Place}
use Rattle.template_code.specs.declared.layout.Place.TheVariants.{InRegister, InFrame, Arriving}
use Rattle.template_code.specs.Places.{parameter_register, place_of}
use Rattle.template_code.specs.Slots.{fetch_placed, keep_placed}
use Rattle.image_tables.specs.Words.{Rax, Rcx, Rsp, modrm, opcode_register, Slot, Local, Temporary, Instruction, Layout, size, sizes, work, fetched, temporary_at, local_at, fetch_local, keep_local, fetch, keep, operands_code, finish_code, compare_zero, jump_equal, test_code, finally_arguments, template_size, body_size, label_list, address_or, put_back, separator_code, clear_result}
use Rattle.linear_code.specs.declared.instruction.Instruction.TheVariants as instructions
use Rattle.frame_rules.specs.Plan.{epilogue}
use Rattle.template_code.specs.Frames.{plan_of_layout}
use Rattle.linear_code.specs.declared.program.LabelRange.{LabelRange}
use Rattle.template_code.specs.ColdParts.{is_cold, AreParts, same, side_from, label_at}
use Rattle.template_code.proofs.ColdParts.{kept, cold_past}
use Rattle.image_tables.proofs.Lemmas.{sizes_append, call_size, jump_size, passing_call_size}
use Rattle.image_tables.proofs.Lookups.{some_same, none_some}

-- ---- templates

fetched_rax : (d : ℕ) → 0 < size (fetched Rax Rsp d)
unfolding size modrm
fetched_rax d = omega arith

fetched_rcx : (d : ℕ) → 0 < size (fetched Rcx Rsp d)
unfolding size modrm
fetched_rcx d = omega arith

put_back_some : (d : ℕ) → 0 < size (put_back Rsp d)
unfolding size modrm
put_back_some d = omega arith

fetch_local_some : (o : Option ℕ) (d : ℕ) → 0 < sizes (fetch_local o Rax d)
fetch_local_some None d = let s = fetched_rax d in omega arith
fetch_local_some (Some b) d = let s = fetched_rax b in omega arith

move_some : (to from : Reg) → 0 < size (move W64 to from)
move_some to from = let s = copied_size to from in omega arith

fetch_placed_some : (y : Layout) (i : ℕ) (p : Place) → 0 < sizes (fetch_placed y Rax i p)
fetch_placed_some y i (InRegister r) = let s = move_some Rax r in omega arith
fetch_placed_some y i Arriving = let s = move_some Rax (parameter_register i) in omega arith
fetch_placed_some y i InFrame = fetch_local_some y.base (local_at y i)

fetch_some : (y : Layout) (x : Slot) → 0 < sizes (fetch y Rax x)
fetch_some y (Temporary i) = let s = fetched_rax (temporary_at y i) in omega arith
fetch_some y (Local i) = fetch_placed_some y i (place_of y i)

keep_local_some : (o : Option ℕ) (d : ℕ) → 0 < sizes (keep_local o d)
keep_local_some None d = let s = put_back_some d in omega arith
keep_local_some (Some b) d = let s = fetched_rcx b in omega arith

keep_placed_some : (y : Layout) (i : ℕ) (p : Place) → 0 < sizes (keep_placed y i p)
keep_placed_some y i (InRegister r) = let s = move_some r Rax in omega arith
keep_placed_some y i Arriving = let s = move_some (parameter_register i) Rax in omega arith
keep_placed_some y i InFrame = keep_local_some y.base (local_at y i)

keep_some : (y : Layout) (x : Slot) → 0 < sizes (keep y x)
keep_some y (Temporary i) = let s = put_back_some (temporary_at y i) in omega arith
keep_some y (Local i) = keep_placed_some y i (place_of y i)

clear_some : 0 < size clear_result
unfolding size modrm opcode_register
clear_some = omega arith

nop_some : 0 < sizes separator_code
unfolding size
nop_some = omega arith

pub template_some : (y : Layout) (i : Instruction) → 0 < template_size y i
unfolding template_size
template_some y (instructions.Compute to o first second) =
    let s = keep_some y to in
    omega (
      arith,
      sizes_append (operands_code y o first second) (finish_code y o to),
      sizes_append (work o) (keep y to),
    )
template_some y (instructions.Information to field) = let s = fetched_rax y.pointers in omega arith
template_some y (instructions.Landing to) = keep_some y to
template_some y (instructions.Jump label) = let s = jump_size 5 0 in omega arith
template_some y (instructions.JumpIfZero slot label) =
    let s = fetch_some y slot in
    omega (
      arith,
      sizes_append (fetch y Rax slot)
          (compare_zero ∷ jump_equal (0 + sizes (test_code y slot) + 6) 0 ∷ []),
    )
template_some y (instructions.Call function first count) = let s = passing_call_size y first count 0
    0 in omega arith
template_some y (instructions.CallBuiltIn function first) = let s = clear_some in omega arith
template_some y (instructions.CallFinally funclet) = let s = call_size
    (0 + sizes finally_arguments + 5) 0 in omega arith
template_some y (instructions.LocalUnwind label) = let s = call_size 15 0 in omega arith
template_some y instructions.Separator = nop_some
template_some y (instructions.Return from) = let s = fetch_some y from in
    omega (arith, sizes_append (fetch y Rax from) (epilogue (plan_of_layout y 0)))

-- code that isn't empty takes some bytes
pub code_some : (y : Layout) (code : List Instruction) → 0 < length code → 0 < body_size y code
code_some y [] lt = absurd (omega arith)
code_some y (i ∷ is) lt = let s = template_some y i in omega arith

-- ---- one side of instructions from a label on

-- the instruction of a number
pub within_get : (xs : List Instruction) (n : ℕ) → n < length xs
    → (i : Instruction) × (slice_get xs n ≡ Some i)
within_get [] n lt = absurd (omega arith)
within_get (x ∷ xs) zero lt = (x, refl)
within_get (x ∷ xs) (suc n) lt = within_get xs n (omega arith)

-- how many bytes those of the first so many take
module _ (y : Layout) (rs : List LabelRange) (c : Bool) where
  abbrev pub taken : ℕ → ℕ → List Instruction → ℕ
  taken from n xs = body_size y (side_from rs c from (take n xs))

  -- in front of an instruction, by whether it is of the side
  before : (b : Bool) (x : Instruction) (front back : List Instruction) (k : ℕ)
      → body_size y front + k ≤ body_size y back
      → body_size y (if b then x ∷ front else front) + k ≤ body_size y (if b then x ∷ back else
      back)
  before true x front back k le = omega arith
  before false x front back k le = le

  -- no more than more of them
  pub taken_least : (from n m : ℕ) (xs : List Instruction) → n ≤ m
      → taken from n xs + 0 ≤ taken from m xs
  taken_least from zero m xs le = omega arith
  taken_least from (suc n) zero xs le = absurd (omega arith)
  taken_least from (suc n) (suc m) [] le = omega arith
  taken_least from (suc n) (suc m) (x ∷ xs) le =
      before (same c (is_cold rs from)) x (side_from rs c (suc from) (take n xs))
      (side_from rs c (suc from) (take m xs)) 0 (taken_least (suc from) n m xs (omega arith))

  -- and no more than all
  pub taken_most : (from n : ℕ) (xs : List Instruction)
      → taken from n xs + 0 ≤ body_size y (side_from rs c from xs)
  taken_most from zero xs = omega arith
  taken_most from (suc n) [] = omega arith
  taken_most from (suc n) (x ∷ xs) =
      before (same c (is_cold rs from)) x (side_from rs c (suc from) (take n xs))
      (side_from rs c (suc from) xs) 0 (taken_most (suc from) n xs)

  -- one of the side is before what follows it
  pub taken_past : (from n m : ℕ) (xs : List Instruction) (i : Instruction) → n < m
      → slice_get xs n ≡ Some i → is_cold rs (from + n) ≡ c
      → taken from n xs + template_size y i ≤ taken from m xs
  taken_past from n m [] i lt there e = absurd (none_some there)
  taken_past from n zero (x ∷ xs) i lt there e = absurd (omega arith)
  taken_past from zero (suc m) (x ∷ xs) i lt there e =
      let here : from + zero ≡ from = omega arith in
      let first = ap (body_size y) (kept rs c from x (take m xs) (ap (is_cold rs) (sym here) ∙ e))
      in
      let one = ap (template_size y) (some_same there) in
      omega arith
  taken_past from (suc n) (suc m) (x ∷ xs) i lt there e =
      let next : suc from + n ≡ from + suc n = omega arith in
      before (same c (is_cold rs from)) x (side_from rs c (suc from) (take n xs))
      (side_from rs c (suc from) (take m xs)) (template_size y i)
      (taken_past (suc from) n m xs i (omega arith) there (ap (is_cold rs) next ∙ e))

-- ---- labels

-- where a label of code is that begins at another one
abbrev place_from : Layout → List LabelRange → (from hot cold : ℕ) → List Instruction → ℕ → Bool → ℕ
place_from y rs from hot cold body i c =
    (if c then cold else hot) + body_size y (side_from rs c from (take i body))

first_place : (hot cold : ℕ) (xs ys : List ℕ) (end : ℕ) (c : Bool)
    → get_or (if c then cold ∷ xs else hot ∷ ys) 0 end ≡ (if c then cold else hot) + 0
first_place hot cold xs ys end true = omega arith
first_place hot cold xs ys end false = omega arith

-- past a cold instruction, and past one that isn't
past_cold : (hot cold t : ℕ) (y : Layout) (b : Instruction) (side : Bool → List Instruction)
    → template_size y b ≡ t → (d : Bool)
    → (if d then cold + t else hot) + body_size y (side d)
    ≡ (if d then cold else hot) + body_size y (if same d true then b ∷ side d else side d)
past_cold hot cold t y b side e true = omega arith
past_cold hot cold t y b side e false = refl

past_hot : (hot cold t : ℕ) (y : Layout) (b : Instruction) (side : Bool → List Instruction)
    → template_size y b ≡ t → (d : Bool)
    → (if d then cold else hot + t) + body_size y (side d)
    ≡ (if d then cold else hot) + body_size y (if same d false then b ∷ side d else side d)
past_hot hot cold t y b side e true = refl
past_hot hot cold t y b side e false = omega arith

address_from : (y : Layout) (rs : List LabelRange) (from hot cold : ℕ) (body : List Instruction)
    (i end : ℕ) → end ≡ hot + body_size y (side_from rs false from body)
    → ((label : ℕ) → from + length body ≤ label → is_cold rs label ≡ false)
    → address_or (label_list y rs from hot cold body) i end
    ≡ place_from y rs from hot cold body i (is_cold rs (from + i))
address_from y rs from hot cold [] zero end e past =
    e ∙ ap (λ (c : Bool). (if c then cold else hot) + 0) (sym (past (from + 0) (omega arith)))
address_from y rs from hot cold [] (suc i) end e past =
    e ∙ ap (place_from y rs from hot cold [] (suc i)) (sym (past (from + suc i) (omega arith)))
address_from y rs from hot cold (b ∷ body) zero end e past =
    let here : from ≡ from + 0 = omega arith in
    first_place hot cold
    (label_list y rs (suc from) hot (cold + template_size y b) body)
    (label_list y rs (suc from) (hot + template_size y b) cold body) end (is_cold rs from)
    ∙ ap (λ (n : ℕ). (if is_cold rs n then cold else hot) + 0) here
address_from y rs from hot cold (b ∷ body) (suc i) end e past =
    let t = template_size y b in
    let next : suc from + i ≡ from + suc i = omega arith in
    let past' : (label : ℕ) → suc from + length body ≤ label → is_cold rs label ≡ false =
    (λ label le. past label (omega arith)) in
    by (is_cold rs from) e (λ at at' e'. address_from y rs (suc from) at at' body i end e' past')
    ∙ ap (λ (n : ℕ). place_from y rs from hot cold (b ∷ body) (suc i) (is_cold rs n)) next
  where
    by : (c : Bool)
        → end ≡ hot + body_size y (if same false c then b ∷ side_from rs false (suc from) body
        else side_from rs false (suc from) body)
        → ((at at' : ℕ) → end ≡ at + body_size y (side_from rs false (suc from) body)
        → address_or (label_list y rs (suc from) at at' body) i end
        ≡ place_from y rs (suc from) at at' body i (is_cold rs (suc from + i)))
        → get_or (if c then cold ∷ label_list y rs (suc from) hot (cold + template_size y b) body
        else hot ∷ label_list y rs (suc from) (hot + template_size y b) cold body) (suc i) end
        ≡ (if is_cold rs (suc from + i) then cold else hot)
        + body_size y (if same (is_cold rs (suc from + i)) c
        then b ∷ side_from rs (is_cold rs (suc from + i)) (suc from) (take i body)
        else side_from rs (is_cold rs (suc from + i)) (suc from) (take i body))
    by true e more = more hot (cold + template_size y b) e
        ∙ past_cold hot cold (template_size y b) y b
        (λ d. side_from rs d (suc from) (take i body)) refl (is_cold rs (suc from + i))
    by false e more = more (hot + template_size y b) cold (omega arith)
        ∙ past_hot hot cold (template_size y b) y b
        (λ d. side_from rs d (suc from) (take i body)) refl (is_cold rs (suc from + i))

module _ (y : Layout) (rs : List LabelRange) (hot cold : ℕ) (body : List Instruction)
    (parts : AreParts 0 rs (length body)) where
  -- the address of a label, past the last instruction too
  pub label_is : (i end : ℕ) → end ≡ hot + body_size y (side_from rs false 0 body)
      → address_or (label_list y rs 0 hot cold body) i end ≡ label_at y hot cold rs body i
  label_is i end e =
      let z : 0 + i ≡ i = omega arith in
      address_from y rs 0 hot cold body i end e
      (λ label le. cold_past 0 (length body) rs label parts (omega arith))
      ∙ ap (λ (n : ℕ). place_from y rs 0 hot cold body i (is_cold rs n)) z

  -- it is in the one stretch of code or in the other
  abbrev pub IsBetween : ℕ → Type 0
  IsBetween a = ((hot ≤ a) × (a ≤ hot + body_size y (side_from rs false 0 body)))
      ⊎ ((cold ≤ a) × (a ≤ cold + body_size y (side_from rs true 0 body)))

  between_by : (i : ℕ) (c : Bool) → IsBetween (place_from y rs 0 hot cold body i c)
  between_by i true = let m = taken_most y rs true 0 i body in inr (omega arith, omega arith)
  between_by i false = let m = taken_most y rs false 0 i body in inl (omega arith, omega arith)

  pub label_between : (i : ℕ) → IsBetween (label_at y hot cold rs body i)
  label_between i = between_by i (is_cold rs i)

  -- of two labels that aren't cold the one with the lower number begins before the other
  pub labels_rise : (i j : ℕ) → i < j → i < length body → is_cold rs i ≡ false
      → is_cold rs j ≡ false
      → label_at y hot cold rs body i < label_at y hot cold rs body j
  labels_rise i j lt inside e f =
      let here = within_get body i inside in
      let z : 0 + i ≡ i = omega arith in
      let past = taken_past y rs false 0 i j body here.0 lt here.1 (ap (is_cold rs) z ∙ e) in
      let some = template_some y here.0 in
      let at = ap (place_from y rs 0 hot cold body i) e in
      let to = ap (place_from y rs 0 hot cold body j) f in
      omega arith
