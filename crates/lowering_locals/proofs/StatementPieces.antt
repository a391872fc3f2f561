-- Expressions in statements, declarations and ways out, where they are beside their sets.
use Rattle.std.proofs.Common.{◌≡◌, ◌⊎◌, inl, inr, ℕ, suc, ◌+◌, ◌<◌, ◌≤◌, List, [], ◌∷◌, ◌++◌, length, refl, sym, subst, arith, length-append}
use Rattle.std.proofs.lemmas.Bool.{ltb-true}
use Rattle.std.proofs.lemmas.List.{length-replicate}
use Rattle.std.specs.Prelude.{true, replicate, Option, Some, None}
use Rattle.lowering_locals.specs.Words.{DataPart, StackedVariable, Expression, all_declared_sound, declared_sound, Declared, Local, Temporary, Instruction, LinearProgram, BodyName, expression_size, initialiser_size, stacked_size, declared_at_size, elements_notes, stacked_notes, declared_notes, discarded_size, condition_size, returned_size, declared_size, all_declared_size, ExceptionSource, NoException, OfFilter, KeptIn, Names, Way, Nowhere, Jumps, expression_code, copy, return_code, discarded_code, returned_code, condition_code, all_declared_code, jump_code, leave_code, initialiser_code, put_code, put_initialiser_code, clearing, clear_code, stacked_declared_code, declared_at_code, declared_code, reset_code, SeenNames, with_local, with_declared, stacked_within, IsPart, expression_within, optional_within, after_declared, after_all_declared, all_declared_within, declared_within, locals_at, Leads, stacked_sets, declared_at_sets, declared_sets, all_declared_sets, set_in}
use Rattle.c_checked.specs.Sound as sound
use Rattle.linear_code.specs.declared.instruction.Instruction.TheVariants as instructions
use Rattle.lowering_expressions.specs.declared.scope.Way.TheVariants.{Unwinds}
use Rattle.lowering_locals.proofs.Lemmas.{expression_length, discarded_length, declared_length, IsSegmentAt, front, back, both_left, both_right, seen_cases, sees_own, sees_before, part_with, within, all_append}
use Rattle.lowering_locals.proofs.StraightCode.{is_same, is_same_back, head_recorded, Even, even_part, even_list, Fine, AllFine, AllLead, both_lead, straight}
use Rattle.lowering_locals.proofs.ExpressionSets.{CodeIn, FlagIn, BaseIn, IsAround, expression_fine}
use Rattle.lowering_locals.proofs.SetLists.{declared_long, all_declared_long, replicate_first, all_declared_first, begins}

-- ---- what is recorded around a part, with one more local

pub code_kept : (seen more : SeenNames) (s : ExceptionSource) → IsPart seen more → CodeIn seen s
    → CodeIn more s
code_kept seen more NoException p h = tt
code_kept seen more OfFilter p h = tt
code_kept seen more (KeptIn x) p h = p x h

pub flag_kept : (seen more : SeenNames) (o : Option ℕ) → IsPart seen more → FlagIn seen o
    → FlagIn more o
flag_kept seen more None p h = tt
flag_kept seen more (Some x) p h = p x h

pub base_kept : (seen more : SeenNames) (o : Option DataPart) → IsPart seen more → BaseIn seen o
    → BaseIn more o
base_kept seen more None p h = tt
base_kept seen more (Some part) p h = p part.base h

-- the data stack's pointer is put where the function's own statements have it
pub reset_fine : (locals lo hi : ℕ) (part : Option DataPart) (seen : SeenNames) → BaseIn seen part
    → ((x : ℕ) → seen x ≡ true → x < locals) → Fine locals lo hi seen (reset_code part)
reset_fine locals lo hi None seen h below = tt
reset_fine locals lo hi (Some part) seen h below = ((h, h), below part.base h)

pub below_with : (locals x : ℕ) (seen : SeenNames) → ((y : ℕ) → seen y ≡ true → y < locals)
    → x < locals → (y : ℕ) → with_local x seen y ≡ true → y < locals
below_with locals x seen below lt y h = of (seen_cases seen x y h)
  where
    of : (y ≡ x) ⊎ (seen y ≡ true) → y < locals
    of (inl e) = subst (λ z. z < locals) (sym e) lt
    of (inr e) = below y e

around_local : (locals : ℕ) (names : Names) (before seen : SeenNames) (x : ℕ) → x < locals
    → IsAround locals names before seen → IsAround locals names (with_local x before)
    (with_local x seen)
around_local locals names before seen x lt a = record {
  part = part_with before seen x a.part;
  below = below_with locals x seen a.below lt;
  code = code_kept seen (with_local x seen) names.exception (sees_before seen x) a.code;
  flag = flag_kept seen (with_local x seen) names.abnormal (sees_before seen x) a.flag;
  base = base_kept seen (with_local x seen) names.part (sees_before seen x) a.base;
}

pub around_declared : (locals : ℕ) (names : Names) (before seen : SeenNames) (d : Declared)
    → d.local < locals → IsAround locals names before seen
    → IsAround locals names (after_declared before d) (after_declared seen d)
around_declared locals names before seen d lt a = of d.stacked
  where
    of : (v : Option StackedVariable)
        → IsAround locals names (with_declared v d.local before) (with_declared v d.local seen)
    of None = around_local locals names before seen d.local lt a
    of (Some v) = a

pub declared_small : (s : sound.TypingContext) (d : Declared) (locals : ℕ) → length s.sizes ≤ locals
    → declared_sound s d ≡ true → d.local < locals
declared_small s d locals le ok =
    let lt = ltb-true d.local (length s.sizes) (both_left _ _ (both_left _ _ ok)) in
    omega arith

pub around_all_declared : (locals : ℕ) (names : Names) (s : sound.TypingContext)
    (ds : List Declared) (before seen : SeenNames) → length s.sizes ≤ locals
    → all_declared_sound s ds ≡ true → IsAround locals names before seen
    → IsAround locals names (after_all_declared before ds) (after_all_declared seen ds)
around_all_declared locals names s [] before seen le ok a = a
around_all_declared locals names s (d ∷ ds) before seen le ok a =
    around_all_declared locals names s ds (after_declared before d) (after_declared seen d) le
    (both_right _ _ ok) (around_declared locals names before seen d
    (declared_small s d locals le (both_left _ _ ok)) a)

module _ (linear : LinearProgram) (lists : BodyName → List SeenNames) (name : BodyName) where
  abbrev pub sets : BodyName → ℕ → SeenNames
  sets n label = set_in (lists n) label

  abbrev pub At : ℕ → List SeenNames → Type 0
  At at ys = IsSegmentAt (lists name) at ys

  abbrev pub IsRecordedAt : ℕ → SeenNames → Type 0
  IsRecordedAt label seen = IsPart (sets name label) seen

  abbrev pub Lead : ℕ → List Instruction → Type 0
  Lead at code = AllLead linear sets name at code

  -- where ways out lead to, no more is recorded
  abbrev pub WayIn : SeenNames → Way → Type 0
  WayIn seen Nowhere = Unit {0}
  WayIn seen (Jumps label) = IsRecordedAt label seen
  WayIn seen (Unwinds label) = IsRecordedAt label seen

  abbrev pub LabelIn : SeenNames → Option ℕ → Type 0
  LabelIn seen None = Unit {0}
  LabelIn seen (Some label) = IsRecordedAt label seen

  -- ---- single instructions

  pub from_here : (at label : ℕ) (seen : SeenNames) → sets name at ≡ seen → IsRecordedAt label seen
      → IsPart (sets name label) (sets name at)
  from_here at label seen e t = within (sets name label) seen (sets name at) t
      (is_same_back (sets name at) seen e)

  -- from one instruction to the next, and from that one to the one after the piece
  abbrev Onward : ℕ → Type 0
  Onward at = IsPart (sets name (at + 1)) (sets name at)
      × IsPart (sets name (at + 1 + 1)) (sets name (at + 1))

  onward : (at : ℕ) (seen : SeenNames) → Even (sets name) seen at (at + 2) → Onward at
  onward at seen e = (
    from_here at (at + 1) seen (e.inside at (omega arith) (omega arith))
        (is_same (sets name (at + 1)) seen second),
    from_here (at + 1) (at + 1 + 1) seen second (subst (λ n. IsRecordedAt n seen) same e.end),
  )
    where
      second : sets name (at + 1) ≡ seen
      second = e.inside (at + 1) (omega arith) (omega arith)

      same : at + 2 ≡ at + 1 + 1
      same = omega arith

  leads_there : (at label : ℕ) (seen : SeenNames) → IsRecordedAt label seen
      → Even (sets name) seen at (at + 2) → IsPart (sets name label) (sets name at)
  leads_there at label seen h e = from_here at label seen (e.inside at (omega arith) (omega arith))
      h

  pub jump_leads : (w : Way) (at : ℕ) (seen : SeenNames) → WayIn seen w
      → Even (sets name) seen at (at + 2) → Lead at (jump_code w)
  jump_leads Nowhere at seen h e = let o = onward at seen e in (o.0, (o.1, tt))
  jump_leads (Jumps label) at seen h e = let o = onward at seen e in
      (leads_there at label seen h e, (o.1, tt))
  jump_leads (Unwinds label) at seen h e = let o = onward at seen e in
      (leads_there at label seen h e, (o.1, tt))

  pub return_leads : (w : Way) (at : ℕ) (seen : SeenNames) → WayIn seen w
      → Even (sets name) seen at (at + 2) → Lead at (return_code w)
  return_leads w at seen h e = jump_leads w at seen h e

  pub leave_leads : (w : Option ℕ) (at : ℕ) (seen : SeenNames) → LabelIn seen w
      → Even (sets name) seen at (at + 1) → Lead at (leave_code w ∷ [])
  leave_leads None at seen h e = (
    from_here at (at + 1) seen
        (e.inside at (omega arith) (omega arith)) e.end,
    tt,
  )
  leave_leads (Some label) at seen h e = (
    from_here at label seen
        (e.inside at (omega arith) (omega arith)) h,
    tt,
  )

  -- ---- expressions

  module _ (locals : ℕ) (room : locals_at linear name ≡ locals) (names : Names)
      (before seen : SeenNames) (around : IsAround locals names before seen) where
    abbrev AllOk : ℕ → ℕ → List Instruction → Type 0
    AllOk lo hi code = AllFine locals lo hi seen code

    used_fine : (e : Expression) (lo hi at : ℕ) (rest : List Instruction)
        → expression_within before e ≡ true → lo ≤ at → at + expression_size e ≤ hi → AllOk lo hi
        rest
        → AllOk lo hi (expression_code names e 0 at ++ rest)
    used_fine e lo hi at rest w a b h = all_append (Fine locals lo hi seen)
        (expression_code names e 0 at) rest (expression_fine locals names before seen around lo hi e
        0
        at w a b) h

    even_leads : (lo hi at : ℕ) (code : List Instruction) → Even (sets name) seen lo hi → lo ≤ at
        → at + length code ≤ hi → AllOk lo hi code → Lead at code
    even_leads lo hi at code e a b h = straight linear sets name locals room seen lo hi e at code a
        b h

    pub value_leads : (e : Expression) (at : ℕ) → expression_within before e ≡ true
        → Even (sets name) seen at (at + expression_size e) → Lead at (expression_code names e 0 at)
    value_leads e at w v =
        let hi = at + expression_size e in
        let l = expression_length names e 0 at in
        even_leads at hi at (expression_code names e 0 at) v (omega arith) (omega arith)
        (expression_fine locals names before seen around at hi e 0 at w (omega arith)
        (omega arith))

    pub discarded_leads : (e : Option Expression) (at : ℕ) → optional_within before e ≡ true
        → Even (sets name) seen at (at + discarded_size e) → Lead at (discarded_code names e at)
    discarded_leads None at w v = tt
    discarded_leads (Some e) at w v =
        let hi = at + discarded_size (Some e) in
        let l = discarded_length names (Some e) at in
        even_leads at hi at (discarded_code names (Some e) at) v (omega arith) (omega arith)
        (used_fine e at hi at (instructions.Separator ∷ []) w (omega arith) (omega arith)
        (tt, tt))

    pub returned_leads : (e : Option Expression) (at : ℕ) → optional_within before e ≡ true
        → Even (sets name) seen at (at + returned_size e) → Lead at (returned_code names e at)
    returned_leads None at w v = even_leads at (at + 1) at (returned_code names None at) v
        (omega arith) (omega arith) ((tt, tt), tt)
    returned_leads (Some e) at w v = value_leads e at w v

    -- to a label beyond, where the condition is 0
    pub test_leads : (at label i : ℕ) → sets name at ≡ seen → IsRecordedAt label seen
        → IsRecordedAt (at + 1) seen → Leads linear sets name at
        (instructions.JumpIfZero (Temporary i) label)
    test_leads at label i e t n = (tt, from_here at label seen e t, from_here at (at + 1) seen e n)

    pub condition_leads : (e : Option Expression) (label at : ℕ) → optional_within before e ≡ true
        → IsRecordedAt label seen → Even (sets name) seen at (at + condition_size e)
        → Lead at (condition_code names e label at)
    condition_leads None label at w t v = tt
    condition_leads (Some e) label at w t v =
        let place = at + expression_size e in
        let l = expression_length names e 0 at in
        let same : at + condition_size (Some e) ≡ place + 1 = omega arith in
        both_lead linear sets name at place (expression_code names e 0 at)
        (instructions.JumpIfZero (Temporary 0) label ∷ []) (omega arith)
        (value_leads e at w (even_part (sets name) seen at (at + condition_size (Some e)) at place v
        (omega arith) (omega arith) (omega arith))) (
          test_leads place label 0 (v.inside place (omega arith) (omega arith)) t
              (subst (λ n. IsRecordedAt n seen) same v.end),
          tt,
        )

    pub initialiser_leads : (x : ℕ) (e : Option Expression) (at : ℕ) → x < locals
        → optional_within before e ≡ true → Even (sets name) seen at (at + initialiser_size e)
        → Lead at (initialiser_code names x e at)
    initialiser_leads x None at lt w v = tt
    initialiser_leads x (Some e) at lt w v =
        let hi = at + initialiser_size (Some e) in
        let l = expression_length names e 0 at in
        let m = length-append (expression_code names e 0 at)
        (copy (Local x) (Temporary 0) ∷ instructions.Separator ∷ []) in
        even_leads at hi at (initialiser_code names x (Some e) at) v (omega arith) (omega arith)
        (used_fine e at hi at (copy (Local x) (Temporary 0) ∷ instructions.Separator ∷ []) w
        (omega arith) (omega arith) (((tt, tt), lt), (tt, tt)))

    -- ---- a number on the data stack

    put_fine : (v : StackedVariable) (lo hi : ℕ) → before v.base ≡ true → AllOk lo hi (put_code v)
    put_fine v lo hi b = (((around.part v.base b, tt), tt), (tt, tt))

    put_initialiser_fine : (v : StackedVariable) (e : Option Expression) (lo hi at : ℕ)
        → before v.base ≡ true → optional_within before e ≡ true → lo ≤ at
        → at + initialiser_size e ≤ hi → AllOk lo hi (put_initialiser_code names v e at)
    put_initialiser_fine v None lo hi at b w p q = tt
    put_initialiser_fine v (Some e) lo hi at b w p q = used_fine e lo hi at (put_code v) w p
        (omega arith) (put_fine v lo hi b)

    put_initialiser_length : (v : StackedVariable) (e : Option Expression) (at : ℕ)
        → length (put_initialiser_code names v e at) ≡ initialiser_size e
    put_initialiser_length v None at = refl
    put_initialiser_length v (Some e) at =
        let l = expression_length names e 0 at in
        let m = length-append (expression_code names e 0 at) (put_code v) in
        omega arith

    pub put_leads : (v : StackedVariable) (e : Option Expression) (at : ℕ) → before v.base ≡ true
        → optional_within before e ≡ true → Even (sets name) seen at (at + stacked_size None e)
        → Lead at (stacked_declared_code names v None e at)
    put_leads v e at b w even =
        let hi = at + stacked_size None e in
        let l = put_initialiser_length v e (at + 3) in
        even_leads at hi at (stacked_declared_code names v None e at) even (omega arith)
        (omega arith) (
          (tt, tt),
          (
            ((around.part v.base b, tt), tt),
            (tt, put_initialiser_fine v e at hi (at + 3) b w (omega arith) (omega arith)),
          ),
        )

  -- ---- declarations

  module _ (locals : ℕ) (room : locals_at linear name ≡ locals) (names : Names)
      (s : sound.TypingContext) (fits : length s.sizes ≤ locals) where
    -- a local is set, and nothing read
    writes_leads : (x at : ℕ) (seen : SeenNames) → sets name at ≡ seen → x < locals
        → IsRecordedAt (at + 1) (with_local x seen) → Unit {0} × x < locals_at linear name
        × IsPart (sets name (at + 1)) (with_local x (sets name at))
    writes_leads x at seen first lt next = (
      tt,
      subst (λ k. x < k) (sym room) lt,
      subst (λ (f : SeenNames). IsPart (sets name (at + 1)) (with_local x f)) (sym first) next,
    )

    -- a local that is declared
    local_leads : (x : ℕ) (value : Option Expression) (before seen : SeenNames) (at : ℕ)
        → x < locals → IsAround locals names before seen
        → optional_within (with_local x before) value ≡ true
        → At at (seen ∷ replicate (initialiser_size value) (with_local x seen))
        → IsRecordedAt (at + declared_at_size None value) (with_local x seen)
        → Lead at (declared_at_code names None x value at)
    local_leads x value before seen at lt a w h end =
        let n = initialiser_size value in
        let more = with_local x seen in
        let l = length-replicate n more in
        let same : at + declared_at_size None value ≡ at + 1 + n = omega arith in
        let end' : IsRecordedAt (at + 1 + n) more = subst (λ k. IsRecordedAt k more) same end in
        let first = head_recorded (lists name) at seen (replicate n more) h in
        let next : IsRecordedAt (at + 1) more = begins (lists name) (at + 1)
        (at + 1 + n) (replicate n more) more more h.1 (replicate_first n more) (omega arith)
        end' in (
          writes_leads x at seen first lt next,
          initialiser_leads locals room names (with_local x before) more
              (around_local locals names before seen x lt a) x value (at + 1) lt w
              (even_list (lists name) more n (at + 1) (at + 1 + n) refl h.1 end'),
        )

    -- an array on the data stack
    clear_leads : (x : ℕ) (v : StackedVariable) (n at : ℕ) (seen : SeenNames) → x < locals
        → seen v.base ≡ true → At at (seen ∷ replicate 4 (with_local x seen))
        → IsRecordedAt (at + 5) seen → Lead at (clear_code x v n at)
    clear_leads x v n at seen lt b h end =
        let more = with_local x seen in
        let hi = at + 1 + 4 in
        let same : at + 5 ≡ hi = omega arith in
        let first = head_recorded (lists name) at seen (replicate 4 more) h in
        let even = even_list (lists name) more 4 (at + 1) hi refl h.1
        (within (sets name hi) seen more (subst (λ k. IsRecordedAt k seen) same end)
        (sees_before seen x)) in
        let next = is_same (sets name (at + 1)) more
        (even.inside (at + 1) (omega arith) (omega arith)) in
        let own = sees_own seen x in (
          writes_leads x at seen first lt next,
          straight linear sets name locals room more (at + 1) hi even (at + 1)
              (clearing x v (at + 4) (at + 1) ++ instructions.Separator ∷ []) (omega arith)
              (omega arith) (
                (own, (omega arith, omega arith)),
                (
                  ((sees_before seen x v.base b, own), lt),
                  ((omega arith, omega arith), (tt, tt)),
                ),
              ),
        )

    stacked_leads : (v : StackedVariable) (n : Option ℕ) (value : Option Expression)
        (before seen : SeenNames) (at : ℕ) → names.free + elements_notes n ≤ locals
        → IsAround locals names before seen → before v.base ≡ true
        → optional_within before value ≡ true → At at (stacked_sets names.free seen n value)
        → IsRecordedAt (at + stacked_size n value) seen
        → Lead at (stacked_declared_code names v n value at)
    stacked_leads v (Some n) value before seen at few a b w h end = clear_leads names.free v n at
        seen (omega arith) (a.part v.base b) h end
    stacked_leads v None value before seen at few a b w h end =
        put_leads locals room names before seen a v value at b w
        (even_list (lists name) seen (suc (suc (suc (initialiser_size value)))) at
        (at + stacked_size None value) (omega arith) h end)

    declared_at_leads : (v : Option StackedVariable) (x : ℕ) (value : Option Expression)
        (before seen : SeenNames) (at : ℕ) → x < locals → names.free + stacked_notes v ≤ locals
        → IsAround locals names before seen → stacked_within before v ≡ true
        → optional_within (with_declared v x before) value ≡ true
        → At at (declared_at_sets names.free seen v x value)
        → IsRecordedAt (at + declared_at_size v value) (with_declared v x seen)
        → Lead at (declared_at_code names v x value at)
    declared_at_leads None x value before seen at lt few a b w h end = local_leads x value before
        seen at lt a w h end
    declared_at_leads (Some v) x value before seen at lt few a b w h end = stacked_leads v
        v.elements value before seen at few a b w h end

    pub declared_leads : (d : Declared) (before seen : SeenNames) (at : ℕ)
        → names.free + stacked_notes d.stacked ≤ locals → IsAround locals names before seen
        → declared_sound s d ≡ true → declared_within before d ≡ true
        → At at (declared_sets names.free seen d)
        → IsRecordedAt (at + declared_size d) (after_declared seen d)
        → Lead at (declared_code names d at)
    declared_leads d before seen at few a ok w h end = declared_at_leads d.stacked d.local d.value
        before seen at (declared_small s d locals fits ok) few a (both_left _ _ w)
        (both_right _ _ w) h end

    pub all_declared_leads : (ds : List Declared) (before seen : SeenNames) (at to : ℕ)
        → at + all_declared_size ds ≡ to → names.free + declared_notes ds ≤ locals
        → IsAround locals names before seen
        → all_declared_sound s ds ≡ true → all_declared_within before ds ≡ true
        → At at (all_declared_sets names.free seen ds)
        → IsRecordedAt to (after_all_declared seen ds) → Lead at (all_declared_code names ds at)
    all_declared_leads [] before seen at to e few a ok w h end = tt
    all_declared_leads (d ∷ ds) before seen at to e few a ok w h end =
        let free = names.free in
        let mid = at + declared_size d in
        let xs = declared_sets free seen d in
        let ys = all_declared_sets free (after_declared seen d) ds in
        let m = declared_long d free seen in
        let n = all_declared_long ds free (after_declared seen d) in
        let rest = back (lists name) at mid xs ys (omega arith) h in
        let l = declared_length names d at in
        let few_own : free + stacked_notes d.stacked ≤ locals = omega arith in
        let few_rest : free + declared_notes ds ≤ locals = omega arith in
        let start = begins (lists name) mid to ys (after_declared seen d)
        (after_all_declared (after_declared seen d) ds) rest
        (all_declared_first ds free (after_declared seen d)) (omega arith) end in
        both_lead linear sets name at mid (declared_code names d at)
        (all_declared_code names ds mid) (omega arith)
        (declared_leads d before seen at few_own a (both_left _ _ ok) (both_left _ _ w)
        (front (lists name) at xs ys h) start)
        (all_declared_leads ds (after_declared before d) (after_declared seen d) mid to
        (omega arith) few_rest (around_declared locals names before seen d
        (declared_small s d locals fits (both_left _ _ ok)) a) (both_right _ _ ok)
        (both_right _ _ w) rest end)
