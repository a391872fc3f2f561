-- Every lowered body has its separators.
use Rattle.std.proofs.Common.{◌≡◌, inl, inr, ℕ, ◌+◌, ◌<◌, ◌≤◌, List, [], ◌∷◌, ◌++◌, length, refl, sym, ap, subst, ◌∙◌, arith, length-append}
use Rattle.std.proofs.lemmas.Bool.{and_parts, leb-true, ltb-true}
use Rattle.std.specs.List.{AllByRecursion}
use Rattle.std.specs.Prelude.{Bool, true, false, nat_le, nat_lt, slice_get, Some}
use Rattle.c_checked.specs.declared.function.DataPart.{DataPart}
use Rattle.seh_ir.specs.Funclets.{finally_begin}
use Rattle.c_checked.specs.Program.{DataFrame}
use Rattle.seh_ir.specs.Lowered.{close_code, body_start}
use Rattle.seh_ir.specs.Statements.{set_pointer}
use Rattle.lowering_invariants.proofs.Places.DepthStatements.{begin_three}
use Rattle.std.specs.Prelude.{Option, None}
use Rattle.lowering_invariants.specs.Words.{constant}
use Rattle.lowering_invariants.specs.Words.{Expression, Filter, Always, Funclet, Function, Program, Statements, Local, Temporary, Instruction, CallFinally, LocalUnwind, Region, RegionKind, LinearBody, BodyName, FunctionBody, FuncletBody, body_of, holds, statements_size, Owner, Names, LoweringContext, finally_scope, expression_code, statements_code, except_kind, statements_regions, finally_funclet, filter_funclet, scope_of, lowered_function, lowered, IsInside, BeginsApart, HasBlock, LandsInside, HasLanding, is_target, HoldsStrictly, LeadsForth, LoweredHasSeparators}
use Rattle.linear_code.specs.declared.instruction.Instruction.TheVariants.{Landing, Return}
use Rattle.linear_code.specs.declared.program.RegionKind.TheVariants as kinds
use Rattle.linear_machine.proofs.Walks.{holds_yes}
use Rattle.lowering_invariants.proofs.Lemmas.{statements_length, HoldsOfAnyPieces, statements_any, all_append, IsSegmentAt, front, back, whole_is_at}
use Rattle.lowering_invariants.proofs.SeparatorCounts.BlockSeparators.{lowered_is_followed}
use Rattle.lowering_invariants.proofs.EveryBody.{every_body, every_function}
use Rattle.lowering_invariants.proofs.SeparatorCounts.FirstSeparators.{open_every, function_begin, function_body_code, function_end, begin_every, begin_length, end_length, code_is, body_at}
use Rattle.lowering_invariants.proofs.Regions.NoBlocks.{MayBeCold, expression_may_be_cold}
use Rattle.lowering_invariants.proofs.Regions.ReturnRegions.{calls_stay}
use Rattle.lowering_invariants.proofs.Regions.RegionRanges.{IsWithin, AreWithin, statements_within, NoneBegin, NoneMeet, statements_none_meet}
use Rattle.lowering_invariants.proofs.Stacks.StackTargets.{all_map, same_it}
use Rattle.lowering_invariants.proofs.Labels.UnwindTargets.{IsClear, LeadsOn, AllLead, lead_append, plain_lead, statements_lead, lead_at, within_clear}

differ : {X : Type 0} → false ≡ true → X
differ e = cc

abbrev is_landing : Instruction → Bool
is_landing (Landing to) = true
is_landing i = false

-- ---- what a region holds

held_between : (label : ℕ) (r : Region) → holds label r ≡ true
    → (r.begin ≤ label) × (label < r.end)
held_between label r h =
    let p = and_parts (nat_le r.begin label) (nat_lt label r.end) h in
    (leb-true r.begin label p.0, ltb-true label r.end p.1)

pub all_with : {X : Type 0} (P Q R : X → Type 0) (xs : List X) → ((x : X) → P x → Q x → R x)
    → AllByRecursion P xs → AllByRecursion Q xs → AllByRecursion R xs
all_with P Q R [] f h k = tt
all_with P Q R (x ∷ xs) f h k = (f x h.0 k.0, all_with P Q R xs f h.1 k.1)

-- ---- blocks begin, or are called, where their regions end

module _ (code : List Instruction) where
  abbrev LandsAt : ℕ → RegionKind → Type 0
  LandsAt end (kinds.Finally k) = slice_get code end ≡ Some (CallFinally k)
  LandsAt end (kinds.Filter k target) =
      (slot : ℕ) × (target ≡ end) × (slice_get code end ≡ Some (Landing (Local slot)))
  LandsAt end (kinds.Always target) =
      (slot : ℕ) × (target ≡ end) × (slice_get code end ≡ Some (Landing (Local slot)))

  abbrev Lands : Region → Type 0
  Lands r = LandsAt r.end r.kind

  kind_lands : (f : Filter) (end x : ℕ) → slice_get code end ≡ Some (Landing (Local x))
      → LandsAt end (except_kind f end)
  kind_lands Always end x e = (x, refl, e)
  kind_lands (Funclet k c) end x e = (x, refl, e)

  pieces_land : HoldsOfAnyPieces (λ at xs rs. IsSegmentAt code at xs → AllByRecursion Lands rs)
  pieces_land = record {
    none = λ at s. tt;
    both = λ at to xs ys rs qs e h k s. all_append Lands rs qs (h (front code at xs ys s))
        (k (back code at to xs ys e s));
    of_separator = λ at s. tt;
    of_jump = λ at label l s. tt;
    of_unwind = λ at label l s. tt;
    of_landing = λ names m begin end at f le n o b t l s.
        (kind_lands f (at + 1) names.free s.1.0, tt);
    of_finally = λ k begin at o b t s. (s.1.0, tt);
    of_zeroed = λ x at d s. tt;
    of_put_zero = λ v at d s. tt;
    of_put_initialiser = λ names m v e at n d h c s. tt;
    of_counted = λ names m k at le n s. tt;
    of_clearing = λ names m v end begin at le n d l b s. tt;
    of_discarded = λ names m e at n h c s. tt;
    of_condition = λ names m e label at n h l c s. tt;
    of_initialiser = λ names m x e at n d h c s. tt;
    of_repeated = λ names m e end begin at n h l b c s. tt;
    of_return = λ names m e exit at n h w c s. tt;
  }

  statements_land : (ss : Statements) (scope : LoweringContext) (at : ℕ)
      → IsSegmentAt code at (statements_code scope ss at)
      → AllByRecursion Lands (statements_regions ss at)
  statements_land = statements_any
      (λ at xs rs. IsSegmentAt code at xs → AllByRecursion Lands rs) pieces_land

  -- where a block begins no other one does, nor is one called
  own_block : (end slot : ℕ) (k : RegionKind) → LandsAt end k
      → slice_get code end ≡ Some (Landing (Local slot)) → HasBlock end k
  own_block end slot (kinds.Finally k) l e = differ (ap is_landing
      (same_it (CallFinally k) (Landing (Local slot)) (sym l ∙ e)))
  own_block end slot (kinds.Filter k target) l e = l.1
  own_block end slot (kinds.Always target) l e = l.1

  -- no local unwind leads there
  no_target : (end : ℕ) (k : RegionKind) (i : Instruction) → LandsAt end k
      → slice_get code end ≡ Some i → is_target i ≡ true → ⊥
  no_target end (kinds.Finally k) i l e t = differ (ap is_target
      (same_it (CallFinally k) i (sym l ∙ e)) ∙ t)
  no_target end (kinds.Filter k target) i l e t = differ (ap is_target
      (same_it (Landing (Local l.0)) i (sym l.2 ∙ e)) ∙ t)
  no_target end (kinds.Always target) i l e t = differ (ap is_target
      (same_it (Landing (Local l.0)) i (sym l.2 ∙ e)) ∙ t)

-- ---- whole bodies

record IsSeparate (b : LinearBody) : Type 0 where
  pub regions : AllByRecursion (IsInside (length b.code)) b.regions
  pub lands : AllByRecursion (Lands b.code) b.regions
  pub apart : NoneMeet b.regions
  pub leads : (label to : ℕ) → slice_get b.code label ≡ Some (LocalUnwind to)
      → LeadsOn b.regions b.code label (label + 1) to

-- a block begins where no region begins, and where no other one ends
lands_inside : (b : LinearBody) (end target slot : ℕ) → target ≡ end
    → slice_get b.code end ≡ Some (Landing (Local slot)) → AllByRecursion (Lands b.code) b.regions
    → NoneBegin end b.regions → LandsInside b target
lands_inside b end target slot e g lands none = record {
  slot = slot;
  landing = ap (slice_get b.code) e ∙ g;
  begins = subst (λ label. NoneBegin label b.regions) (sym e) none;
  ends = all_map (Lands b.code) (λ (r : Region). r.end ≡ target → HasBlock target r.kind) b.regions
      (λ r l same. subst (λ label. HasBlock label r.kind) same (own_block b.code r.end slot r.kind l
      (ap (slice_get b.code) (same ∙ e) ∙ g))) lands;
}

has_landing : (b : LinearBody) (end : ℕ) (k : RegionKind) → AllByRecursion (Lands b.code) b.regions
    → LandsAt b.code end k → NoneBegin end b.regions → HasLanding b k
has_landing b end (kinds.Finally k) lands l none = tt
has_landing b end (kinds.Filter k target) lands l none =
    lands_inside b end target l.0 l.1 l.2 lands none
has_landing b end (kinds.Always target) lands l none =
    lands_inside b end target l.0 l.1 l.2 lands none

-- the code of statements from a place on, and something after it
separate : (ss : Statements) (scope : LoweringContext) (b : LinearBody) (at : ℕ)
    → b.regions ≡ statements_regions ss at → at + statements_size ss ≤ length b.code
    → IsSegmentAt b.code at (statements_code scope ss at) → AllLead b.regions b.code 0 b.code
    → IsSeparate b
separate ss scope b at e l s leads =
    let within = subst (AreWithin at (at + statements_size ss)) (sym e) (statements_within ss at) in
    record {
      regions = all_map (IsWithin at (at + statements_size ss)) (IsInside (length b.code)) b.regions
          (λ r w. (let h = w.ends in record { some = w.some; before = omega arith })) within;
      lands = subst (AllByRecursion (Lands b.code)) (sym e)
          (statements_land b.code ss scope at s);
      apart = subst NoneMeet (sym e) (statements_none_meet ss at);
      leads = λ label to g. lead_at b.regions b.code b.code 0 label label to (omega arith) leads g;
    }

filter_separate : (owner : Owner) (names : Names) (e : Expression)
    → IsSeparate (filter_funclet owner names e).body
filter_separate owner names e =
    let code = (filter_funclet owner names e).body.code in
    record {
      regions = tt;
      lands = tt;
      apart = tt;
      leads = λ label to g. lead_at [] code code 0 label label to (omega arith)
          (lead_append [] code 0 (length (expression_code names e 0 0))
          (expression_code names e 0 0) (Return (Temporary 0) ∷ []) (omega arith)
          (plain_lead [] code 0 (expression_code names e 0 0) (expression_may_be_cold names e 0 0))
          (tt, tt)) g;
    }

begin_may_be_cold : (part : Option DataPart) (x : ℕ)
    → AllByRecursion MayBeCold (finally_begin part x)
begin_may_be_cold None x = (refl, (refl, (refl, tt)))
begin_may_be_cold (Some p) x = (refl, (refl, (refl, tt)))

block_separate : (owner : Owner) (names : Names) (last : Statements)
    → IsSeparate (finally_funclet owner names last).body
block_separate owner names last =
    let b = (finally_funclet owner names last).body in
    let scope = finally_scope names in
    let begins = finally_begin names.part names.free in
    let code = statements_code scope last 3 in
    let ends = Return (Local names.free) ∷ [] in
    let n = length-append code ends in
    let m = length-append begins (code ++ ends) in
    let l = statements_length scope last 3 in
    let three = begin_three names.part names.free in
    let to = 3 + statements_size last in
    let s = front b.code 3 code ends
    (back b.code 0 3 begins (code ++ ends) (omega arith) (whole_is_at b.code)) in
    separate last scope b 3 refl (omega arith) s
    (lead_append b.regions b.code 0 3 begins (code ++ ends) (omega arith)
    (plain_lead b.regions b.code 0 begins (begin_may_be_cold names.part names.free))
    (lead_append b.regions b.code 3 to code ends (omega arith)
    (statements_lead b.regions b.code last scope 3 to (omega arith) s
    (record { exit = tt; loop_end = tt; loop_next = tt }) (λ low high p q h. h)) (tt, tt)))

-- where a `return` leads
exit_is : (code : List Instruction) (at : ℕ) (d : Option DataFrame)
    → IsSegmentAt code at (constant 0 0 ∷ (close_code d ++ Return (Temporary 0) ∷ []))
    → (i : Instruction) × (slice_get code (at + 1) ≡ Some i) × (is_target i ≡ true)
exit_is code at None s = (Return (Temporary 0), s.1.0, refl)
exit_is code at (Some d) s = (set_pointer d.base 0, s.1.0, refl)

end_leads_on : (rs : List Region) (code : List Instruction) (at : ℕ) (d : Option DataFrame)
    → AllLead rs code at (constant 0 0 ∷ (close_code d ++ Return (Temporary 0) ∷ []))
end_leads_on rs code at None = (tt, (tt, tt))
end_leads_on rs code at (Some d) = (tt, (tt, (tt, tt)))

function_separate : (f : Function) → IsSeparate (lowered_function f).body
function_separate f =
    let b = (lowered_function f).body in
    let scope = scope_of f in
    let at = body_start f in
    let first = function_begin f in
    let code = function_body_code f in
    let m = length-append first code in
    let n = length-append (first ++ code) (function_end f) in
    let same = ap length (code_is f) in
    let k = begin_length f in
    let e = end_length f in
    let l = statements_length scope f.body at in
    let to = at + statements_size f.body in
    let exit = within_clear at to at (to + 1) b.regions (omega arith)
    (statements_within f.body at) in
    let whole = body_at f in
    let s = front b.code at code (function_end f) whole in
    let own = exit_is b.code to f.data_frame
    (back b.code at to code (function_end f) (omega arith) whole) in
    separate f.body scope b at refl (omega arith) s
    (subst (λ is. AllLead b.regions b.code 0 is) (code_is f)
    (lead_append b.regions b.code 0 to (first ++ code) (function_end f) (omega arith)
    (lead_append b.regions b.code 0 at first code (omega arith)
    (plain_lead b.regions b.code 0 first (begin_every MayBeCold refl f
    (open_every MayBeCold f.data_frame (λ base size. refl) (λ base p. refl))))
    (statements_lead b.regions b.code f.body scope at to refl s
    (record {
      exit = (omega arith, exit, own);
      loop_end = tt;
      loop_next = tt;
    })
    (λ low high p q h. h)))
    (end_leads_on b.regions b.code to f.data_frame)))

-- ---- where bodies begin

abbrev StartsApart : LinearBody → Type 0
StartsApart b = BeginsApart (FunctionBody 0) b

function_starts : (f : Function) → StartsApart (lowered_function f).body
function_starts f = (
  refl,
  all_map (IsWithin (body_start f) (body_start f + statements_size f.body))
      (λ (r : Region). 0 < r.begin) (statements_regions f.body (body_start f))
      (λ r w. (let b = w.begins in omega arith)) (statements_within f.body (body_start f)),
)

begins_apart : (program : Program) (name : BodyName) (b : LinearBody)
    → body_of (lowered program) name ≡ Some b → BeginsApart name b
begins_apart program (FunctionBody k) b e = every_function StartsApart function_starts program k b e
begins_apart program (FuncletBody k) b e = tt

-- ---- all bodies

holds_from : (label to : ℕ) (r : Region) → label < to → IsClear label to r → holds to r ≡ true
    → holds label r ≡ true
holds_from label to r l (inl c) h = let p = held_between to r h in
    holds_yes r label c (omega arith)
holds_from label to r l (inr (inl c)) h = let p = held_between to r h in absurd (omega arith)
holds_from label to r l (inr (inr c)) h = let p = held_between to r h in absurd (omega arith)

begins_apart_from : (label to : ℕ) (r : Region) → label < to → r.begin < r.end → IsClear label to r
    → r.begin ≡ to → ⊥
begins_apart_from label to r l s (inl c) e = absurd (omega arith)
begins_apart_from label to r l s (inr (inl c)) e = absurd (omega arith)
begins_apart_from label to r l s (inr (inr c)) e = absurd (omega arith)

leads_forth : (b : LinearBody) (label to : ℕ) → IsSeparate b
    → LeadsOn b.regions b.code label (label + 1) to → LeadsForth b label to
leads_forth b label to separate h =
    let forth : label < to = omega arith in
    let Known : Region → Type 0 = λ r. Lands b.code r × IsClear label to r in
    record {
      forth = forth;
      instruction = h.2.0;
      there = h.2.1;
      own = h.2.2;
      inside = all_with (IsInside (length b.code)) Known (HoldsStrictly label to) b.regions
          (λ r i k. record {
            begins = begins_apart_from label to r forth i.some k.1;
            ends = λ e. no_target b.code r.end r.kind h.2.0 k.0
                (ap (slice_get b.code) e ∙ h.2.1) h.2.2;
            both = holds_from label to r forth k.1;
          })
          separate.regions
          (all_with (Lands b.code) (IsClear label to) Known b.regions (λ r x y. (x, y))
          separate.lands h.1);
    }

pub lowered_has_separators : LoweredHasSeparators
lowered_has_separators program name b e =
    let separate = every_body IsSeparate filter_separate block_separate function_separate program
    name b e in
    let stay = calls_stay program name b e in
    record {
      returns = stay.within;
      calls = stay.hold;
      blocks = lowered_is_followed program name b e;
      regions = separate.regions;
      begin = begins_apart program name b e;
      landings = all_with (Lands b.code) (λ (r : Region). NoneBegin r.end b.regions)
          (λ (r : Region). HasLanding b r.kind) b.regions
          (λ r h k. has_landing b r.end r.kind separate.lands h k) separate.lands separate.apart;
      unwinds = λ label to g. leads_forth b label to separate (separate.leads label to g);
    }
