-- No region of a lowered program begins where the prologue of its routine ends: after it a function
-- has separators, and a funclet keeps the base.
use Rattle.std.proofs.Common.{◌≡◌, ◌⊎◌, inl, inr, ℕ, suc, ◌+◌, ◌<◌, ◌≤◌, Bool, true, false, List, [], ◌∷◌, ◌++◌, length, take, map, Option, Some, None, refl, sym, ap, subst, ◌∙◌, arith, append_assoc}
use Rattle.std.specs.Prelude.{not, ◌&&◌, ◌==◌, if◌then◌else◌}
use Rattle.std.specs.List.{AllByRecursion}
use Rattle.image_tables.specs.Words.{W32, Rax, Rcx, Entry, ScopeRecord, Statements, Function, LinearBody, LinearFunclet, LinearProgram, Region, Local, FrameLayout, Layout, modrm, keep_register, move, keep, size, sizes, body_size, is_cold, AreParts, side_from, hot_code, label_list, address_or, info_of, Nothing, statements_regions, scope_of, lowered, lowered_function, body_start, statements_notes, RoutineView, is_leaf, leaf_if, functions_from, funclet, routines, IsRoutineNear, SiteView, argument_code, base_of, scope_records, Placed, PlacedPart, Cursor, put, past, body_begin, end_of, parts_of, placed_from, placed, first_cursor, site_of, IsRange, HasRanges, entry_of, entry_if, part_entry, chained_if}
use Rattle.linear_code.specs.declared.program.FuncletKind.{FuncletKind}
use Rattle.linear_code.specs.declared.program.FuncletKind.TheVariants as kinds
use Rattle.lowering_expressions.specs.declared.scope.LoweringContext.{LoweringContext}
use Rattle.seh_ir.proofs.StatementParts.{statements_have}
use Rattle.seh_ir.proofs.EveryStatement.{WaysHave, any_neutral, IsPlaced, HoldsOfPieces, statements_every}
use Rattle.x64_emit.specs.Entries.{keep_base}
use Rattle.image_link.specs.Routines as links
use Rattle.image_link.specs.Fits.{FitsFunction}
use Rattle.image_tables.specs.Entries.{entries_of, chained_of}
use Rattle.image_tables.specs.RegionLaws.{BeginsPastPrologue, LoweredBeginsPastPrologues}
use Rattle.image_tables.proofs.Lemmas.{all_append, sizes_append, routines_near}
use Rattle.image_tables.proofs.Labels.{template_some, within_get, taken_past, label_is}
use Rattle.image_tables.proofs.RegionRanges.{lowered_has_regions}
use Rattle.image_tables.proofs.RoutineRanges.{routines_have}
use Rattle.image_tables.proofs.Prologues.{entry_is, entry_least}

-- ---- statements after the first instruction

abbrev IsLate : Region → Type 0
IsLate r = 1 ≤ r.begin

places_late : IsPlaced (λ at xs. 1 ≤ at) (λ xs. Unit {0}) (λ label. 1 ≤ label)
places_late = record {
  front = λ at xs ys c. c;
  back = λ at to xs ys e m c. omega arith;
  begins = λ at xs c. c;
  ends = λ at to xs e m c. omega arith;
}

pieces_late : HoldsOfPieces (λ at xs rs. AllByRecursion IsLate rs) (λ at xs. 1 ≤ at)
    (λ label. 1 ≤ label)
    (λ label. Unit {0}) (λ names m. Unit {0}) (λ e. Unit {0}) (λ x. Unit {0})
pieces_late = record {
  none = λ at. tt;
  both = λ at to xs ys rs qs e h k. all_append IsLate rs qs h k;
  of_separator = λ at. tt;
  of_jump = λ at label l. tt;
  of_unwind = λ at label l. tt;
  of_landing = λ names m begin end at f le k o b t l. (b, tt);
  of_finally = λ k begin at o b t. (b, tt);
  of_zeroed = λ x at d. tt;
  of_discarded = λ names m e at k h c. tt;
  of_condition = λ names m e label at k h l c. tt;
  of_initialiser = λ names m x e at k d h c. tt;
  of_put_zero = λ v at d. tt;
  of_put_initialiser = λ names m v e at k d h c. tt;
  of_counted = λ names m n at le k. tt;
  of_clearing = λ names m v end begin at le k d l b. tt;
  of_repeated = λ names m e end begin at k h l b c. tt;
  of_return = λ names m e exit at k h w c. tt;
}

statements_late : (ss : Statements) (scope : LoweringContext) (at : ℕ) → 1 ≤ at
    → WaysHave (λ label. 1 ≤ label) (λ label. Unit {0}) scope
    → AllByRecursion IsLate (statements_regions ss at)
statements_late ss scope at le w =
    statements_every (λ at xs rs. AllByRecursion IsLate rs) (λ at xs. 1 ≤ at) (λ xs. Unit {0})
    (λ label. 1 ≤ label) (λ label. Unit {0}) (λ names m. Unit {0}) (λ e. Unit {0}) (λ e. Unit {0})
    (λ x. Unit {0}) any_neutral places_late (λ names m k le h. tt) pieces_late ss scope at
    (statements_notes ss) (omega arith) tt w (statements_have (λ e. Unit {0}) (λ e. Unit {0})
    (λ x. Unit {0}) (λ e. tt) (λ e. tt) (λ x. tt) ss) le

-- ---- routines

-- no region begins at a cold instruction, and they begin after the first of the instructions, which
-- isn't cold, or what takes its arguments has some bytes
abbrev IsHot : LinearBody → Region → Type 0
IsHot b r = is_cold b.cold r.begin ≡ false

abbrev IsStarted : RoutineView → Type 0
IsStarted r =
    ((0 < length r.body.code) × (is_cold r.body.cold 0 ≡ false)
    × AllByRecursion IsLate r.body.regions)
    ⊎ (0 < sizes (argument_code r.layout r.entry))

abbrev AreHot : RoutineView → Type 0
AreHot r = AllByRecursion (IsHot r.body) r.body.regions

hot_all : (b : LinearBody) (rs : List Region) → AllByRecursion (IsRange b) rs
    → AllByRecursion (IsHot b) rs
hot_all b [] ranges = tt
hot_all b (r ∷ rs) ranges =
    let lt = ranges.0.some in (
      ranges.0.hot r.begin (let z : r.begin ≤ r.begin = omega arith in z) (omega arith),
      hot_all b rs ranges.1,
    )

all_hot : (rs : List RoutineView) → AllByRecursion (λ (r : RoutineView). HasRanges r.body) rs
    → AllByRecursion AreHot rs
all_hot [] have = tt
all_hot (r ∷ rs) have = (hot_all r.body r.body.regions have.0.regions, all_hot rs have.1)

function_late : (f : Function) → AllByRecursion IsLate (lowered_function f).body.regions
function_late f = statements_late f.body (scope_of f) (body_start f) (omega arith)
    (record { exit = tt; loop_end = tt; loop_next = tt; leave = tt })

function_started : (leaf : Bool) (f : Function) → FitsFunction (lowered_function f)
    → IsStarted (leaf_if leaf (lowered_function f))
function_started true f fits = inl (fits.some, fits.first, function_late f)
function_started false f fits = inl (fits.some, fits.first, function_late f)

functions_started : (main index : ℕ) (fs : List Function)
    → AllByRecursion FitsFunction (map lowered_function fs)
    → AllByRecursion IsStarted (functions_from main index (map lowered_function fs))
functions_started main index [] fits = tt
functions_started main index (f ∷ fs) fits = (
  function_started (not (index == main) && is_leaf (lowered_function f)) f fits.0,
  functions_started main (suc index) fs fits.1,
)

base_kept : (parent : Option ℕ) (b : ℕ) → 0 < sizes (keep_base parent b)
unfolding size modrm
base_kept None b = omega arith
base_kept (Some parent) b = omega arith

entry_some : (k : FuncletKind) (parent : Option ℕ) (y : Layout)
    → 0 < sizes (argument_code y (links.entry_of k parent))
entry_some kinds.Filter parent y =
    let s = base_kept parent (base_of y y.base) in
    omega (
      arith,
      sizes_append (keep_base parent (base_of y y.base)) (keep_register Rcx y.pointers ∷ []),
    )
entry_some (kinds.Finally flag) parent y =
    let s = base_kept parent (base_of y y.base) in
    omega (
      arith,
      sizes_append (keep_base parent (base_of y y.base)) (move W32 Rax Rcx ∷ keep y (Local flag)),
    )

funclets_started : (p : LinearProgram) (fs : List LinearFunclet)
    → AllByRecursion IsStarted (map (funclet p) fs)
funclets_started p [] = tt
funclets_started p (f ∷ fs) = (
  inr (entry_some f.kind (links.kept_by p f.parent) (funclet p f).layout),
  funclets_started p fs,
)

-- ---- their scope records

-- a label that isn't cold, from the body's begin on
module _ (y : Layout) (start cold : ℕ) (b : LinearBody) (end : ℕ)
    (parts : AreParts 0 b.cold (length b.code)) (ends : end ≡ start + body_size y (hot_code b))
  where
    abbrev labels : List ℕ
    labels = label_list y b.cold 0 start cold b.code

    hot_place : (i : ℕ) → is_cold b.cold i ≡ false
        → address_or labels i end ≡ start + body_size y (side_from b.cold false 0 (take i b.code))
    hot_place i hot =
        label_is y b.cold start cold b.code parts i end ends
        ∙ ap (λ (c : Bool). (if c then cold else start)
        + body_size y (side_from b.cold c 0 (take i b.code))) hot

    after_start : (i : ℕ) → is_cold b.cold i ≡ false → start ≤ address_or labels i end
    after_start i hot = let p = hot_place i hot in omega arith

    after_first : (i : ℕ) → 0 < length b.code → is_cold b.cold 0 ≡ false → 1 ≤ i
        → is_cold b.cold i ≡ false → start < address_or labels i end
    after_first i some first late hot =
        let p = hot_place i hot in
        let one = within_get b.code 0 some in
        let z : 0 + 0 ≡ 0 = omega arith in
        let past = taken_past y b.cold false 0 0 i b.code one.0 late one.1
        (ap (is_cold b.cold) z ∙ first) in
        let size = template_some y one.0 in
        omega arith

rows_past : (low : ℕ) (funclets places : List ℕ) (end : ℕ) (P Q : Region → Type 0)
    → ((r : Region) → P r → Q r → low < address_or places r.begin end) → (rs : List Region)
    → AllByRecursion P rs → AllByRecursion Q rs
    → AllByRecursion (λ (row : ScopeRecord). low < row.begin)
    (scope_records funclets places end rs)
rows_past low funclets places end P Q by [] g h = tt
rows_past low funclets places end P Q by (r ∷ rs) g h = (
  by r g.0 h.0,
  rows_past low funclets places end P Q by rs g.1 h.1,
)

any_region : (rs : List Region) → AllByRecursion (λ (r : Region). Unit {0}) rs
any_region [] = tt
any_region (r ∷ rs) = (tt, any_region rs)

module _ (s : SiteView) where
  entry_past : (x : Placed) (f : FrameLayout) → IsRoutineNear x.routine
      → x.routine.frame ≡ Some f → AreHot x.routine → IsStarted x.routine
      → BeginsPastPrologue (entry_of s x f)
  entry_past x f near e hot (inl h) =
      let r = x.routine in
      let l = entry_least r f near e in
      let start = body_begin x in
      rows_past (x.begin + (info_of f Nothing).prologue_size) s.funclets
      (label_list r.layout r.body.cold 0 start x.cold r.body.code) (end_of x) (IsHot r.body) IsLate
      (λ q own late. (let a = after_first r.layout start x.cold r.body (end_of x) near.cold
      (omega arith) q.begin h.0 h.1 late own in omega arith)) r.body.regions hot h.2
  entry_past x f near e hot (inr some) =
      let r = x.routine in
      let l = entry_is r f near e in
      let start = body_begin x in
      rows_past (x.begin + (info_of f Nothing).prologue_size) s.funclets
      (label_list r.layout r.body.cold 0 start x.cold r.body.code) (end_of x) (IsHot r.body)
      (λ q. Unit {0})
      (λ q own any. (let a = after_start r.layout start x.cold r.body (end_of x) near.cold
      (omega arith) q.begin own in omega arith)) r.body.regions hot (any_region r.body.regions)

  past_if : (x : Placed) (o : Option FrameLayout) (es : List Entry) → x.routine.frame ≡ o
      → IsRoutineNear x.routine → AreHot x.routine → IsStarted x.routine
      → AllByRecursion BeginsPastPrologue es
      → AllByRecursion BeginsPastPrologue (entry_if s x o ++ es)
  past_if x None es e near hot started h = h
  past_if x (Some f) es e near hot started h = (entry_past x f near e hot started, h)

  all_past : (c : Cursor) (rs : List RoutineView) (others : List Entry)
      → AllByRecursion IsRoutineNear rs → AllByRecursion AreHot rs → AllByRecursion IsStarted rs
      → AllByRecursion BeginsPastPrologue others
      → AllByRecursion BeginsPastPrologue (entries_of s (placed_from s c rs) ++ others)
  all_past c [] others near hot started more = more
  all_past c (r ∷ rs) others near hot started more =
      let es = entries_of s (placed_from s (past s c r) rs) in
      subst (AllByRecursion BeginsPastPrologue)
      (sym (append_assoc (entry_if s (put c r) r.frame) es others))
      (past_if (put c r) r.frame (es ++ others) refl near.0 hot.0 started.0
      (all_past (past s c r) rs others near.1 hot.1 started.1 more))

  -- cold parts have no scope records
  parts_past : (x : Placed) (f : FrameLayout) (qs : List PlacedPart) (others : List Entry)
      → AllByRecursion BeginsPastPrologue others
      → AllByRecursion BeginsPastPrologue (map (part_entry s x f) qs ++ others)
  parts_past x f [] others more = more
  parts_past x f (q ∷ qs) others more = (tt, parts_past x f qs others more)

  chained_past_if : (x : Placed) (o : Option FrameLayout) (others : List Entry)
      → AllByRecursion BeginsPastPrologue others
      → AllByRecursion BeginsPastPrologue (chained_if s x o ++ others)
  chained_past_if x None others more = more
  chained_past_if x (Some f) others more = parts_past x f (parts_of x) others more

  chained_past : (c : Cursor) (rs : List RoutineView)
      → AllByRecursion BeginsPastPrologue (chained_of s (placed_from s c rs))
  chained_past c [] = tt
  chained_past c (r ∷ rs) =
      chained_past_if (put c r) r.frame (chained_of s (placed_from s (past s c r) rs))
      (chained_past (past s c r) rs)

pub lowered_begins_past_prologues : LoweredBeginsPastPrologues
lowered_begins_past_prologues program fits =
    let p = lowered program in
    let s = site_of p in
    all_past s (first_cursor p) (routines p) (chained_of s (placed p)) (routines_near p fits)
    (all_hot (routines p) (routines_have p (lowered_has_regions program)))
    (all_append IsStarted (functions_from p.main 0 p.functions) (map (funclet p) p.funclets)
    (functions_started p.main 0 program.functions fits.functions) (funclets_started p p.funclets))
    (chained_past s (first_cursor p) (routines p))
