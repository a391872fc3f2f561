-- The rows and entries of routines one after another.
use Rattle.std.proofs.Common.{◌≡◌, ◌≢◌, ℕ, zero, suc, ◌+◌, ◌<◌, ◌≤◌, ◌==◌, Bool, true, false, not, List, [], ◌∷◌, ◌++◌, length, get_or, map, Option, Some, None, refl, sym, ap, subst, ◌∙◌, arith, append_assoc, inl, inr}
use Rattle.std.specs.Prelude.{slice_get, ◌&&◌, nat_le}
use Rattle.std.specs.List.{AllByRecursion}
use Rattle.std.proofs.lemmas.Bool.{and_parts, ne_eqb, eqb-true}
use Rattle.std.proofs.lemmas.List.{append-nil}
use Rattle.image_tables.specs.Words.{Entry, ScopeRecord, Region, RegionKind, LinearFunction, LinearFunclet, LinearProgram, FrameLayout, Layout, body_size, AreParts, hot_code, label_at, label_list, address_or, function_bodies, funclet_bodies, RoutineView, is_leaf, leaf_if, functions_from, funclet, routines, IsRoutineNear, SiteView, routine_size, entry_size, bounds, is_finally, handler_address, jump_target, scope_records, Placed, PlacedPart, Cursor, put, past, parts_of, placed, placed_from, first_cursor, site_of, scopes_of, entries, entry_if, part_entry, chained_if, rows_of, regions_in, regions, is_always, AreRows, LinearBody, all_spare}
use Rattle.image_tables.specs.Entries.{entries_of, chained_of}
use Rattle.linear_code.specs.declared.program.RegionKind.TheVariants as kinds
use Rattle.image_tables.proofs.Lemmas.{bounds_least, all_append}
use Rattle.image_tables.proofs.Labels.{IsBetween, label_is, label_between}
use Rattle.image_tables.proofs.RegionRows.{rows_both}

-- ---- the rows of a routine

abbrev pub AreFar : List ℕ → Type 0
AreFar xs = AllByRecursion (λ a. 1 < a) xs

not_one : (xs : List ℕ) (k : ℕ) → AreFar xs → get_or xs k 0 ≢ 1
not_one [] zero far e = let q : 0 ≡ 1 = e in omega arith
not_one [] (suc k) far e = let q : 0 ≡ 1 = e in omega arith
not_one (x ∷ xs) zero far e = let q : x ≡ 1 = e in let lt = far.0 in omega arith
not_one (x ∷ xs) (suc k) far e = not_one xs k far.1 e

module _ (p : LinearProgram) (far : AreFar (site_of p).funclets) (y : Layout) (start cold : ℕ)
    (b : LinearBody) (end : ℕ) (some : 0 < start) (others : 0 < cold)
    (parts : AreParts 0 b.cold (length b.code)) (ends : end ≡ start + body_size y (hot_code b))
  where
    between_some : (a : ℕ) → IsBetween y b.cold start cold b.code parts a → 0 < a
    between_some a (inl h) = let least = h.0 in omega arith
    between_some a (inr h) = let least = h.0 in omega arith

    target_some : (i : ℕ) → address_or (label_list y b.cold 0 start cold b.code) i end ≢ 0
    target_some i e =
        let l = between_some (label_at y start cold b.cold b.code i)
        (label_between y b.cold start cold b.code parts i) in
        let is = label_is y b.cold start cold b.code parts i end ends in
        let q : address_or (label_list y b.cold 0 start cold b.code) i end ≡ 0 = e in
        omega arith

    finally_by : (k : RegionKind)
        → (jump_target (label_list y b.cold 0 start cold b.code) end k == 0) ≡ is_finally k
    finally_by (kinds.Finally funclet) = refl
    finally_by (kinds.Filter funclet target) = ne_eqb _ 0 (target_some target)
    finally_by (kinds.Always target) = ne_eqb _ 0 (target_some target)

    always_by : (k : RegionKind) → (handler_address (site_of p).funclets k == 1) ≡ is_always k
    always_by (kinds.Finally funclet) = ne_eqb _ 1 (not_one (site_of p).funclets funclet far)
    always_by (kinds.Filter funclet target) = ne_eqb _ 1 (not_one (site_of p).funclets funclet far)
    always_by (kinds.Always target) = refl

    pub routine_rows : (rs : List Region) → AreRows p
        (scope_records (site_of p).funclets (label_list y b.cold 0 start cold b.code) end rs) rs
    routine_rows [] = tt
    routine_rows (r ∷ rs) = (
      record {
        finally = finally_by r.kind;
        always = always_by r.kind;
        handler = refl;
      },
      routine_rows rs,
    )

-- ---- routines without a frame have no regions

abbrev pub IsBare : RoutineView → Type 0
IsBare r = r.frame ≡ None → r.body.regions ≡ []

none_left : (rs : List Region) → (length rs == 0) ≡ true → rs ≡ []
none_left [] e = refl
none_left (r ∷ rs) e = let q = eqb-true (length (r ∷ rs)) 0 e in absurd (omega arith)

abbrev is_some : {A : Type 0} → Option A → ℕ
is_some (Some x) = 1
is_some None = 0

function_bare : (f : LinearFunction) (other leaf : Bool) → (other && is_leaf f) ≡ leaf
    → IsBare (leaf_if leaf f)
function_bare f other true e none =
    let b = f.body in
    let bare = (length b.regions == 0) && all_spare f.parameters b.code in
    let few = nat_le (b.locals + b.temporaries) 4 in
    let p = and_parts other (is_leaf f) e in
    let q = and_parts (nat_le f.parameters b.locals) (few && bare) p.1 in
    let r = and_parts few bare q.1 in
    none_left b.regions (and_parts (length b.regions == 0) (all_spare f.parameters b.code) r.1).0
function_bare f other false e none = let q = ap is_some none in absurd (omega arith)

functions_bare : (main index : ℕ) (fs : List LinearFunction)
    → AllByRecursion IsBare (functions_from main index fs)
functions_bare main index [] = tt
functions_bare main index (f ∷ fs) = (
  function_bare f (not (index == main))
      (not (index == main) && is_leaf f) refl,
  functions_bare main (suc index) fs,
)

funclets_bare : (p : LinearProgram) (fs : List LinearFunclet)
    → AllByRecursion IsBare (map (funclet p) fs)
funclets_bare p [] = tt
funclets_bare p (f ∷ fs) = (
  (λ none. (let q = ap is_some none in absurd (omega arith))),
  funclets_bare p fs,
)

pub routines_bare : (p : LinearProgram) → AllByRecursion IsBare (routines p)
routines_bare p =
    all_append IsBare (functions_from p.main 0 p.functions) (map (funclet p) p.funclets)
    (functions_bare p.main 0 p.functions) (funclets_bare p p.funclets)

-- ---- they hold no call either

abbrev pub IsSpare : RoutineView → Type 0
IsSpare r = r.frame ≡ None → (n : ℕ) × (all_spare n r.body.code ≡ true)

function_spare : (f : LinearFunction) (other leaf : Bool) → (other && is_leaf f) ≡ leaf
    → IsSpare (leaf_if leaf f)
function_spare f other true e none =
    let b = f.body in
    let bare = (length b.regions == 0) && all_spare f.parameters b.code in
    let few = nat_le (b.locals + b.temporaries) 4 in
    let p = and_parts other (is_leaf f) e in
    let q = and_parts (nat_le f.parameters b.locals) (few && bare) p.1 in
    let r = and_parts few bare q.1 in
    (f.parameters, (and_parts (length b.regions == 0) (all_spare f.parameters b.code) r.1).1)
function_spare f other false e none = let q = ap is_some none in absurd (omega arith)

functions_spare : (main index : ℕ) (fs : List LinearFunction)
    → AllByRecursion IsSpare (functions_from main index fs)
functions_spare main index [] = tt
functions_spare main index (f ∷ fs) = (
  function_spare f (not (index == main))
      (not (index == main) && is_leaf f) refl,
  functions_spare main (suc index) fs,
)

funclets_spare : (p : LinearProgram) (fs : List LinearFunclet)
    → AllByRecursion IsSpare (map (funclet p) fs)
funclets_spare p [] = tt
funclets_spare p (f ∷ fs) = (
  (λ none. (let q = ap is_some none in absurd (omega arith))),
  funclets_spare p fs,
)

pub routines_spare : (p : LinearProgram) → AllByRecursion IsSpare (routines p)
routines_spare p =
    all_append IsSpare (functions_from p.main 0 p.functions) (map (funclet p) p.funclets)
    (functions_spare p.main 0 p.functions) (funclets_spare p p.funclets)

-- ---- the regions of routines

abbrev pub bodies : List RoutineView → List LinearBody
bodies [] = []
bodies (r ∷ rs) = r.body ∷ bodies rs

same_body : (b : Bool) (f : LinearFunction) → (leaf_if b f).body ≡ f.body
same_body true f = refl
same_body false f = refl

functions_regions : (main index : ℕ) (fs : List LinearFunction)
    → regions_in (bodies (functions_from main index fs)) ≡ regions_in (function_bodies fs)
functions_regions main index [] = refl
functions_regions main index (f ∷ fs) = λ i. (same_body (not (index == main) && is_leaf f) f
    i).regions ++ functions_regions main (suc index) fs i

funclets_regions : (p : LinearProgram) (fs : List LinearFunclet)
    → regions_in (bodies (map (funclet p) fs)) ≡ regions_in (funclet_bodies fs)
funclets_regions p [] = refl
funclets_regions p (f ∷ fs) = ap (λ (t : List Region). f.body.regions ++ t) (funclets_regions p fs)

both_regions : (a b : List RoutineView) → regions_in (bodies (a ++ b))
    ≡ regions_in (bodies a) ++ regions_in (bodies b)
both_regions [] b = refl
both_regions (r ∷ a) b = ap (λ (t : List Region). r.body.regions ++ t) (both_regions a b)
    ∙ sym (append_assoc r.body.regions (regions_in (bodies a)) (regions_in (bodies b)))

pub routines_regions : (p : LinearProgram) → regions_in (bodies (routines p)) ≡ regions p
routines_regions p =
    both_regions (functions_from p.main 0 p.functions) (map (funclet p) p.funclets)
    ∙ (λ i. functions_regions p.main 0 p.functions i ++ funclets_regions p p.funclets i)

-- ---- entries one after another

module _ (p : LinearProgram) (far : AreFar (site_of p).funclets) where
  abbrev s : SiteView
  s = site_of p

  rows_if : (x : Placed) (o : Option FrameLayout) (es : List Entry) (qs : List Region)
      → (o ≡ None → x.routine.body.regions ≡ []) → AreRows p (scopes_of s x) x.routine.body.regions
      → AreRows p (rows_of es) qs → AreRows p (rows_of (entry_if s x o ++ es))
      (x.routine.body.regions ++ qs)
  rows_if x None es qs bare own others = subst
      (λ (rs : List Region). AreRows p (rows_of es) (rs ++ qs)) (sym (bare refl)) others
  rows_if x (Some f) es qs bare own others = rows_both p (scopes_of s x) (rows_of es)
      x.routine.body.regions qs own others

  pub all_rows : (c : Cursor) (rs : List RoutineView) → 0 < c.begin → 0 < c.cold
      → AllByRecursion IsBare rs → AllByRecursion IsRoutineNear rs
      → AreRows p (rows_of (entries_of s (placed_from s c rs))) (regions_in (bodies rs))
  all_rows c [] some cold bare near = tt
  all_rows c (r ∷ rs) some cold bare near =
      rows_if (put c r) r.frame (entries_of s (placed_from s (past s c r) rs))
      (regions_in (bodies rs)) bare.0
      (routine_rows p far r.layout (c.begin + entry_size r) c.cold r.body
      (c.begin + routine_size r) (omega arith) cold near.0.cold (omega arith) r.body.regions)
      (all_rows (past s c r) rs (omega arith) (omega arith) bare.1 near.1)

  -- those of cold parts have none
  no_rows : (x : Placed) (f : FrameLayout) (qs : List PlacedPart)
      → rows_of (map (part_entry s x f) qs) ≡ []
  no_rows x f [] = refl
  no_rows x f (q ∷ qs) = no_rows x f qs

  no_rows_if : (x : Placed) (o : Option FrameLayout) → rows_of (chained_if s x o) ≡ []
  no_rows_if x None = refl
  no_rows_if x (Some f) = no_rows x f (parts_of x)

  rows_in_both : (a b : List Entry) → rows_of (a ++ b) ≡ rows_of a ++ rows_of b
  rows_in_both [] b = refl
  rows_in_both (e ∷ a) b = ap (λ (t : List ScopeRecord). e.info.scopes ++ t) (rows_in_both a b)
      ∙ sym (append_assoc e.info.scopes (rows_of a) (rows_of b))

  no_chained_rows : (c : Cursor) (rs : List RoutineView)
      → rows_of (chained_of s (placed_from s c rs)) ≡ []
  no_chained_rows c [] = refl
  no_chained_rows c (r ∷ rs) =
      rows_in_both (chained_if s (put c r) r.frame) (chained_of s (placed_from s (past s c r) rs))
      ∙ (λ i. no_rows_if (put c r) r.frame i ++ no_chained_rows (past s c r) rs i)

  pub same_rows : rows_of (entries p) ≡ rows_of (entries_of s (placed p))
  same_rows =
      rows_in_both (entries_of s (placed p)) (chained_of s (placed p))
      ∙ ap (λ (t : List ScopeRecord). rows_of (entries_of s (placed p)) ++ t)
      (no_chained_rows (first_cursor p) (routines p))
      ∙ append-nil (rows_of (entries_of s (placed p)))

-- ---- where routines begin

-- one after another
pub bounds_rise : (at : ℕ) (rs : List RoutineView) (i j d : ℕ) (e : RoutineView) → i < j
    → j ≤ length rs → get_or (bounds at rs) i d + routine_size (get_or rs i e)
    ≤ get_or (bounds at rs) j d
bounds_rise at [] i j d e lt le = absurd (omega arith)
bounds_rise at (r ∷ rs) i zero d e lt le = absurd (omega arith)
bounds_rise at (r ∷ rs) zero (suc j) d e lt le = bounds_least (at + routine_size r) rs j d
    (omega arith)
bounds_rise at (r ∷ rs) (suc i) (suc j) d e lt le = bounds_rise (at + routine_size r) rs i j d e
    (omega arith) (omega arith)

pub record IsPlaced (s : SiteView) (c : Cursor) (rs : List RoutineView) (index : ℕ)
    (d : RoutineView) : Type 0 where
  pub placed : Placed
  pub there : slice_get (placed_from s c rs) index ≡ Some placed
  pub begins : placed.begin ≡ get_or (bounds c.begin rs) index 0
  pub routine : placed.routine ≡ get_or rs index d

pub is_placed : (s : SiteView) (c : Cursor) (rs : List RoutineView) (index : ℕ) (d : RoutineView)
    → index < length rs → IsPlaced s c rs index d
is_placed s c [] index d lt = absurd (omega arith)
is_placed s c (r ∷ rs) zero d lt = record {
  placed = put c r;
  there = refl;
  begins = refl;
  routine = refl;
}
is_placed s c (r ∷ rs) (suc index) d lt =
    let h = is_placed s (past s c r) rs index d (omega arith) in
    record { placed = h.placed; there = h.there; begins = h.begins; routine = h.routine }
