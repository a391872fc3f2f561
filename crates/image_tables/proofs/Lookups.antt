-- Which entry covers an address.
use Rattle.std.proofs.Common.{◌≡◌, ℕ, zero, suc, ◌+◌, ◌<◌, ◌≤◌, Bool, true, false, ltb, leb, List, [], ◌∷◌, ◌++◌, length, drop, map, Option, Some, None, refl, ap, subst, ◌∙◌, arith}
use Rattle.std.specs.Prelude.{slice_get, ◌&&◌}
use Rattle.std.specs.List.{AllByRecursion}
use Rattle.std.proofs.lemmas.Bool.{and_from, and_left, and_right, lt-ltb, le-leb, lt-leb, le-ltb, false≢true}
use Rattle.linear_code.specs.declared.program.LabelRange.{LabelRange}
use Rattle.template_code.specs.ColdParts.{AreParts, part_code, side_from}
use Rattle.template_code.proofs.ColdParts.{cold_next, cold_none, body_size_both}
use Rattle.image_tables.specs.Words.{Entry, holding, FrameLayout, Instruction, Layout, LinearProgram, FitsProgram, RoutineView, routines, IsRoutineNear, SiteView, body_size, cold_size, total, cold_total, CHAINED_SIZE, Placed, PlacedPart, Cursor, put, past, end_of, parts_from, parts_of, placed, placed_from, first_cursor, site_of, entries, entry_of, entry_if, part_entry, chained_if, entry_or, EntriesAreHeld, PartsAreHeld, LeavesAreHeldByNone, ThunksAreHeldByNone, cold_begin}
use Rattle.image_tables.specs.Entries.{entries_of, chained_of}
use Rattle.image_tables.proofs.Lemmas.{routines_near}

abbrev or_else : {A : Type 0} → A → Option A → A
or_else d (Some x) = x
or_else d None = d

pub some_same : {A : Type 0} → {x y : A} → Some x ≡ Some y → x ≡ y
some_same {x = x} e = ap (or_else x) e

abbrev is_there : {A : Type 0} → Option A → Bool
is_there (Some x) = true
is_there None = false

pub none_some : {A : Type 0} → {x : A} → None ≡ Some x → ⊥
none_some e = false≢true (ap is_there e)

-- what holds of each routine holds of those that are placed
pub placed_has : (P : RoutineView → Type 0) (s : SiteView) (c : Cursor) (rs : List RoutineView)
    (index : ℕ) (x : Placed) → AllByRecursion P rs
    → slice_get (placed_from s c rs) index ≡ Some x → P x.routine
placed_has P s c [] index x all e = absurd (none_some e)
placed_has P s c (r ∷ rs) zero x all e = subst (λ (y : Placed). P y.routine) (some_same e)
    all.0
placed_has P s c (r ∷ rs) (suc index) x all e =
    placed_has P s (past s c r) rs index x all.1 e

-- one of an index begins at the first one's begin or after it, and ends where all do or before
-- that
pub placed_least : (s : SiteView) (c : Cursor) (rs : List RoutineView) (index : ℕ) (x : Placed)
    → slice_get (placed_from s c rs) index ≡ Some x → c.begin ≤ x.begin
placed_least s c [] index x e = absurd (none_some e)
placed_least s c (r ∷ rs) zero x e =
    let b = ap (λ (y : Placed). y.begin) (some_same e) in omega arith
placed_least s c (r ∷ rs) (suc index) x e =
    let l = placed_least s (past s c r) rs index x e in omega arith

pub placed_most : (s : SiteView) (c : Cursor) (rs : List RoutineView) (index : ℕ) (x : Placed)
    → slice_get (placed_from s c rs) index ≡ Some x → end_of x ≤ c.begin + total rs
placed_most s c [] index x e = absurd (none_some e)
placed_most s c (r ∷ rs) zero x e = let b = ap end_of (some_same e) in omega arith
placed_most s c (r ∷ rs) (suc index) x e =
    let l = placed_most s (past s c r) rs index x e in omega arith

-- so do its cold parts
pub placed_cold_least : (s : SiteView) (c : Cursor) (rs : List RoutineView) (index : ℕ)
    (x : Placed) → slice_get (placed_from s c rs) index ≡ Some x → c.cold ≤ x.cold
placed_cold_least s c [] index x e = absurd (none_some e)
placed_cold_least s c (r ∷ rs) zero x e =
    let b = ap (λ (y : Placed). y.cold) (some_same e) in omega arith
placed_cold_least s c (r ∷ rs) (suc index) x e =
    let l = placed_cold_least s (past s c r) rs index x e in omega arith

pub placed_cold_most : (s : SiteView) (c : Cursor) (rs : List RoutineView) (index : ℕ) (x : Placed)
    → slice_get (placed_from s c rs) index ≡ Some x
    → x.cold + cold_size x.routine ≤ c.cold + cold_total rs
placed_cold_most s c [] index x e = absurd (none_some e)
placed_cold_most s c (r ∷ rs) zero x e =
    let b = ap (λ (y : Placed). y.cold + cold_size y.routine) (some_same e) in omega arith
placed_cold_most s c (r ∷ rs) (suc index) x e =
    let l = placed_cold_most s (past s c r) rs index x e in omega arith

-- ---- cold parts one after another

-- how many bytes they take
abbrev pub parts_total : Layout → List LabelRange → List Instruction → ℕ
parts_total y [] code = 0
parts_total y (r ∷ rs) code = body_size y (part_code code r) + parts_total y rs code

pub parts_sum : (y : Layout) (from : ℕ) (rs : List LabelRange) (code : List Instruction)
    → AreParts from rs (length code)
    → body_size y (side_from rs true from (drop from code)) ≡ parts_total y rs code
parts_sum y from [] code parts = ap (body_size y) (cold_none from (drop from code))
parts_sum y from (r ∷ rs) code parts =
    ap (body_size y) (cold_next from r rs code parts)
    ∙ body_size_both y (part_code code r) (side_from rs true r.end (drop r.end code))
    ∙ ap (λ (n : ℕ). body_size y (part_code code r) + n) (parts_sum y r.end rs code parts.2)

-- those of a routine take as many as its cold code
pub cold_parts_total : (r : RoutineView) → IsRoutineNear r
    → cold_size r ≡ parts_total r.layout r.body.cold r.body.code
cold_parts_total r near = parts_sum r.layout 0 r.body.cold r.body.code near.cold

module _ (y : Layout) (code : List Instruction) where
  -- no part begins before the first one
  parts_least : (at info : ℕ) (rs : List LabelRange) (n : ℕ) (q : PlacedPart)
      → slice_get (parts_from y at info rs code) n ≡ Some q → at ≤ q.begin
  parts_least at info [] n q e = absurd (none_some e)
  parts_least at info (r ∷ rs) zero q e =
      let b = ap (λ (z : PlacedPart). z.begin) (some_same e) in omega arith
  parts_least at info (r ∷ rs) (suc n) q e =
      let l = parts_least (at + body_size y (part_code code r)) (info + CHAINED_SIZE) rs n q e in
      omega arith

  -- and none ends after the last
  parts_most : (at info : ℕ) (rs : List LabelRange) (n : ℕ) (q : PlacedPart)
      → slice_get (parts_from y at info rs code) n ≡ Some q
      → q.end ≤ at + parts_total y rs code
  parts_most at info [] n q e = absurd (none_some e)
  parts_most at info (r ∷ rs) zero q e =
      let b = ap (λ (z : PlacedPart). z.end) (some_same e) in omega arith
  parts_most at info (r ∷ rs) (suc n) q e =
      let l = parts_most (at + body_size y (part_code code r)) (info + CHAINED_SIZE) rs n q e in
      omega arith

-- ---- entries

abbrev pub or_then : Option Entry → Option Entry → Option Entry
or_then other None = other
or_then other (Some e) = Some e

module _ (s : SiteView) (rva : ℕ) where
  holding_by : (a others : List Entry) (e : Entry) (other : Option Entry)
      → holding rva others ≡ or_then other (holding rva a) → (b : Bool)
      → entry_or (holding rva others) e b ≡ or_then other (entry_or (holding rva a) e b)
  holding_by a others e other same true = refl
  holding_by a others e other same false = same

  -- in two lists
  holding_both : (a b : List Entry) → holding rva (a ++ b) ≡ or_then (holding rva b) (holding rva a)
  holding_both [] b = refl
  holding_both (e ∷ a) b =
      holding_by a (a ++ b) e (holding rva b) (holding_both a b) _

  none_first : (a b : List Entry) (o : Option Entry) → holding rva a ≡ None → holding rva b ≡ o
      → holding rva (a ++ b) ≡ o
  none_first a b o e f = holding_both a b ∙ ap (or_then (holding rva b)) e ∙ f

  some_first : (a b : List Entry) (o : Entry) → holding rva a ≡ Some o
      → holding rva (a ++ b) ≡ Some o
  some_first a b o e = holding_both a b ∙ ap (or_then (holding rva b)) e

  -- ---- one entry

  outside : (e : Entry) (es : List Entry) → (leb e.range.begin rva && ltb rva e.range.end) ≡ false
      → holding rva (e ∷ es) ≡ holding rva es
  outside e es h = ap (entry_or (holding rva es) e) h

  ahead : (e : Entry) (es : List Entry) → rva < e.range.begin
      → holding rva (e ∷ es) ≡ holding rva es
  ahead e es lt = outside e es
      (and_left (leb e.range.begin rva) (ltb rva e.range.end) (lt-leb e.range.begin rva lt))

  behind : (e : Entry) (es : List Entry) → e.range.end ≤ rva
      → holding rva (e ∷ es) ≡ holding rva es
  behind e es le = outside e es
      (and_right (leb e.range.begin rva) (ltb rva e.range.end) (le-ltb rva e.range.end le))

  inside : (e : Entry) (es : List Entry) → e.range.begin ≤ rva → rva < e.range.end
      → holding rva (e ∷ es) ≡ Some e
  inside e es le lt = ap (entry_or (holding rva es) e)
      (and_from (leb e.range.begin rva) (ltb rva e.range.end) (le-leb e.range.begin rva le)
      (lt-ltb rva e.range.end lt))

  -- ---- entries of routines

  -- before a routine, and past it
  below_if : (x : Placed) (o : Option FrameLayout) → rva < x.begin
      → holding rva (entry_if s x o) ≡ None
  below_if x None lt = refl
  below_if x (Some f) lt = ahead (entry_of s x f) [] lt

  past_if : (x : Placed) (o : Option FrameLayout) → end_of x ≤ rva
      → holding rva (entry_if s x o) ≡ None
  past_if x None le = refl
  past_if x (Some f) le = behind (entry_of s x f) [] le

  here : (x : Placed) (f : FrameLayout) (o : Option FrameLayout) → o ≡ Some f
      → x.begin ≤ rva → rva < end_of x → holding rva (entry_if s x o) ≡ Some (entry_of s x f)
  here x f o e le lt =
      ap (λ (q : Option FrameLayout). holding rva (entry_if s x q)) e
      ∙ inside (entry_of s x f) [] le lt

  -- below all of them, and above
  below : (c : Cursor) (rs : List RoutineView) → rva < c.begin
      → holding rva (entries_of s (placed_from s c rs)) ≡ None
  below c [] lt = refl
  below c (r ∷ rs) lt =
      none_first (entry_if s (put c r) r.frame) (entries_of s (placed_from s (past s c r) rs)) None
      (below_if (put c r) r.frame lt) (below (past s c r) rs (omega arith))

  above : (c : Cursor) (rs : List RoutineView) → c.begin + total rs ≤ rva
      → holding rva (entries_of s (placed_from s c rs)) ≡ None
  above c [] le = refl
  above c (r ∷ rs) le =
      none_first (entry_if s (put c r) r.frame) (entries_of s (placed_from s (past s c r) rs)) None
      (past_if (put c r) r.frame (omega arith)) (above (past s c r) rs (omega arith))

  held : (c : Cursor) (rs : List RoutineView) (index : ℕ) (x : Placed) (f : FrameLayout)
      → slice_get (placed_from s c rs) index ≡ Some x → x.routine.frame ≡ Some f
      → x.begin ≤ rva → rva < end_of x
      → holding rva (entries_of s (placed_from s c rs)) ≡ Some (entry_of s x f)
  held c [] index x f e framed le lt = absurd (none_some e)
  held c (r ∷ rs) zero x f e framed le lt =
      some_first (entry_if s (put c r) r.frame) (entries_of s (placed_from s (past s c r) rs))
      (entry_of s x f)
      (subst (λ (y : Placed). y.routine.frame ≡ Some f → y.begin ≤ rva → rva < end_of y
      → holding rva (entry_if s (put c r) r.frame) ≡ Some (entry_of s y f)) (some_same e)
      (λ framed' le' lt'. here (put c r) f r.frame framed' le' lt') framed le lt)
  held c (r ∷ rs) (suc index) x f e framed le lt =
      let l = placed_least s (past s c r) rs index x e in
      none_first (entry_if s (put c r) r.frame) (entries_of s (placed_from s (past s c r) rs))
      (Some (entry_of s x f)) (past_if (put c r) r.frame (omega arith))
      (held (past s c r) rs index x f e framed le lt)

  unheld : (c : Cursor) (rs : List RoutineView) (index : ℕ) (x : Placed)
      → slice_get (placed_from s c rs) index ≡ Some x → x.routine.frame ≡ None → x.begin ≤ rva
      → rva < end_of x
      → holding rva (entries_of s (placed_from s c rs)) ≡ None
  unheld c [] index x e leaf le lt = absurd (none_some e)
  unheld c (r ∷ rs) zero x e leaf le lt =
      let end = ap end_of (some_same e) in
      let none : r.frame ≡ None = ap (λ (y : Placed). y.routine.frame) (some_same e) ∙ leaf in
      none_first (entry_if s (put c r) r.frame) (entries_of s (placed_from s (past s c r) rs)) None
      (ap (λ (o : Option FrameLayout). holding rva (entry_if s (put c r) o)) none)
      (below (past s c r) rs (omega arith))
  unheld c (r ∷ rs) (suc index) x e leaf le lt =
      let l = placed_least s (past s c r) rs index x e in
      none_first (entry_if s (put c r) r.frame) (entries_of s (placed_from s (past s c r) rs)) None
      (past_if (put c r) r.frame (omega arith))
      (unheld (past s c r) rs index x e leaf le lt)

  -- ---- entries of cold parts

  module _ (x : Placed) (f : FrameLayout) (y : Layout) (code : List Instruction) where
    parts_below : (at info : ℕ) (rs : List LabelRange) → rva < at
        → holding rva (map (part_entry s x f) (parts_from y at info rs code)) ≡ None
    parts_below at info [] lt = refl
    parts_below at info (r ∷ rs) lt =
        let end = at + body_size y (part_code code r) in
        let more = parts_from y end (info + CHAINED_SIZE) rs code in
        let q : PlacedPart = record { labels = r; begin = at; end = end; info = info } in
        ahead (part_entry s x f q) (map (part_entry s x f) more) lt
        ∙ parts_below end (info + CHAINED_SIZE) rs (omega arith)

    parts_above : (at info : ℕ) (rs : List LabelRange) → at + parts_total y rs code ≤ rva
        → holding rva (map (part_entry s x f) (parts_from y at info rs code)) ≡ None
    parts_above at info [] le = refl
    parts_above at info (r ∷ rs) le =
        let end = at + body_size y (part_code code r) in
        let more = parts_from y end (info + CHAINED_SIZE) rs code in
        let q : PlacedPart = record { labels = r; begin = at; end = end; info = info } in
        behind (part_entry s x f q) (map (part_entry s x f) more) (omega arith)
        ∙ parts_above end (info + CHAINED_SIZE) rs (omega arith)

    parts_held : (at info : ℕ) (rs : List LabelRange) (n : ℕ) (q : PlacedPart)
        → slice_get (parts_from y at info rs code) n ≡ Some q → q.begin ≤ rva → rva < q.end
        → holding rva (map (part_entry s x f) (parts_from y at info rs code))
        ≡ Some (part_entry s x f q)
    parts_held at info [] n q e le lt = absurd (none_some e)
    parts_held at info (r ∷ rs) zero q e le lt =
        let end = at + body_size y (part_code code r) in
        let more = parts_from y end (info + CHAINED_SIZE) rs code in
        let p : PlacedPart = record { labels = r; begin = at; end = end; info = info } in
        let from = ap (λ (z : PlacedPart). z.begin) (some_same e) in
        let to = ap (λ (z : PlacedPart). z.end) (some_same e) in
        inside (part_entry s x f p) (map (part_entry s x f) more) (omega arith) (omega arith)
        ∙ ap (λ (z : PlacedPart). Some (part_entry s x f z)) (some_same e)
    parts_held at info (r ∷ rs) (suc n) q e le lt =
        let end = at + body_size y (part_code code r) in
        let more = parts_from y end (info + CHAINED_SIZE) rs code in
        let p : PlacedPart = record { labels = r; begin = at; end = end; info = info } in
        let l = parts_least y code end (info + CHAINED_SIZE) rs n q e in
        behind (part_entry s x f p) (map (part_entry s x f) more) (omega arith)
        ∙ parts_held end (info + CHAINED_SIZE) rs n q e le lt

  -- those of a routine
  chained_below_if : (x : Placed) (o : Option FrameLayout) → rva < x.cold
      → holding rva (chained_if s x o) ≡ None
  chained_below_if x None lt = refl
  chained_below_if x (Some f) lt =
      parts_below x f x.routine.layout x.routine.body.code x.cold x.chained x.routine.body.cold lt

  chained_past_if : (x : Placed) (o : Option FrameLayout) → IsRoutineNear x.routine
      → x.cold + cold_size x.routine ≤ rva → holding rva (chained_if s x o) ≡ None
  chained_past_if x None near le = refl
  chained_past_if x (Some f) near le =
      let t = cold_parts_total x.routine near in
      parts_above x f x.routine.layout x.routine.body.code x.cold x.chained x.routine.body.cold
      (omega arith)

  chained_below : (c : Cursor) (rs : List RoutineView) → rva < c.cold
      → holding rva (chained_of s (placed_from s c rs)) ≡ None
  chained_below c [] lt = refl
  chained_below c (r ∷ rs) lt =
      none_first (chained_if s (put c r) r.frame) (chained_of s (placed_from s (past s c r) rs))
      None (chained_below_if (put c r) r.frame lt) (chained_below (past s c r) rs (omega arith))

  chained_above : (c : Cursor) (rs : List RoutineView) → AllByRecursion IsRoutineNear rs
      → c.cold + cold_total rs ≤ rva → holding rva (chained_of s (placed_from s c rs)) ≡ None
  chained_above c [] near le = refl
  chained_above c (r ∷ rs) near le =
      none_first (chained_if s (put c r) r.frame) (chained_of s (placed_from s (past s c r) rs))
      None (chained_past_if (put c r) r.frame near.0 (omega arith))
      (chained_above (past s c r) rs near.1 (omega arith))

  chained_held : (c : Cursor) (rs : List RoutineView) (index n : ℕ) (x : Placed) (f : FrameLayout)
      (q : PlacedPart) → AllByRecursion IsRoutineNear rs
      → slice_get (placed_from s c rs) index ≡ Some x → x.routine.frame ≡ Some f
      → slice_get (parts_of x) n ≡ Some q → q.begin ≤ rva → rva < q.end
      → holding rva (chained_of s (placed_from s c rs)) ≡ Some (part_entry s x f q)
  chained_held c [] index n x f q near e framed there le lt = absurd (none_some e)
  chained_held c (r ∷ rs) zero n x f q near e framed there le lt =
      some_first (chained_if s (put c r) r.frame) (chained_of s (placed_from s (past s c r) rs))
      (part_entry s x f q)
      (subst (λ (z : Placed). z.routine.frame ≡ Some f → slice_get (parts_of z) n ≡ Some q
      → holding rva (chained_if s (put c r) r.frame) ≡ Some (part_entry s z f q)) (some_same e)
      (λ framed' there'. ap (λ (o : Option FrameLayout). holding rva (chained_if s (put c r) o))
      framed' ∙ parts_held (put c r) f r.layout r.body.code c.cold c.chained r.body.cold n q there'
      le lt) framed there)
  chained_held c (r ∷ rs) (suc index) n x f q near e framed there le lt =
      let l = placed_cold_least s (past s c r) rs index x e in
      let m = parts_least x.routine.layout x.routine.body.code x.cold x.chained
      x.routine.body.cold n q there in
      none_first (chained_if s (put c r) r.frame) (chained_of s (placed_from s (past s c r) rs))
      (Some (part_entry s x f q)) (chained_past_if (put c r) r.frame near.0 (omega arith))
      (chained_held (past s c r) rs index n x f q near.1 e framed there le lt)

-- where a cold part of a routine begins and ends
pub part_within : (x : Placed) (n : ℕ) (q : PlacedPart)
    → IsRoutineNear x.routine → slice_get (parts_of x) n ≡ Some q
    → (x.cold ≤ q.begin) × (q.end ≤ x.cold + cold_size x.routine)
part_within x n q near there =
    let y = x.routine.layout in
    let code = x.routine.body.code in
    let t = cold_parts_total x.routine near in
    let l = parts_least y code x.cold x.chained x.routine.body.cold n q there in
    let m = parts_most y code x.cold x.chained x.routine.body.cold n q there in
    (l, omega arith)

-- ---- a program

module _ (p : LinearProgram) (rva : ℕ) where
  abbrev s : SiteView
  s = site_of p

  abbrev first : Cursor
  first = first_cursor p

  -- in no cold part
  hot_entry : (o : Entry) → holding rva (entries_of s (placed p)) ≡ Some o
      → holding rva (entries p) ≡ Some o
  hot_entry o e = some_first s rva (entries_of s (placed p)) (chained_of s (placed p)) o e

  hot_none : holding rva (entries_of s (placed p)) ≡ None → rva < cold_begin p
      → holding rva (entries p) ≡ None
  hot_none e lt = none_first s rva (entries_of s (placed p)) (chained_of s (placed p)) None e
      (chained_below s rva first (routines p) lt)

pub entries_are_held : EntriesAreHeld
entries_are_held p index x f rva fits there framed le lt =
    hot_entry p rva (entry_of (site_of p) x f)
    (held (site_of p) rva (first_cursor p) (routines p) index x f there framed le lt)

pub parts_are_held : PartsAreHeld
parts_are_held p index n x f q rva fits there framed part le lt =
    let s = site_of p in
    let near = routines_near p fits in
    let l = placed_cold_least s (first_cursor p) (routines p) index x there in
    let m = parts_least x.routine.layout x.routine.body.code x.cold x.chained
    x.routine.body.cold n q part in
    none_first s rva (entries_of s (placed p)) (chained_of s (placed p))
    (Some (part_entry s x f q)) (above s rva (first_cursor p) (routines p) (omega arith))
    (chained_held s rva (first_cursor p) (routines p) index n x f q near there framed part le lt)

pub leaves_are_held_by_none : LeavesAreHeldByNone
leaves_are_held_by_none p index x rva fits there leaf le lt =
    let m = placed_most (site_of p) (first_cursor p) (routines p) index x there in
    hot_none p rva (unheld (site_of p) rva (first_cursor p) (routines p) index x there leaf le lt)
    (omega arith)

pub thunks_are_held_by_none : ThunksAreHeldByNone
thunks_are_held_by_none p rva fits lt =
    hot_none p rva (below (site_of p) rva (first_cursor p) (routines p) lt) (omega arith)

-- past the text no entry is
pub beyond_is_held_by_none : (p : LinearProgram) (rva : ℕ) → FitsProgram p
    → cold_begin p + cold_total (routines p) ≤ rva → holding rva (entries p) ≡ None
beyond_is_held_by_none p rva fits le =
    let s = site_of p in
    none_first s rva (entries_of s (placed p)) (chained_of s (placed p)) None
    (above s rva (first_cursor p) (routines p) (omega arith))
    (chained_above s rva (first_cursor p) (routines p) (routines_near p fits) le)
