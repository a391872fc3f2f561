-- The entries of a program's function table as they are written, with those of cold parts.
use Rattle.std.proofs.Common.{◌*◌, ◌≡◌, ℕ, suc, ◌+◌, ◌%◌, ◌^◌, ◌<◌, ◌≤◌, List, [], ◌∷◌, ◌++◌, length, map, Option, Some, None, refl, sym, ap, subst, ◌∙◌, arith, append_assoc, length-append}
use Rattle.std.specs.List.{AllByRecursion}
use Rattle.std.proofs.lemmas.List.{map-append, length-map}
use Rattle.eh_tables.specs.declared.range.RuntimeFunction.{RuntimeFunction}
use Rattle.eh_write.specs.ReadAgain.{WrittenInfo}
use Rattle.x64_emit.specs.Bodies.{part_ranges}
use Rattle.image_link.specs.declared.fragments.Fragment.{Fragment}
use Rattle.image_link.specs.Places.{parts_at}
use Rattle.image_link.specs.Tables.{fragment, fragments_if}
use Rattle.image_link.proofs.Infos.{info_small}
use Rattle.image_tables.specs.Words.{IsRuntimeFunction, WrittenEntry, ranges_of, LabelRange, Instruction, FrameLayout, Layout, body_size, part_code, RoutineView, IsRoutineNear, SiteView, cold_size, total, cold_total, info_bytes, infos, infos_room, range_if, ranges, fragments_of, fragments, chained_info, CHAINED_SIZE, fragment_ranges, Placed, PlacedPart, Cursor, put, past, end_of, parts_from, parts_of, placed_from, range_of, scopes_of, unwind_of}
use Rattle.image_tables.proofs.Infos.{info_aligned}
use Rattle.image_tables.proofs.Lookups.{parts_total, cold_parts_total}

-- ---- the entries as they are written

abbrev pub own_of : SiteView → Placed → FrameLayout → WrittenInfo
own_of s x f = record { info = unwind_of s x f; scopes = scopes_of s x }

abbrev pub written_of : SiteView → Placed → FrameLayout → WrittenEntry
written_of s x f = record { range = range_of x; own = own_of s x f; parents = [] }

abbrev pub written_if : SiteView → Placed → Option FrameLayout → List WrittenEntry
written_if s x None = []
written_if s x (Some f) = written_of s x f ∷ []

abbrev pub written_from : SiteView → List Placed → List WrittenEntry
written_from s [] = []
written_from s (x ∷ xs) = written_if s x x.routine.frame ++ written_from s xs

-- those of cold parts

abbrev pub part_written : SiteView → Placed → FrameLayout → PlacedPart → WrittenEntry
part_written s x f q = record {
  range = record { begin = q.begin; end = q.end; unwind_info = q.info };
  own = record { info = chained_info f.framed (range_of x); scopes = [] };
  parents = own_of s x f ∷ [];
}

abbrev pub parts_written_if : SiteView → Placed → Option FrameLayout → List WrittenEntry
parts_written_if s x None = []
parts_written_if s x (Some f) = map (part_written s x f) (parts_of x)

abbrev pub parts_written : SiteView → List Placed → List WrittenEntry
parts_written s [] = []
parts_written s (x ∷ xs) = parts_written_if s x x.routine.frame ++ parts_written s xs

-- ---- their ranges

range_same : (s : SiteView) (x : Placed) (o : Option FrameLayout)
    → ranges_of (written_if s x o) ≡ range_if o (range_of x)
range_same s x None = refl
range_same s x (Some f) = refl

pub ranges_same : (s : SiteView) (c : Cursor) (rs : List RoutineView)
    → ranges_of (written_from s (placed_from s c rs)) ≡ ranges s c.info c.begin c.cold rs
ranges_same s c [] = refl
ranges_same s c (r ∷ rs) =
    map-append (λ (w : WrittenEntry). w.range) (written_if s (put c r) r.frame)
    (written_from s (placed_from s (past s c r) rs))
    ∙ (λ i. range_same s (put c r) r.frame i ++ ranges_same s (past s c r) rs i)

part_ranges_same : (s : SiteView) (x : Placed) (f : FrameLayout) (y : Layout)
    (code : List Instruction) (at info : ℕ) (rs : List LabelRange)
    → ranges_of (map (part_written s x f) (parts_from y at info rs code))
    ≡ fragment_ranges info (map (fragment f (range_of x)) (part_ranges y at rs code))
part_ranges_same s x f y code at info [] = refl
part_ranges_same s x f y code at info (r ∷ rs) =
    let end = at + body_size y (part_code code r) in
    ap (λ (t : List RuntimeFunction). record { begin = at; end = end; unwind_info = info } ∷ t)
    (part_ranges_same s x f y code end (info + CHAINED_SIZE) rs)

parts_same_if : (s : SiteView) (x : Placed) (o : Option FrameLayout)
    → ranges_of (parts_written_if s x o)
    ≡ fragment_ranges x.chained (fragments_if o (range_of x) (parts_at x.cold x.routine))
parts_same_if s x None = refl
parts_same_if s x (Some f) =
    part_ranges_same s x f x.routine.layout x.routine.body.code x.cold x.chained x.routine.body.cold

fragment_ranges_both : (info : ℕ) (fs gs : List Fragment) → fragment_ranges info (fs ++ gs)
    ≡ fragment_ranges info fs ++ fragment_ranges (info + CHAINED_SIZE * length fs) gs
fragment_ranges_both info [] gs =
    ap (λ (n : ℕ). fragment_ranges n gs)
    (let e : info ≡ info + CHAINED_SIZE * 0 = omega arith in e)
fragment_ranges_both info (f ∷ fs) gs =
    let more : info + CHAINED_SIZE + CHAINED_SIZE * length fs
    ≡ info + CHAINED_SIZE * suc (length fs) = omega arith in
    let own = fragment_ranges (info + CHAINED_SIZE) fs in
    let first : RuntimeFunction = record { begin = f.begin; end = f.end; unwind_info = info } in
    ap (λ (t : List RuntimeFunction). first ∷ t)
    (fragment_ranges_both (info + CHAINED_SIZE) fs gs
    ∙ ap (λ (n : ℕ). own ++ fragment_ranges n gs) more)

pub parts_same : (s : SiteView) (c : Cursor) (rs : List RoutineView)
    → ranges_of (parts_written s (placed_from s c rs))
    ≡ fragment_ranges c.chained (fragments s c.info c.begin c.cold rs)
parts_same s c [] = refl
parts_same s c (r ∷ rs) =
    let n = past s c r in
    map-append (λ (w : WrittenEntry). w.range) (parts_written_if s (put c r) r.frame)
    (parts_written s (placed_from s n rs))
    ∙ (λ i. parts_same_if s (put c r) r.frame i ++ parts_same s n rs i)
    ∙ sym (fragment_ranges_both c.chained (fragments_of c.info c.begin c.cold r)
    (fragments s n.info n.begin n.cold rs))

-- ---- each of 32 bits

small_if : (s : SiteView) (x : Placed) (o : Option FrameLayout) (ws : List WrittenEntry)
    → end_of x < 2 ^ 32 → x.info < 2 ^ 32 → AllByRecursion IsRuntimeFunction (ranges_of ws)
    → AllByRecursion IsRuntimeFunction (ranges_of (written_if s x o ++ ws))
small_if s x None ws lt lt' more = more
small_if s x (Some f) ws lt lt' more = (record { begin = omega arith; end = lt; info = lt' }, more)

pub ranges_small : (s : SiteView) (c : Cursor) (rs : List RoutineView) (others : List WrittenEntry)
    → c.begin + total rs < 2 ^ 32
    → c.info + length (infos s c.begin c.cold rs) < 2 ^ 32
    → AllByRecursion IsRuntimeFunction (ranges_of others)
    → AllByRecursion IsRuntimeFunction
    (ranges_of (written_from s (placed_from s c rs) ++ others))
ranges_small s c [] others lt lt' more = more
ranges_small s c (r ∷ rs) others lt lt' more =
    let n = past s c r in
    let ws = written_from s (placed_from s n rs) in
    let l = length-append (info_bytes s c.begin c.cold r) (infos s n.begin n.cold rs) in
    subst (λ (t : List WrittenEntry). AllByRecursion IsRuntimeFunction (ranges_of t))
    (sym (append_assoc (written_if s (put c r) r.frame) ws others))
    (small_if s (put c r) r.frame (ws ++ others) (omega arith) (omega arith)
    (ranges_small s n rs others (omega arith) (omega arith) more))

parts_small_from : (s : SiteView) (x : Placed) (f : FrameLayout) (y : Layout)
    (code : List Instruction) (at info : ℕ) (rs : List LabelRange) (others : List WrittenEntry)
    → at + parts_total y rs code < 2 ^ 32 → info + CHAINED_SIZE * length rs < 2 ^ 32
    → AllByRecursion IsRuntimeFunction (ranges_of others)
    → AllByRecursion IsRuntimeFunction
    (ranges_of (map (part_written s x f) (parts_from y at info rs code) ++ others))
parts_small_from s x f y code at info [] others lt lt' more = more
parts_small_from s x f y code at info (r ∷ rs) others lt lt' more = (
  record { begin = omega arith; end = omega arith; info = omega arith },
  parts_small_from s x f y code (at + body_size y (part_code code r)) (info + CHAINED_SIZE) rs
      others (omega arith) (omega arith) more,
)

ranges_count : (y : Layout) (at : ℕ) (rs : List LabelRange) (code : List Instruction)
    → length (part_ranges y at rs code) ≡ length rs
ranges_count y at [] code = refl
ranges_count y at (r ∷ rs) code =
    let n = ranges_count y (at + body_size y (part_code code r)) rs code in omega arith

-- how many chained infos a routine has
fragments_count : (parent : RuntimeFunction) (x : Placed) (f : FrameLayout)
    → length (fragments_if (Some f) parent (parts_at x.cold x.routine))
    ≡ length x.routine.body.cold
fragments_count parent x f =
    length-map (parts_at x.cold x.routine) (fragment f parent)
    ∙ ranges_count x.routine.layout x.cold x.routine.body.cold x.routine.body.code

parts_small_if : (s : SiteView) (x : Placed) (o : Option FrameLayout) (others : List WrittenEntry)
    → IsRoutineNear x.routine → x.cold + cold_size x.routine < 2 ^ 32
    → x.chained + CHAINED_SIZE
    * length (fragments_if o (range_of x) (parts_at x.cold x.routine)) < 2 ^ 32
    → AllByRecursion IsRuntimeFunction (ranges_of others)
    → AllByRecursion IsRuntimeFunction (ranges_of (parts_written_if s x o ++ others))
parts_small_if s x None others near lt lt' more = more
parts_small_if s x (Some f) others near lt lt' more =
    let t = cold_parts_total x.routine near in
    let n = fragments_count (range_of x) x f in
    parts_small_from s x f x.routine.layout x.routine.body.code x.cold x.chained
    x.routine.body.cold others (omega arith) (omega arith) more

pub parts_small : (s : SiteView) (c : Cursor) (rs : List RoutineView) → AllByRecursion IsRoutineNear
    rs
    → c.cold + cold_total rs < 2 ^ 32
    → c.chained + CHAINED_SIZE * length (fragments s c.info c.begin c.cold rs) < 2 ^ 32
    → AllByRecursion IsRuntimeFunction (ranges_of (parts_written s (placed_from s c rs)))
parts_small s c [] near lt lt' = tt
parts_small s c (r ∷ rs) near lt lt' =
    let n = past s c r in
    let l = length-append (fragments_of c.info c.begin c.cold r)
    (fragments s n.info n.begin n.cold rs) in
    parts_small_if s (put c r) r.frame (parts_written s (placed_from s n rs)) near.0 (omega arith)
    (omega arith) (parts_small s n rs near.1 (omega arith) (omega arith))

-- ---- how many bytes all infos take

fragments_few : (o : Option FrameLayout) (parent : RuntimeFunction) (x : Placed)
    → length (fragments_if o parent (parts_at x.cold x.routine)) ≤ length x.routine.body.cold
fragments_few None parent x = omega arith
fragments_few (Some f) parent x = let n = fragments_count parent x f in omega arith

pub infos_few : (s : SiteView) (c : Cursor) (rs : List RoutineView) → AllByRecursion IsRoutineNear
    rs
    → length (infos s c.begin c.cold rs)
    + CHAINED_SIZE * length (fragments s c.info c.begin c.cold rs) ≤ infos_room rs
infos_few s c [] near = omega arith
infos_few s c (r ∷ rs) near =
    let n = past s c r in
    let i = info_small s c.begin c.cold r near.0 in
    let f = fragments_few r.frame (range_of (put c r)) (put c r) in
    let more = infos_few s n rs near.1 in
    omega (
      arith,
      length-append (info_bytes s c.begin c.cold r) (infos s n.begin n.cold rs),
      length-append (fragments_of c.info c.begin c.cold r) (fragments s n.info n.begin n.cold rs),
    )

pub infos_aligned : (s : SiteView) (c : Cursor) (rs : List RoutineView)
    → length (infos s c.begin c.cold rs) % 4 ≡ 0
infos_aligned s c [] = refl
infos_aligned s c (r ∷ rs) =
    let n = past s c r in
    let own = info_aligned s c.begin c.cold r in
    let more = infos_aligned s n rs in
    omega (arith, length-append (info_bytes s c.begin c.cold r) (infos s n.begin n.cold rs))
