-- Where the routines of a program are, and how many bytes its sections take.
use Rattle.std.proofs.Common.{◌≡◌, ℕ, zero, suc, ◌+◌, ◌*◌, ◌<◌, ◌≤◌, List, [], ◌∷◌, length, get_or, take, drop, ◌++◌, Option, Some, None, refl, ap, ◌∙◌, arith, length-append}
use Rattle.std.specs.List.{AllByRecursion}
use Rattle.std.proofs.lemmas.List.{length-take-le}
use Rattle.eh_tables.specs.declared.range.RuntimeFunction.{RuntimeFunction}
use Rattle.image_link.specs.declared.place.TheConstants.{ROUTINE_ROOM}
use Rattle.image_link.specs.Words.{u32, table_bytes, FrameLayout, spelled, code_from, AreNear, IsNear, links_of, RoutineView, IsRoutineNear, SiteView, room, routine_size, entry_code, entry_size, bounds, front_code, front_size, first_routine_at, addresses, check_stack_at, routine_code, routine_bytes, routines_bytes, apart_code, apart_bytes, all_apart_bytes, site_blocks, step_of, text_bytes, info_bytes, infos_room, infos, range_if, range_at, range_of, ranges, Fragment, fragments_of, fragments, fragment_ranges, chained_bytes, chained_infos, all_infos, all_ranges, total, cold_size, cold_total, hot_code, cold_code}
use Rattle.image_link.proofs.Lemmas.{sizes_append, sizes_spelled, body_sizes}
use Rattle.image_link.proofs.Entries.{entry_sizes, routine_small}
use Rattle.image_link.proofs.Front.{front_sizes}
use Rattle.image_link.proofs.Blocks.{blocks_length}
use Rattle.image_link.proofs.Infos.{info_small, fragments_few, chained_length}

-- ---- bounds

pub bounds_length : (at : ℕ) (rs : List RoutineView) → length (bounds at rs) ≡ length rs + 1
bounds_length at [] = refl
bounds_length at (r ∷ rs) = let l = bounds_length (at + routine_size r) rs in omega arith

pub bounds_least : (at : ℕ) (rs : List RoutineView) (i d : ℕ) → i ≤ length rs
    → at ≤ get_or (bounds at rs) i d
bounds_least at [] zero d le = omega arith
bounds_least at [] (suc i) d le = absurd (omega arith)
bounds_least at (r ∷ rs) zero d le = omega arith
bounds_least at (r ∷ rs) (suc i) d le = let l = bounds_least (at + routine_size r) rs i d
    (omega arith) in omega arith

pub bounds_below : (at : ℕ) (rs : List RoutineView) (i d : ℕ) (e : RoutineView) → i < length rs
    → get_or (bounds at rs) i d + routine_size (get_or rs i e) ≤ at + total rs
bounds_below at [] i d e lt = absurd (omega arith)
bounds_below at (r ∷ rs) zero d e lt = omega arith
bounds_below at (r ∷ rs) (suc i) d e lt = let l = bounds_below (at + routine_size r) rs i d e
    (omega arith) in omega arith

pub total_small : (rs : List RoutineView) → AllByRecursion IsRoutineNear rs
    → total rs + cold_total rs + 215 * length rs ≤ room rs
total_small [] near = omega arith
total_small (r ∷ rs) near = let s = routine_small r near.0 in let t = total_small rs near.1 in
    omega arith

pub bounds_near : (at : ℕ) (rs : List RoutineView) → AllByRecursion IsRoutineNear rs
    → IsNear (at + room rs) → AreNear (bounds at rs)
bounds_near at [] near lt = (omega arith, tt)
bounds_near at (r ∷ rs) near lt = let s = routine_small r near.0 in
    (omega arith, bounds_near (at + routine_size r) rs near.1 (omega arith))

pub take_near : (n : ℕ) (xs : List ℕ) → AreNear xs → AreNear (take n xs)
take_near zero xs near = tt
take_near (suc n) [] near = tt
take_near (suc n) (x ∷ xs) near = (near.0, take_near n xs near.1)

pub drop_near : (n : ℕ) (xs : List ℕ) → AreNear xs → AreNear (drop n xs)
drop_near zero xs near = near
drop_near (suc n) [] near = tt
drop_near (suc n) (x ∷ xs) near = drop_near n xs near.1

-- ---- the text

routine_length : (s : SiteView) (at cold : ℕ) (r : RoutineView) → IsRoutineNear r
    → length (routine_bytes s at cold r) ≡ routine_size r
unfolding routine_bytes
routine_length s at cold r near =
    let e = entry_sizes at (check_stack_at s.imports s.text) r near in
    let k = links_of (addresses s at cold r) in
    let b = body_sizes k r.layout (at + entry_size r) (hot_code r.body) in
    omega (
      arith,
      sizes_spelled (routine_code s at cold r),
      sizes_append (entry_code at (check_stack_at s.imports s.text) r)
          (code_from k r.layout (at + entry_size r) (hot_code r.body)),
    )

apart_length : (s : SiteView) (at cold : ℕ) (r : RoutineView)
    → length (apart_bytes s at cold r) ≡ cold_size r
unfolding apart_bytes
apart_length s at cold r = sizes_spelled (apart_code s at cold r)
    ∙ body_sizes (links_of (addresses s at cold r)) r.layout cold (cold_code r.body)

pub routines_length : (s : SiteView) (at cold : ℕ) (rs : List RoutineView)
    → AllByRecursion IsRoutineNear rs → length (routines_bytes s at cold rs) ≡ total rs
routines_length s at cold [] near = refl
routines_length s at cold (r ∷ rs) near =
    let l = routine_length s at cold r near.0 in
    let m = routines_length s (at + routine_size r) (cold + cold_size r) rs near.1 in
    omega (
      arith,
      length-append (routine_bytes s at cold r)
          (routines_bytes s (at + routine_size r) (cold + cold_size r) rs),
    )

pub all_apart_length : (s : SiteView) (at cold : ℕ) (rs : List RoutineView)
    → length (all_apart_bytes s at cold rs) ≡ cold_total rs
all_apart_length s at cold [] = refl
all_apart_length s at cold (r ∷ rs) =
    let l = apart_length s at cold r in
    let m = all_apart_length s (at + routine_size r) (cold + cold_size r) rs in
    omega (
      arith,
      length-append (apart_bytes s at cold r)
          (all_apart_bytes s (at + routine_size r) (cold + cold_size r) rs),
    )

pub text_length : (s : SiteView) (rs : List RoutineView) → AllByRecursion IsRoutineNear rs
    → s.blocks.count ≤ length s.functions
    → length (text_bytes s rs)
    ≡ front_size s.imports + total rs + cold_total rs + step_of s.blocks * s.blocks.count
text_length s rs near fewer =
    let first = first_routine_at s.imports s.text in
    let cold = first + total rs in
    let front = spelled (front_code s.imports s.text s.rdata) in
    let l = routines_length s first cold rs near in
    let m = all_apart_length s first cold rs in
    let f = front_sizes s.imports s.text s.rdata in
    let b = blocks_length s.imports s.rdata s.blocks s.blocks.first
    (take s.blocks.count s.functions) ∙ ap (λ (n : ℕ). step_of s.blocks * n)
    (length-take-le s.blocks.count s.functions fewer) in
    omega (
      arith,
      length-append (front ++ routines_bytes s first cold rs ++ all_apart_bytes s first cold rs)
          (site_blocks s),
      length-append (front ++ routines_bytes s first cold rs) (all_apart_bytes s first cold rs),
      length-append front (routines_bytes s first cold rs),
      sizes_spelled (front_code s.imports s.text s.rdata),
    )

-- ---- the tables

-- how many cold parts there are
abbrev pub cold_count : List RoutineView → ℕ
cold_count [] = 0
cold_count (r ∷ rs) = length r.body.cold + cold_count rs

pub cold_count_taken : (n : ℕ) (rs : List RoutineView) → cold_count (take n rs) ≤ cold_count rs
cold_count_taken zero rs = omega arith
cold_count_taken (suc n) [] = omega arith
cold_count_taken (suc n) (r ∷ rs) = let c = cold_count_taken n rs in omega arith

pub infos_length : (s : SiteView) (at cold : ℕ) (rs : List RoutineView)
    → AllByRecursion IsRoutineNear rs
    → length (infos s at cold rs) + 45 * cold_count rs ≤ infos_room rs
infos_length s at cold [] near = omega arith
infos_length s at cold (r ∷ rs) near =
    let i = info_small s at cold r near.0 in
    let l = infos_length s (at + routine_size r) (cold + cold_size r) rs near.1 in
    omega (
      arith,
      length-append (info_bytes s at cold r)
          (infos s (at + routine_size r) (cold + cold_size r) rs),
    )

pub fragments_count : (s : SiteView) (info at cold : ℕ) (rs : List RoutineView)
    → length (fragments s info at cold rs) ≤ cold_count rs
fragments_count s info at cold [] = omega arith
fragments_count s info at cold (r ∷ rs) =
    let next = info + length (info_bytes s at cold r) in
    let f = fragments_few info at cold r in
    let c = fragments_count s next (at + routine_size r) (cold + cold_size r) rs in
    omega (
      arith,
      length-append (fragments_of info at cold r)
          (fragments s next (at + routine_size r) (cold + cold_size r) rs),
    )

pub chained_sizes : (fs : List Fragment) → length (chained_infos fs) ≡ 16 * length fs
chained_sizes [] = refl
chained_sizes (f ∷ fs) =
    let c = chained_length f in
    let r = chained_sizes fs in
    omega (arith, length-append (chained_bytes f) (chained_infos fs))

pub all_infos_length : (s : SiteView) (info at cold : ℕ) (rs : List RoutineView)
    → AllByRecursion IsRoutineNear rs
    → length (all_infos s info at cold rs) + 29 * cold_count rs ≤ infos_room rs
all_infos_length s info at cold rs near =
    let i = infos_length s at cold rs near in
    let f = fragments_count s info at cold rs in
    let c = chained_sizes (fragments s info at cold rs) in
    omega (
      arith,
      length-append (infos s at cold rs) (chained_infos (fragments s info at cold rs)),
    )

range_few : (o : Option FrameLayout) (range : RuntimeFunction) → length (range_if o range) ≤ 1
range_few None range = omega arith
range_few (Some f) range = omega arith

ranges_few : (s : SiteView) (info at cold : ℕ) (rs : List RoutineView)
    → length (ranges s info at cold rs) ≤ length rs
ranges_few s info at cold [] = omega arith
ranges_few s info at cold (r ∷ rs) =
    let next = info + length (info_bytes s at cold r) in
    let o = range_few r.frame (range_at info at r) in
    let l = ranges_few s next (at + routine_size r) (cold + cold_size r) rs in
    omega (
      arith,
      length-append (range_of info at r)
          (ranges s next (at + routine_size r) (cold + cold_size r) rs),
    )

fragment_ranges_count : (info : ℕ) (fs : List Fragment)
    → length (fragment_ranges info fs) ≡ length fs
fragment_ranges_count info [] = refl
fragment_ranges_count info (f ∷ fs) = let c = fragment_ranges_count (info + 16) fs in omega arith

table_length : (ranges : List RuntimeFunction) → length (table_bytes ranges) ≡ 12 * length ranges
unfolding u32
table_length [] = refl
table_length (r ∷ rs) = let l = table_length rs in omega arith

pub tables_small : (s : SiteView) (info at cold : ℕ) (rs : List RoutineView)
    → length (table_bytes (all_ranges s info at cold rs)) ≤ 12 * length rs + 12 * cold_count rs
tables_small s info at cold rs =
    let next = info + length (infos s at cold rs) in
    let of = fragments s info at cold rs in
    let f = ranges_few s info at cold rs in
    let c = fragments_count s info at cold rs in
    let g = fragment_ranges_count next of in
    omega (
      arith,
      table_length (all_ranges s info at cold rs),
      length-append (ranges s info at cold rs) (fragment_ranges next of),
    )

pub count_small : (rs : List RoutineView) → ROUTINE_ROOM * length rs ≤ room rs
count_small [] = omega arith
count_small (r ∷ rs) = let c = count_small rs in omega arith
