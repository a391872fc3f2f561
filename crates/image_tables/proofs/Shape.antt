-- The shape of the function table of every program.
use Rattle.std.proofs.Common.{◌≡◌, ◌≢◌, ℕ, zero, suc, ◌+◌, ◌%◌, ◌<◌, ◌==◌, false, List, [], ◌∷◌, ◌++◌, length, get_or, drop, map, Some, None, refl, sym, ap, subst, ◌∙◌, arith, inl, inr, length-append, get_or-drop}
use Rattle.std.specs.Prelude.{◌&&◌, nat_lt}
use Rattle.std.specs.List.{AllByRecursion}
use Rattle.std.proofs.lemmas.Bool.{ne_eqb, eq-eqb, false≢true, cases_lt}
use Rattle.std.proofs.lemmas.List.{length-map, get_or-map}
use Rattle.image_tables.specs.Entries.{entries_of}
use Rattle.image_tables.specs.Words.{ScopeRecord, Region, LinearFunction, LinearFunclet, LinearProgram, FitsProgram, RoutineView, functions_from, funclet, routines, IsRoutineNear, routine_size, bounds, thunk_at, CSpecificHandler, has_except, has_finally, trailer, first_cursor, placed, site_of, entry_of, entries, AreDifferent, rows_of, regions, named, funclet_begin, AreRows, nothing, funclet_frame, trailer_flags, routines_begin}
use Rattle.linear_code.specs.declared.program.FuncletKind.TheVariants.{Filter}
use Rattle.image_tables.proofs.Lemmas.{no_routine, routines_near, all_at}
use Rattle.image_tables.proofs.Lookups.{entries_are_held}
use Rattle.image_tables.proofs.Prologues.{framed_room}
use Rattle.image_tables.proofs.EntryOrder.{all_in_order}
use Rattle.image_tables.specs.ShapeLaws.{BeginsEntry, HasShape, TablesHaveShape, HandlersDiffer, EntriesAreFlagged, PartsArePassedOver}
use Rattle.image_tables.proofs.RegionRows.{as_many, finally_count, always_count, handlers_are, searched_by, unwound_by}
use Rattle.image_tables.proofs.RoutineRows.{AreFar, routines_bare, routines_regions, all_rows, same_rows, bounds_rise, is_placed}

-- ---- funclets

bounds_far : (at : ℕ) (rs : List RoutineView) → 1 < at → AreFar (bounds at rs)
bounds_far at [] lt = (lt, tt)
bounds_far at (r ∷ rs) lt = (lt, bounds_far (at + routine_size r) rs (omega arith))

drop_far : (n : ℕ) (xs : List ℕ) → AreFar xs → AreFar (drop n xs)
drop_far zero xs far = far
drop_far (suc n) [] far = tt
drop_far (suc n) (x ∷ xs) far = drop_far n xs far.1

pub functions_count : (main index : ℕ) (fs : List LinearFunction)
    → length (functions_from main index fs) ≡ length fs
functions_count main index [] = refl
functions_count main index (f ∷ fs) = let c = functions_count main (suc index) fs in omega arith

pub get_second : (a b : List RoutineView) (i j : ℕ) (d : RoutineView) → j ≡ length a + i
    → get_or (a ++ b) j d ≡ get_or b i d
get_second [] b i j d e = ap (λ (n : ℕ). get_or b n d) (let q : j ≡ i = omega arith in q)
get_second (r ∷ a) b i zero d e = absurd (omega arith)
get_second (r ∷ a) b i (suc j) d e = get_second a b i j d (omega arith)

abbrev pub no_funclet : LinearFunclet
no_funclet = record { kind = Filter; function = 0; parent = None; body = nothing }

module _ (p : LinearProgram) (fits : FitsProgram p) where
  abbrev rs : List RoutineView
  rs = routines p

  abbrev n : ℕ
  n = length p.functions

  near : AllByRecursion IsRoutineNear rs
  near = routines_near p fits

  far : AreFar (site_of p).funclets
  far = drop_far n (bounds (routines_begin p) rs) (bounds_far (routines_begin p) rs (omega arith))

  rows : AreRows p (rows_of (entries p)) (regions p)
  rows = subst (λ (own : List ScopeRecord). AreRows p own (regions p)) (sym (same_rows p far))
      (subst (AreRows p (rows_of (entries_of (site_of p) (placed p)))) (routines_regions p)
      (all_rows p far (first_cursor p) rs (omega arith) (omega arith) (routines_bare p) near))

  pub as_long : length rs ≡ n + length p.funclets
  as_long =
      let c = functions_count p.main 0 p.functions in
      omega (
        arith,
        length-append (functions_from p.main 0 p.functions)
            (map (funclet p) p.funclets),
        length-map p.funclets (funclet p),
      )

  -- a funclet is the routine of its number after the functions
  pub funclet_is : (k : ℕ) → k < length p.funclets
      → get_or rs (n + k) no_routine ≡ funclet p (get_or p.funclets k no_funclet)
  funclet_is k lt =
      let c = functions_count p.main 0 p.functions in
      get_second (functions_from p.main 0 p.functions) (map (funclet p) p.funclets) k (n + k)
      no_routine (omega arith)
      ∙ get_or-map (funclet p) p.funclets k no_funclet no_routine lt

  pub begin_is : (k : ℕ) → funclet_begin p k ≡ get_or (bounds (routines_begin p) rs) (n + k) 0
  begin_is k = get_or-drop n (bounds (routines_begin p) rs) k 0

  pub funclet_size : (k : ℕ) → k < length p.funclets
      → 0 < routine_size (get_or rs (n + k) no_routine)
  funclet_size k lt =
      let l = as_long in
      framed_room (get_or rs (n + k) no_routine)
      (funclet_frame (get_or p.funclets k no_funclet).body)
      (all_at IsRoutineNear rs (n + k) no_routine near (omega arith))
      (ap (λ (r : RoutineView). r.frame) (funclet_is k lt))

  begins : (k : ℕ) → k < length p.funclets → BeginsEntry p (funclet_begin p k)
  begins k lt =
      let l = as_long in
      let h = is_placed (site_of p) (first_cursor p) rs (n + k) no_routine (omega arith) in
      let x = h.placed in
      let at : x.begin ≡ funclet_begin p k = h.begins ∙ sym (begin_is k) in
      let f = funclet_frame (get_or p.funclets k no_funclet).body in
      let framed : x.routine.frame ≡ Some f = ap (λ (r : RoutineView). r.frame)
      (h.routine ∙ funclet_is k lt) in
      let some : 0 < routine_size x.routine = subst (λ (r : RoutineView). 0 < routine_size r)
      (sym h.routine) (funclet_size k lt) in
      record {
        entry = entry_of (site_of p) x f;
        held = entries_are_held p (n + k) x f (funclet_begin p k) fits h.there framed (omega arith)
            (omega arith);
        begins = at;
      }

  pub shape : HasShape p
  shape = record {
    order = all_in_order p near;
    rows = rows;
    count = as_many p (rows_of (entries p)) (regions p) rows;
    finally = finally_count p (rows_of (entries p)) (regions p) rows;
    always = always_count p (rows_of (entries p)) (regions p) rows;
    handlers = handlers_are p (rows_of (entries p)) (regions p) rows;
    funclets = begins;
  }

  -- ---- handlers that differ

  pub rises : (j k : ℕ) → j < k → k < length p.funclets → funclet_begin p j < funclet_begin p k
  rises j k lt in' =
      let l = as_long in
      let b = bounds_rise (routines_begin p) rs (n + j) (n + k) 0 no_routine (omega arith)
      (omega arith) in
      let some = funclet_size j (omega arith) in
      let x = begin_is j in
      let y = begin_is k in
      omega arith

  pub apart : (j k : ℕ) → j < length p.funclets → k < length p.funclets → j ≢ k
      → funclet_begin p j ≢ funclet_begin p k
  apart j k a b ne e = elim (cases_lt j k) [
    | inl lt ↦ let r = rises j k lt b in let q : funclet_begin p j ≡ funclet_begin p k = e in
        omega arith
    | inr le ↦ elim (cases_lt k j) [
      | inl lt ↦ let r = rises k j lt a in let q : funclet_begin p j ≡ funclet_begin p k = e in
          omega arith
      | inr le' ↦ ne (omega arith)
    ]
  ]

  none_same : (j : ℕ) (ks : List ℕ) → j < length p.funclets
      → AllByRecursion (λ k. k < length p.funclets) ks → AllByRecursion (λ k. (j == k) ≡ false) ks
      → AllByRecursion (λ a. (funclet_begin p j == a) ≡ false) (map (funclet_begin p) ks)
  none_same j [] lt all differ = tt
  none_same j (k ∷ ks) lt all differ = (
    ne_eqb (funclet_begin p j) (funclet_begin p k)
        (apart j k lt all.0 (λ e. false≢true (sym differ.0 ∙ eq-eqb j k e))),
    none_same j ks lt all.1 differ.1,
  )

  pub distinct : (ks : List ℕ) → AllByRecursion (λ k. k < length p.funclets) ks → AreDifferent ks
      → AreDifferent (map (funclet_begin p) ks)
  distinct [] all once = tt
  distinct (k ∷ ks) all once = (none_same k ks all.0 all.1 once.0, distinct ks all.1 once.1)

pub tables_have_shape : TablesHaveShape
tables_have_shape p fits = shape p fits

pub handlers_differ : HandlersDiffer
handlers_differ p fits names = subst (AreDifferent) (sym (shape p fits).handlers)
    (distinct p fits (named (regions p)) names.there names.once)

-- ---- flags

searched_of : (h : ℕ) (rs : List Region) → (trailer_flags (trailer h rs) % 2 == 1) ≡ has_except rs
searched_of h [] = refl
searched_of h (r ∷ rs) = searched_by (has_except (r ∷ rs)) (has_finally (r ∷ rs))

unwound_of : (h : ℕ) (rs : List Region) → (nat_lt 1 (trailer_flags (trailer h rs))
    && nat_lt (trailer_flags (trailer h rs)) 4) ≡ has_finally rs
unwound_of h [] = refl
unwound_of h (r ∷ rs) = unwound_by (has_except (r ∷ rs)) (has_finally (r ∷ rs))

pub entries_are_flagged : EntriesAreFlagged
entries_are_flagged s x f =
    let h = thunk_at s.imports s.text CSpecificHandler in
    record {
      searched = searched_of h x.routine.body.regions;
      unwound = unwound_of h x.routine.body.regions;
    }

pub parts_are_passed_over : PartsArePassedOver
parts_are_passed_over s x f q = record { searched = refl; unwound = refl }
