-- The scope records of each body are its regions.
use Rattle.std.proofs.Common.{◌≡◌, ◌≢◌, ℕ, ◌+◌, ◌%◌, ◌^◌, ◌<◌, ◌≤◌, ◌==◌, Bool, true, false, not, leb, ltb, eqb, List, [], ◌∷◌, length, map, Option, Some, None, refl, sym, ap, subst, ◌∙◌, arith, inl, inr}
use Rattle.std.specs.Prelude.{slice_get, ◌&&◌, ◌||◌, ◌⊎◌}
use Rattle.std.specs.List.{AllByRecursion}
use Rattle.std.proofs.lemmas.Bool.{and_right, cases_lt, lt-ltb, le-ltb, le-leb, lt-leb, ltb-true, eq-eqb, ne_eqb, false≢true}
use Rattle.std.proofs.lemmas.List.{length-map}
use Rattle.std.proofs.lemmas.Option.{slice_get_within}
use Rattle.image_states.specs.Words.{Cpu, ScopeRecord, distance, by_kind, arrivals, FuncletKind, Instruction, Region, RegionKind, LinearBody, LinearProgram, BodyName, body_of, instruction_in, IsKindOf, IsRegionOf, Layout, address_or, routines, own_addresses, text_begin, linked, Placed, PlacedPart, part_with, first_cursor, site_of, image_base, template_at, funclet_begin, functions_of, funclets_of, or_none, routine_of, address_of, plan_of, HasWholeImage, Local, parent_of, IsFuncletOf, IsLanding, has_except, has_finally, handler_address, jump_target, scope_record, by_parent, parent_body, IsFunclet, JumpsTo, IsOfKind, IsRegion, AreRegions, AllFinally, AllExcept, IsFlagged, IsEntryOf, HasRows, HasEntries, IsGiven, Gives, Entry, FrameLayout, RoutineView, is_cold}
use Rattle.image_tables.specs.RoutinePlaces.{parts_of}
use Rattle.linear_code.specs.declared.program.LabelRange.{LabelRange}
use Rattle.seh_walk.specs.Asked.{is_end}
use Rattle.seh_walk.specs.Asked as rows
use Rattle.linear_code.specs.declared.instruction.Instruction.TheVariants as instructions
use Rattle.linear_code.specs.declared.program.RegionKind.TheVariants as kinds
use Rattle.linear_machine.specs.Regions.{leads_to}
use Rattle.linear_machine.specs.Regions as linear
use Rattle.image_link.specs.Tables as tables
use Rattle.image_states.proofs.Lemmas.{routines_have, placed_has, end_inside, image_small, IsThere, away, IsBare, routines_bare, entries_are_flagged}
use Rattle.image_states.proofs.Addresses.{place, here, not_first, funclet_end, begin_least}
use Rattle.image_states.proofs.LabelOrder.{at_label, rises, above, rises_past, hot_least, hot_before, cold_least, small, some, Within, within, at_itself}
use Rattle.image_states.proofs.ColdLabels.{cold_unheld, all_unheld}
use Rattle.image_tables.proofs.PartPlaces.{holder, no_holder}
use Rattle.image_tables.specs.RegionRanges.{IsRange, HasRanges}
use Rattle.image_tables.specs.Entries as image
use Rattle.image_states.proofs.Framed.{leaf_of}
use Rattle.image_states.proofs.Funclets.{kind, kind_fits, at_funclet, at_none}

-- ---- small facts

parents_same : (function : ℕ) (parent : Option ℕ)
    → by_parent function parent ≡ parent_of function parent
parents_same function None = refl
parents_same function (Some k) = refl

and_both : (a b c d : Bool) → a ≡ c → b ≡ d → (a && b) ≡ (c && d)
and_both a b c d e f = λ i. e i && f i

or_second : (a b : Bool) → (a || b) ≡ false → b ≡ false
or_second true b e = absurd (false≢true (sym e))
or_second false b e = e

or_both : (a b c d : Bool) → a ≡ c → b ≡ d → (a || b) ≡ (c || d)
or_both a b c d e f = λ i. e i || f i

module _ (program : LinearProgram) (c : HasWholeImage program) (name : BodyName) (b : LinearBody)
    (is : body_of program name ≡ Some b) where
  abbrev x : Placed
  x = routine_of program name

  abbrev y : Layout
  y = x.routine.layout

  abbrev code : List Instruction
  code = x.routine.body.code

  abbrev colds : List LabelRange
  colds = x.routine.body.cold

  abbrev T : ℕ → ℕ
  T label = template_at x label

  abbrev labels : List ℕ
  labels = (own_addresses x.begin x.cold x.routine).labels

  abbrev end' : ℕ
  end' = (own_addresses x.begin x.cold x.routine).end

  -- where a label is in the image
  abbrev L : ℕ → ℕ
  L i = address_or labels i end'

  h : IsThere (site_of program) (linked program).text (text_begin program.globals) x
  h = here program c name b is

  abbrev IsHot : ℕ → Type 0
  IsHot label = is_cold colds label ≡ false

  -- ---- what a record holds

  abbrev row : Region → ScopeRecord
  row r = scope_record (site_of program).funclets labels end' r

  abbrev IsOwn : Region → Type 0
  IsOwn r = IsRange x.routine.body r

  module _ (label rva : ℕ) (w : Within program c name b is label rva) where
    begins : IsHot label → (i : ℕ) → IsHot i → leb (L i) rva ≡ leb i label
    begins hot i hot' = elim (cases_lt label i) [
      | inl lt ↦
          let r = above program c name b is label i w.instruction w.there hot hot' lt in
          let e = at_label program c name b is i in
          let high = w.high in
          lt-leb (L i) rva (omega arith) ∙ sym (lt-leb i label lt)
      | inr le ↦
          let r = rises program c name b is i label hot' hot le in
          let e = at_label program c name b is i in
          let low = w.low in
          le-leb (L i) rva (omega arith) ∙ sym (le-leb i label le)
    ]

    ends : IsHot label → (i : ℕ) → IsHot i → ltb rva (L i) ≡ ltb label i
    ends hot i hot' = elim (cases_lt label i) [
      | inl lt ↦
          let r = above program c name b is label i w.instruction w.there hot hot' lt in
          let e = at_label program c name b is i in
          let high = w.high in
          lt-ltb rva (L i) (omega arith) ∙ sym (lt-ltb label i lt)
      | inr le ↦
          let r = rises program c name b is i label hot' hot le in
          let e = at_label program c name b is i in
          let low = w.low in
          le-ltb rva (L i) (omega arith) ∙ sym (le-ltb label i le)
    ]

    held_by : (r : Region) → IsOwn r → (cold : Bool) → is_cold colds label ≡ cold
        → rows.holds (row r) rva ≡ linear.holds label r
    held_by r range true e =
        let hot = range.hot r.end (let lt = range.some in omega arith)
        (let z : r.end ≤ r.end = omega arith in z) in
        let most = hot_least program c name b is r.end hot in
        let least = cold_least program c name b is label e in
        let at = at_label program c name b is r.end in
        let low = w.low in
        and_right (leb (L r.begin) rva) (ltb rva (L r.end)) (le-ltb rva (L r.end) (omega arith))
        ∙ sym (cold_unheld x.routine.body r label range e)
    held_by r range false e =
        let some = range.some in
        and_both (leb (L r.begin) rva) (ltb rva (L r.end)) (leb r.begin label)
        (ltb label r.end)
        (begins e r.begin (range.hot r.begin (let z : r.begin ≤ r.begin = omega arith in z)
        (omega arith)))
        (ends e r.end (range.hot r.end (omega arith)
        (let z : r.end ≤ r.end = omega arith in z)))

    held : (r : Region) → IsOwn r → rows.holds (row r) rva ≡ linear.holds label r
    held r range = held_by r range (is_cold colds label) refl

  -- ---- where an unwinding ends

  -- the label of a block
  record IsTarget (t : ℕ) : Type 0 where
    hot : IsHot t
    inside : t < length code

  apart : (t label : ℕ) → T t ≢ T label → t ≢ label → eqb (L t) (T label) ≡ eqb t label
  apart t label far other =
      ne_eqb (L t) (T label) (λ z. far (sym (at_label program c name b is t) ∙ z))
      ∙ sym (ne_eqb t label other)

  same_by : (t label : ℕ) → IsTarget t → label < length code → (cold : Bool)
      → is_cold colds label ≡ cold → eqb (L t) (T label) ≡ eqb t label
  same_by t label at lt true e =
      let before = hot_before program c name b is t at.inside at.hot in
      let least = cold_least program c name b is label e in
      apart t label (λ z. (let q : T t ≡ T label = z in omega arith))
      (λ z. false≢true (sym at.hot ∙ ap (is_cold colds) z ∙ e))
  same_by t label at lt false e = elim (cases_lt t label) [
    | inl less ↦
        let r = rises_past program c name b is t label at.inside at.hot e less in
        apart t label (λ z. (let q : T t ≡ T label = z in omega arith))
        (λ z. (let q : t ≡ label = z in omega arith))
    | inr le ↦ elim (cases_lt label t) [
      | inl more ↦
          let r = rises_past program c name b is label t lt e at.hot more in
          apart t label (λ z. (let q : T t ≡ T label = z in omega arith))
          (λ z. (let q : t ≡ label = z in omega arith))
      | inr le' ↦
          let same : t ≡ label = omega arith in
          eq-eqb (L t) (T label) (at_label program c name b is t ∙ ap T same) ∙ sym
          (eq-eqb t label same)
    ]
  ]

  same_label : (t label : ℕ) → IsTarget t → label < length code
      → eqb (L t) (T label) ≡ eqb t label
  same_label t label at lt = same_by t label at lt (is_cold colds label) refl

  not_zero : (t : ℕ) → eqb (L t) 0 ≡ false
  not_zero t = let s = some program c name b is t in let e = at_label program c name b is t in
      ne_eqb (L t) 0 (λ z. (let q : L t ≡ 0 = z in omega arith))

  landing_there : (t : ℕ) (landing : IsLanding program name t)
      → slice_get code t ≡ Some (instructions.Landing (Local landing.0))
  landing_there t landing =
      ap (λ (d : LinearBody). slice_get d.code t) (place program c name b is).body
      ∙ sym (ap (λ (o : Option LinearBody). instruction_in o t) is) ∙ landing.1

  landing_inside : (t : ℕ) → IsLanding program name t → t < length code
  landing_inside t landing = slice_get_within code t (instructions.Landing (Local landing.0))
      (landing_there t landing)

  -- a region's block begins where it ends
  target : (r : Region) (t : ℕ) → IsOwn r → IsLanding program name t → t ≡ r.end → IsTarget t
  target r t range landing e =
      let some = range.some in
      record { hot = range.hot t (omega arith) (omega arith); inside = landing_inside t landing }

  abbrev jump_of : RegionKind → ℕ
  jump_of k = jump_target labels end' k

  leads : (r : Region) (k : RegionKind) → IsOwn r → IsKindOf program name r.end k → (label : ℕ)
      → label < length code
      → (not (jump_of k == 0) && (jump_of k == T label)) ≡ leads_to k label
  leads r (kinds.Finally k) range of label lt = refl
  leads r (kinds.Filter k t) range of label lt =
      ap (λ (z : Bool). not z && eqb (L t) (T label)) (not_zero t)
      ∙ same_label t label (target r t range of.1 of.2) lt
  leads r (kinds.Always t) range of label lt =
      ap (λ (z : Bool). not z && eqb (L t) (T label)) (not_zero t)
      ∙ same_label t label (target r t range of.0 of.1) lt

  ended : (label : ℕ) (r : Region) → IsOwn r → IsRegionOf program name r → label < length code
      → is_end (distance image_base (address_of program name label)) (row r)
      ≡ (linear.holds label r || leads_to r.kind label)
  ended label r range of lt =
      let e = away (T label) (small program c name b is label) in
      or_both _ _ (linear.holds label r) (leads_to r.kind label)
      (held label (distance image_base (address_of program name label)) (at_itself program c name b
      is label lt) r
      range)
      (ap (λ (n : ℕ). not ((row r).jump_target == 0) && ((row r).jump_target == n)) e
      ∙ leads r r.kind range of.kind label lt)

  -- ---- what a record names

  module_small : (n : ℕ) → n < 2 ^ 32 → (image_base + n) % 2 ^ 64 ≡ image_base + n
  module_small n lt = omega arith

  named_by : (k : ℕ) (kd : Bool) → k < length program.funclets → kind program k ≡ kd → (cpu : Cpu)
      → arrivals cpu (distance image_base (image_base + funclet_begin program k)) 1
      (funclets_of program) ≡ by_kind cpu (k + 1) kd ∷ []
  named_by k kd lt e cpu = at_funclet program c cpu k lt
      ∙ ap (λ (z : Bool). by_kind cpu (k + 1) z ∷ []) e

  begin_small : (k : ℕ) → k < length program.funclets → funclet_begin program k < 2 ^ 32
  begin_small k lt = let e = funclet_end program c k lt in let i = end_inside program c.fits in
      let s = image_small program c.fits in omega arith

  funclet_of : (k : ℕ) {kd : FuncletKind → Type 0} → IsFuncletOf program name kd k
      → IsFunclet (functions_of program) (funclets_of program) program (plan_of program) name k
  funclet_of k f =
      let lt = slice_get_within program.funclets k f.funclet f.there in
      let s = begin_small k lt in
      record {
        parent = ap parent_body f.there ∙ ap (λ (q : BodyName). Some q)
            (parents_same f.funclet.function f.funclet.parent ∙ f.parent);
        small = omega arith;
      }

  jumps_to : (r : Region) (t : ℕ) → IsLanding program name t → (row r).jump_target ≡ L t
      → JumpsTo (functions_of program) (funclets_of program) program (plan_of program) name (row r)
      t
  jumps_to r t landing e =
      let lt = landing_inside t landing in
      let s = small program c name b is t in
      let at = at_label program c name b is t in
      let j : (row r).jump_target ≡ T t = e ∙ at in
      record {
        jumps = ap (λ (n : ℕ). n == 0) e ∙ not_zero t;
        target = ap (λ (n : ℕ). (image_base + n) % 2 ^ 64) j ∙ module_small (T t) s;
        lands = lt-ltb t (length code) lt;
      }

  kind_is : (r : Region) (k : RegionKind) → r.kind ≡ k → IsKindOf program name r.end k
      → IsOfKind (functions_of program) (funclets_of program) program (plan_of program) name (row r)
      k
  kind_is r (kinds.Finally k) e f =
      let fits = kind_fits program name r.end (kinds.Finally k) f in
      record {
        none = ap (λ (q : RegionKind). jump_target labels end' q == 0) e;
        handler = ap (λ (q : RegionKind). (image_base
            + handler_address (site_of program).funclets q) % 2 ^ 64) e
            ∙ module_small (funclet_begin program k) (begin_small k fits.0);
        funclet = funclet_of k f;
        named = named_by k true fits.0 fits.1;
      }
  kind_is r (kinds.Filter k t) e f =
      let fits = kind_fits program name r.end (kinds.Filter k t) f in
      let far : eqb (funclet_begin program k) 1
      ≡ false = ne_eqb (funclet_begin program k) 1
      (λ z. (let q : funclet_begin program k ≡ 1 = z in
      let l = begin_least program c k fits.0 in omega arith)) in
      record {
        to = jumps_to r t f.1 (ap (jump_target labels end') e);
        asks = ap (λ (q : RegionKind). handler_address (site_of program).funclets q == 1) e ∙ far;
        handler = ap (λ (q : RegionKind). (image_base
            + handler_address (site_of program).funclets q) % 2 ^ 64) e
            ∙ module_small (funclet_begin program k) (begin_small k fits.0);
        funclet = funclet_of k f.0;
        named = named_by k false fits.0 fits.1;
      }
  kind_is r (kinds.Always t) e f = record {
    to = jumps_to r t f.0 (ap (jump_target labels end') e);
    accepts = ap (λ (q : RegionKind). handler_address (site_of program).funclets q == 1) e;
  }

  region_is : (r : Region) → IsOwn r → IsRegionOf program name r
      → IsRegion (functions_of program) (funclets_of program) program (plan_of program) name (row r)
      r
  region_is r range of = record {
    holds = λ label rip i. held label (distance image_base rip) (within program c name b is label
        rip i) r range;
    ends = λ label lands. ended label r range of (ltb-true label (length code) lands);
    kind = kind_is r r.kind refl of.kind;
  }

  regions_are : (rs : List Region) → AllByRecursion IsOwn rs
      → AllByRecursion (IsRegionOf program name) rs
      → AreRegions (functions_of program) (funclets_of program) program (plan_of program) name
      (map row rs) rs
  regions_are [] own all = tt
  regions_are (r ∷ rs) own all = (region_is r own.0 all.0, regions_are rs own.1 all.1)

  -- ---- flags

  all_finally : (rs : List Region) → has_except rs ≡ false
      → AllFinally (functions_of program) (funclets_of program) program (plan_of program)
      (map row rs)
  all_finally [] e = tt
  all_finally (r ∷ rs) e = (
    go r.kind refl e,
    all_finally rs (or_second (not (tables.is_finally r.kind)) (has_except rs) e),
  )
    where
      go : (k : RegionKind) → r.kind ≡ k → (not (tables.is_finally r.kind) || has_except rs) ≡ false
          → (jump_target labels end' r.kind == 0) ≡ true
      go (kinds.Finally k) q z = ap (λ (w : RegionKind). jump_target labels end' w == 0) q
      go (kinds.Filter k t) q z = absurd (false≢true
          (sym z ∙ ap (λ (w : RegionKind). not (tables.is_finally w) || has_except rs) q))
      go (kinds.Always t) q z = absurd (false≢true
          (sym z ∙ ap (λ (w : RegionKind). not (tables.is_finally w) || has_except rs) q))

  all_except : (rs : List Region) → has_finally rs ≡ false
      → AllExcept (functions_of program) (funclets_of program) program (plan_of program)
      (map row rs)
  all_except [] e = tt
  all_except (r ∷ rs) e = (
    go r.kind refl e,
    all_except rs
        (or_second (tables.is_finally r.kind) (has_finally rs) e),
  )
    where
      go : (k : RegionKind) → r.kind ≡ k → (tables.is_finally r.kind || has_finally rs) ≡ false
          → (jump_target labels end' r.kind == 0) ≡ false
      go (kinds.Finally k) q z = absurd (false≢true
          (sym z ∙ ap (λ (w : RegionKind). tables.is_finally w || has_finally rs) q))
      go (kinds.Filter k t) q z = ap (λ (w : RegionKind). jump_target labels end' w == 0) q
          ∙ not_zero t
      go (kinds.Always t) q z = ap (λ (w : RegionKind). jump_target labels end' w == 0) q
          ∙ not_zero t

  flag_of : (flag has : Bool) {All : Type 0} → flag ≡ has → (has ≡ false → All)
      → (flag ≡ true) ⊎ All
  flag_of flag true e all = inl e
  flag_of flag false e all = inr (all refl)

  abbrev own_frame : FrameLayout
  own_frame = or_none x.routine.frame

  -- the entry of a routine, or of one of its cold parts
  abbrev entry : Option PlacedPart → Entry
  entry o = image.entry_by (site_of program) x own_frame o

  flagged : (o : Option PlacedPart)
      → IsFlagged (functions_of program) (funclets_of program) program (plan_of program)
      (entry o).info
  flagged None =
      let f = entries_are_flagged (site_of program) x own_frame in
      record {
        searched = flag_of _ (has_except x.routine.body.regions) f.searched
            (all_finally x.routine.body.regions);
        unwound = flag_of _ (has_finally x.routine.body.regions) f.unwound
            (all_except x.routine.body.regions);
      }
  flagged (Some q) = record { searched = inr tt; unwound = inr tt }

  few : (o : Option PlacedPart) → length (entry o).info.scopes < 2 ^ 32
  few None =
      let few = h.near.regions in
      let long = length-map x.routine.body.regions row in
      omega arith
  few (Some q) = omega arith

  -- ---- an entry

  abbrev RowsAre : ℕ → Option PlacedPart → List Region → Type 0
  RowsAre label o rs =
      HasRows (functions_of program) (funclets_of program) program (plan_of program) name label
      (entry o).info.scopes rs

  own_ranges : HasRanges x.routine.body
  own_ranges =
      let p = place program c name b is in
      placed_has (λ (r : RoutineView). HasRanges r.body) (site_of program) (first_cursor program)
      (routines program) p.index x (routines_have program c.ranges) p.at

  rows_by : (label : ℕ) (cold : Bool) → is_cold colds label ≡ cold
      → RowsAre label (part_with label (parts_of x)) x.routine.body.regions
  rows_by label true e =
      let part = holder y code label x.cold x.chained colds e in
      subst (λ (o : Option PlacedPart). RowsAre label o x.routine.body.regions) (sym part.found)
      (inr (record {
        none = refl;
        unheld = all_unheld x.routine.body label x.routine.body.regions own_ranges.regions e;
      }))
  rows_by label false e =
      let p = place program c name b is in
      let all = (c.whole.bodies name b is).regions in
      let none = no_holder y code label x.cold x.chained colds e in
      subst (λ (o : Option PlacedPart). RowsAre label o x.routine.body.regions) (sym none)
      (inl (regions_are x.routine.body.regions own_ranges.regions
      (subst (λ (d : LinearBody). AllByRecursion (IsRegionOf program name) d.regions)
      (sym p.body) all)))

  entry_given : (label : ℕ) → IsEntryOf (functions_of program) (funclets_of program) program
      (plan_of program) name b label
  entry_given label =
      let p = place program c name b is in
      record {
        rows = subst (λ (d : LinearBody). RowsAre label (part_with label (parts_of x)) d.regions)
            p.body (rows_by label (is_cold colds label) refl);
        flagged = flagged (part_with label (parts_of x));
        few = few (part_with label (parts_of x));
      }

  entries_given : HasEntries (functions_of program) (funclets_of program) program (plan_of program)
      name b
  entries_given =
      let p = place program c name b is in
      record {
        entries = entry_given;
        landings = λ label lands cpu. at_none program c cpu (address_of program name label)
            (let s = small program c name b is label in omega arith)
            (λ k lt. not_first program c name b is k lt label
            (let l = ltb-true label (length code) lands in
            let same = ap (λ (d : LinearBody). length d.code) p.body in omega arith));
      }

  pub leaf_given : (plan_of program).leaf name ≡ true → b.regions ≡ []
  leaf_given leaf =
      let p = place program c name b is in
      let bare = placed_has IsBare (site_of program) (first_cursor program)
      (routines program) p.index x (routines_bare program) p.at in
      ap (λ (d : LinearBody). d.regions) (sym p.body) ∙ bare (leaf_of x.routine.frame leaf)

  given_by : (leaf : Bool) → (plan_of program).leaf name ≡ leaf
      → IsGiven (functions_of program) (funclets_of program) program (plan_of program) name b leaf
  given_by true e = leaf_given e
  given_by false e = entries_given

  pub given : IsGiven (functions_of program) (funclets_of program) program (plan_of program) name b
      ((plan_of program).leaf name)
  given = given_by ((plan_of program).leaf name) refl

pub gives : (program : LinearProgram) (c : HasWholeImage program)
    → Gives (functions_of program) (funclets_of program) program (plan_of program)
gives program c name b is = given program c name b is
