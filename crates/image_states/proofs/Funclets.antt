-- Where RIP arrives at funclets.
use Rattle.std.proofs.Common.{◌≡◌, ◌≢◌, ℕ, zero, suc, ◌+◌, ◌^◌, ◌<◌, ◌==◌, Bool, true, false, List, [], ◌∷◌, ◌++◌, length, Option, Some, None, refl, sym, ap, ◌∙◌, arith, inl, inr}
use Rattle.std.specs.Prelude.{slice_get, ◌||◌}
use Rattle.std.specs.List.{AllByRecursion}
use Rattle.std.proofs.lemmas.Bool.{eq-eqb, or_right}
use Rattle.std.proofs.lemmas.Option.{slice_get_within}
use Rattle.image_states.specs.Words.{Cpu, ScopeRecord, Entry, distance, Funclet, inserted, by_kind, arrivals, Region, RegionKind, FuncletKind, Filter, Finally, LinearFunction, LinearFunclet, LinearProgram, BodyName, FunctionBody, FuncletBody, function_body, funclet_body, IsKindOf, IsRegionOf, image_base, funclet_begin, functions_of, funclets_of, plan_of, sites_of, HasWholeImage, with_row, of_rows, of_entries, IsFilterKind, IsFinallyKind, function_bodies, funclet_bodies, rows_of, regions_in, regions, funclet_in, named, IsRow, AreRows, FuncletsBegin, IsMember}
use Rattle.linear_code.specs.declared.program.RegionKind.TheVariants as kinds
use Rattle.image_tables.specs.Entries.{entries}
use Rattle.image_states.proofs.Lemmas.{end_inside, image_small, away, rises, tables_have_shape}
use Rattle.match_bodies.specs.ProgramImages as states
use Rattle.image_states.proofs.Inserting.{Mask, with_one, sub, same_sub, insert, all, arrives, arrives_at_none}
use Rattle.image_states.proofs.Addresses.{funclet_end}

-- ---- masks

abbrev mask_with : List ℕ → Mask → Mask
mask_with [] m = m
mask_with (k ∷ ks) m = mask_with ks (with_one k m)

mask_both : (a b : List ℕ) (m : Mask) → mask_with (a ++ b) m ≡ mask_with b (mask_with a m)
mask_both [] b m = refl
mask_both (k ∷ a) b m = mask_both a b (with_one k m)

mask_keeps : (ks : List ℕ) (m : Mask) (j : ℕ) → m j ≡ true → mask_with ks m j ≡ true
mask_keeps [] m j e = e
mask_keeps (k ∷ ks) m j e = mask_keeps ks (with_one k m) j (or_right (j == k) (m j) e)

mask_has : (ks : List ℕ) (m : Mask) (j : ℕ) → IsMember j ks → mask_with ks m j ≡ true
mask_has [] m j h = absurd h
mask_has (k ∷ ks) m j (inl e) = mask_keeps ks (with_one k m) j
    (ap (λ (b : Bool). b || m j) (eq-eqb j k e))
mask_has (k ∷ ks) m j (inr h) = mask_has ks (with_one k m) j h

-- ---- rows one after another

rows_both : (a b : List ScopeRecord) (fs : List Funclet)
    → of_rows (a ++ b) fs ≡ of_rows b (of_rows a fs)
rows_both [] b fs = refl
rows_both (r ∷ a) b fs = rows_both a b (with_row r fs (r.handler_address == 1))

entries_rows : (es : List Entry) (fs : List Funclet) → of_entries es fs ≡ of_rows (rows_of es) fs
entries_rows [] fs = refl
entries_rows (e ∷ es) fs = entries_rows es (of_rows e.info.scopes fs)
    ∙ sym (rows_both e.info.scopes (rows_of es) fs)

-- ---- kinds

abbrev pub is_finally : FuncletKind → Bool
is_finally Filter = false
is_finally (Finally flag) = true

abbrev pub kind_if : Option LinearFunclet → Bool
kind_if None = false
kind_if (Some f) = is_finally f.kind

finally_true : (k : FuncletKind) → IsFinallyKind k → is_finally k ≡ true
finally_true Filter h = absurd h
finally_true (Finally flag) h = refl

filter_false : (k : FuncletKind) → IsFilterKind k → is_finally k ≡ false
filter_false Filter h = refl
filter_false (Finally flag) h = absurd h

module _ (program : LinearProgram) where
  abbrev pub kind : ℕ → Bool
  kind k = kind_if (slice_get program.funclets k)

  abbrev pub KindFits : RegionKind → Type 0
  KindFits (kinds.Finally k) = (k < length program.funclets) × (kind k ≡ true)
  KindFits (kinds.Filter k target) = (k < length program.funclets) × (kind k ≡ false)
  KindFits (kinds.Always target) = Unit {0}

  pub kind_fits : (name : BodyName) (end : ℕ) (k : RegionKind) → IsKindOf program name end k
      → KindFits k
  kind_fits name end (kinds.Finally k) h = (
    slice_get_within program.funclets k h.funclet h.there,
    ap kind_if h.there ∙ finally_true h.funclet.kind h.fits,
  )
  kind_fits name end (kinds.Filter k target) h = (
    slice_get_within program.funclets k h.0.funclet h.0.there,
    ap kind_if h.0.there
        ∙ filter_false h.0.funclet.kind h.0.fits,
  )
  kind_fits name end (kinds.Always target) h = tt

  abbrev AllFit : List Region → Type 0
  AllFit rs = AllByRecursion (λ (r : Region). KindFits r.kind) rs

  fit_of : (name : BodyName) (rs : List Region) → AllByRecursion (IsRegionOf program name) rs
      → AllFit rs
  fit_of name [] h = tt
  fit_of name (r ∷ rs) h = (kind_fits name r.end r.kind h.0.kind, fit_of name rs h.1)

  fit_both : (a b : List Region) → AllFit a → AllFit b → AllFit (a ++ b)
  fit_both [] b h k = k
  fit_both (r ∷ a) b h k = (h.0, fit_both a b h.1 k)

module _ (program : LinearProgram) (c : HasWholeImage program) where
  functions_fit : (fs : List LinearFunction) (index : ℕ)
      → ((j : ℕ) (f : LinearFunction) → slice_get fs j ≡ Some f
      → slice_get program.functions (index + j) ≡ Some f)
      → AllFit program (regions_in (function_bodies fs))
  functions_fit [] index h = tt
  functions_fit (f ∷ fs) index h =
      let here : slice_get program.functions index
      ≡ Some f = ap (slice_get program.functions) (let q : index ≡ index + 0 = omega arith in q)
      ∙ h 0 f refl in
      fit_both program f.body.regions (regions_in (function_bodies fs))
      (fit_of program (FunctionBody index) f.body.regions
      (c.whole.bodies (FunctionBody index) f.body (ap function_body here)).regions)
      (functions_fit fs (index + 1) (λ j g e. ap (slice_get program.functions)
      (let q : index + 1 + j ≡ index + suc j = omega arith in q) ∙ h (suc j) g e))

  funclets_fit : (fs : List LinearFunclet) (index : ℕ)
      → ((j : ℕ) (f : LinearFunclet) → slice_get fs j ≡ Some f
      → slice_get program.funclets (index + j) ≡ Some f)
      → AllFit program (regions_in (funclet_bodies fs))
  funclets_fit [] index h = tt
  funclets_fit (f ∷ fs) index h =
      let here : slice_get program.funclets index
      ≡ Some f = ap (slice_get program.funclets) (let q : index ≡ index + 0 = omega arith in q)
      ∙ h 0 f refl in
      fit_both program f.body.regions (regions_in (funclet_bodies fs))
      (fit_of program (FuncletBody index) f.body.regions
      (c.whole.bodies (FuncletBody index) f.body (ap funclet_body here)).regions)
      (funclets_fit fs (index + 1) (λ j g e. ap (slice_get program.funclets)
      (let q : index + 1 + j ≡ index + suc j = omega arith in q) ∙ h (suc j) g e))

  all_fit : AllFit program (regions program)
  all_fit = fit_both program (regions_in (function_bodies program.functions))
      (regions_in (funclet_bodies program.funclets))
      (functions_fit program.functions 0 (λ j f e. ap (slice_get program.functions)
      (let q : 0 + j ≡ j = omega arith in q) ∙ e))
      (funclets_fit program.funclets 0 (λ j f e. ap (slice_get program.funclets)
      (let q : 0 + j ≡ j = omega arith in q) ∙ e))

  -- ---- the funclets of the table

  abbrev n : ℕ
  n = length program.funclets

  abbrev b : ℕ → ℕ
  b = funclet_begin program

  pub up : (j k : ℕ) → j < k → k < n → b j < b k
  up = rises program c.fits

  abbrev part : Mask → List Funclet
  part m = sub b (kind program) m 0 n

  row_step : (row : ScopeRecord) (k : RegionKind) (m : Mask)
      → IsRow program row (record { begin = 0; end = 0; kind = k }) → KindFits program k
      → with_row row (part m) (row.handler_address == 1) ≡ part (mask_with (funclet_in k) m)
  row_step row (kinds.Finally k) m is fits =
      ap (with_row row (part m)) is.always
      ∙ (λ i. inserted (is.handler i) ((is.finally ∙ sym fits.1) i) (part m))
      ∙ insert b (kind program) n up m k 0 n (omega arith) (omega (arith, fits.0)) (omega arith)
  row_step row (kinds.Filter k target) m is fits =
      ap (with_row row (part m)) is.always
      ∙ (λ i. inserted (is.handler i) ((is.finally ∙ sym fits.1) i) (part m))
      ∙ insert b (kind program) n up m k 0 n (omega arith) (omega (arith, fits.0)) (omega arith)
  row_step row (kinds.Always target) m is fits = ap (with_row row (part m)) is.always

  rows_step : (rows : List ScopeRecord) (rs : List Region) (m : Mask) → AreRows program rows rs
      → AllFit program rs → of_rows rows (part m) ≡ part (mask_with (named rs) m)
  rows_step [] [] m are fit = refl
  rows_step (row ∷ rows) (r ∷ rs) m are fit =
      ap (of_rows rows) (row_step row r.kind m
      (record { finally = are.0.finally; always = are.0.always; handler = are.0.handler }) fit.0)
      ∙ rows_step rows rs (mask_with (funclet_in r.kind) m) are.1 fit.1
      ∙ ap part (sym (mask_both (funclet_in r.kind) (named rs) m))
  rows_step [] (r ∷ rs) m are fit = absurd are
  rows_step (row ∷ rows) [] m are fit = absurd are

  none_yet : (from k : ℕ) → [] ≡ sub b (kind program) (λ j. false) from k
  none_yet from zero = refl
  none_yet from (suc k) = none_yet (from + 1) k

  pub funclets_are : funclets_of program ≡ all b (kind program) n up
  funclets_are =
      let shape = tables_have_shape program c.fits in
      entries_rows (entries program) []
      ∙ ap (of_rows (rows_of (entries program))) (none_yet 0 n)
      ∙ rows_step (rows_of (entries program)) (regions program) (λ j. false) shape.rows all_fit
      ∙ same_sub b (kind program) (mask_with (named (regions program)) (λ j. false)) (λ j. true) 0 n
      (λ j le lt. mask_has (named (regions program)) (λ k. false) j (c.all_named j (omega arith)))

  -- ---- arrivals

  begin_small : (k : ℕ) → k < n → b k < 2 ^ 32
  begin_small k lt = let e = funclet_end program c k lt in let i = end_inside program c.fits in
      let s = image_small program c.fits in omega arith

  pub at_funclet : (cpu : Cpu) (k : ℕ) → k < n
      → arrivals cpu (distance image_base (image_base + b k)) 1 (funclets_of program)
      ≡ by_kind cpu (k + 1) (kind program k) ∷ []
  at_funclet cpu k lt =
      (λ i. arrivals cpu (away (b k) (begin_small k lt) i) 1 (funclets_are i))
      ∙ arrives b (kind program) n up cpu k 0 n (omega arith) (omega arith) (omega arith)

  pub at_none : (cpu : Cpu) (a : ℕ) → a < 2 ^ 64 → ((k : ℕ) → k < n → a ≢ image_base + b k)
      → arrivals cpu (distance image_base a) 1 (funclets_of program) ≡ []
  at_none cpu a lt none =
      ap (arrivals cpu (distance image_base a) 1) funclets_are
      ∙ arrives_at_none b (kind program) n up cpu (distance image_base a) 0 n
      (λ k le lt' e. none k (omega arith) (let q : distance image_base a ≡ b k = e in
      let s = begin_small k (omega arith) in omega arith))

  same_kind : (k : FuncletKind) → is_finally k
      ≡ states.is_finally (functions_of program) (funclets_of program) program (plan_of program)
      (sites_of program) k
  same_kind Filter = refl
  same_kind (Finally flag) = refl

  pub funclets_begin : FuncletsBegin (functions_of program) (funclets_of program) program
      (plan_of program) (sites_of program)
  funclets_begin = record {
    named = λ k f e cpu. at_funclet cpu k (slice_get_within program.funclets k f e)
        ∙ ap (λ (o : Option LinearFunclet). by_kind cpu (k + 1) (kind_if o) ∷ []) e
        ∙ ap (λ (z : Bool). by_kind cpu (k + 1) z ∷ []) (same_kind f.kind);
    none = λ a lt none cpu. at_none cpu a lt none;
  }
