-- The names of an image are those of its functions.
use Rattle.std.proofs.Common.{◌≡◌, ℕ, zero, suc, ◌+◌, ◌^◌, ◌<◌, ◌≤◌, Bool, true, false, List, [], ◌∷◌, ◌++◌, length, get_or, take, map, Some, Result, refl, sym, ap, subst, ◌∙◌, arith, length-append, eq-eqb}
use Rattle.std.specs.Prelude.{slice_get}
use Rattle.std.specs.List.{AllByRecursion}
use Rattle.std.proofs.lemmas.Bool.{ne_eqb}
use Rattle.pe_image.specs.declared.name_table.NameErr.{NameErr}
use Rattle.pe_image.specs.NameRows.{NameRow, name_of, name_or, rows_read}
use Rattle.pe_write.specs.NameTable.{IsNameRow, AreInOrder, AreNames}
use Rattle.pe_write.proofs.NamesRead.{names_are}
use Rattle.linear_code.specs.declared.instruction.Instruction.{Instruction}
use Rattle.template_code.specs.Template.{body_size}
use Rattle.template_code.specs.declared.layout.Layout.{Layout}
use Rattle.image_link.specs.Fits.{FitsFunction}
use Rattle.image_link.specs.Routines.{leaf_if}
use Rattle.image_link.specs.Text.{bounds}
use Rattle.x64_emit.specs.Bodies.{part_ranges}
use Rattle.image_link.specs.Places.{parts_at}
use Rattle.image_link.specs.Services.{calls_walk}
use Rattle.image_link.specs.Walks.{IsName, IsNamed, named_if, named_functions, function_rows, part_rows, cold_rows}
use Rattle.template_code.proofs.ColdParts.{kept}
use Rattle.image_tables.specs.Words.{LabelRange, LinearFunction, LinearProgram, is_cold, AreParts, part_code, side_from, FitsProgram, RoutineView, IsRoutineNear, functions_from, funclet, routines, routine_size, cold_size, total, cold_total, linked, routines_begin, cold_begin}
use Rattle.image_tables.specs.NameLaws.{NamesAreRead, FunctionsHaveNames}
use Rattle.image_tables.proofs.Labels.{template_some}
use Rattle.image_tables.proofs.Lookups.{parts_total, cold_parts_total}
use Rattle.image_tables.proofs.PartPlaces.{part_some}
use Rattle.image_tables.proofs.Lemmas.{all_append, routines_near, bounds_below, count_small, functions_count, has_names, no_routine}
use Rattle.image_tables.proofs.Table.{is, end_inside, image_small}

-- ---- functions aren't empty

-- code whose first instruction isn't cold
hot_some : (y : Layout) (rs : List LabelRange) (code : List Instruction) → 0 < length code
    → is_cold rs 0 ≡ false → 0 < body_size y (side_from rs false 0 code)
hot_some y rs [] lt hot = absurd (omega arith)
hot_some y rs (i ∷ is) lt hot =
    let first = ap (body_size y) (kept rs false 0 i is hot) in
    let s = template_some y i in
    omega arith

one_some : (leaf : Bool) (f : LinearFunction) → 0 < length f.body.code
    → is_cold f.body.cold 0 ≡ false → 0 < routine_size (leaf_if leaf f)
one_some true f lt hot =
    let s = hot_some (leaf_if true f).layout f.body.cold f.body.code lt hot in omega arith
one_some false f lt hot =
    let s = hot_some (leaf_if false f).layout f.body.cold f.body.code lt hot in omega arith

-- the routine of a function is the one of its index
function_some : (main index i : ℕ) (fs : List LinearFunction) (others : List RoutineView)
    (d : RoutineView) → AllByRecursion FitsFunction fs → i < length fs
    → 0 < routine_size (get_or (functions_from main index fs ++ others) i d)
function_some main index i [] others d fit lt = absurd (omega arith)
function_some main index zero (f ∷ fs) others d fit lt = one_some _ f fit.0.some fit.0.first
function_some main index (suc i) (f ∷ fs) others d fit lt =
    function_some main (suc index) i fs others d fit.1 (omega arith)

abbrev others_of : LinearProgram → List RoutineView
others_of p = map (funclet p) p.funclets

-- ---- bounds

bound_first : (at : ℕ) (rs : List RoutineView) → get_or (bounds at rs) 0 0 ≡ at
bound_first at [] = refl
bound_first at (r ∷ rs) = refl

bound_next : (at : ℕ) (rs : List RoutineView) (i : ℕ) (d : RoutineView) → i < length rs
    → get_or (bounds at rs) (i + 1) 0 ≡ get_or (bounds at rs) i 0 + routine_size (get_or rs i d)
bound_next at [] i d lt = absurd (omega arith)
bound_next at (r ∷ rs) zero d lt = bound_first (at + routine_size r) rs
bound_next at (r ∷ rs) (suc i) d lt =
    let next : suc i + 1 ≡ suc (i + 1) = omega arith in
    ap (λ k. get_or (bounds at (r ∷ rs)) k 0) next
    ∙ bound_next (at + routine_size r) rs i d (omega arith)

-- ---- rows

positive : (name : List ℕ) → IsName name → AllByRecursion (λ (b : ℕ). 0 < b) name
positive [] named = tt
positive (b ∷ bs) named = (named.0.0, positive bs named.1)

module _ (b : List ℕ) (n : ℕ) (few : n < 2 ^ 31)
    (rise : (i : ℕ) → i < n → get_or b i 0 < get_or b (i + 1) 0)
    (below : (i : ℕ) → i < n → get_or b (i + 1) 0 < 2 ^ 32) where
  rows_are : (index : ℕ) (fs : List LinearFunction) → index + length fs ≤ n
      → AllByRecursion IsNamed fs → AllByRecursion IsNameRow (function_rows index b fs)
  rows_are index [] le named = tt
  rows_are index (f ∷ fs) le named = (
    record {
      range = rise index (omega arith);
      end = below index (omega arith);
      number = omega arith;
      name = positive f.name named.0;
    },
    rows_are (index + 1) fs (omega arith) named.1,
  )

-- ---- their order

order_less : (a b : ℕ) (rows : List NameRow) → b ≤ a → AreInOrder a rows → AreInOrder b rows
order_less a b [] le h = tt
order_less a b (r ∷ rows) le h = let l = h.0 in (omega arith, h.1)

-- before others
in_order : (b : List ℕ) (index last to : ℕ) (fs : List LinearFunction) (others : List NameRow)
    → last ≤ get_or b index 0 → get_or b (index + length fs) 0 ≤ to → AreInOrder to others
    → AreInOrder last (function_rows index b fs ++ others)
in_order b index last to [] others le most more =
    let z : index + 0 ≡ index = omega arith in
    let same = ap (λ (n : ℕ). get_or b n 0) z in
    order_less to last others (omega arith) more
in_order b index last to (f ∷ fs) others le most more =
    let z : index + 1 + length fs ≡ index + suc (length fs) = omega arith in
    let same = ap (λ (n : ℕ). get_or b n 0) z in (
      le,
      in_order b (index + 1) (get_or b (index + 1) 0) to fs others (omega arith) (omega arith) more,
    )

-- ---- the rows of cold parts

module _ (y : Layout) (code : List Instruction) (number : ℕ) where
  parts_named : (at from : ℕ) (rs : List LabelRange) → AreParts from rs (length code)
      → at + parts_total y rs code < 2 ^ 32 → number < 2 ^ 32
      → AllByRecursion IsNameRow (part_rows number (part_ranges y at rs code))
  parts_named at from [] parts lt few = tt
  parts_named at from (r ∷ rs) parts lt few =
      let some = part_some y code from r rs parts in (
        record { range = omega arith; end = omega arith; number = few; name = tt },
        parts_named (at + body_size y (part_code code r)) r.end rs parts.2 (omega arith) few,
      )

  parts_order : (at : ℕ) (rs : List LabelRange) (others : List NameRow)
      → AreInOrder (at + parts_total y rs code) others
      → AreInOrder at (part_rows number (part_ranges y at rs code) ++ others)
  parts_order at [] others more = order_less (at + 0) at others (omega arith) more
  parts_order at (r ∷ rs) others more =
      let end = at + body_size y (part_code code r) in
      let there : end + parts_total y rs code
      ≡ at + (body_size y (part_code code r) + parts_total y rs code) = omega arith in (
        (let z : at ≤ at = omega arith in z),
        parts_order end rs others (subst (λ (n : ℕ). AreInOrder n others) (sym there) more),
      )

colds_named : (number cold : ℕ) (rs : List RoutineView) → AllByRecursion IsRoutineNear rs
    → cold + cold_total rs < 2 ^ 32 → number + length rs < 2 ^ 32
    → AllByRecursion IsNameRow (cold_rows number cold rs)
colds_named number cold [] near lt few = tt
colds_named number cold (r ∷ rs) near lt few =
    let t = cold_parts_total r near.0 in
    all_append IsNameRow (part_rows number (parts_at cold r))
    (cold_rows (number + 1) (cold + cold_size r) rs)
    (parts_named r.layout r.body.code number cold 0 r.body.cold near.0.cold (omega arith)
    (omega arith))
    (colds_named (number + 1) (cold + cold_size r) rs near.1 (omega arith) (omega arith))

colds_order : (number cold : ℕ) (rs : List RoutineView) → AllByRecursion IsRoutineNear rs
    → AreInOrder cold (cold_rows number cold rs)
colds_order number cold [] near = tt
colds_order number cold (r ∷ rs) near =
    let others = cold_rows (number + 1) (cold + cold_size r) rs in
    let t = cold_parts_total r near.0 in
    parts_order r.layout r.body.code number cold r.body.cold others
    (subst (λ (n : ℕ). AreInOrder (cold + n) others) t
    (colds_order (number + 1) (cold + cold_size r) rs near.1))

-- ---- those of the first routines

pub first_near : (n : ℕ) (rs : List RoutineView) → AllByRecursion IsRoutineNear rs
    → AllByRecursion IsRoutineNear (take n rs)
first_near zero rs near = tt
first_near (suc n) [] near = tt
first_near (suc n) (r ∷ rs) near = (near.0, first_near n rs near.1)

first_total : (n : ℕ) (rs : List RoutineView)
    → (cold_total (take n rs) ≤ cold_total rs) × (length (take n rs) ≤ length rs)
first_total zero rs = (omega arith, omega arith)
first_total (suc n) [] = (omega arith, omega arith)
first_total (suc n) (r ∷ rs) =
    let t = first_total n rs in
    let a = t.0 in
    let b = t.1 in
    (omega arith, omega arith)

pub bounds_most : (at : ℕ) (rs : List RoutineView) (i d : ℕ) → i ≤ length rs
    → get_or (bounds at rs) i d ≤ at + total rs
bounds_most at [] zero d le = omega arith
bounds_most at [] (suc i) d le = absurd (omega arith)
bounds_most at (r ∷ rs) zero d le = omega arith
bounds_most at (r ∷ rs) (suc i) d le =
    let l = bounds_most (at + routine_size r) rs i d (omega arith) in omega arith

-- ---- programs

named_all : (walks : Bool) (fs : List LinearFunction) → AllByRecursion IsNamed fs
    → AllByRecursion IsNamed (named_if walks fs)
named_all true fs all = all
named_all false fs all = tt

named_length : (walks : Bool) (fs : List LinearFunction)
    → length (named_if walks fs) ≤ length fs
named_length true fs = omega arith
named_length false fs = omega arith

module _ (p : LinearProgram) (fits : FitsProgram p) where
  abbrev rs : List RoutineView
  rs = routines p

  abbrev b : List ℕ
  b = bounds (routines_begin p) rs

  fewer : (i : ℕ) → i < length p.functions → i < length rs
  fewer i lt =
      let c = functions_count p.main 0 p.functions in
      omega (arith, length-append (functions_from p.main 0 p.functions) (others_of p))

  rises : (i : ℕ) → i < length p.functions → get_or b i 0 < get_or b (i + 1) 0
  rises i lt =
      let next = bound_next (routines_begin p) rs i no_routine (fewer i lt) in
      let some = function_some p.main 0 i p.functions (others_of p) no_routine fits.functions lt in
      omega arith

  all_below : (i : ℕ) → i < length p.functions → get_or b (i + 1) 0 < 2 ^ 32
  all_below i lt =
      let next = bound_next (routines_begin p) rs i no_routine (fewer i lt) in
      let end = bounds_below (routines_begin p) rs i 0 no_routine (fewer i lt) in
      let inside = end_inside p fits in
      let small = image_small p fits in
      omega arith

  most : length p.functions ≤ length rs
  most =
      let c = functions_count p.main 0 p.functions in
      omega (arith, length-append (functions_from p.main 0 p.functions) (others_of p))

  pub are_names : AreNames (linked p).names
  are_names =
      let count = count_small rs in
      let room = (has_names p fits).room in
      let le = most in
      let near = routines_near p fits in
      let few : length rs < 2 ^ 30 = omega arith in
      let some = named_length (calls_walk p) p.functions in
      let own = named_functions p in
      let first = first_total (length own) rs in
      let colds = first.0 in
      let fewer = first.1 in
      let inside = end_inside p fits in
      let small = image_small p fits in
      let cold = cold_rows 1 (cold_begin p) (take (length own) rs) in
      let last = bounds_most (routines_begin p) rs (length own) 0 (omega arith) in
      let z : 0 + length own ≡ length own = omega arith in
      let to = ap (λ (n : ℕ). get_or b n 0) z in
      record {
        each = all_append IsNameRow (function_rows 0 b own) cold
            (rows_are b (length p.functions) (omega arith) rises all_below 0 own (omega arith)
            (named_all (calls_walk p) p.functions fits.names))
            (colds_named 1 (cold_begin p) (take (length own) rs)
            (first_near (length own) rs near) (omega arith) (omega arith));
        order = in_order b 0 0 (cold_begin p) own cold (omega arith) (omega arith)
            (colds_order 1 (cold_begin p) (take (length own) rs)
            (first_near (length own) rs near));
      }

pub names_are_read : NamesAreRead
names_are_read p fits = names_are (linked p) (is p fits) (are_names p fits)

-- ---- the name of a number

name_here : (b : List ℕ) (index k : ℕ) (fs : List LinearFunction) (others : List NameRow)
    (f : LinearFunction)
    → slice_get fs k ≡ Some f
    → name_of (index + k + 1) (function_rows index b fs ++ others) ≡ Some f.name
name_here b index k [] others f e = cc
name_here b index zero (g ∷ fs) others f e =
    let same : Some g ≡ Some f = e in
    ap (name_or (name_of (index + zero + 1) (function_rows (index + 1) b fs ++ others)) g.name)
    (eq-eqb (index + 1) (index + zero + 1) (omega arith))
    ∙ (let is : g ≡ f = cc in ap (λ (h : LinearFunction). Some h.name) is)
name_here b index (suc k) (g ∷ fs) others f e =
    let next : index + suc k + 1 ≡ index + 1 + k + 1 = omega arith in
    ap (name_or (name_of (index + suc k + 1) (function_rows (index + 1) b fs ++ others)) g.name)
    (ne_eqb (index + 1) (index + suc k + 1) (λ e. absurd (omega arith)))
    ∙ ap (λ (n : ℕ). name_of n (function_rows (index + 1) b fs ++ others)) next
    ∙ name_here b (index + 1) k fs others f e

pub functions_have_names : FunctionsHaveNames
functions_have_names p k f fits walks e =
    let rs = routines p in
    let b = bounds (routines_begin p) rs in
    let number : k + 1 ≡ 0 + k + 1 = omega arith in
    let rows = λ (fs : List LinearFunction). function_rows 0 b fs
    ++ cold_rows 1 (cold_begin p) (take (length fs) rs) in
    ap (λ (r : Result (List NameRow) NameErr). name_of (k + 1) (rows_read r))
    (names_are_read p fits)
    ∙ ap (λ (t : Bool). name_of (k + 1) (rows (named_if t p.functions))) walks
    ∙ ap (λ (n : ℕ). name_of n (rows p.functions)) number
    ∙ name_here b 0 k p.functions
    (cold_rows 1 (cold_begin p) (take (length p.functions) rs)) f e
