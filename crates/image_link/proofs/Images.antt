-- The image of routines that have room can be written.
use Rattle.template_code.specs.declared.layout.TheConstants.{NO_REGISTERS}
use Rattle.std.proofs.Common.{◌≡◌, ℕ, zero, suc, ◌+◌, ◌-◌, ◌*◌, ◌^◌, ◌<◌, ◌≤◌, ◌==◌, Bool, true, false, not, List, [], ◌∷◌, ◌++◌, length, get_or, take, drop, map, None, Result, Ok, Err, refl, sym, ap, subst, ◌∙◌, arith, length-append}
use Rattle.std.specs.Prelude.{◌&&◌, IfOk}
use Rattle.std.specs.List.{AllByRecursion}
use Rattle.std.proofs.lemmas.Bool.{eq-eqb}
use Rattle.std.proofs.lemmas.List.{length-take-le}
use Rattle.image_link.specs.Words.{ImportedService, LinearBody, LinearFunction, LinearFunclet, LinearProgram, CanBeImage, ImageContents, RoutineView, is_leaf, framed, leaf_if, functions_from, funclet, no_function, function_of_index, routines, IsRoutineNear, IsSiteNear, AreFew, HasRoom, HasNames, HasPlaces, table_bytes, SiteView, room, routine_size, bounds, first_routine_at, text_bytes, infos_room, all_infos, all_ranges, first, first_cold, first_block, blocks_at, names_of, total, cold_size, xdata_begin, IsPlacement, site, image_of_routines, nothing, CodeRange, parts_at, part_rows, cold_rows, NameRow, names_size, name_table_size, calls_walk, named_if, named_functions, function_rows, names_room, services_of, linked, FitsProgram, tables_room, function_bodies, funclet_bodies, program_tables_room}
use Rattle.image_link.specs.declared.placement.Placement.{Placement}
use Rattle.image_link.specs.declared.routine.Entry.TheVariants as entries
use Rattle.image_link.specs.Laws.{ImagesAreSmall}
use Rattle.image_link.proofs.Entries.{framed_some}
use Rattle.image_link.proofs.Front.{imports_small, services_few}
use Rattle.image_link.proofs.Blocks.{blocks_small, blocks_few}
use Rattle.image_link.proofs.Nearness.{function_facts_fit, function_at, routines_near, routines_room}
use Rattle.image_link.proofs.Infos.{parts_length}
use Rattle.image_link.proofs.Bounds.{bounds_length, bounds_least, bounds_below, total_small, bounds_near, take_near, drop_near, text_length, cold_count, cold_count_taken, all_infos_length, tables_small, count_small}
use Rattle.seh_num.specs.declared.limit.TheConstants.{MOST_GLOBALS}

pub if_ok : {A E : Type 0} (P Q : A → Type 0) (r : Result A E) → ((x : A) → P x → Q x) → IfOk r P
    → IfOk r Q
if_ok P Q (Ok x) f p = f x p
if_ok P Q (Err e) f p = tt

-- ---- bounds

pub there : (b : List ℕ) (at : ℕ) (rs : List RoutineView) (i : ℕ) → b ≡ bounds at rs → i ≤ length rs
    → i < length b
there b at rs i e le = let l = ap length e in omega (arith, bounds_length at rs)

pub past : (b : List ℕ) (at : ℕ) (rs : List RoutineView) (i text : ℕ) → b ≡ bounds at rs
    → i ≤ length rs → text ≤ at → text ≤ get_or b i 0
past b at rs i text e le lt = let l = bounds_least at rs i 0 le in
    let s = ap (λ (xs : List ℕ). get_or xs i 0) e in omega arith

-- a site has no more blocks than functions
pub site_fewer : (imports : List ImportedService) (g : List ℕ) (rs : List RoutineView)
    (functions : ℕ) → functions ≤ length rs
    → (site imports g rs functions).blocks.count
    ≤ length (site imports g rs functions).functions
site_fewer imports g rs functions fewer =
    let l = bounds_length (first imports g) rs in
    let few = blocks_few imports (first_block imports g rs) functions in
    omega (
      arith,
      length-take-le functions (bounds (first imports g) rs) (omega arith),
    )

pub site_near : (imports : List ImportedService) (g : List ℕ) (rs : List RoutineView)
    (functions main : ℕ) → AreFew imports → length g ≤ MOST_GLOBALS
    → AllByRecursion IsRoutineNear rs → HasPlaces rs functions main
    → IsSiteNear (site imports g rs functions)
site_near imports g rs functions main services few near places =
    let t = total_small rs near in
    let r = places.room in
    let b = bounds_near (first imports g) rs near (omega arith) in
    let fewer = places.fewer in
    let blocks = blocks_small imports functions in
    record {
      imports = services;
      text = omega arith;
      rdata = omega arith;
      functions = take_near functions (bounds (first imports g) rs) b;
      funclets = drop_near functions (bounds (first imports g) rs) b;
      blocks = omega arith;
      fewer = site_fewer imports g rs functions fewer;
    }

-- the rows and the names take as many bytes as they have room
rows_small : (index : ℕ) (b : List ℕ) (fs : List LinearFunction)
    → 16 * length (function_rows index b fs) + names_size (function_rows index b fs) ≡ names_room fs
rows_small index b [] = refl
rows_small index b (f ∷ fs) = let r = rows_small (index + 1) b fs in omega arith

-- those of cold parts have no name
part_rows_small : (number : ℕ) (ps : List CodeRange)
    → 16 * length (part_rows number ps) + names_size (part_rows number ps) ≡ 17 * length ps
part_rows_small number [] = refl
part_rows_small number (p ∷ ps) = let r = part_rows_small number ps in omega arith

names_both : (a b : List NameRow) → names_size (a ++ b) ≡ names_size a + names_size b
names_both [] b = omega arith
names_both (r ∷ a) b = let n = names_both a b in omega arith

cold_rows_small : (number cold : ℕ) (rs : List RoutineView)
    → 16 * length (cold_rows number cold rs) + names_size (cold_rows number cold rs)
    ≡ 17 * cold_count rs
cold_rows_small number cold [] = refl
cold_rows_small number cold (r ∷ rs) =
    let first = part_rows number (parts_at cold r) in
    let more = cold_rows (number + 1) (cold + cold_size r) rs in
    let p = part_rows_small number (parts_at cold r) in
    let l = parts_length cold r in
    let c = cold_rows_small (number + 1) (cold + cold_size r) rs in
    omega (arith, length-append first more, names_both first more)

table_by : (rows : List NameRow)
    → name_table_size rows ≤ 4 + (16 * length rows + names_size rows)
table_by [] = omega arith
table_by (r ∷ rs) = omega arith

table_small : (imports : List ImportedService) (g : List ℕ) (rs : List RoutineView)
    (named : List LinearFunction)
    → name_table_size (names_of imports g rs named) ≤ 4 + names_room named + 17 * cold_count rs
table_small imports g rs named =
    let own = function_rows 0 (bounds (first imports g) rs) named in
    let apart = cold_rows 1 (first_cold imports g rs) (take (length named) rs) in
    let a = rows_small 0 (bounds (first imports g) rs) named in
    let b = cold_rows_small 1 (first_cold imports g rs) (take (length named) rs) in
    let c = cold_count_taken (length named) rs in
    let t = table_by (own ++ apart) in
    omega (arith, length-append own apart, names_both own apart)

-- the tables end below 2^31
pub tables_fit : (imports : List ImportedService) (g : List ℕ) (rs : List RoutineView)
    (functions : ℕ) → AreFew imports → length g ≤ MOST_GLOBALS
    → AllByRecursion IsRoutineNear rs → HasRoom rs → functions ≤ length rs
    → xdata_begin imports g rs functions + infos_room rs < 2 ^ 31
tables_fit imports g rs functions services few near room fewer =
    let t = total_small rs near in
    let b = blocks_small imports functions in
    let i = imports_small imports services in
    omega arith

pub is_program : (imports : List ImportedService) (g : List ℕ) (rs : List RoutineView)
    (functions main : ℕ) (named : List LinearFunction) → AreFew imports → length g ≤ MOST_GLOBALS
    → AllByRecursion IsRoutineNear rs → HasPlaces rs functions main → HasNames rs named
    → (d : RoutineView) → CanBeImage (image_of_routines imports g rs functions main named)
is_program imports g rs functions main named services few near places names d =
    let s = site imports g rs functions in
    let i = imports_small imports services in
    let t = total_small rs near in
    let r = names.room in
    let n = count_small rs in
    let at = first imports g in
    let cold = first_cold imports g rs in
    let table = table_small imports g rs named in
    let fewer = places.fewer in
    let blocks = blocks_small imports functions in
    let text = text_length s rs near (site_fewer imports g rs functions fewer) in
    let xdata = all_infos_length s (xdata_begin imports g rs functions) at cold rs near in
    let pdata = tables_small s (xdata_begin imports g rs functions) at cold rs in
    let some = places.some d in
    let below = bounds_below (first imports g) rs main 0 d places.there in
    record {
      imports = omega arith;
      whole = omega arith;
      some = omega arith;
      stored = omega arith;
      entry = omega arith;
      end = omega arith;
    }

-- ---- what the code has computed

-- the addresses that routines refer to, where the sections lie at p and the routines between bounds
module _ (imports : List ImportedService) (g b : List ℕ) (rs : List RoutineView) (functions : ℕ)
    (p : Placement) (is : IsPlacement imports g rs functions p)
    (between : b ≡ bounds (first imports g) rs) (at : ℕ) (behind : at ≡ first_block imports g rs)
    (s : SiteView)
    (same : s
    ≡ record {
      imports = imports;
      text = p.text;
      rdata = p.rdata;
      functions = take functions b;
      funclets = drop functions b;
      blocks = blocks_at imports at functions;
    }) where
  site_is : s ≡ site imports g rs functions
  site_is =
      let text = is.text in
      let rdata = is.rdata in
      same ∙ λ i. record {
        imports = imports;
        text = text i;
        rdata = rdata i;
        functions = take functions (between i);
        funclets = drop functions (between i);
        blocks = blocks_at imports (behind i) functions;
      }

  pub is_site_near : (main : ℕ) → AreFew imports → length g ≤ MOST_GLOBALS
      → AllByRecursion IsRoutineNear rs → HasPlaces rs functions main → IsSiteNear s
  is_site_near main services few near places = subst IsSiteNear (sym site_is)
      (site_near imports g rs functions main services few near places)

  pub image_is : (main entry start : ℕ) (text xdata pdata : List ℕ) (rows : List NameRow)
      (named : List LinearFunction) → entry ≡ get_or b main 0 - p.text
      → start ≡ first_routine_at imports p.text → text ≡ text_bytes s rs
      → xdata ≡ all_infos s p.xdata start (start + total rs) rs
      → pdata ≡ table_bytes (all_ranges s p.xdata start (start + total rs) rs)
      → rows ≡ names_of imports g rs named
      → record {
        imports = imports;
        data_size = p.data_size;
        data_bytes = g;
        text = text;
        entry = entry;
        xdata = xdata;
        pdata = pdata;
        names = rows;
      } ≡ image_of_routines imports g rs functions main named
  image_is main entry start text xdata pdata rows named n e k i q w =
      let d = is.data_size in
      let begin = is.text in
      let table = is.xdata in
      let of = site imports g rs functions in
      let text' = k ∙ ap (λ (s : SiteView). text_bytes s rs) site_is in
      let entry' = n ∙ ap (λ (xs : List ℕ). get_or xs main 0 - p.text) between
      ∙ ap (λ (n : ℕ). get_or (bounds (first imports g) rs) main 0 - n) begin in
      let here = e ∙ ap (first_routine_at imports) begin in
      let xdata' = i ∙ (λ j. all_infos (site_is j) (table j) (here j) (here j + total rs) rs) in
      let pdata' = q ∙ (λ j. table_bytes (all_ranges (site_is j) (table j) (here j)
      (here j + total rs) rs)) in
      λ i. record {
        imports = imports;
        data_size = d i;
        data_bytes = g;
        text = text' i;
        entry = entry' i;
        xdata = xdata' i;
        pdata = pdata' i;
        names = w i;
      }

abbrev pub no_routine : RoutineView
no_routine = record {
  entry = entries.Function 0;
  frame = None;
  layout = record {
    base = None;
    pointers = 0;
    locals = 0;
    temporaries = 0;
    slots = 0;
    frame = 0;
    registers = NO_REGISTERS;
    arrivals = 0;
    size = 0;
    pushes = 0;
    saves = 0;
    framed = false;
  };
  body = nothing;
}

-- ---- programs

pub functions_count : (main index : ℕ) (fs : List LinearFunction)
    → length (functions_from main index fs) ≡ length fs
functions_count main index [] = refl
functions_count main index (f ∷ fs) = let c = functions_count main (suc index) fs in omega arith

functions_main : (main index i : ℕ) (fs : List LinearFunction) (d : RoutineView)
    (e : LinearFunction) → i < length fs → index + i ≡ main
    → get_or (functions_from main index fs) i d ≡ framed (get_or fs i e)
functions_main main index i [] d e lt is = absurd (omega arith)
functions_main main index zero (f ∷ fs) d e lt is = ap
    (λ (b : Bool). leaf_if (not b && is_leaf f) f)
    (eq-eqb index main (let z : index ≡ main = omega arith in z))
functions_main main index (suc i) (f ∷ fs) d e lt is = functions_main main (suc index) i fs d e
    (omega arith) (let z : suc index + i ≡ main = omega arith in z)

get_first : (a b : List RoutineView) (i : ℕ) (d : RoutineView) → i < length a
    → get_or (a ++ b) i d ≡ get_or a i d
get_first [] b i d lt = absurd (omega arith)
get_first (r ∷ a) b zero d lt = refl
get_first (r ∷ a) b (suc i) d lt = get_first a b i d (omega arith)

main_is : (p : LinearProgram) → FitsProgram p → (d : RoutineView)
    → get_or (routines p) p.main d ≡ framed (get_or p.functions p.main no_function)
main_is p fits d =
    let lt = fits.main in
    let c = functions_count p.main 0 p.functions in
    get_first (functions_from p.main 0 p.functions) (map (funclet p) p.funclets) p.main d
    (omega arith) ∙ functions_main p.main 0 p.main p.functions d no_function lt
    (let z : 0 + p.main ≡ p.main = omega arith in z)

same_body : (b : Bool) (f : LinearFunction) → (leaf_if b f).body ≡ f.body
same_body true f = refl
same_body false f = refl

functions_tables : (main index : ℕ) (fs : List LinearFunction)
    → infos_room (functions_from main index fs) ≡ tables_room (function_bodies fs)
functions_tables main index [] = refl
functions_tables main index (f ∷ fs) =
    let r = functions_tables main (suc index) fs in
    let same = same_body (not (index == main) && is_leaf f) f in
    let s = ap (λ (b : LinearBody). length b.regions) same in
    let t = ap (λ (b : LinearBody). length b.cold) same in
    omega arith

funclets_tables : (p : LinearProgram) (fs : List LinearFunclet)
    → infos_room (map (funclet p) fs) ≡ tables_room (funclet_bodies fs)
funclets_tables p [] = refl
funclets_tables p (f ∷ fs) = let r = funclets_tables p fs in omega arith

both_tables : (a b : List RoutineView) → infos_room (a ++ b) ≡ infos_room a + infos_room b
both_tables [] b = omega arith
both_tables (r ∷ a) b = let s = both_tables a b in omega arith

tables_are : (p : LinearProgram) → infos_room (routines p) ≡ program_tables_room p
tables_are p =
    let u = functions_tables p.main 0 p.functions in
    let v = funclets_tables p p.funclets in
    omega (arith, both_tables (functions_from p.main 0 p.functions) (map (funclet p) p.funclets))

pub has_places : (p : LinearProgram) → FitsProgram p
    → HasPlaces (routines p) (length p.functions) p.main
has_places p fits =
    let c = functions_count p.main 0 p.functions in
    let a = functions_from p.main 0 p.functions in
    let b = map (funclet p) p.funclets in
    let lt = fits.main in
    let t = fits.small in
    let u = tables_are p in
    let v = routines_room p in
    record {
      room = omega arith;
      fewer = omega (arith, length-append a b);
      there = omega (arith, length-append a b);
      some = λ d. subst (λ (r : RoutineView). 0 < routine_size r) (sym (main_is p fits d))
          (framed_some (get_or p.functions p.main no_function)
          (function_facts_fit (function_of_index p p.main) (function_at p p.main fits lt)));
    }

named_within : (walks : Bool) (fs : List LinearFunction)
    → names_room (named_if walks fs) ≤ names_room fs
named_within true fs = omega arith
named_within false fs = omega arith

named_fewer : (walks : Bool) (fs : List LinearFunction) → length (named_if walks fs) ≤ length fs
named_fewer true fs = omega arith
named_fewer false fs = omega arith

pub has_names : (p : LinearProgram) → FitsProgram p → HasNames (routines p) (named_functions p)
has_names p fits =
    let a = named_within (calls_walk p) p.functions in
    let b = named_fewer (calls_walk p) p.functions in
    let c = (has_places p fits).fewer in
    let t = fits.small in
    let u = tables_are p in
    let v = routines_room p in
    record { room = omega arith; fewer = omega arith }

-- the image of what a program is made of
pub linked_is : (p : LinearProgram) (image : ImageContents) (imports : List ImportedService)
    (g : List ℕ) (rs : List RoutineView) (functions main : ℕ) (named : List LinearFunction)
    → image ≡ image_of_routines imports g rs functions main named → imports ≡ services_of p
    → g ≡ p.globals
    → rs ≡ routines p → functions ≡ length p.functions → main ≡ p.main
    → named ≡ named_functions p → image ≡ linked p
linked_is p image imports g rs functions main named e i n r f m a =
    e ∙ (λ k. image_of_routines (i k) (n k) (r k) (f k) (m k) (a k))

-- the image of a program that fits takes at most 256 MiB
pub images_are_small : ImagesAreSmall
images_are_small p fits =
    let imports = services_of p in
    let g = p.globals in
    let rs = routines p in
    let near = routines_near p fits in
    let s = site imports g rs (length p.functions) in
    let tables = imports_small imports (services_few p) in
    let t = total_small rs near in
    let at = first imports g in
    let cold = first_cold imports g rs in
    let v = routines_room p in
    let u = tables_are p in
    let few = fits.globals in
    let small = fits.small in
    let names = named_within (calls_walk p) p.functions in
    let table = table_small imports g rs (named_functions p) in
    let fewer = (has_places p fits).fewer in
    let blocks = blocks_small imports (length p.functions) in
    let text = text_length s rs near (site_fewer imports g rs (length p.functions) fewer) in
    let info = xdata_begin imports g rs (length p.functions) in
    let xdata = all_infos_length s info at cold rs near in
    let pdata = tables_small s info at cold rs in
    omega arith
