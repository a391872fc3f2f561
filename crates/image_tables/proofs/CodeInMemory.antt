-- The code of each routine is where the text is, and so are its cold parts.
use Rattle.std.proofs.Common.{◌≡◌, ℕ, zero, suc, ◌+◌, ◌<◌, ◌≤◌, Bool, true, false, List, [], ◌∷◌, ◌++◌, length, get_or, take, drop, Some, refl, sym, ap, subst, ◌∙◌, arith, append_assoc, length-append}
use Rattle.std.specs.Prelude.{if◌then◌else◌, slice_get}
use Rattle.std.specs.List.{AllByRecursion}
use Rattle.std.proofs.lemmas.Grind.{flat_map-append}
use Rattle.x64_emit.proofs.Parts.{all_taken, room_both}
use Rattle.image_tables.specs.Words.{Memory, Instr, chosen, IsExecutableAt, Instruction, LabelRange, LinearProgram, Layout, spelled, sizes, Links, template, template_size, body_size, code_from, is_cold, side_from, hot_code, cold_code, part_code, label_at, FitsProgram, RoutineView, routines, IsRoutineNear, SiteView, routine_size, cold_size, total, entry_code, entry_size, check_stack_at, routine_code, apart_code, routines_bytes, all_apart_bytes, site_blocks, text_begin, linked, Placed, PlacedPart, Cursor, past, placed_from, first_cursor, parts_of, site_of, placed, image_base, HasText, IsNear, links, links_of, routine_room, room, addresses, front_code, routine_bytes, apart_bytes, code_of_part}
use Rattle.template_code.specs.ColdParts.{same}
use Rattle.template_code.proofs.ColdParts.{side_all, body_size_both, code_both, label_in_side}
use Rattle.x64_emit.specs.Near.{IsInstructionNear}
use Rattle.x64_emit.specs.Rooms.{instruction_room, code_room}
use Rattle.x64_emit.proofs.Nearby.{code_in_room}
use Rattle.image_link.proofs.SavedLocals.{RoutineSaves, routines_save}
use Rattle.image_tables.proofs.Lemmas.{sizes_spelled, sizes_append, body_sizes, entry_sizes, entry_small, routine_small, has_places, routines_near, front_sizes, services_few}
use Rattle.image_tables.proofs.Lookups.{some_same, none_some}
use Rattle.image_tables.proofs.PartPlaces.{IsPart, each_part, part_split}

-- ---- bytes

pub executable_split : (m : Memory) (at : ℕ) (a b : List ℕ) → IsExecutableAt m at (a ++ b)
    → IsExecutableAt m at a × IsExecutableAt m (at + length a) b
executable_split m at [] b h = (
  tt,
  let e : at ≡ at + 0 = omega arith in
      subst (λ x. IsExecutableAt m x b) e h,
)
executable_split m at (x ∷ a) b h =
    let r = executable_split m (at + 1) a b h.2 in
    let e : at + 1 + length a ≡ at + length (x ∷ a) = omega arith in
    ((h.0, h.1, r.0), subst (λ y. IsExecutableAt m y b) e r.1)

-- of instructions
pub code_split : (m : Memory) (at : ℕ) (is js : List Instr)
    → IsExecutableAt m at (spelled (is ++ js))
    → IsExecutableAt m at (spelled is) × IsExecutableAt m (at + sizes is) (spelled js)
code_split m at is js h =
    let r = executable_split m at (spelled is) (spelled js)
    (subst (IsExecutableAt m at) (flat_map-append chosen is js) h) in
    (r.0, subst (λ (n : ℕ). IsExecutableAt m (at + n) (spelled js)) (sizes_spelled is) r.1)

-- ---- a routine

-- its instructions, and its bytes
pub code_length : (s : SiteView) (at cold : ℕ) (r : RoutineView) → IsRoutineNear r
    → length (spelled (routine_code s at cold r)) ≡ routine_size r
code_length s at cold r near =
    let k = links_of (addresses s at cold r) in
    let e = entry_sizes at (check_stack_at s.imports s.text) r near in
    let b = body_sizes k r.layout (at + entry_size r) (hot_code r.body) in
    omega (
      arith,
      sizes_spelled (routine_code s at cold r),
      sizes_append (entry_code at (check_stack_at s.imports s.text) r)
          (code_from k r.layout (at + entry_size r) (hot_code r.body)),
    )

pub routine_length : (s : SiteView) (at cold : ℕ) (r : RoutineView) → IsRoutineNear r
    → length (routine_bytes s at cold r) ≡ routine_size r
unfolding routine_bytes
routine_length s at cold r near = code_length s at cold r near

-- and of its cold parts
pub apart_length : (s : SiteView) (at cold : ℕ) (r : RoutineView)
    → length (apart_bytes s at cold r) ≡ cold_size r
unfolding apart_bytes
apart_length s at cold r =
    sizes_spelled (apart_code s at cold r)
    ∙ body_sizes (links_of (addresses s at cold r)) r.layout cold (cold_code r.body)

-- ---- how much room there is

-- both sides of instructions take what all of them do
rooms_sum : (rs : List LabelRange) (at : ℕ) (xs : List Instruction)
    → code_room (side_from rs false at xs) + code_room (side_from rs true at xs) ≡ code_room xs
rooms_sum rs at [] = refl
rooms_sum rs at (x ∷ xs) = by (is_cold rs at) (rooms_sum rs (suc at) xs)
  where
    by : (b : Bool)
        → code_room (side_from rs false (suc at) xs) + code_room (side_from rs true (suc at) xs)
        ≡ code_room xs
        → code_room (if same false b then x ∷ side_from rs false (suc at) xs
        else side_from rs false (suc at) xs)
        + code_room (if same true b then x ∷ side_from rs true (suc at) xs
        else side_from rs true (suc at) xs) ≡ instruction_room x + code_room xs
    by true more = omega arith
    by false more = omega arith

abbrev pub cold_room : RoutineView → ℕ
cold_room r = code_room (cold_code r.body)

abbrev cold_rooms : List RoutineView → ℕ
cold_rooms [] = 0
cold_rooms (r ∷ rs) = cold_room r + cold_rooms rs

pub cold_small : (r : RoutineView) → IsRoutineNear r → cold_size r ≤ cold_room r
cold_small r near =
    code_in_room r.layout (cold_code r.body)
    (side_all (IsInstructionNear r.layout) r.body.cold true 0 r.body.code near.code)

-- a routine and the room of its cold parts
pub both_small : (r : RoutineView) → IsRoutineNear r
    → routine_size r + cold_room r ≤ routine_room r
both_small r near =
    let e = entry_small r near in
    let h = code_in_room r.layout (hot_code r.body)
    (side_all (IsInstructionNear r.layout) r.body.cold false 0 r.body.code near.code) in
    let s = rooms_sum r.body.cold 0 r.body.code in
    omega arith

-- the code that isn't cold
pub hot_small : (r : RoutineView) → code_room (hot_code r.body) ≤ code_room r.body.code
hot_small r = let s = rooms_sum r.body.cold 0 r.body.code in omega arith

rooms_small : (rs : List RoutineView) → AllByRecursion IsRoutineNear rs
    → total rs + cold_rooms rs ≤ room rs
rooms_small [] near = omega arith
rooms_small (r ∷ rs) near =
    let b = both_small r near.0 in
    let t = rooms_small rs near.1 in
    omega arith

-- ---- all routines

-- a routine in a text that begins at an address: it is near, has room, and its bytes are there
pub record IsThere (s : SiteView) (text : List ℕ) (begin : ℕ) (x : Placed) : Type 0 where
  pub near : IsRoutineNear x.routine
  pub saves : RoutineSaves x.routine
  pub room : IsNear (x.begin + routine_room x.routine)
  pub before : List ℕ
  pub after : List ℕ
  pub bytes : text ≡ before ++ (routine_bytes s x.begin x.cold x.routine ++ after)
  pub here : begin + length before ≡ x.begin
  -- its cold parts
  pub cold_room : IsNear (x.cold + cold_room x.routine)
  pub ahead : List ℕ
  pub behind : List ℕ
  pub apart : text ≡ ahead ++ (apart_bytes s x.begin x.cold x.routine ++ behind)
  pub apart_here : begin + length ahead ≡ x.cold

module _ (s : SiteView) (text : List ℕ) (begin : ℕ) where
  there_from : (c : Cursor) (rs : List RoutineView) (before more ahead last : List ℕ) (index : ℕ)
      (x : Placed)
      → slice_get (placed_from s c rs) index ≡ Some x
      → AllByRecursion IsRoutineNear rs → AllByRecursion RoutineSaves rs
      → IsNear (c.begin + room rs) → IsNear (c.cold + cold_rooms rs)
      → text ≡ before ++ (routines_bytes s c.begin c.cold rs ++ more)
      → begin + length before ≡ c.begin
      → text ≡ ahead ++ (all_apart_bytes s c.begin c.cold rs ++ last)
      → begin + length ahead ≡ c.cold → IsThere s text begin x
  there_from c [] before more ahead last index x e near saves lt lt' is here apart there =
      absurd (none_some e)
  there_from c (r ∷ rs) before more ahead last zero x e near saves lt lt' is here apart there =
      let own = routine_bytes s c.begin c.cold r in
      let n = past s c r in
      let others = routines_bytes s n.begin n.cold rs in
      let colds = all_apart_bytes s n.begin n.cold rs in
      subst (IsThere s text begin) (some_same e)
      (record {
        near = near.0;
        saves = saves.0;
        room = omega arith;
        before = before;
        after = others ++ more;
        bytes = is ∙ ap (λ t. before ++ t) (append_assoc own others more);
        here = here;
        cold_room = omega arith;
        ahead = ahead;
        behind = colds ++ last;
        apart = apart ∙ ap (λ t. ahead ++ t)
            (append_assoc (apart_bytes s c.begin c.cold r) colds last);
        apart_here = there;
      })
  there_from c (r ∷ rs) before more ahead last (suc index) x e near saves lt lt' is here apart
      there =
      let small = routine_small r near.0 in
      let cold = cold_small r near.0 in
      let n = past s c r in
      let bytes = routine_bytes s c.begin c.cold r in
      let others = routines_bytes s n.begin n.cold rs in
      let long = routine_length s c.begin c.cold r near.0 in
      let colds = apart_bytes s c.begin c.cold r in
      let longer = apart_length s c.begin c.cold r in
      let more_colds = all_apart_bytes s n.begin n.cold rs in
      there_from n rs (before ++ bytes) more (ahead ++ colds) last
      index x e near.1 saves.1 (omega arith) (omega arith)
      (is ∙ ap (λ t. before ++ t) (append_assoc bytes others more)
      ∙ sym (append_assoc before bytes (others ++ more)))
      (omega (arith, length-append before bytes))
      (apart ∙ ap (λ t. ahead ++ t) (append_assoc colds more_colds last)
      ∙ sym (append_assoc ahead colds (more_colds ++ last)))
      (omega (arith, length-append ahead colds))

pub routines_length : (s : SiteView) (c : Cursor) (rs : List RoutineView)
    → AllByRecursion IsRoutineNear rs
    → length (routines_bytes s c.begin c.cold rs) ≡ total rs
routines_length s c [] near = refl
routines_length s c (r ∷ rs) near =
    let n = past s c r in
    let l = routine_length s c.begin c.cold r near.0 in
    let m = routines_length s n rs near.1 in
    omega (
      arith,
      length-append (routine_bytes s c.begin c.cold r) (routines_bytes s n.begin n.cold rs),
    )

pub there : (p : LinearProgram) (index : ℕ) (x : Placed) → FitsProgram p
    → slice_get (placed p) index ≡ Some x → IsThere (site_of p) (linked p).text
    (text_begin p.globals) x
there p index x fits e =
    let s = site_of p in
    let c = first_cursor p in
    let rs = routines p in
    let near = routines_near p fits in
    let places = has_places p fits in
    let room = places.room in
    let few = fits.globals in
    let services = services_few p in
    let f = front_sizes s.imports s.text s.rdata in
    let front = spelled (front_code s.imports s.text s.rdata) in
    let hot = routines_bytes s c.begin c.cold rs in
    let cold = all_apart_bytes s c.begin c.cold rs in
    let last = site_blocks s in
    let long = routines_length s c rs near in
    let rooms = rooms_small rs near in
    there_from s (linked p).text (text_begin p.globals) c rs front (cold ++ last) (front ++ hot)
    last index x e near (routines_save p fits) (omega arith) (omega arith)
    (append_assoc (front ++ hot) cold last ∙ append_assoc front hot (cold ++ last))
    (omega (arith, sizes_spelled (front_code s.imports s.text s.rdata)))
    (append_assoc (front ++ hot) cold last)
    (omega (
      arith,
      length-append front hot,
      sizes_spelled (front_code s.imports s.text s.rdata),
    ))

-- bytes of the text are at their address
pub piece_is_at : (p : LinearProgram) (m : Memory) (at : ℕ) (before bytes after : List ℕ)
    → HasText m p
    → (linked p).text ≡ before ++ (bytes ++ after)
    → text_begin p.globals + length before ≡ at → IsExecutableAt m (image_base + at) bytes
piece_is_at p m at before bytes after text e here =
    let begin = image_base + text_begin p.globals in
    let there : begin + length before ≡ image_base + at = omega arith in
    let r = executable_split m begin before (bytes ++ after)
    (subst (IsExecutableAt m begin) e text) in
    (executable_split m (image_base + at) bytes after
    (subst (λ (n : ℕ). IsExecutableAt m n (bytes ++ after)) there r.1)).0

-- its instructions are at its address
pub routine_is_at : (p : LinearProgram) (m : Memory) (x : Placed) → HasText m p
    → IsThere (site_of p) (linked p).text (text_begin p.globals) x
    → IsExecutableAt m (image_base + x.begin)
    (spelled (routine_code (site_of p) x.begin x.cold x.routine))
unfolding routine_bytes
routine_is_at p m x text h =
    piece_is_at p m x.begin h.before (routine_bytes (site_of p) x.begin x.cold x.routine) h.after
    text h.bytes h.here

-- and those of its cold parts at theirs
pub apart_is_at : (p : LinearProgram) (m : Memory) (x : Placed) → HasText m p
    → IsThere (site_of p) (linked p).text (text_begin p.globals) x
    → IsExecutableAt m (image_base + x.cold)
    (spelled (apart_code (site_of p) x.begin x.cold x.routine))
unfolding apart_bytes
apart_is_at p m x text h =
    piece_is_at p m x.cold h.ahead (apart_bytes (site_of p) x.begin x.cold x.routine) h.behind
    text h.apart h.apart_here

-- ---- an instruction of a body

pub record IsTemplate (k : Links) (y : Layout) (at : ℕ) (is : List Instruction) (to : ℕ)
    (i : Instruction) : Type 0 where
  pub before : List Instr
  pub after : List Instr
  pub parts : code_from k y at is ≡ before ++ (template k y to i ++ after)
  pub here : at + sizes before ≡ to
  pub inside : to + template_size y i ≤ at + body_size y is

-- between others
template_between : (k : Links) (y : Layout) (at : ℕ) (front : List Instruction) (i : Instruction)
    (back : List Instruction)
    → IsTemplate k y at (front ++ (i ∷ back)) (at + body_size y front) i
template_between k y at front i back =
    let to = at + body_size y front in
    let rest = code_from k y (to + template_size y i) back in
    let s = body_sizes k y at front in
    let b = body_size_both y front (i ∷ back) in
    record {
      before = code_from k y at front;
      after = rest;
      parts = code_both k y at front (i ∷ back);
      here = omega arith;
      inside = omega arith;
    }

pub get_is : (is : List Instruction) (number : ℕ) (i : Instruction) → slice_get is number ≡ Some i
    → (number < length is) × (get_or is number i ≡ i)
get_is [] number i e = absurd (none_some e)
get_is (j ∷ is) zero i e = (omega arith, some_same e)
get_is (j ∷ is) (suc number) i e = let r = get_is is number i e in (
  let lt = r.0 in omega arith,
  r.1,
)

-- on its side
pub template_there : (k : Links) (y : Layout) (hot cold : ℕ) (rs : List LabelRange)
    (is : List Instruction) (number : ℕ) (i : Instruction) → slice_get is number ≡ Some i
    → IsTemplate k y (if is_cold rs number then cold else hot)
    (side_from rs (is_cold rs number) 0 is)
    (label_at y hot cold rs is number) i
template_there k y hot cold rs is number i e =
    let g = get_is is number i e in
    let c = is_cold rs number in
    let at = if c then cold else hot in
    let back = side_from rs c (suc number) (drop (suc number) is) in
    let front = side_from rs c 0 (take number is) in
    let split = label_in_side rs is number i g.0 ∙ ap (λ (j : Instruction). front ++ (j ∷ back)) g.1
    in
    subst (λ (xs : List Instruction). IsTemplate k y at xs (label_at y hot cold rs is number) i)
    (sym split) (template_between k y at front i back)

-- ---- a cold part

pub part_is_at : (p : LinearProgram) (m : Memory) (x : Placed) (q : PlacedPart)
    → IsPart x.routine.layout x.routine.body.cold x.cold x.routine.body.code q
    → IsExecutableAt m (image_base + x.cold)
    (spelled (apart_code (site_of p) x.begin x.cold x.routine))
    → IsExecutableAt m (image_base + q.begin) (spelled (code_of_part p x q))
part_is_at p m x q part apart =
    let y = x.routine.layout in
    let rs = x.routine.body.cold in
    let code = x.routine.body.code in
    let k = links p x in
    let front = side_from rs true 0 (take q.labels.begin code) in
    let own = part_code code q.labels in
    let back = side_from rs true q.labels.end (drop q.labels.end code) in
    let at = x.cold + body_size y front in
    let begins = part.begins in
    let here : at ≡ q.begin = omega arith in
    let split : apart_code (site_of p) x.begin x.cold x.routine
    ≡ code_from k y x.cold front ++ (code_from k y at own
    ++ code_from k y (at + body_size y own) back) =
    ap (code_from k y x.cold) (part_split y rs x.cold code q part)
    ∙ code_both k y x.cold front (own ++ back)
    ∙ ap (λ t. code_from k y x.cold front ++ t) (code_both k y at own back) in
    let s = body_sizes k y x.cold front in
    let there : image_base + x.cold + sizes (code_from k y x.cold front)
    ≡ image_base + q.begin = omega arith in
    let from = (code_split m (image_base + x.cold) (code_from k y x.cold front)
    (code_from k y at own ++ code_from k y (at + body_size y own) back)
    (subst (λ (is : List Instr). IsExecutableAt m (image_base + x.cold) (spelled is)) split
    apart)).1 in
    let first = (code_split m (image_base + x.cold + sizes (code_from k y x.cold front))
    (code_from k y at own) (code_from k y (at + body_size y own) back) from).0 in
    subst (λ (n : ℕ). IsExecutableAt m (image_base + n) (spelled (code_from k y n own))) here
    (subst (λ (n : ℕ). IsExecutableAt m n (spelled (code_from k y at own)))
    (let z : image_base + x.cold + sizes (code_from k y x.cold front) ≡ image_base + at =
    omega arith in z) first)

-- ---- the cold parts of a routine

pub placed_part : (x : Placed) (n : ℕ) (q : PlacedPart) → IsRoutineNear x.routine
    → slice_get (parts_of x) n ≡ Some q
    → IsPart x.routine.layout x.routine.body.cold x.cold x.routine.body.code q
placed_part x n q near e =
    each_part x.routine.layout x.routine.body.cold x.cold x.routine.body.code x.chained near.cold n
    q e

-- a part has its room in that of all
pub part_room : (x : Placed) (q : PlacedPart) → IsRoutineNear x.routine
    → IsPart x.routine.layout x.routine.body.cold x.cold x.routine.body.code q
    → q.begin + code_room (part_code x.routine.body.code q.labels)
    ≤ x.cold + cold_room x.routine
part_room x q near part =
    let y = x.routine.layout in
    let rs = x.routine.body.cold in
    let code = x.routine.body.code in
    let front = side_from rs true 0 (take q.labels.begin code) in
    let own = part_code code q.labels in
    let back = side_from rs true q.labels.end (drop q.labels.end code) in
    let begins = part.begins in
    let whole = ap code_room (part_split y rs x.cold code q part) in
    let both = room_both front (own ++ back) in
    let more = room_both own back in
    let first = code_in_room y front (side_all (IsInstructionNear y) rs true 0
    (take q.labels.begin code)
    (all_taken (IsInstructionNear y) q.labels.begin code near.code)) in
    omega arith
