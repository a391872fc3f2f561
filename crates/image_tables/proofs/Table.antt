-- The function table of a program's image, read whole.
use Rattle.std.proofs.Common.{◌*◌, ◌≡◌, ℕ, zero, suc, ◌+◌, ◌%◌, ◌^◌, ◌<◌, ◌≤◌, Bool, true, false, List, [], ◌∷◌, ◌++◌, length, drop, map, Option, Some, None, Ok, refl, sym, ap, subst, ◌∙◌, arith, append_assoc, length-append}
use Rattle.std.specs.List.{AllByRecursion}
use Rattle.std.proofs.lemmas.Grind.{flat_map-append}
use Rattle.std.proofs.lemmas.List.{map-append, length-map}
use Rattle.image_tables.specs.Words.{Image, step_of, site_blocks, stored, is_c_handler, Table, Entry, or_none, ◌>>=◌, unwind_bytes, CSpecificHandler, ImageContents, CanBeImage, sizes_of, text_at, rdata_at, xdata_at, Region, Instruction, LabelRange, LinearProgram, FrameLayout, Layout, info_of, thunk, distance, chosen, spelled, body_size, part_code, FitsProgram, RoutineView, routines, IsFrameNear, IsRoutineNear, SiteView, routine_size, cold_size, total, cold_total, entry_size, own_addresses, thunk_at, front_code, routines_bytes, all_apart_bytes, bounds, trailer, scope_record, scope_records, scope_table, info_if, info_bytes, linked, Placed, PlacedPart, Cursor, put, past, end_of, parts_from, parts_of, placed_from, first_cursor, site_of, infos_begin, placed, HasRanges, HasRegions, range_of, scopes_of, has_rows, entry_if, part_entry, chained_if, entries, AreInOrder, MOST_IMAGE, IsStoredAt, IsRuntimeFunction, WrittenEntry, HasScopes, IsEntryWritten, as_read, ranges_of, info_written, Tables, directory, all_entries, tables, scope_bytes, table_bytes, service_thunk, info_bytes_of, infos, chained_info, chained_bytes, chained_infos, CHAINED_SIZE, fragments_of, fragments, all_ranges, unwind_of, TablesAreRead, front_size, slot_of, routines_begin, cold_begin, chained_begin}
use Rattle.image_tables.specs.Entries.{entries_of, chained_of}
use Rattle.eh_tables.specs.declared.range.RuntimeFunction.{RuntimeFunction}
use Rattle.eh_write.specs.ReadAgain.{IsInfoWritten}
use Rattle.eh_write.specs.ReadAgain as written_order
use Rattle.eh_tables.specs.Tables as reading
use Rattle.eh_write.proofs.TablesAgain.{reads_ranges}
use Rattle.eh_write.proofs.WholeAgain.{reads_table}
use Rattle.pe_write.specs.Program as images
use Rattle.x64_emit.specs.Bodies.{part_ranges}
use Rattle.image_link.specs.declared.fragments.Fragment.{Fragment}
use Rattle.image_link.specs.Places.{parts_at}
use Rattle.image_link.specs.Tables.{fragment, fragments_if}
use Rattle.image_link.specs.Walks.{named_functions}
use Rattle.image_tables.proofs.Lemmas.{can_be_written, listed, text_length, is_program, tables_fit, site_fewer, has_places, has_names, no_routine, routines_near, services_few, services_there, thunk_there}
use Rattle.image_tables.specs.RegionRanges.{IsRange as IsRegionRange}
use Rattle.image_tables.proofs.RoutineRanges.{RoutineHasRanges, routines_have}
use Rattle.image_tables.proofs.ImagePieces.{text_there, xdata_there, pdata_there}
use Rattle.image_tables.proofs.Handlers.{handler_is_c, thunk_bytes}
use Rattle.image_tables.proofs.RowBounds.{AreBelow, checked_is, rows_within, rows_small}
use Rattle.image_tables.proofs.Infos.{is_trailer, has_trailer, no_parent, handled, is_info, unwind_some, info_aligned, chained_length, chained_is_info, chained_can_be_written}
use Rattle.image_tables.proofs.EntryOrder.{all_in_order}
use Rattle.image_tables.proofs.WrittenEntries.{own_of, written_if, written_from, part_written, parts_written_if, parts_written, ranges_same, parts_same, ranges_small, parts_small, infos_few, infos_aligned}

-- ---- the addresses of funclets

bounds_below : (size at : ℕ) (rs : List RoutineView) → at + total rs < size
    → AreBelow size (bounds at rs)
bounds_below size at [] lt = (omega arith, tt)
bounds_below size at (r ∷ rs) lt = (
  omega arith,
  bounds_below size (at + routine_size r) rs (omega arith),
)

drop_below : (size n : ℕ) (xs : List ℕ) → AreBelow size xs → AreBelow size (drop n xs)
drop_below size zero xs all = all
drop_below size (suc n) [] all = tt
drop_below size (suc n) (x ∷ xs) all = drop_below size n xs all.1

-- ---- pieces

-- the unwind info of a routine with a frame
bytes_of : (s : SiteView) (x : Placed) (f : FrameLayout) → x.routine.frame ≡ Some f
    → info_bytes s x.begin x.cold x.routine
    ≡ info_bytes_of s (own_addresses x.begin x.cold x.routine).labels
    (own_addresses x.begin x.cold x.routine).end x.routine f
unfolding info_bytes
bytes_of s x f e =
    let own = own_addresses x.begin x.cold x.routine in
    ap (info_if s own.labels own.end x.routine) e

-- ---- a whole program

module _ (p : LinearProgram) (fits : FitsProgram p) where
  abbrev rs : List RoutineView
  rs = routines p

  abbrev s : SiteView
  s = site_of p

  abbrev program : ImageContents
  program = linked p

  abbrev image : Image
  image = images.image_of program

  pub near : AllByRecursion IsRoutineNear rs
  near = routines_near p fits

  pub is : CanBeImage program
  is = is_program s.imports p.globals rs (length p.functions) p.main (named_functions p)
      (services_few p) fits.globals near (has_places p fits) (has_names p fits) no_routine

  -- ---- its sizes

  pub text_is : length program.text
      ≡ front_size s.imports + total rs + cold_total rs + step_of s.blocks * s.blocks.count
  text_is =
      text_length s rs near
      (site_fewer s.imports p.globals rs (length p.functions) (has_places p fits).fewer)

  pub rdata_is : rdata_at (sizes_of program) ≡ s.rdata
  rdata_is = let t = text_is in omega arith

  pub infos_are : xdata_at (sizes_of program) ≡ infos_begin p
  infos_are = let t = text_is in omega arith

  pub end_inside : cold_begin p + cold_total rs < image.size
  end_inside = let t = text_is in omega arith

  -- with the blocks
  pub blocks_inside : s.blocks.first + step_of s.blocks * s.blocks.count < image.size
  blocks_inside = let t = text_is in omega arith

  pub image_small : image.size < 2 ^ 32
  image_small = is.end

  -- ---- its handler

  handler_there : stored image.sections (thunk_at s.imports s.text CSpecificHandler) 6
      ≡ Some (chosen (service_thunk s.imports s.text s.rdata CSpecificHandler))
  handler_there =
      let v = CSpecificHandler in
      let thunk = chosen (service_thunk s.imports s.text s.rdata v) in
      let c = first_cursor p in
      let front = spelled (front_code s.imports s.text s.rdata) in
      let hot = routines_bytes s c.begin c.cold rs in
      let apart = all_apart_bytes s c.begin c.cold rs in
      let last = site_blocks s in
      let t = thunk_there s.imports s.text s.rdata v (hot ++ (apart ++ last))
      (services_there p v tt) in
      let long = t.long in
      let n : length thunk ≡ 6 = ap length (thunk_bytes _) in
      let at : text_at (sizes_of program) + length t.before
      ≡ thunk_at s.imports s.text v = omega arith in
      let h = text_there program is t.before thunk t.after
      (append_assoc (front ++ hot) apart last ∙ append_assoc front hot (apart ++ last) ∙ t.same)
      (omega arith) in
      ap (λ (k : ℕ). stored image.sections k 6) (sym at)
      ∙ ap (stored image.sections (text_at (sizes_of program) + length t.before)) (sym n) ∙ h

  c_handler : is_c_handler image (thunk_at s.imports s.text CSpecificHandler) ≡ true
  c_handler =
      let r = rdata_at (sizes_of program) in
      let to = r + slot_of s.imports CSpecificHandler in
      let text = text_is in
      let fit = tables_fit s.imports p.globals rs (length p.functions) (services_few p)
      fits.globals near (has_places p fits).room (has_places p fits).fewer in
      let there = services_there p CSpecificHandler tt in
      let at = thunk_at s.imports s.text CSpecificHandler in
      handler_is_c image at r to s.imports there refl (omega arith) (omega arith)
      (handler_there ∙ ap (λ (n : ℕ). Some (chosen (thunk (distance (at + 6)
      (n + slot_of s.imports CSpecificHandler))))) (sym rdata_is)) (listed program is)

  -- ---- the infos of routines

  -- one of some regions, with its scope table
  scopes_by : (x : Placed) (f : FrameLayout) (regions : List Region) (front more : List ℕ)
      → IsRoutineNear x.routine
      → AllByRecursion (IsRegionRange x.routine.body) regions
      → 16 * length regions ≤ MOST_IMAGE → end_of x ≤ cold_begin p
      → x.cold + cold_size x.routine ≤ cold_begin p + cold_total rs
      → program.xdata ≡ front ++ ((unwind_bytes
      (info_of f (trailer (thunk_at s.imports s.text CSpecificHandler) regions))
      ++ scope_table s.funclets (own_addresses x.begin x.cold x.routine).labels (end_of x) regions)
      ++ more)
      → x.info ≡ xdata_at (sizes_of program) + length front
      → HasScopes image x.info (record {
        info = info_of f
            (trailer (thunk_at s.imports s.text CSpecificHandler) regions);
        scopes = scope_records s.funclets (own_addresses x.begin x.cold x.routine).labels (end_of x)
            regions;
      }) (has_rows regions)
  scopes_by x f [] front more close ranges few le le' e here =
      let h = thunk_at s.imports s.text CSpecificHandler in
      let u = unwind_bytes (info_of f (trailer h [])) in
      let some = unwind_some f (trailer h []) in
      let all : program.xdata ≡ front ++ (u ++ more) = e
      ∙ ap (λ t. front ++ t) (append_assoc u [] more) in
      record {
        none = refl;
        stored = subst (λ (k : ℕ). stored image.sections k (length u) ≡ Some u)
            (sym here) (xdata_there program is front u more all some);
      }
  scopes_by x f (q ∷ qs) front more close ranges few le le' e here =
      let r = x.routine in
      let h = thunk_at s.imports s.text CSpecificHandler in
      let labels = (own_addresses x.begin x.cold r).labels in
      let rows = scope_records s.funclets labels (end_of x) (q ∷ qs) in
      let u = unwind_bytes (info_of f (trailer h (q ∷ qs))) in
      let some = unwind_some f (trailer h (q ∷ qs)) in
      let bytes = u ++ scope_bytes rows in
      let inside = end_inside in
      let small = image_small in
      let funclets = drop_below image.size (length p.functions) (bounds (routines_begin p) rs)
      (bounds_below image.size (routines_begin p) rs (omega arith)) in
      let within = rows_within s.funclets r.layout (x.begin + entry_size r) x.cold r.body (end_of x)
      image.size close.cold (omega arith) (omega arith) (omega arith) funclets (omega arith)
      (q ∷ qs) ranges in
      record {
        records = rows_small s.funclets r.layout (x.begin + entry_size r) x.cold r.body (end_of x)
            image.size close.cold (omega arith) (omega arith) (omega arith) funclets (omega arith)
            (q ∷ qs) (omega arith);
        count = omega (arith, length-map (q ∷ qs) (scope_record s.funclets labels (end_of x)));
        of_code = λ index. checked_is index image.size 0 rows within;
        stored = subst (λ (k : ℕ). stored image.sections k (length bytes) ≡ Some bytes) (sym here)
            (xdata_there program is front bytes more e
            (omega (arith, length-append u (scope_bytes rows))));
      }

  own_is : (x : Placed) (f : FrameLayout) (front more : List ℕ)
      → IsRoutineNear x.routine → HasRanges x.routine.body → x.routine.frame ≡ Some f
      → end_of x ≤ cold_begin p → x.cold + cold_size x.routine ≤ cold_begin p + cold_total rs
      → program.xdata ≡ front ++ (info_bytes_of s (own_addresses x.begin x.cold x.routine).labels
      (end_of x) x.routine f ++ more) → x.info ≡ xdata_at (sizes_of program) + length front
      → x.info % 4 ≡ 0
      → IsInfoWritten image x.info (own_of s x f)
  own_is x f front more close ranges framed le le' e here four =
      let r = x.routine in
      let h = thunk_at s.imports s.text CSpecificHandler in
      let size = subst IsFrameNear framed close.frame in
      let t = text_is in
      let end = is.end in
      let there = services_there p CSpecificHandler tt in
      let services = services_few p in
      let by = scopes_by x f r.body.regions front more close ranges.regions close.regions le le' e
      here in
      record {
        info = is_info f (trailer h r.body.regions) size.0
            (has_trailer h r.body.regions (omega arith));
        can = can_be_written f (trailer h r.body.regions) size.0
            (is_trailer h r.body.regions);
        aligned = four;
        stored = subst (HasScopes image x.info (own_of s x f))
            (sym (handled image f h r.body.regions c_handler)) by;
      }

  -- of each routine with a frame
  abbrev HasOwn : Placed → Type 0
  HasOwn x = (f : FrameLayout) → x.routine.frame ≡ Some f
      → IsInfoWritten image x.info (own_of s x f)

  all_owns : (c : Cursor) (qs : List RoutineView) (front more : List ℕ)
      → AllByRecursion IsRoutineNear qs → AllByRecursion RoutineHasRanges qs
      → c.begin + total qs ≤ cold_begin p
      → c.cold + cold_total qs ≤ cold_begin p + cold_total rs
      → program.xdata ≡ front ++ (infos s c.begin c.cold qs ++ more)
      → c.info ≡ xdata_at (sizes_of program) + length front
      → c.info % 4 ≡ 0
      → AllByRecursion HasOwn (placed_from s c qs)
  all_owns c [] front more close ranges le le' e here four = tt
  all_owns c (r ∷ qs) front more close ranges le le' e here four =
      let n = past s c r in
      let bytes = info_bytes s c.begin c.cold r in
      let others = infos s n.begin n.cold qs in
      let aligned = info_aligned s c.begin c.cold r in
      let split = e ∙ ap (λ t. front ++ t) (append_assoc bytes others more) in (
        λ f same. own_is (put c r) f front (others ++ more) close.0 ranges.0 same (omega arith)
            (omega arith) (split ∙ ap (λ t. front ++ (t ++ (others ++ more)))
            (bytes_of s (put c r) f same)) here four,
        all_owns n qs (front ++ bytes) more close.1 ranges.1 (omega arith) (omega arith)
            (split ∙ sym (append_assoc front bytes (others ++ more)))
            (omega (arith, length-append front bytes)) (omega arith),
      )

  -- ---- the infos of cold parts

  part_is : (x : Placed) (f : FrameLayout) (q : PlacedPart) (front more : List ℕ)
      → IsFrameNear (Some f) → IsInfoWritten image x.info (own_of s x f)
      → IsRuntimeFunction (range_of x)
      → program.xdata ≡ front ++ (unwind_bytes (chained_info f.framed (range_of x)) ++ more)
      → q.info ≡ xdata_at (sizes_of program) + length front
      → q.info % 4 ≡ 0
      → IsEntryWritten image (part_written s x f q)
  part_is x f q front more size own parent e here four =
      let h = thunk_at s.imports s.text CSpecificHandler in
      let bytes = unwind_bytes (chained_info f.framed (range_of x)) in
      let long = chained_length f.framed (range_of x) in
      record {
        own = record {
          info = chained_is_info f.framed (range_of x) parent;
          can = chained_can_be_written f (range_of x) size.0;
          aligned = four;
          stored = record {
            none = refl;
            stored = subst (λ (k : ℕ). stored image.sections k (length bytes) ≡ Some bytes)
                (sym here) (xdata_there program is front bytes more e (omega arith));
          };
        };
        chain = (
          record { range = range_of x; is = refl; written = own },
          no_parent h x.routine.body.regions,
        );
        count = omega arith;
      }

  parts_are : (x : Placed) (f : FrameLayout) (y : Layout) (code : List Instruction) (at info : ℕ)
      (qs : List LabelRange) (front more : List ℕ) (others : List WrittenEntry)
      → IsFrameNear (Some f) → IsInfoWritten image x.info (own_of s x f)
      → IsRuntimeFunction (range_of x)
      → program.xdata
      ≡ front ++ (chained_infos (map (fragment f (range_of x)) (part_ranges y at qs code)) ++ more)
      → info ≡ xdata_at (sizes_of program) + length front → info % 4 ≡ 0
      → AllByRecursion (IsEntryWritten image) others
      → AllByRecursion (IsEntryWritten image)
      (map (part_written s x f) (parts_from y at info qs code) ++ others)
  parts_are x f y code at info [] front more others size own parent e here four rest = rest
  parts_are x f y code at info (r ∷ qs) front more others size own parent e here four rest =
      let end = at + body_size y (part_code code r) in
      let q : PlacedPart = record { labels = r; begin = at; end = end; info = info } in
      let bytes = unwind_bytes (chained_info f.framed (range_of x)) in
      let long = chained_length f.framed (range_of x) in
      let next = chained_infos (map (fragment f (range_of x)) (part_ranges y end qs code)) in
      let split = e ∙ ap (λ t. front ++ t) (append_assoc bytes next more) in (
        part_is x f q front (next ++ more) size own parent split here four,
        parts_are x f y code end (info + CHAINED_SIZE) qs (front ++ bytes) more others size own
            parent (split ∙ sym (append_assoc front bytes (next ++ more)))
            (omega (arith, length-append front bytes)) (omega arith) rest,
      )

  parts_if : (x : Placed) (o : Option FrameLayout) (front more : List ℕ)
      (others : List WrittenEntry) → x.routine.frame ≡ o
      → IsRoutineNear x.routine → HasOwn x → IsRuntimeFunction (range_of x)
      → program.xdata
      ≡ front ++ (chained_infos (fragments_if o (range_of x) (parts_at x.cold x.routine)) ++ more)
      → x.chained ≡ xdata_at (sizes_of program) + length front → x.chained % 4 ≡ 0
      → AllByRecursion (IsEntryWritten image) others
      → AllByRecursion (IsEntryWritten image) (parts_written_if s x o ++ others)
  parts_if x None front more others framed close own parent e here four rest = rest
  parts_if x (Some f) front more others framed close own parent e here four rest =
      parts_are x f x.routine.layout x.routine.body.code x.cold x.chained x.routine.body.cold front
      more others (subst IsFrameNear framed close.frame) (own f framed) parent e here four rest

  infos_length : (fs : List Fragment) → length (chained_infos fs) ≡ CHAINED_SIZE * length fs
  infos_length [] = refl
  infos_length (f ∷ fs) =
      let one = chained_length f.framed f.parent in
      let more = infos_length fs in
      omega (arith, length-append (chained_bytes f) (chained_infos fs))

  all_parts : (c : Cursor) (qs : List RoutineView) (front : List ℕ)
      → AllByRecursion IsRoutineNear qs → AllByRecursion HasOwn (placed_from s c qs)
      → c.begin + total qs < 2 ^ 32 → c.info + length (infos s c.begin c.cold qs) < 2 ^ 32
      → program.xdata ≡ front ++ chained_infos (fragments s c.info c.begin c.cold qs)
      → c.chained ≡ xdata_at (sizes_of program) + length front
      → c.chained % 4 ≡ 0
      → AllByRecursion (IsEntryWritten image) (parts_written s (placed_from s c qs))
  all_parts c [] front close owns lt lt' e here four = tt
  all_parts c (r ∷ qs) front close owns lt lt' e here four =
      let n = past s c r in
      let own = fragments_of c.info c.begin c.cold r in
      let others = fragments s n.info n.begin n.cold qs in
      let bytes = chained_infos own in
      let long = infos_length own in
      let l = length-append (info_bytes s c.begin c.cold r) (infos s n.begin n.cold qs) in
      let split = e ∙ ap (λ t. front ++ t) (flat_map-append chained_bytes own others) in
      parts_if (put c r) r.frame front (chained_infos others)
      (parts_written s (placed_from s n qs)) refl close.0 owns.0
      (record { begin = omega arith; end = omega arith; info = omega arith }) split here four
      (all_parts n qs (front ++ bytes) close.1 owns.1 (omega arith) (omega arith)
      (split ∙ sym (append_assoc front bytes (chained_infos others)))
      (omega (arith, length-append front bytes)) (omega arith))

  -- ---- all entries

  written_if_so : (x : Placed) (o : Option FrameLayout) (ws : List WrittenEntry)
      → x.routine.frame ≡ o → HasOwn x
      → AllByRecursion (IsEntryWritten image) ws
      → AllByRecursion (IsEntryWritten image) (written_if s x o ++ ws)
  written_if_so x None ws framed own more = more
  written_if_so x (Some f) ws framed own more = (
    record {
      own = own f framed;
      chain = no_parent (thunk_at s.imports s.text CSpecificHandler) x.routine.body.regions;
      count = omega arith;
    },
    more,
  )

  all_written : (xs : List Placed) (others : List WrittenEntry) → AllByRecursion HasOwn xs
      → AllByRecursion (IsEntryWritten image) others
      → AllByRecursion (IsEntryWritten image) (written_from s xs ++ others)
  all_written [] others owns more = more
  all_written (x ∷ xs) others owns more =
      subst (AllByRecursion (IsEntryWritten image))
      (sym (append_assoc (written_if s x x.routine.frame) (written_from s xs) others))
      (written_if_so x x.routine.frame (written_from s xs ++ others) refl owns.0
      (all_written xs others owns.1 more))

  -- ---- what is read

  read_if : (x : Placed) (o : Option FrameLayout)
      → map (as_read image) (written_if s x o) ≡ entry_if s x o
  read_if x None = refl
  read_if x (Some f) =
      let h = thunk_at s.imports s.text CSpecificHandler in
      ap (λ (b : Bool). record {
        range = range_of x;
        info = info_written (unwind_of s x f) b (scopes_of s x);
        parents = [];
      } ∷ []) (handled image f h x.routine.body.regions c_handler)

  read_all : (xs : List Placed) → map (as_read image) (written_from s xs) ≡ entries_of s xs
  read_all [] = refl
  read_all (x ∷ xs) = map-append (as_read image) (written_if s x x.routine.frame)
      (written_from s xs) ∙ (λ i. read_if x x.routine.frame i ++ read_all xs i)

  read_part : (x : Placed) (f : FrameLayout) (q : PlacedPart)
      → as_read image (part_written s x f q) ≡ part_entry s x f q
  read_part x f q =
      let h = thunk_at s.imports s.text CSpecificHandler in
      ap (λ (b : Bool). record {
        range = record { begin = q.begin; end = q.end; unwind_info = q.info };
        info = info_written (chained_info f.framed (range_of x)) false [];
        parents = info_written (unwind_of s x f) b (scopes_of s x) ∷ [];
      }) (handled image f h x.routine.body.regions c_handler)

  read_parts : (x : Placed) (f : FrameLayout) (qs : List PlacedPart)
      → map (as_read image) (map (part_written s x f) qs) ≡ map (part_entry s x f) qs
  read_parts x f [] = refl
  read_parts x f (q ∷ qs) = λ i. read_part x f q i ∷ read_parts x f qs i

  read_parts_if : (x : Placed) (o : Option FrameLayout)
      → map (as_read image) (parts_written_if s x o) ≡ chained_if s x o
  read_parts_if x None = refl
  read_parts_if x (Some f) = read_parts x f (parts_of x)

  read_chained : (xs : List Placed) → map (as_read image) (parts_written s xs) ≡ chained_of s xs
  read_chained [] = refl
  read_chained (x ∷ xs) = map-append (as_read image) (parts_written_if s x x.routine.frame)
      (parts_written s xs) ∙ (λ i. read_parts_if x x.routine.frame i ++ read_chained xs i)

  abbrev pub written : List WrittenEntry
  written = written_from s (placed p) ++ parts_written s (placed p)

  all_read : map (as_read image) written ≡ entries p
  all_read = map-append (as_read image) (written_from s (placed p)) (parts_written s (placed p))
      ∙ (λ i. read_all (placed p) i ++ read_chained (placed p) i)

  same_ranges : ranges_of written
      ≡ all_ranges s (infos_begin p) (routines_begin p) (cold_begin p) rs
  same_ranges =
      map-append (λ (w : WrittenEntry). w.range) (written_from s (placed p))
      (parts_written s (placed p))
      ∙ (λ i. ranges_same s (first_cursor p) rs i ++ parts_same s (first_cursor p) rs i)

  -- where the infos end
  infos_fit : chained_begin p + CHAINED_SIZE
      * length (fragments s (infos_begin p) (routines_begin p) (cold_begin p) rs) < 2 ^ 31
  infos_fit =
      let fit = tables_fit s.imports p.globals rs (length p.functions) (services_few p)
      fits.globals near (has_places p fits).room (has_places p fits).fewer in
      let few = infos_few s (first_cursor p) rs near in
      omega arith

  are_ranges : AllByRecursion IsRuntimeFunction (ranges_of written)
  are_ranges =
      let fit = infos_fit in
      let inside = end_inside in
      let small = image_small in
      ranges_small s (first_cursor p) rs (parts_written s (placed p)) (omega arith) (omega arith)
      (parts_small s (first_cursor p) rs near (omega arith) (omega arith))

  aligned : image.exceptions.rva % 4 ≡ 0
  aligned = omega arith

  as_long : image.exceptions.size ≡ length (table_bytes (ranges_of written))
  as_long = ap (λ (qs : List RuntimeFunction). length (table_bytes qs)) (sym same_ranges)

  ranges_there : IsStoredAt image image.exceptions.rva (table_bytes (ranges_of written))
  ranges_there = subst (λ (qs : List RuntimeFunction). IsStoredAt image image.exceptions.rva
      (table_bytes qs)) (sym same_ranges) (pdata_there program is)

  pub directory_read : directory image ≡ Ok (ranges_of written)
  directory_read = reads_ranges image (ranges_of written) are_ranges aligned as_long ranges_there

  -- the entries are in the order of what is read
  order_of : (last : ℕ) (ws : List WrittenEntry) → AreInOrder last (map (as_read image) ws)
      → written_order.AreInOrder last ws
  order_of last [] h = tt
  order_of last (w ∷ ws) h = (h.0, h.1, order_of w.range.end ws h.2)

  are_written : HasRegions p → AllByRecursion (IsEntryWritten image) written
  are_written regions =
      let at = infos_are in
      let c = first_cursor p in
      let fit = infos_fit in
      let inside = end_inside in
      let small = image_small in
      let bytes = infos s c.begin c.cold rs in
      let more = chained_infos (fragments s c.info c.begin c.cold rs) in
      let owns = all_owns c rs [] more near (routines_have p regions) (omega arith) (omega arith)
      refl (omega arith) (omega arith) in
      let four = infos_aligned s c rs in
      all_written (placed p) (parts_written s (placed p)) owns
      (all_parts c rs bytes near owns (omega arith) (omega arith) refl (omega arith) (omega arith))

  pub whole : HasRegions p → tables image ≡ Ok (entries p)
  whole regions =
      reads_table image written are_ranges aligned as_long ranges_there (are_written regions)
      (order_of 0 written (subst (AreInOrder 0) (sym all_read) (all_in_order p near)))
      ∙ ap (λ (es : List Entry). let t : Table (List Entry) = Ok es in t) all_read

  -- the tables that are read of the image, and their entries
  abbrev pub table : Tables
  table = record { image = image; ranges = ranges_of written }

  pub table_entries : HasRegions p → or_none (all_entries table) ≡ entries p
  table_entries regions = ap or_none (ap (λ (d : Table (List RuntimeFunction)). d
      >>= λ qs. reading.entries image 0 0 qs) (sym directory_read) ∙ whole regions)

pub tables_are_read : TablesAreRead
tables_are_read p fits regions = whole p fits regions
