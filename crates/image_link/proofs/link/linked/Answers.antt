use Rattle.std.proofs.Common.{◌≡◌, ℕ, ◌+◌, ◌-◌, ◌++◌, List, length, get_or, map, take, sym, ap, subst, ◌∙◌, arith}
use Rattle.image_link.specs.Text as texts
use Rattle.image_link.specs.Words.{linear_function, ImportedService, HandlerBlocks, ImageContents, CanBeImage, SiteView, first, first_cold, first_routine_at, total, image_of_routines, places_from, parts_of, function_rows, all_part_rows}
use Rattle.std.proofs.lemmas.List.{length-map}
use Rattle.image_link.proofs.Bounds.{count_small}
use Rattle.image_link.proofs.Images.{if_ok, there, past, is_site_near, image_is, is_program, no_routine}
use Rattle.image_link.proofs.Places.{places_count, parts_are}
use Rattle.image_link.proofs.link.linked.Goals as goal

-- the addresses that routines refer to, with the blocks as they are defined
with_blocks : (s : SiteView) (imports : List ImportedService) (text rdata : ℕ)
    (functions funclets : List ℕ) (b of : HandlerBlocks)
    → s
    ≡ record {
      imports = imports;
      text = text;
      rdata = rdata;
      functions = functions;
      funclets = funclets;
      blocks = b;
    } → b ≡ of
    → s
    ≡ record {
      imports = imports;
      text = text;
      rdata = rdata;
      functions = functions;
      funclets = funclets;
      blocks = of;
    }
with_blocks s imports text rdata functions funclets b of e f =
    e ∙ (λ i. record {
      imports = imports;
      text = text;
      rdata = rdata;
      functions = functions;
      funclets = funclets;
      blocks = f i;
    })

pub overflow_cast-functions : goal.overflow_cast-functions
overflow_cast-functions c =
    let fewer = c.requires.places.fewer in
    let room = c.requires.places.room in
    let few = count_small c.args.routines.now in
    omega arith

pub site_of-site-requires : goal.site_of-site-requires
site_of-site-requires c =
    let fewer = c.requires.places.fewer in
    let inside = there c.deref.result.now (first c.args.imports.now c.args.globals.now)
    c.args.routines.now c.args.functions (c.deref.ensures.value ∙ c.requires.bounds) fewer in
    omega arith

pub text_of-requires-clause-site : goal.text_of-requires-clause-site
text_of-requires-clause-site c =
    is_site_near c.args.imports.now c.args.globals.now c.deref.result.now c.args.routines.now
    c.args.functions c.placement_of-placement.result c.placement_of-placement.ensures.placed
    (c.deref.ensures.value ∙ c.requires.bounds) c.args.places.now.end c.requires.end _
    (with_blocks _ _ _ _ _ _ _ _ c.site_of-site.ensures c.blocks_at-blocks.ensures) c.args.main
    c.requires.imports c.requires.globals c.requires.near c.requires.places

pub tables_of-requires-clause-site : goal.tables_of-requires-clause-site
tables_of-requires-clause-site c =
    is_site_near c.args.imports.now c.args.globals.now c.deref.result.now c.args.routines.now
    c.args.functions c.placement_of-placement.result c.placement_of-placement.ensures.placed
    (c.deref.ensures.value ∙ c.requires.bounds) c.args.places.now.end c.requires.end _
    (with_blocks _ _ _ _ _ _ _ _ c.site_of-site.ensures c.blocks_at-blocks.ensures) c.args.main
    c.requires.imports c.requires.globals c.requires.near c.requires.places

pub text_of-requires-clause-places : goal.text_of-requires-clause-places
text_of-requires-clause-places c =
    let rs = c.args.routines.now in
    let text = sym (ap (λ (s : SiteView). s.text) c.site_of-site.ensures
    ∙ c.placement_of-placement.ensures.placed.text) in
    let imports = sym (ap (λ (s : SiteView). s.imports) c.site_of-site.ensures) in
    c.deref-2.ensures.value ∙ c.requires.placed
    ∙ (λ i. places_from (first_routine_at (imports i) (text i))
    (first_routine_at (imports i) (text i) + total rs) rs)

pub tables_of-requires-clause-places : goal.tables_of-requires-clause-places
tables_of-requires-clause-places c =
    let rs = c.args.routines.now in
    let text = sym c.placement_of-placement.ensures.placed.text in
    let front = sym c.front_size.ensures.value in
    c.deref-3.ensures.value ∙ c.requires.placed
    ∙ (λ i. places_from (text i + front i) (text i + front i + total rs) rs)

pub offset_of-entry-requires-clause-there : goal.offset_of-entry-requires-clause-there
offset_of-entry-requires-clause-there c =
    let main = c.requires.places.there in
    there c.deref-4.result.now (first c.args.imports.now c.args.globals.now) c.args.routines.now
    c.args.main (c.deref-4.ensures.value ∙ c.requires.bounds) (omega arith)

pub offset_of-entry-requires-clause-after : goal.offset_of-entry-requires-clause-after
offset_of-entry-requires-clause-after c =
    let main = c.requires.places.there in
    let text = c.placement_of-placement.ensures.placed.text in
    past c.deref-4.result.now (first c.args.imports.now c.args.globals.now) c.args.routines.now
    c.args.main c.placement_of-placement.result.text
    (c.deref-4.ensures.value ∙ c.requires.bounds) (omega arith) (omega arith)

pub name_rows-requires-clause-between : goal.name_rows-requires-clause-between
name_rows-requires-clause-between c =
    let fewer = c.requires.names.fewer in
    let inside = there c.deref-5.result.now (first c.args.imports.now c.args.globals.now)
    c.args.routines.now (length (map linear_function c.args.named.now))
    (c.deref-5.ensures.value ∙ c.requires.bounds) fewer in
    omega (arith, length-map c.args.named.now linear_function)

pub name_rows-requires-clause-placed : goal.name_rows-requires-clause-placed
name_rows-requires-clause-placed c =
    let fewer = c.requires.names.fewer in
    let at = first c.args.imports.now c.args.globals.now in
    let cold = first_cold c.args.imports.now c.args.globals.now c.args.routines.now in
    let same = ap length (c.deref-6.ensures.value ∙ c.requires.placed) in
    let count = places_count at cold c.args.routines.now in
    omega (arith, length-map c.args.named.now linear_function)

pub name_rows-requires-clause-few : goal.name_rows-requires-clause-few
name_rows-requires-clause-few c =
    let fewer = c.requires.names.fewer in
    let room = c.requires.names.room in
    let few = count_small c.args.routines.now in
    omega (arith, length-map c.args.named.now linear_function)

pub image_with-requires : goal.image_with-requires
image_with-requires c =
    let imports = c.args.imports.now in
    let g = c.args.globals.now in
    let rs = c.args.routines.now in
    let named = map linear_function c.args.named.now in
    let at = first imports g in
    let cold = first_cold imports g rs in
    let between = c.deref.ensures.value ∙ c.requires.bounds in
    let entry = c.offset_of-entry.ensures
    ∙ ap (λ (xs : List ℕ). get_or xs c.args.main 0 - c.placement_of-placement.result.text)
    (c.deref-4.ensures.value ∙ sym c.deref.ensures.value) in
    let bounds = c.deref-5.ensures.value ∙ c.requires.bounds in
    let placed = c.deref-6.ensures.value ∙ c.requires.placed in
    let many = sym (length-map c.args.named.now linear_function) in
    let rows = c.in_ok-names.ensures
    ∙ (λ j. function_rows 0 (bounds j) named
    ++ all_part_rows 1 (map parts_of (take (many j) (placed j))))
    ∙ ap (λ pss. function_rows 0 (texts.bounds at rs) named ++ all_part_rows 1 pss)
    (parts_are (length named) at cold rs) in
    let same = image_is imports g c.deref.result.now rs c.args.functions
    c.placement_of-placement.result c.placement_of-placement.ensures.placed between
    c.args.places.now.end c.requires.end _
    (with_blocks _ _ _ _ _ _ _ _ c.site_of-site.ensures c.blocks_at-blocks.ensures) c.args.main
    c.offset_of-entry.result
    (c.placement_of-placement.result.text + c.front_size.result) c.in_ok-code.code.items
    c.in_ok-tables.tables.xdata.items c.in_ok-tables.tables.pdata.items c.in_ok-names.names.items
    named entry
    (ap (λ (n : ℕ). c.placement_of-placement.result.text + n) c.front_size.ensures.value)
    c.in_ok-code.ensures c.in_ok-tables.ensures.xdata c.in_ok-tables.ensures.pdata rows in
    subst CanBeImage (sym same) (is_program imports g rs c.args.functions c.args.main named
    c.requires.imports c.requires.globals c.requires.near c.requires.places c.requires.names
    no_routine)

pub returns : goal.returns
returns c =
    let imports = c.args.imports.now in
    let g = c.args.globals.now in
    let rs = c.args.routines.now in
    let named = map linear_function c.args.named.now in
    let at = first imports g in
    let cold = first_cold imports g rs in
    let between = c.deref.ensures.value ∙ c.requires.bounds in
    let entry = c.offset_of-entry.ensures
    ∙ ap (λ (xs : List ℕ). get_or xs c.args.main 0 - c.placement_of-placement.result.text)
    (c.deref-4.ensures.value ∙ sym c.deref.ensures.value) in
    let bounds = c.deref-5.ensures.value ∙ c.requires.bounds in
    let placed = c.deref-6.ensures.value ∙ c.requires.placed in
    let many = sym (length-map c.args.named.now linear_function) in
    let rows = c.in_ok-names.ensures
    ∙ (λ j. function_rows 0 (bounds j) named
    ++ all_part_rows 1 (map parts_of (take (many j) (placed j))))
    ∙ ap (λ pss. function_rows 0 (texts.bounds at rs) named ++ all_part_rows 1 pss)
    (parts_are (length named) at cold rs) in
    let same = image_is imports g c.deref.result.now rs c.args.functions
    c.placement_of-placement.result c.placement_of-placement.ensures.placed between
    c.args.places.now.end c.requires.end _
    (with_blocks _ _ _ _ _ _ _ _ c.site_of-site.ensures c.blocks_at-blocks.ensures) c.args.main
    c.offset_of-entry.result
    (c.placement_of-placement.result.text + c.front_size.result) c.in_ok-code.code.items
    c.in_ok-tables.tables.xdata.items c.in_ok-tables.tables.pdata.items c.in_ok-names.names.items
    named entry
    (ap (λ (n : ℕ). c.placement_of-placement.result.text + n) c.front_size.ensures.value)
    c.in_ok-code.ensures c.in_ok-tables.ensures.xdata c.in_ok-tables.ensures.pdata rows in
    if_ok (λ (x : ImageContents). x ≡ record {
      imports = imports;
      data_size = c.placement_of-placement.result.data_size;
      data_bytes = g;
      text = c.in_ok-code.code.items;
      entry = c.offset_of-entry.result;
      xdata = c.in_ok-tables.tables.xdata.items;
      pdata = c.in_ok-tables.tables.pdata.items;
      names = c.in_ok-names.names.items;
    })
    (λ (x : ImageContents). x ≡ image_of_routines imports g rs c.args.functions c.args.main named)
    c.image_with.result (λ x e. e ∙ same) c.image_with.ensures
