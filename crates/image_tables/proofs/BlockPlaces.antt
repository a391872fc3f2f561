-- The blocks of functions for vectored handlers are where the text is: the name thunk of each
-- function, and the stubs that its block has.
use Rattle.std.proofs.Common.{◌≡◌, ℕ, zero, suc, ◌+◌, ◌*◌, ◌<◌, Bool, true, List, [], ◌∷◌, ◌++◌, length, get_or, take, sym, ap, subst, ◌∙◌, arith, append_assoc, length-append}
use Rattle.std.proofs.lemmas.List.{get_or-take, length-take-le}
use Rattle.host_layout.specs.declared.imported.ImportedService.{ImportedService}
use Rattle.host_layout.specs.declared.imported.ImportedService.TheVariants.{AddVectored, RemoveVectored}
use Rattle.pe_write.specs.ImportTables.{slot_of}
use Rattle.template_code.specs.Handlers.{name_thunk, adding_stub, removing_stub}
use Rattle.image_tables.specs.Words.{Memory, Instr, IsExecutableAt, LinearProgram, FitsProgram, spelled, sizes, front_code, SiteView, routines, routines_bytes, all_apart_bytes, linked, HandlerBlocks, step_of, block_code, block_bytes, blocks_bytes, site_of, first_cursor, blocks_of, block_begin, image_base, HasText, address_or, services_of}
use Rattle.image_link.specs.Handlers.{adding_at, removing_at, adding_code, removing_code, code_if, stub_size_if}
use Rattle.image_link.proofs.Bounds.{all_apart_length}
use Rattle.image_link.proofs.Blocks.{block_length, step_none, step_more, thunk_size, adding_size, size_if}
use Rattle.image_tables.proofs.Lemmas.{sizes_append, sizes_spelled, front_sizes, has_places, routines_near, site_fewer}
use Rattle.image_tables.proofs.CodeInMemory.{routines_length, piece_is_at, code_split}

-- ---- a block among others

-- the bytes before it and after it
pub record BlockThere (imports : List ImportedService) (rdata : ℕ) (b : HandlerBlocks) (at : ℕ)
    (fs : List ℕ) (i d : ℕ) : Type 0 where
  pub before : List ℕ
  pub after : List ℕ
  pub same : blocks_bytes imports rdata b at fs
      ≡ before ++ (block_bytes imports rdata b (at + step_of b * i) (get_or fs i d) ++ after)
  pub long : length before ≡ step_of b * i

module _ (imports : List ImportedService) (rdata : ℕ) (b : HandlerBlocks) where
  block_among : (at : ℕ) (fs : List ℕ) (i d : ℕ) → i < length fs
      → BlockThere imports rdata b at fs i d
  block_among at [] i d lt = absurd (omega arith)
  block_among at (f ∷ fs) zero d lt =
      let none = step_none b in
      let here : at ≡ at + step_of b * 0 = omega arith in
      let more = blocks_bytes imports rdata b (at + step_of b) fs in
      record {
        before = [];
        after = more;
        same = ap (λ (n : ℕ). block_bytes imports rdata b n f ++ more) here;
        long = sym none;
      }
  block_among at (f ∷ fs) (suc i) d lt =
      let own = block_bytes imports rdata b at f in
      let more = block_among (at + step_of b) fs i d (omega arith) in
      let step = step_more b.adds b.removes i in
      let here : at + step_of b + step_of b * i ≡ at + step_of b * suc i = omega arith in
      let counted = more.long in
      let size = block_length imports rdata b at f in
      record {
        before = own ++ more.before;
        after = more.after;
        same = ap (λ t. own ++ t) (more.same
            ∙ ap (λ (n : ℕ). more.before
            ++ (block_bytes imports rdata b n (get_or fs i d) ++ more.after)) here)
            ∙ sym (append_assoc own more.before
            (block_bytes imports rdata b (at + step_of b * suc i) (get_or fs i d)
            ++ more.after));
        long = omega (arith, length-append own more.before);
      }

-- ---- in memory

-- the bytes of a function's block are at its address
pub block_is_at : (p : LinearProgram) (m : Memory) (f : ℕ) → FitsProgram p → HasText m p
    → f < (blocks_of p).count
    → IsExecutableAt m (image_base + block_begin p f)
    (spelled (block_code (services_of p) (site_of p).rdata (blocks_of p) (block_begin p f)
    (address_or (site_of p).functions f 0)))
unfolding block_bytes
block_is_at p m f fits text lt =
    let s = site_of p in
    let b = s.blocks in
    let c = first_cursor p in
    let rs = routines p in
    let fewer = site_fewer s.imports p.globals rs (length p.functions) (has_places p fits).fewer in
    let fs = take b.count s.functions in
    let count = length-take-le b.count s.functions fewer in
    let there = block_among s.imports s.rdata b b.first fs f 0 (omega arith) in
    let front = spelled (front_code s.imports s.text s.rdata) in
    let hot = routines_bytes s c.begin c.cold rs in
    let cold = all_apart_bytes s c.begin c.cold rs in
    let ahead = front ++ hot ++ cold in
    let function = get_or-take b.count s.functions f 0 lt in
    let block = λ (k : ℕ). block_bytes s.imports s.rdata b (block_begin p f) k in
    let split : (linked p).text
    ≡ ahead ++ there.before ++ (block (address_or s.functions f 0) ++ there.after) =
    ap (λ t. ahead ++ t) (there.same
    ∙ ap (λ (k : ℕ). there.before ++ (block k ++ there.after)) function)
    ∙ sym (append_assoc ahead there.before (block (address_or s.functions f 0) ++ there.after)) in
    let long = there.long in
    let hots = routines_length s c rs (routines_near p fits) in
    let colds = all_apart_length s c.begin c.cold rs in
    let fronts = front_sizes s.imports s.text s.rdata in
    piece_is_at p m (block_begin p f) (ahead ++ there.before) (block (address_or s.functions f 0))
    there.after text split
    (omega (
      arith,
      length-append ahead there.before,
      length-append (front ++ hot) cold,
      length-append front hot,
      sizes_spelled (front_code s.imports s.text s.rdata),
    ))

-- the parts of a block are one after another
module _ (p : LinearProgram) (m : Memory) (f : ℕ) (fits : FitsProgram p) (text : HasText m p)
    (lt : f < (blocks_of p).count) where
  abbrev s : SiteView
  s = site_of p

  abbrev begin : ℕ
  begin = block_begin p f

  abbrev name : List Instr
  name = name_thunk begin (address_or s.functions f 0)

  abbrev adding : List Instr
  adding = adding_code (services_of p) s.rdata s.blocks begin

  abbrev removing : List Instr
  removing = removing_code (services_of p) s.rdata s.blocks begin

  both : IsExecutableAt m (image_base + begin) (spelled (name ++ adding))
      × IsExecutableAt m (image_base + begin + sizes (name ++ adding)) (spelled removing)
  both = code_split m (image_base + begin) (name ++ adding) removing
      (block_is_at p m f fits text lt)

  first : IsExecutableAt m (image_base + begin) (spelled name)
      × IsExecutableAt m (image_base + begin + sizes name) (spelled adding)
  first = code_split m (image_base + begin) name adding both.0

  pub name_thunk_is_at : IsExecutableAt m (image_base + begin) (spelled name)
  name_thunk_is_at = first.0

  pub adding_stub_is_at : s.blocks.adds ≡ true
      → IsExecutableAt m (image_base + adding_at begin)
      (spelled (adding_stub (adding_at begin) begin
      (s.rdata + slot_of (services_of p) AddVectored)))
  adding_stub_is_at has =
      let size = thunk_size begin (address_or s.functions f 0) in
      let code = adding_stub (adding_at begin) begin
      (s.rdata + slot_of (services_of p) AddVectored) in
      let at : image_base + begin + sizes name ≡ image_base + adding_at begin = omega arith in
      subst (λ (n : ℕ). IsExecutableAt m n (spelled code)) at
      (subst (λ (is : List Instr). IsExecutableAt m (image_base + begin + sizes name) (spelled is))
      (ap (λ (a : Bool). code_if a code) has) first.1)

  pub removing_stub_is_at : s.blocks.removes ≡ true
      → IsExecutableAt m (image_base + removing_at s.blocks.adds begin)
      (spelled (removing_stub (removing_at s.blocks.adds begin) begin
      (s.rdata + slot_of (services_of p) RemoveVectored)))
  removing_stub_is_at has =
      let size = thunk_size begin (address_or s.functions f 0) in
      let stub = adding_stub (adding_at begin) begin
      (s.rdata + slot_of (services_of p) AddVectored) in
      let one : sizes adding ≡ stub_size_if s.blocks.adds = size_if s.blocks.adds stub
      (adding_size (adding_at begin) begin (s.rdata + slot_of (services_of p) AddVectored)) in
      let code = removing_stub (removing_at s.blocks.adds begin) begin
      (s.rdata + slot_of (services_of p) RemoveVectored) in
      let at : image_base + begin + sizes (name ++ adding)
      ≡ image_base + removing_at s.blocks.adds begin =
      omega (arith, sizes_append name adding) in
      subst (λ (n : ℕ). IsExecutableAt m n (spelled code)) at
      (subst (λ (is : List Instr).
      IsExecutableAt m (image_base + begin + sizes (name ++ adding)) (spelled is))
      (ap (λ (a : Bool). code_if a code) has) both.1)
