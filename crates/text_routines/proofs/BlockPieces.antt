-- Each address of the blocks of functions is in a name thunk or in a stub.
use Rattle.std.proofs.Common.{◌≡◌, ◌⊎◌, inl, inr, ℕ, zero, suc, ◌+◌, ◌*◌, ◌%◌, ◌^◌, ◌<◌, ◌≤◌, Bool, true, false, List, [], length, refl, sym, ap, subst, ◌∙◌, arith}
use Rattle.std.proofs.lemmas.Bool.{cases_lt, and_from, false≢true}
use Rattle.host_layout.specs.declared.imported.ImportedService.TheVariants.{AddVectored, RemoveVectored}
use Rattle.flat_memory.specs.Memory.{Memory}
use Rattle.x64_instr.specs.declared.instruction.Instr.{Instr}
use Rattle.x64_instr.specs.declared.register.Reg.{Reg}
use Rattle.x64_instr.specs.declared.register.Reg.TheVariants.{Rcx, Rdx}
use Rattle.x64_encode.specs.Chosen.{modrm}
use Rattle.frame_rules.specs.Body.{Body, following, is_body}
use Rattle.frame_rules.specs.Plan.{spelled_by, all_encodable}
use Rattle.frame_rules.specs.Bytes.{spell, IsExecutableAt}
use Rattle.frame_rules.specs.States.{HasItems}
use Rattle.frame_rules.proofs.Bytes.{items_are_at}
use Rattle.linear_code.specs.Program.{LinearProgram}
use Rattle.pe_write.specs.ImportTables.{slot_of}
use Rattle.template_code.specs.Bytes.{spelled}
use Rattle.template_code.specs.Handlers.{name_thunk, address_in, stub, adding_stub, removing_stub}
use Rattle.template_code.specs.Jumps.{distance}
use Rattle.template_code.proofs.Sizes.{sizes_spelled, arrives}
use Rattle.x64_emit.specs.Linking.{address_or}
use Rattle.x64_emit.specs.Near.{IsNear}
use Rattle.x64_emit.proofs.Nearby.{near_signed}
use Rattle.image_link.specs.Fits.{FitsProgram}
use Rattle.image_link.specs.Handlers.{block_size, step_of, adding_at, removing_at, stub_size_if}
use Rattle.image_link.specs.Near.{IsSiteNear}
use Rattle.image_link.specs.Routines.{routines}
use Rattle.image_link.specs.Services.{services_of}
use Rattle.image_link.specs.Text.{SiteView}
use Rattle.image_link.proofs.Front.{services_few, place_small}
use Rattle.image_link.proofs.Blocks.{step_more, step_none, step_below, thunk_size, adding_size, removing_size}
use Rattle.image_link.proofs.Images.{site_near, has_places}
use Rattle.image_link.proofs.Nearness.{routines_near}
use Rattle.image_tables.specs.CodeInMemory.{image_base, HasText}
use Rattle.image_tables.specs.RoutinePlaces.{site_of, blocks_of, block_begin}
use Rattle.image_tables.proofs.BlockPlaces.{name_thunk_is_at, adding_stub_is_at, removing_stub_is_at}
use Rattle.uncovered_code.proofs.Pieces.{CallsLead, TakenLead}
use Rattle.text_routines.proofs.Bounds.{IsPart, at_name, at_first_stub, at_second_stub}
use Rattle.image_tables.proofs.RowBounds.{below_at}

-- ---- instructions that can be spelled

thunk_encodable : (at function : ℕ) → IsNear (at + 15) → IsNear function
    → all_encodable (name_thunk at function) ≡ true
thunk_encodable at function here there =
    and_from _ _ refl (and_from _ _ refl (and_from _ _ refl
    (and_from _ _ (near_signed (at + 15) function (omega arith) there) refl)))

stub_encodable : (r : Reg) (at name slot : ℕ) → IsNear (at + 13) → IsNear name → IsNear slot
    → all_encodable (stub r at name slot) ≡ true
stub_encodable r at name slot here named there =
    and_from _ _ (near_signed (at + 7) name (omega arith) named)
    (and_from _ _ (near_signed (at + 13) slot (omega arith) there) refl)

-- the registers that stubs set
abbrev is_stub_register : Reg → Bool
is_stub_register Rcx = true
is_stub_register Rdx = true
is_stub_register r = false

-- ---- the block around an address

record IsAround (at step n rva : ℕ) : Type 0 where
  index : ℕ
  below : index < n
  low : at + step * index ≤ rva
  high : rva < at + step * index + step

module _ (adds removes : Bool) where
  abbrev step : ℕ
  step = block_size adds removes

  around : (n at rva : ℕ) → at ≤ rva → rva < at + step * n → IsAround at step n rva
  around zero at rva low high = let none = nothing in absurd (omega arith)
    where
      nothing : step * 0 ≡ 0
      nothing = step_none (record { first = 0; count = 0; adds = adds; removes = removes })
  around (suc n) at rva low high =
      let more = step_more adds removes n in
      let none = step_none (record { first = 0; count = 0; adds = adds; removes = removes }) in
      elim (cases_lt rva (at + step)) [
        | inl here ↦ record {
          index = 0;
          below = omega arith;
          low = omega arith;
          high = omega arith;
        }
        | inr past ↦
            let x = around n (at + step) rva past (omega arith) in
            let next = step_more adds removes x.index in
            let b = x.below in
            let l = x.low in
            let h = x.high in
            record {
              index = suc x.index;
              below = omega arith;
              low = omega arith;
              high = omega arith;
            }
      ]

-- ---- what an address is in

-- instructions that don't write RSP, within the block of an index, from a distance to another; they
-- call nothing, and take no address but that of the block
pub record IsBlockPiece (p : LinearProgram) (m : Memory) (P : ℕ → Type 0) (rva : ℕ) : Type 0
  where
    pub begin : ℕ
    pub end : ℕ
    pub code : List Instr
    pub index : ℕ
    pub from : ℕ
    pub to : ℕ
    pub low : begin ≤ rva
    pub high : rva < end
    pub low_begin : (blocks_of p).first ≤ begin
    pub high_end : end ≤ (blocks_of p).first + step_of (blocks_of p) * (blocks_of p).count
    pub begins : begin ≡ block_begin p index + from
    pub ends : end ≡ block_begin p index + to
    pub within : to ≤ step_of (blocks_of p)
    pub next : IsPart (blocks_of p) to ⊎ (to ≡ step_of (blocks_of p))
    pub clear : (d : ℕ) → IsPart (blocks_of p) d → from < d → d < to → ⊥
    pub there : HasItems m (image_base + begin) (spelled_by spell code) (image_base + end)
    pub right : (rs : List ℕ) → is_body (following 0 0 [] (spelled_by spell code) (Body rs)) ≡ true
    pub calls : CallsLead P begin (spelled_by spell code)
    pub taken : TakenLead P begin (spelled_by spell code)

name_right : (at function : ℕ) (rs : List ℕ)
    → is_body (following 0 0 [] (spelled_by spell (name_thunk at function)) (Body rs)) ≡ true
unfolding modrm
name_right at function rs = refl

stub_right : (r : Reg) (at name slot : ℕ) → is_stub_register r ≡ true → (rs : List ℕ)
    → is_body (following 0 0 [] (spelled_by spell (stub r at name slot)) (Body rs)) ≡ true
unfolding modrm
stub_right Rcx at name slot e rs = refl
stub_right Rdx at name slot e rs = refl
stub_right r at name slot e rs = absurd (false≢true e)

-- the size of the instruction that takes an address
address_size : (r : Reg) (next to : ℕ) → is_stub_register r ≡ true
    → (spell (address_in r next to)).size ≡ 7
unfolding modrm
address_size Rcx next to e = refl
address_size Rdx next to e = refl
address_size r next to e = absurd (false≢true e)

-- a stub takes the address that it is given
stub_takes : (r : Reg) (at name slot : ℕ) → is_stub_register r ≡ true → IsNear (at + 7)
    → IsNear name → (P : ℕ → Type 0) → P name
    → TakenLead P at (spelled_by spell (stub r at name slot))
stub_takes r at name slot is here near P leads =
    let size = address_size r (at + 7) name is in
    let e : (at + (spell (address_in r (at + 7) name)).size + distance (at + 7) name) % 2 ^ 64
    ≡ name =
    ap (λ n. (at + n + distance (at + 7) name) % 2 ^ 64) size
    ∙ arrives (at + 7) name (omega arith, omega arith, omega arith, omega arith) in
    ((subst P (sym e) leads, tt), (tt, tt))

module _ (p : LinearProgram) (fits : FitsProgram p) (m : Memory) (text : HasText m p)
    (P : ℕ → Type 0) (leads : (f : ℕ) → P (block_begin p f)) where
  abbrev s : SiteView
  s = site_of p

  near : IsSiteNear s
  near = site_near (services_of p) p.globals (routines p) (length p.functions) p.main
      (services_few p) fits.globals (routines_near p fits) (has_places p fits)

  -- code of so many bytes is in memory as its instructions
  there : (n at : ℕ) (code : List Instr) → IsNear (at + n) → length (spelled code) ≡ n
      → all_encodable code ≡ true → IsExecutableAt m (image_base + at) (spelled code)
      → HasItems m (image_base + at) (spelled_by spell code) (image_base + (at + n))
  there n at code small long fine is =
      let end : image_base + at + length (spelled code) ≡ image_base + (at + n) = omega arith in
      subst (λ (n : ℕ). HasItems m (image_base + at) (spelled_by spell code) n) end
      (items_are_at m (image_base + at) code fine (omega arith) is)

  module _ (f rva : ℕ) (below : f < (blocks_of p).count) where
    abbrev at : ℕ
    at = block_begin p f

    inside : at + step_of s.blocks ≤ s.blocks.first + step_of s.blocks * s.blocks.count
    inside = let b = step_below s.blocks f below in omega arith

    -- no part of a block begins inside another
    clear_name : (d : ℕ) → IsPart s.blocks d → 0 < d → d < 15 → ⊥
    clear_name d (at_name e) lt lt' = omega arith
    clear_name d (at_first_stub e) lt lt' = omega arith
    clear_name d (at_second_stub has e) lt lt' = omega arith

    clear_adding : (d : ℕ) → IsPart s.blocks d → 15 < d → d < 28 → ⊥
    clear_adding d (at_name e) lt lt' = omega arith
    clear_adding d (at_first_stub e) lt lt' = omega arith
    clear_adding d (at_second_stub has e) lt lt' = omega arith

    clear_removing : (d : ℕ) → IsPart s.blocks d → 15 + stub_size_if s.blocks.adds < d
        → d < 28 + stub_size_if s.blocks.adds → ⊥
    clear_removing d (at_name e) lt lt' = omega arith
    clear_removing d (at_first_stub e) lt lt' = omega arith
    clear_removing d (at_second_stub has e) lt lt' =
        let size = ap stub_size_if has in omega arith

    in_name : at ≤ rva → rva < at + 15 → IsBlockPiece p m P rva
    in_name low high =
        let within = inside in
        let last = near.blocks in
        let function = address_or s.functions f 0 in
        record {
          begin = at;
          end = at + 15;
          code = name_thunk at function;
          index = f;
          from = 0;
          to = 15;
          begins = omega arith;
          ends = refl;
          within = omega arith;
          next = inl (at_first_stub refl);
          clear = clear_name;
          low = low;
          high = high;
          low_begin = omega arith;
          high_end = omega arith;
          there = there 15 at (name_thunk at function) (omega arith)
              (sizes_spelled (name_thunk at function) ∙ thunk_size at function)
              (thunk_encodable at function (omega arith)
              (below_at (2 ^ 30) s.functions f 0 near.functions (omega arith)))
              (name_thunk_is_at p m f fits text below);
          right = name_right at function;
          calls = (tt, (tt, (tt, (tt, tt))));
          taken = (tt, (tt, (tt, (tt, tt))));
        }

    in_adding : s.blocks.adds ≡ true → at + 15 ≤ rva → rva < at + 28 → IsBlockPiece p m P rva
    in_adding has low high =
        let within = inside in
        let last = near.blocks in
        let size = ap stub_size_if has in
        let slot = s.rdata + slot_of (services_of p) AddVectored in
        let rdata = near.rdata in
        let few = services_few p in
        let place = place_small (services_of p) AddVectored in
        let begin = adding_at at in
        record {
          begin = begin;
          end = begin + 13;
          code = adding_stub begin at slot;
          index = f;
          from = 15;
          to = 28;
          begins = refl;
          ends = omega arith;
          within = omega arith;
          next = inl (at_second_stub has refl);
          clear = clear_adding;
          low = low;
          high = omega arith;
          low_begin = omega arith;
          high_end = omega arith;
          there = there 13 begin (adding_stub begin at slot) (omega arith)
              (sizes_spelled (adding_stub begin at slot) ∙ adding_size begin at slot)
              (stub_encodable Rdx begin at slot (omega arith) (omega arith) (omega arith))
              (adding_stub_is_at p m f fits text below has);
          right = stub_right Rdx begin at slot refl;
          calls = (tt, (tt, tt));
          taken = stub_takes Rdx begin at slot refl (omega arith) (omega arith) P (leads f);
        }

    in_removing : s.blocks.removes ≡ true → removing_at s.blocks.adds at ≤ rva
        → rva < removing_at s.blocks.adds at + 13 → IsBlockPiece p m P rva
    in_removing has low high =
        let within = inside in
        let last = near.blocks in
        let size = ap stub_size_if has in
        let slot = s.rdata + slot_of (services_of p) RemoveVectored in
        let rdata = near.rdata in
        let few = services_few p in
        let place = place_small (services_of p) RemoveVectored in
        let begin = removing_at s.blocks.adds at in
        record {
          begin = begin;
          end = begin + 13;
          code = removing_stub begin at slot;
          index = f;
          from = 15 + stub_size_if s.blocks.adds;
          to = 28 + stub_size_if s.blocks.adds;
          begins = omega arith;
          ends = omega arith;
          within = omega arith;
          next = inr (omega arith);
          clear = clear_removing;
          low = low;
          high = high;
          low_begin = omega arith;
          high_end = omega arith;
          there = there 13 begin (removing_stub begin at slot) (omega arith)
              (sizes_spelled (removing_stub begin at slot) ∙ removing_size begin at slot)
              (stub_encodable Rcx begin at slot (omega arith) (omega arith) (omega arith))
              (removing_stub_is_at p m f fits text below has);
          right = stub_right Rcx begin at slot refl;
          calls = (tt, (tt, tt));
          taken = stub_takes Rcx begin at slot refl (omega arith) (omega arith) P (leads f);
        }

    after_both : (removes : Bool) → s.blocks.removes ≡ removes
        → removing_at s.blocks.adds at ≤ rva
        → rva < at + step_of s.blocks → IsBlockPiece p m P rva
    after_both true has low high =
        let size = ap stub_size_if has in in_removing has low (omega arith)
    after_both false has low high = let size = ap stub_size_if has in absurd (omega arith)

    after_name : (adds : Bool) → s.blocks.adds ≡ adds → at + 15 ≤ rva
        → rva < at + step_of s.blocks → IsBlockPiece p m P rva
    after_name true has low high =
        let size = ap stub_size_if has in
        elim (cases_lt rva (at + 28)) [
          | inl here ↦ in_adding has low here
          | inr past ↦ after_both s.blocks.removes refl (omega arith) high
        ]
    after_name false has low high =
        let size = ap stub_size_if has in after_both s.blocks.removes refl (omega arith) high

    in_block : at ≤ rva → rva < at + step_of s.blocks → IsBlockPiece p m P rva
    in_block low high = elim (cases_lt rva (at + 15)) [
      | inl here ↦ in_name low here
      | inr past ↦ after_name s.blocks.adds refl past high
    ]

  -- each address of the blocks is in one of them
  pub block_piece : (rva : ℕ) → (blocks_of p).first ≤ rva
      → rva < (blocks_of p).first + step_of (blocks_of p) * (blocks_of p).count
      → IsBlockPiece p m P rva
  block_piece rva low high =
      let x = around s.blocks.adds s.blocks.removes s.blocks.count s.blocks.first rva low high in
      in_block x.index rva x.below x.low x.high
