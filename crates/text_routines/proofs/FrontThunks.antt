-- The front of a text, whatever services are imported: their thunks, one after another, and
-- `__chkstk`.
use Rattle.std.proofs.Common.{◌≡◌, ◌⊎◌, inl, inr, ℕ, suc, ◌+◌, ◌*◌, ◌^◌, ◌<◌, ◌≤◌, true, List, [], ◌∷◌, ◌++◌, length, map, refl, sym, ap, subst, ◌∙◌, arith}
use Rattle.std.proofs.lemmas.Bool.{cases_lt, and_from}
use Rattle.flat_memory.specs.Memory.{Memory}
use Rattle.x64_instr.specs.declared.instruction.Instr.{Instr}
use Rattle.x64_encode.specs.Chosen.{is_encodable, modrm}
use Rattle.virtual_unwind.specs.Tail.{FetchedInstr}
use Rattle.frame_rules.specs.Body.{Body, following, is_body}
use Rattle.frame_rules.specs.Plan.{spelled_by, all_encodable}
use Rattle.frame_rules.specs.Bytes.{spell, IsExecutableAt}
use Rattle.frame_rules.specs.States.{HasItems}
use Rattle.frame_rules.proofs.Bytes.{items_are_at}
use Rattle.host_layout.specs.declared.imported.ImportedService.{ImportedService}
use Rattle.host_layout.specs.declared.limit.TheConstants.{MOST_IMAGE}
use Rattle.template_code.specs.Bytes.{spelled}
use Rattle.template_code.specs.Probing.{check_stack}
use Rattle.template_code.proofs.Sizes.{sizes_spelled}
use Rattle.pe_write.specs.ImportTables.{slot_of}
use Rattle.x64_emit.specs.declared.entry.TheConstants.{CHECK_STACK_SIZE, THUNK_SIZE}
use Rattle.x64_emit.proofs.Nearby.{near_signed}
use Rattle.image_link.specs.Near.{AreFew}
use Rattle.image_link.specs.Text.{service_thunk, thunk_at, front_code, front_size}
use Rattle.image_link.proofs.Front.{front_sizes, place_small}
use Rattle.image_tables.proofs.CodeInMemory.{executable_split}
use Rattle.image_tables.proofs.Handlers.{thunk_bytes}
use Rattle.text_routines.proofs.Plain.{all_plain}

pub probe_right : (rs : List ℕ)
    → is_body (following 0 0 [] (spelled_by spell check_stack) (Body rs)) ≡ true
unfolding modrm
probe_right rs = refl

module _ (imports : List ImportedService) (text rdata : ℕ) where
  abbrev thunk : ImportedService → Instr
  thunk v = service_thunk imports text rdata v

  -- a thunk can be spelled, where the image is small
  pub thunk_near : AreFew imports → text ≤ MOST_IMAGE → rdata ≤ MOST_IMAGE
      → (v : ImportedService) → is_encodable (thunk v) ≡ true
  thunk_near few low near v =
      let place = place_small imports v in
      near_signed (thunk_at imports text v + THUNK_SIZE) (rdata + slot_of imports v) (omega arith)
      (omega arith)

  thunk_right : (v : ImportedService) (rs : List ℕ)
      → is_body (following 0 0 [] (spell (thunk v) ∷ []) (Body rs)) ≡ true
  unfolding modrm
  thunk_right v rs = refl

  encodable_from : ((v : ImportedService) → is_encodable (thunk v) ≡ true)
      → (ss : List ImportedService) → all_encodable (map thunk ss ++ check_stack) ≡ true
  encodable_from near [] = refl
  encodable_from near (v ∷ vs) = and_from _ _ (near v) (encodable_from near vs)

  -- the front is in memory
  pub front_there : (m : Memory) (begin : ℕ) (rest : List ℕ)
      → ((v : ImportedService) → is_encodable (thunk v) ≡ true)
      → begin + front_size imports < 2 ^ 63
      → IsExecutableAt m begin (spelled (front_code imports text rdata) ++ rest)
      → HasItems m begin (spelled_by spell (front_code imports text rdata))
      (begin + front_size imports)
  front_there m begin rest near small there =
      let is = front_code imports text rdata in
      let long : length (spelled is) ≡ front_size imports = sizes_spelled is
      ∙ front_sizes imports text rdata in
      let own = executable_split m begin (spelled is) rest there in
      subst (λ (n : ℕ). HasItems m begin (spelled_by spell is) (begin + n)) long
      (items_are_at m begin is (encodable_from near imports)
      (subst (λ (n : ℕ). begin + n < 2 ^ 63) (sym long) small) own.0)

  -- the first of some thunks, and what comes after it
  one : (m : Memory) (at : ℕ) (v : ImportedService) (xs : List FetchedInstr) (to : ℕ)
      → HasItems m at (spell (thunk v) ∷ xs) to
      → HasItems m at (spell (thunk v) ∷ []) (at + 6) × HasItems m (at + 6) xs to
  one m at v xs to h =
      let n : (spell (thunk v)).size ≡ 6 = ap length (thunk_bytes _) in
      let end : at + (spell (thunk v)).size ≡ at + 6 = omega arith in
      ((h.0, h.1, end), subst (λ (k : ℕ). HasItems m k xs to) end h.2)

  -- the thunk around an address, or `__chkstk`: instructions that don't write RSP and refer to no
  -- address of the text
  pub record IsFrontPiece (m : Memory) (base to rva : ℕ) : Type 0 where
    pub begin : ℕ
    pub end : ℕ
    pub code : List Instr
    pub index : ℕ
    pub low : begin ≤ rva
    pub high : rva < end
    pub inside : end ≤ to
    pub few : index ≤ length imports
    pub place : begin ≡ text + 6 * index
    pub next : ((index < length imports) × (end ≡ begin + 6))
        ⊎ ((index ≡ length imports) × (end ≡ to))
    pub there : HasItems m (base + begin) (spelled_by spell code) (base + end)
    pub right : (rs : List ℕ) → is_body (following 0 0 [] (spelled_by spell code) (Body rs)) ≡ true
    pub plain : all_plain code ≡ true

  front_from : (m : Memory) (base to : ℕ) (ss : List ImportedService) (index at rva : ℕ)
      → HasItems m (base + at) (spelled_by spell (map thunk ss ++ check_stack)) (base + to)
      → at + 6 * length ss + CHECK_STACK_SIZE ≡ to → index + length ss ≡ length imports
      → at ≡ text + 6 * index → at ≤ rva → rva < to
      → IsFrontPiece m base to rva
  front_from m base to [] index at rva h end count place low high = record {
    begin = at;
    end = to;
    code = check_stack;
    index = index;
    low = low;
    high = high;
    inside = omega arith;
    few = omega arith;
    place = place;
    next = inr (omega arith, refl);
    there = h;
    right = probe_right;
    plain = refl;
  }
  front_from m base to (v ∷ vs) index at rva h end count place low high =
      let rest = spelled_by spell (map thunk vs ++ check_stack) in
      let next : base + at + 6 ≡ base + (at + 6) = omega arith in
      let a = one m (base + at) v rest (base + to) h in
      elim (cases_lt rva (at + 6)) [
        | inl before ↦ record {
          begin = at;
          end = at + 6;
          code = thunk v ∷ [];
          index = index;
          low = low;
          high = before;
          inside = omega arith;
          few = omega arith;
          place = place;
          next = inl (omega arith, refl);
          there = subst (λ (k : ℕ). HasItems m (base + at) (spell (thunk v) ∷ []) k) next a.0;
          right = thunk_right v;
          plain = refl;
        }
        | inr past ↦ front_from m base to vs (suc index) (at + 6) rva
            (subst (λ (k : ℕ). HasItems m k rest (base + to)) next a.1) (omega arith)
            (omega arith) (omega arith) past high
      ]

  -- each address of the front is in one of them
  pub front_piece : (m : Memory) (base to rva : ℕ)
      → HasItems m (base + text) (spelled_by spell (front_code imports text rdata)) (base + to)
      → text + front_size imports ≡ to → text ≤ rva → rva < to → IsFrontPiece m base to rva
  front_piece m base to rva h end low high =
      front_from m base to imports 0 text rva h (omega arith) (omega arith) (omega arith) low high
