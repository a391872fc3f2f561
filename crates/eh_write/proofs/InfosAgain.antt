-- Unwind infos that are written, with the scope tables after them, read again.
use Rattle.std.proofs.Common.{◌≡◌, ℕ, zero, suc, ◌+◌, ◌*◌, ◌/◌, ◌%◌, ◌^◌, ◌<◌, Bool, true, false, not, cond, Option, Some, None, Ok, List, [], ◌++◌, length, take, drop, replicate, length-append, refl, sym, ap, ◌∙◌, subst, append_assoc, arith}
use Rattle.std.proofs.lemmas.Bool.{eq-eqb, ne_eqb, lt-ltb}
use Rattle.std.proofs.lemmas.List.{append-nil, length-replicate, take_at, drop_at, drop-drop}
use Rattle.std.specs.List.{flat_map}
use Rattle.std.specs.Prelude.{◌&&◌, ◌==◌, nat_lt, nat_le}
use Rattle.seh_num.specs.Widths.{if_set}
use Rattle.byteorder.specs.Endian.{little_number}
use Rattle.eh_write.specs.Words.{field, Image, stored, UNWIND_CODES, HANDLER_SIZE, RUNTIME_FUNCTION_SIZE, UNWIND_VERSION, UNW_FLAG_EHANDLER, UNW_FLAG_UHANDLER, UNW_FLAG_CHAININFO, RuntimeFunction, ScopeRecord, TableErr, ◌>>=◌, unless, or_refused, Table, Info, range_at, info_of, info, stored_info, stored_scope_records, scope_records_at, scope_records_if, u32, codes_bytes, trailer_flags, trailer_bytes, range_bytes, padded, header, unwind_bytes, is_framed, IsTrailer, CanBeWritten, scope_record_bytes, scope_bytes, IsStoredAt, HasTrailer, IsUnwindInfo, handler_of, parent_of, is_c, has_c_handler, info_written, InfoIsReadAgain, ScopeRecordsAreReadAgain}
use Rattle.eh_tables.specs.declared.refusal.TableErr.TheVariants as refusals
use Rattle.eh_write.specs.declared.unwind_info.Trailer.{Trailer}
use Rattle.eh_write.specs.declared.unwind_info.Trailer.TheVariants.{Nothing, Handler, Parent}
use Rattle.eh_write.specs.declared.unwind_info.UnwindInfo.{UnwindInfo}
use Rattle.eh_tables.specs.Codes as slots
use Rattle.eh_tables.specs.Handler.{is_c_handler}
use Rattle.eh_tables.specs.Infos as infos
use Rattle.eh_tables.specs.Scopes as scopes
use Rattle.eh_write.proofs.CodesAgain.{codes_again, order_again, whole_slots}
use Rattle.eh_write.proofs.TablesAgain.{front_is_at, four_is, range_again, range_length, rows_again, rows_length}

-- ---- the first byte: version and flags

version_is : (f : ℕ) → (UNWIND_VERSION + 8 * f) % 8 ≡ UNWIND_VERSION
version_is f = omega arith

flags_is : (f : ℕ) → (UNWIND_VERSION + 8 * f) / 8 ≡ f
flags_is f = omega arith

-- ---- what the flags say of the trailer

abbrev handled : ℕ → Bool
handled f = nat_lt 0 f && nat_lt f UNW_FLAG_CHAININFO

record TrailerAgain (t : Trailer) : Type 0 where
  known : nat_le (trailer_flags t) UNW_FLAG_CHAININFO ≡ true
  size : cond (handled (trailer_flags t)) HANDLER_SIZE
      (cond (trailer_flags t == UNW_FLAG_CHAININFO) RUNTIME_FUNCTION_SIZE 0)
      ≡ length (trailer_bytes t)
  handler : cond (handled (trailer_flags t)) (Some (field 4 (trailer_bytes t) 0)) None
      ≡ handler_of t
  parent : cond (trailer_flags t == UNW_FLAG_CHAININFO) (Some (range_at (trailer_bytes t) 0)) None
      ≡ parent_of t
  c : (image : Image) → (handled (trailer_flags t)
      && is_c_handler image (field 4 (trailer_bytes t) 0)) ≡ is_c image (handler_of t)

handler_field : (rva : ℕ) → rva < 2 ^ 32 → field 4 (u32 rva) 0 ≡ rva
unfolding u32
handler_field rva lt = four_is rva lt

handler_size : (rva : ℕ) → length (u32 rva) ≡ 4
unfolding u32
handler_size rva = refl

-- the flags of a handler
abbrev handler_flags : Bool → Bool → ℕ
handler_flags s u = if_set s UNW_FLAG_EHANDLER + if_set u UNW_FLAG_UHANDLER

handler_again : (s u : Bool) (rva : ℕ) → handled (handler_flags s u) ≡ true
    → nat_le (handler_flags s u) UNW_FLAG_CHAININFO ≡ true
    → (handler_flags s u == UNW_FLAG_CHAININFO) ≡ false → rva < 2 ^ 32
    → TrailerAgain (Handler s u rva)
handler_again s u rva is known other lt = record {
  known = known;
  size = ap (λ b. cond b HANDLER_SIZE (cond (handler_flags s u == UNW_FLAG_CHAININFO)
      RUNTIME_FUNCTION_SIZE 0)) is ∙ sym (handler_size rva);
  handler = ap (λ b. cond b (Some (field 4 (u32 rva) 0)) None) is
      ∙ ap (λ (n : ℕ). Some n) (handler_field rva lt);
  parent = ap (λ b. cond b (Some (range_at (u32 rva) 0)) None) other;
  c = λ image. ap (λ b. b && is_c_handler image (field 4 (u32 rva) 0)) is
      ∙ ap (is_c_handler image) (handler_field rva lt);
}

trailer_again : (t : Trailer) → IsTrailer t → HasTrailer t → TrailerAgain t
trailer_again Nothing some is = record {
  known = refl;
  size = refl;
  handler = refl;
  parent = refl;
  c = λ image. refl;
}
trailer_again (Handler false false rva) some is = absurd (let h = some refl in cc)
trailer_again (Handler true false rva) some is = handler_again true false rva refl refl refl is
trailer_again (Handler false true rva) some is = handler_again false true rva refl refl refl is
trailer_again (Handler true true rva) some is = handler_again true true rva refl refl refl is
trailer_again (Parent r) some is = record {
  known = refl;
  size = sym (range_length r);
  handler = refl;
  parent = ap (λ (t : RuntimeFunction). Some t)
      (ap (λ l. range_at l 0) (sym (append-nil (range_bytes r))) ∙ range_again r [] is);
  c = λ image. refl;
}

-- ---- the checks in their order

opened : (t : Bool) (o : Option (List ℕ)) (head : List ℕ) (e1 e2 : TableErr)
    (next : List ℕ → Table (List ℕ)) → t ≡ true → o ≡ Some head
    → (unless t e1 >>= λ _. or_refused o e2 >>= next) ≡ next head
opened t o head e1 e2 next h1 h2 = rw (h1, h2) refl

known : (t1 t2 : Bool) (o : Option (List ℕ)) (xs : List ℕ) (e1 e2 e3 : TableErr) → t1 ≡ true
    → t2 ≡ true → o ≡ Some xs
    → (unless t1 e1 >>= λ _. unless t2 e2 >>= λ _. or_refused o e3) ≡ Ok xs
known t1 t2 o xs e1 e2 e3 h1 h2 h3 = rw (h1, h2, h3) refl

counted : (o : Option (List ℕ)) (first xs : List ℕ) (f : List ℕ → Option (List ℕ))
    (next : List ℕ → List ℕ) (e : TableErr) → o ≡ Some first → f first ≡ Some xs
    → (or_refused o e >>= λ c. or_refused (f c) e >>= λ all. Ok (next all)) ≡ Ok (next xs)
counted o first xs f next e h1 h2 = rw (h1, h2) refl

all_read : (t : Table (List ℕ)) (bytes rows : List ℕ) (r : List ℕ → Table (List ℕ))
    (c s : List ℕ → Table Unit) (k : List ℕ → List ℕ → Info) → t ≡ Ok bytes → r bytes ≡ Ok rows
    → c bytes ≡ Ok tt
    → (t >>= λ bytes. r bytes >>= λ rows. c bytes >>= λ _. s rows >>= λ _. Ok (k bytes rows))
    ≡ (s rows >>= λ _. Ok (k bytes rows))
all_read t bytes rows r c s k h1 h2 h3 = rw (h1, h2, h3) refl

-- ---- the frame register

framed_is : (n : ℕ) → not (n == 0) ≡ nat_lt 0 n
framed_is zero = refl
framed_is (suc n) = ap not (ne_eqb (suc n) 0 (λ e. omega (arith, e)))
    ∙ sym (lt-ltb 0 (suc n) (omega arith))

register_is : (r o : ℕ) → r < 16 → o % 16 ≡ 0 → (r + o) % 16 ≡ r
register_is r o lt whole = omega arith

offset_is : (r o : ℕ) → r < 16 → o % 16 ≡ 0 → 16 * ((r + o) / 16) ≡ o
offset_is r o lt whole = omega arith

-- ---- where the slots end

padded_length : (xs : List ℕ) (k : ℕ) → length xs ≡ 2 * k → length (padded xs) ≡ 4 * ((k + 1) / 2)
padded_length xs k e = omega (
  arith,
  e,
  length-append xs (replicate (length xs % 4) 0),
  length-replicate {A = ℕ} (length xs % 4) 0,
)

module _ (i : UnwindInfo) (is : IsUnwindInfo i) (can : CanBeWritten i) where
  abbrev sl : List ℕ
  sl = codes_bytes i.codes.items

  abbrev tail : List ℕ
  tail = trailer_bytes i.trailer

  abbrev front : List ℕ
  front = header i (length sl) ++ padded sl

  abbrev all : List ℕ
  all = front ++ tail

  whole : length sl ≡ 2 * (length sl / 2)
  whole = omega (arith, whole_slots (is_framed i) i.codes.items can.codes is.operations)

  trailer : TrailerAgain i.trailer
  trailer = trailer_again i.trailer can.trailer is.trailer

  end_is : UNWIND_CODES + 4 * ((length sl / 2 + 1) / 2) ≡ length front
  end_is = omega (
    arith,
    padded_length sl (length sl / 2) whole,
    length-append (header i (length sl)) (padded sl),
  )

  size_is : infos.slots_end (header i (length sl)) + infos.trailer_size (header i (length sl))
      ≡ length all
  size_is =
      let e = ap (λ f. cond (handled f) HANDLER_SIZE
      (cond (f == UNW_FLAG_CHAININFO) RUNTIME_FUNCTION_SIZE 0))
      (flags_is (trailer_flags i.trailer)) ∙ trailer.size in
      omega (arith, end_is, e, length-append front tail)

  stored_again : (image : Image) (index rva : ℕ) (rest : List ℕ) → rva % 4 ≡ 0
      → IsStoredAt image rva (all ++ rest) → stored_info image index rva ≡ Ok all
  unfolding stored_info
  stored_again image index rva rest aligned is_there =
      let total = all ++ rest in
      let long = length-append all rest in
      let first : stored image.sections rva UNWIND_CODES
      ≡ Some (header i (length sl)) = front_is_at image.sections rva (length total) UNWIND_CODES
      total (omega (arith, long, length-append front tail, end_is)) is_there in
      let second : stored image.sections rva (length all) ≡ Some all =
      front_is_at image.sections rva (length total) (length all) total (omega (arith, long))
      is_there ∙ ap (λ (l : List ℕ). Some l) (take_at all rest (length all) refl) in
      let head = header i (length sl) in
      opened (rva % 4 == 0) (stored image.sections rva UNWIND_CODES) head (refusals.Misaligned rva)
      (refusals.Truncated rva)
      (λ h. unless (infos.version h == UNWIND_VERSION) (refusals.Version index (infos.version h))
      >>= λ _. unless (infos.are_flags (infos.flags h)) (refusals.Flags index)
      >>= λ _. or_refused (stored image.sections rva (infos.slots_end h + infos.trailer_size h))
      (refusals.Truncated rva))
      (eq-eqb (rva % 4) 0 aligned) first
      ∙ known (infos.version head == UNWIND_VERSION) (infos.are_flags (infos.flags head))
      (stored image.sections rva (infos.slots_end head + infos.trailer_size head)) all
      (refusals.Version index (infos.version head)) (refusals.Flags index) (refusals.Truncated rva)
      (eq-eqb (infos.version head) UNWIND_VERSION (version_is (trailer_flags i.trailer)))
      (ap (λ f. nat_le f UNW_FLAG_CHAININFO) (flags_is (trailer_flags i.trailer)) ∙ trailer.known)
      (ap (stored image.sections rva) size_is ∙ second)

  -- ---- the fields of what is stored

  flags_again : infos.flags all ≡ trailer_flags i.trailer
  flags_again = flags_is (trailer_flags i.trailer)

  register_again : infos.frame_register all ≡ i.frame_register
  register_again = register_is i.frame_register i.frame_offset can.register can.offset

  offset_again : infos.frame_offset all ≡ i.frame_offset
  offset_again = offset_is i.frame_register i.frame_offset can.register can.offset

  framed_again : infos.is_framed all ≡ is_framed i
  framed_again = ap (λ n. not (n == 0)) register_again ∙ framed_is i.frame_register

  slots_again : infos.slots_of all ≡ sl
  slots_again =
      ap (λ n. take n (padded sl ++ tail)) (sym whole)
      ∙ ap (take (length sl)) (append_assoc sl (replicate (length sl % 4) 0) tail)
      ∙ take_at sl (replicate (length sl % 4) 0 ++ tail) (length sl) refl

  bytes_again : take (infos.slots_end all) all ≡ front
  bytes_again = ap (λ n. take n all) end_is ∙ take_at front tail (length front) refl

  tail_again : drop (infos.slots_end all) all ≡ tail
  tail_again = ap (λ n. drop n all) end_is ∙ drop_at front tail (length front) refl

  field_again : (k : ℕ) → field 4 all (infos.slots_end all + k) ≡ field 4 tail k
  field_again k = ap (little_number 4) (sym (drop-drop k (infos.slots_end all) all)
      ∙ ap (drop k) tail_again)

  handler_at_again : infos.handler_at all ≡ field 4 tail 0
  handler_at_again = ap (little_number 4) tail_again

  range_at_again : range_at all (infos.slots_end all) ≡ range_at tail 0
  range_at_again = λ j. record {
    begin = field_again 0 j;
    end = field_again 4 j;
    unwind_info = field_again 8 j;
  }

  handler_read : infos.handler all ≡ handler_of i.trailer
  handler_read =
      ap (λ f. cond (handled f) (Some (infos.handler_at all)) None) flags_again
      ∙ ap (λ (n : ℕ). cond (handled (trailer_flags i.trailer)) (Some n) None) handler_at_again
      ∙ trailer.handler

  parent_read : infos.parent all ≡ parent_of i.trailer
  parent_read =
      ap (λ (f : ℕ). cond (f == UNW_FLAG_CHAININFO) (Some (range_at all (infos.slots_end all)))
      None) flags_again
      ∙ ap (λ (r : RuntimeFunction). cond (trailer_flags i.trailer == UNW_FLAG_CHAININFO) (Some r)
      None) range_at_again
      ∙ trailer.parent

  c_again : (image : Image) → infos.is_c image all ≡ has_c_handler image i
  c_again image =
      ap (λ f. handled f && is_c_handler image (infos.handler_at all)) flags_again
      ∙ ap (λ n. handled (trailer_flags i.trailer) && is_c_handler image n) handler_at_again
      ∙ trailer.c image

  codes_read : slots.codes (infos.is_framed all) 0 (infos.slots_of all) ≡ i.codes.items
  codes_read =
      ap (λ b. slots.codes b 0 (infos.slots_of all)) framed_again
      ∙ ap (slots.codes (is_framed i) 0) slots_again
      ∙ codes_again (is_framed i) i.codes.items can.codes is.operations

  order_read : (index : ℕ) → slots.checked index (infos.is_framed all) 0 255 0 (infos.slots_of all)
      ≡ Ok tt
  order_read index =
      ap (λ b. slots.checked index b 0 255 0 (infos.slots_of all)) framed_again
      ∙ ap (slots.checked index (is_framed i) 0 255 0) slots_again
      ∙ order_again (is_framed i) index i.codes.items 0 255 can.codes is.operations can.order

  said_again : (b c : Bool) (bytes : List ℕ) (rows : List ScopeRecord) → b ≡ c
      → scopes.scope_records_in bytes ≡ rows → info_of all b bytes ≡ info_written i c rows
  said_again b c bytes rows same are = λ j. record {
    bytes = bytes_again j;
    flags = flags_again j;
    prologue_size = i.prologue_size;
    frame_register = register_again j;
    frame_offset = offset_again j;
    codes = codes_read j;
    handler = handler_read j;
    parent = parent_read j;
    has_c_handler = same j;
    scopes = are j;
  }

  -- ---- the whole

  whole_info : (image : Image) (index rva : ℕ) (rest bytes : List ℕ) (b : Bool)
      (rows : List ScopeRecord) → rva % 4 ≡ 0 → has_c_handler image i ≡ b
      → IsStoredAt image rva (all ++ rest)
      → stored_scope_records image rva all ≡ Ok bytes → scopes.scope_records_in bytes ≡ rows
      → info image index rva ≡ (scopes.checked index image.size 0 rows
      >>= λ _. Ok (info_written i b rows))
  unfolding info
  whole_info image index rva rest bytes b rows aligned c is_there after are =
      all_read (stored_info image index rva) all bytes (stored_scope_records image rva)
      (λ x. slots.checked index (infos.is_framed x) 0 255 0 (infos.slots_of x))
      (λ r. scopes.checked index image.size 0 (scopes.scope_records_in r))
      (λ x r. info_of x (infos.is_c image x) r)
      (stored_again image index rva rest aligned is_there) after (order_read index)
      ∙ ap (λ (r : List ScopeRecord). scopes.checked index image.size 0 r
      >>= λ _. Ok (info_of all (infos.is_c image all) bytes)) are
      ∙ ap (λ (x : Info). scopes.checked index image.size 0 rows >>= λ _. Ok x)
      (said_again (infos.is_c image all) b bytes rows (c_again image ∙ c) are)

  no_rows : (image : Image) (rva : ℕ) → has_c_handler image i ≡ false
      → stored_scope_records image rva all ≡ Ok []
  unfolding stored_scope_records
  no_rows image rva none = ap (scope_records_if
      (scope_records_at image rva (infos.slots_end all + HANDLER_SIZE))) (c_again image ∙ none)

  handler_length : (image : Image) (t : Trailer) → is_c image (handler_of t) ≡ true
      → length (trailer_bytes t) ≡ 4
  handler_length image Nothing h = absurd cc
  handler_length image (Handler s u rva) h = handler_size rva
  handler_length image (Parent r) h = absurd cc

  count_again : (n : ℕ) → n < 2 ^ 32 → little_number 4 (u32 n) ≡ n
  unfolding u32
  count_again n lt = four_is n lt

  rows_after : (image : Image) (rva : ℕ) (rs : List ScopeRecord) → length rs < 2 ^ 32
      → IsStoredAt image rva (all ++ scope_bytes rs)
      → scope_records_at image rva (length all) ≡ Ok (flat_map scope_record_bytes rs)
  rows_after image rva rs few is_there =
      let count = u32 (length rs) in
      let body = flat_map scope_record_bytes rs in
      let total = all ++ (count ++ body) in
      let four_more : length (all ++ count) ≡ length all
      + 4 = omega (arith, length-append all count, handler_size (length rs)) in
      let long : length total ≡ length all + 4
      + 16 * length rs = omega (
        arith,
        length-append all (count ++ body),
        length-append count body,
        handler_size (length rs),
        rows_length rs,
      ) in
      let parted : total ≡ all ++ count ++ body = sym (append_assoc all count body) in
      let first : stored image.sections rva (length all + 4) ≡ Some (all ++ count) =
      front_is_at image.sections rva (length total) (length all + 4) total (omega (arith, long))
      is_there
      ∙ ap (λ (l : List ℕ). Some (take (length all + 4) l)) parted
      ∙ ap (λ (l : List ℕ). Some l) (take_at (all ++ count) body (length all + 4) four_more) in
      let count_is : field 4 (all ++ count) (length all) ≡ length rs =
      ap (little_number 4) (drop_at all count (length all) refl) ∙ count_again (length rs) few in
      let second : stored image.sections rva (length all + 4
      + 16 * field 4 (all ++ count) (length all)) ≡ Some total =
      ap (λ n. stored image.sections rva (length all + 4 + 16 * n)) count_is
      ∙ ap (stored image.sections rva) (sym long)
      ∙ is_there in
      counted (stored image.sections rva (length all + 4)) (all ++ count) total
      (λ c. stored image.sections rva (length all + 4 + 16 * field 4 c (length all)))
      (drop (length all + 4)) (refusals.Truncated rva) first second
      ∙ ap (λ (l : List ℕ). Ok (drop (length all + 4) l)) parted
      ∙ ap (λ (l : List ℕ). Ok l) (drop_at (all ++ count) body (length all + 4) four_more)

  c_rows : (image : Image) (rva : ℕ) (rs : List ScopeRecord) → length rs < 2 ^ 32
      → has_c_handler image i ≡ true → IsStoredAt image rva (all ++ scope_bytes rs)
      → stored_scope_records image rva all ≡ Ok (flat_map scope_record_bytes rs)
  unfolding stored_scope_records
  c_rows image rva rs few some is_there =
      let after : infos.slots_end all + HANDLER_SIZE
      ≡ length all = omega (
        arith,
        end_is,
        handler_length image i.trailer some,
        length-append front tail,
      ) in
      ap (scope_records_if (scope_records_at image rva (infos.slots_end all + HANDLER_SIZE)))
      (c_again image ∙ some)
      ∙ ap (scope_records_at image rva) after
      ∙ rows_after image rva rs few is_there

pub reads_info : InfoIsReadAgain
unfolding unwind_bytes
reads_info image index rva i is can aligned none is_there =
    let bytes = all i is can in
    let there : IsStoredAt image rva (bytes ++ []) = subst (IsStoredAt image rva)
    (sym (append-nil bytes)) is_there in
    whole_info i is can image index rva [] [] false [] aligned none there
    (no_rows i is can image rva none) refl

pub reads_scopes : ScopeRecordsAreReadAgain
unfolding unwind_bytes
reads_scopes image index rva i rows is can are few aligned some is_there =
    whole_info i is can image index rva (scope_bytes rows) (flat_map scope_record_bytes rows) true
    rows aligned some is_there (c_rows i is can image rva rows few some is_there)
    (rows_again rows are)
