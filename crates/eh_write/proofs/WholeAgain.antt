-- A function table that is written, read again as a whole.
use Rattle.std.proofs.Common.{◌≡◌, ℕ, zero, suc, ◌+◌, ◌<◌, ◌≤◌, Bool, true, false, Ok, List, [], ◌∷◌, length, map, Option, refl, sym, ap, ◌∙◌, arith}
use Rattle.std.specs.List.{AllByRecursion}
use Rattle.eh_write.specs.Words.{Image, MOST_PARENTS, RuntimeFunction, ScopeRecord, ◌>>=◌, prepend, Table, Info, info, Entry, entry, entries, parents, WrittenInfo, WrittenEntry, HasScopes, IsInfoWritten, IsChainedTo, IsEntryWritten, AreInOrder, info_read, as_read, ranges_of, has_c_handler, parent_of, info_written, TableIsReadAgain}
use Rattle.eh_tables.proofs.Chains.{entry_is}
use Rattle.eh_write.proofs.InfosAgain.{reads_info, reads_scopes}
use Rattle.eh_write.proofs.TablesAgain.{reads_ranges}

-- by whether there is the C handler
info_by : (image : Image) (index rva : ℕ) (w : WrittenInfo) → IsInfoWritten image rva w → (b : Bool)
    → has_c_handler image w.info ≡ b → HasScopes image rva w b
    → info image index rva ≡ Ok (info_written w.info b w.scopes)
info_by image index rva w h false e has =
    reads_info image index rva w.info h.info h.can h.aligned e has.stored
    ∙ ap (λ (rs : List ScopeRecord). Ok (info_written w.info false rs)) (sym has.none)
info_by image index rva w h true e has =
    reads_scopes image index rva w.info w.scopes h.info h.can has.records has.count h.aligned e
    has.stored
    ∙ ap (λ (t : Table Unit). t >>= λ _. Ok (info_written w.info true w.scopes)) (has.of_code index)

info_again : (image : Image) (index rva : ℕ) (w : WrittenInfo) → IsInfoWritten image rva w
    → info image index rva ≡ Ok (info_read image w)
info_again image index rva w h = info_by image index rva w h (has_c_handler image w.info) refl
    h.stored

-- a chain, info by info
chain_again : (n : ℕ) (image : Image) (index : ℕ) (named : Option RuntimeFunction)
    (ws : List WrittenInfo) → IsChainedTo image named ws → length ws ≤ n
    → parents n image index named ≡ Ok (map (info_read image) ws)
chain_again zero image index named [] h le = ap (parents zero image index) h
chain_again (suc n) image index named [] h le = ap (parents (suc n) image index) h
chain_again zero image index named (w ∷ ws) h le = absurd (omega arith)
chain_again (suc n) image index named (w ∷ ws) h le =
    ap (parents (suc n) image index) h.0.is
    ∙ ap (λ (t : Table Info). t >>= λ i. prepend i (parents n image index i.parent))
    (info_again image index h.0.range.unwind_info w h.0.written)
    ∙ ap (prepend (info_read image w)) (chain_again n image index (parent_of w.info.trailer) ws h.1
    (omega arith))

entry_again : (image : Image) (index last : ℕ) (w : WrittenEntry) → IsEntryWritten image w
    → last ≤ w.range.begin → w.range.begin < w.range.end
    → entry image index last w.range ≡ Ok (as_read image w)
entry_again image index last w h le lt =
    entry_is image index last w.range (info_read image w.own) (map (info_read image) w.parents) lt
    le
    (info_again image index w.range.unwind_info w.own h.own)
    (chain_again MOST_PARENTS image index (parent_of w.own.info.trailer) w.parents h.chain h.count)

entries_again : (image : Image) (index last : ℕ) (ws : List WrittenEntry)
    → AllByRecursion (IsEntryWritten image) ws → AreInOrder last ws
    → entries image index last (ranges_of ws) ≡ Ok (map (as_read image) ws)
entries_again image index last [] h o = refl
entries_again image index last (w ∷ ws) h o =
    ap (λ (t : Table Entry). t >>= λ e. prepend e
    (entries image (index + 1) w.range.end (ranges_of ws)))
    (entry_again image index last w h.0 o.0 o.1)
    ∙ ap (prepend (as_read image w)) (entries_again image (index + 1) w.range.end ws h.1 o.2)

pub reads_table : TableIsReadAgain
reads_table image ws are aligned size stored h o =
    ap (λ (t : Table (List RuntimeFunction)). t >>= λ rs. entries image 0 0 rs)
    (reads_ranges image (ranges_of ws) are aligned size stored)
    ∙ entries_again image 0 0 ws h o
