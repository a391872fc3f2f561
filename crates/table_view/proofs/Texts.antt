-- Texts written one after another.
use Rattle.std.proofs.Common.{◌≡◌, ℕ, zero, suc, ◌+◌, ◌<◌, ◌≤◌, List, [], ◌++◌, length, drop, get_or, drop-cons, Ok, Err, false, subst, sym, ap, ◌∙◌, arith}
use Rattle.std.proofs.lemmas.List.{drop_all}
use Rattle.pe_image.specs.Image.{Image}
use Rattle.pe_image.specs.NameRows.{NameRow, names_of, rows_read}
use Rattle.eh_tables.specs.declared.range.RuntimeFunction.{RuntimeFunction}
use Rattle.eh_tables.specs.declared.refusal.TableErr.{TableErr}
use Rattle.eh_tables.specs.Tables.{Tables, entry_at, no_range, end_before, directory}
use Rattle.seh_io.specs.Streams.{Grew}
use Rattle.seh_io.specs.Writer.{Writer, Wrote, TookPart}
use Rattle.seh_io.specs.Successive.{wrote_more, wrote_none}
use Rattle.table_view.specs.View.{entry_lines, all_lines, count_line, table_lines, view}

pub same : (x z : Writer) (t t' : List ℕ) → Wrote x t z → t ≡ t' → Wrote x t' z
same x z t t' p e = subst (λ (s : List ℕ). Wrote x s z) e p

pub joined : (a b c d : List ℕ) → a ≡ c → b ≡ d → a ++ b ≡ c ++ d
joined a b c d p q = ap (λ t. t ++ b) p ∙ ap (λ t. c ++ t) q

pub two : (x y z : Writer) (a b : List ℕ) → Wrote x a y → Wrote y b z → Wrote x (a ++ b) z
two x y z a b p q = wrote_more x y z a b p q

-- who writes the rest, after a text that begins it, has written the whole
pub then_rest : (x y z : Writer) (t u rest : List ℕ) → rest ≡ t ++ u → Wrote x t y → Wrote y u z
    → Wrote x rest z
then_rest x y z t u rest e p q = same x z (t ++ u) rest (wrote_more x y z t u p q) (sym e)

pub done : (x : Writer) (rest : List ℕ) → rest ≡ [] → Wrote x rest x
done x rest e = same x x [] rest (wrote_none x) (sym e)

-- ---- one entry more

end_next : (rs : List RuntimeFunction) (index k : ℕ) → k ≡ suc index
    → end_before rs k ≡ (get_or rs index no_range).end
end_next rs index zero e = absurd (omega arith)
end_next rs index (suc k) e = let h : k ≡ index = omega arith in
    ap (λ n. (get_or rs n no_range).end) h

pub entry_first : (names : List NameRow) (t : Tables) (index : ℕ) → index < length t.ranges
    → all_lines names t.image index (end_before t.ranges index) (drop index t.ranges)
    ≡ entry_lines names index (entry_at t index) ++ all_lines names t.image (index + 1)
    (end_before t.ranges (index + 1)) (drop (index + 1) t.ranges)
entry_first names t index lt =
    let e : suc index ≡ index + 1 = omega arith in
    let r = get_or t.ranges index no_range in
    ap (all_lines names t.image index (end_before t.ranges index))
    (drop-cons t.ranges index no_range lt)
    ∙ ap (λ n. entry_lines names index (entry_at t index)
    ++ all_lines names t.image (index + 1) r.end (drop n t.ranges)) e
    ∙ ap (λ n. entry_lines names index (entry_at t index)
    ++ all_lines names t.image (index + 1) n (drop (index + 1) t.ranges))
    (sym (end_next t.ranges index (index + 1) (omega arith)))

pub entries_over : (names : List NameRow) (t : Tables) (index : ℕ) → length t.ranges ≤ index
    → all_lines names t.image index (end_before t.ranges index) (drop index t.ranges) ≡ []
entries_over names t index le = ap (all_lines names t.image index (end_before t.ranges index))
    (drop_all index t.ranges le)

pub table_read : (names : List NameRow) (t : Tables) (image : Image)
    → names ≡ rows_read (names_of image) → directory image ≡ Ok t.ranges → t.image ≡ image
    → all_lines names t.image 0 0 t.ranges ++ count_line (length t.ranges) ≡ view image
table_read names t image named is same =
    ap (λ (i : Image). all_lines names i 0 0 t.ranges ++ count_line (length t.ranges)) same
    ∙ ap (λ (rs : List NameRow). all_lines rs image 0 0 t.ranges
    ++ count_line (length t.ranges)) named
    ∙ ap (table_lines (rows_read (names_of image)) image) (sym is)

pub table_refused : (image : Image) (e : TableErr) → directory image ≡ Err e
    → table_lines (rows_read (names_of image)) image (Err e) ≡ view image
table_refused image e is = ap (table_lines (rows_read (names_of image)) image) (sym is)

-- ---- what became of the whole

pub whole : (x z : Writer) (t : List ℕ) → Wrote x t z → z.failed ≡ false → Grew x.taken t z.taken
whole x z t p is = subst (λ (s : List ℕ). Grew x.taken s z.taken) (p.whole is) p.grew

pub part : (x z : Writer) (t : List ℕ) (n : ℕ) → Wrote x t z → x.count ≡ 0 → n ≡ z.count
    → TookPart x.taken t z.taken n
part x z t n p fresh e = record {
  part = p.part;
  begins = p.begins;
  grew = p.grew;
  counted = let counted = p.counted in omega arith;
}
