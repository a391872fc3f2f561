-- The innermost declarations of open blocks.
use Rattle.std.proofs.Common.{◌≡◌, ℕ, suc, ◌+◌, ◌<◌, nat_eq, Bool, true, false, cond, List, [], ◌∷◌, ◌++◌, map, length, Option, Some, None, refl, sym, ap, subst, ◌∙◌, arith, length-append}
use Rattle.std.specs.Prelude.{option_map, is_some as is_there}
use Rattle.std.specs.Borrow.{Bor}
use Rattle.std.specs.Cmp.{nat_eq_equiv}
use Rattle.std.specs.Cmp.Lexicographic.{pointwise, bytes_decides, lists_equiv}
use Rattle.std.specs.Global.{Vec}
use Rattle.std.specs.Map.{lookup}
use Rattle.std.proofs.lemmas.Bool.Decides.{nat_tests}
use Rattle.c_expressions.specs.Declarations.{latest, latest_blocks, scope, found_from, found, Hide, kept_as, innermost_of, AreInnermost, with_innermost, Uncovers}
use Rattle.c_expressions.specs.SymbolTables.{names_around}
use Rattle.c_expressions.specs.Words.{entity, is_some, Entity}
use Rattle.c_expressions.specs.declared.scopes.Entity.{Entity as Entity'}
use Rattle.c_expressions.specs.declared.symbol_table.Declaration.{Declaration}
use Rattle.c_expressions.specs.declared.symbol_table.Innermost.{Innermost}
use Rattle.c_expressions.proofs.Names.{same_is, same_flips}
use Rattle.c_resolved.specs.Scopes.{Scope, same_bytes, meaning_in}

abbrev Entries : Type 0
Entries = List (Bor (List ℕ) × Option Innermost)

-- ---- one more, last

pub latest_last : (ds : List Declaration) (d : Declaration) → latest (ds ++ d ∷ []) ≡ d ∷ latest ds
latest_last [] d = refl
latest_last (x ∷ ds) d = ap (λ l. l ++ x ∷ []) (latest_last ds d)

pub blocks_last : (bs : List (Vec Declaration)) (b : Vec Declaration)
    → latest_blocks (bs ++ b ∷ []) ≡ latest b.items ∷ latest_blocks bs
blocks_last [] b = refl
blocks_last (x ∷ bs) b = ap (λ l. l ++ latest x.items ∷ []) (blocks_last bs b)

pub as_many : (bs : List (Vec Declaration)) → length (latest_blocks bs) ≡ length bs
as_many [] = refl
as_many (b ∷ bs) = length-append (latest_blocks bs) (latest b.items ∷ [])
    ∙ ap (λ k. k + 1) (as_many bs) ∙ omega arith

-- ---- names that are the same

same_true : (a b : List ℕ) → pointwise nat_eq a b ≡ true → a ≡ b
same_true a b e = (bytes_decides a b).0 e

same_self : (a : List ℕ) → same_bytes a a ≡ true
same_self a = sym (same_is a a) ∙ (bytes_decides a a).1 refl

-- ---- the index after a change

pub innermost_after : (es : Entries) (name : Bor (List ℕ)) (i : Option Innermost) (n : List ℕ)
    → innermost_of (with_innermost es name i) n
    ≡ cond (pointwise nat_eq n name.now) i (innermost_of es n)
innermost_after [] name i n = by (pointwise nat_eq n name.now)
  where
    by : (b : Bool) → kept_as (cond b (Some i) None) ≡ cond b i None
    by true = refl
    by false = refl
innermost_after (e ∷ es) name i n =
    by (pointwise nat_eq name.now e.0.now) refl (innermost_after es name i n)
  where
    here : (b : Bool) → kept_as (cond b (Some i) (lookup (λ k. pointwise nat_eq n k.now) es))
        ≡ cond b i (kept_as (cond b (Some e.1) (lookup (λ k. pointwise nat_eq n k.now) es)))
    here true = refl
    here false = refl

    later : (b c : Bool) (o o' : Option (Option Innermost)) → (b ≡ true → c ≡ false)
        → kept_as o' ≡ cond c i (kept_as o)
        → kept_as (cond b (Some e.1) o') ≡ cond c i (kept_as (cond b (Some e.1) o))
    later true c o o' apart h = ap (λ x. cond x i e.1) (sym (apart refl))
    later false c o o' apart h = h

    other : pointwise nat_eq name.now e.0.now ≡ false → pointwise nat_eq n e.0.now ≡ true
        → pointwise nat_eq n name.now ≡ false
    other p q = ap (λ m. pointwise nat_eq m name.now) (same_true n e.0.now q)
        ∙ (lists_equiv nat_eq_equiv).symm e.0.now name.now ∙ p

    by : (b : Bool) → pointwise nat_eq name.now e.0.now ≡ b
        → innermost_of (with_innermost es name i) n
        ≡ cond (pointwise nat_eq n name.now) i (innermost_of es n)
        → innermost_of (cond b ((e.0, i) ∷ es) (e ∷ with_innermost es name i)) n
        ≡ cond (pointwise nat_eq n name.now) i (innermost_of (e ∷ es) n)
    by true p h = here (pointwise nat_eq n e.0.now)
        ∙ ap (λ m. cond (pointwise nat_eq n m) i (innermost_of (e ∷ es) n))
        (sym (same_true name.now e.0.now p))
    by false p h = later (pointwise nat_eq n e.0.now) (pointwise nat_eq n name.now)
        (lookup (λ k. pointwise nat_eq n k.now) es)
        (lookup (λ k. pointwise nat_eq n k.now) (with_innermost es name i))
        (other p) h

-- ---- what is found

abbrev pub meant : Option Innermost → Option Entity
meant o = option_map (λ (i : Innermost). entity i.meaning) o

from_is : (depth : ℕ) (ds : List Declaration) (outside : Option Innermost) (ys : Scope)
    (n : List ℕ) → meant outside ≡ meaning_in ys n
    → meant (found_from depth ds outside n) ≡ meaning_in (scope ds ++ ys) n
from_is depth [] outside ys n h = h
from_is depth (d ∷ ds) outside ys n h =
    by (same_bytes d.name.now n) (from_is depth ds outside ys n h)
  where
    by : (b : Bool) → meant (found_from depth ds outside n) ≡ meaning_in (scope ds ++ ys) n
        → meant (cond b (Some (record { depth = depth; meaning = d.meaning }))
        (found_from depth ds outside n))
        ≡ cond b (Some (entity d.meaning)) (meaning_in (scope ds ++ ys) n)
    by true p = refl
    by false p = p

-- a name means what its innermost declaration says
pub found_is : (blocks : List (List Declaration)) (n : List ℕ)
    → meant (found blocks n) ≡ meaning_in (names_around (map scope blocks)) n
found_is [] n = refl
found_is (b ∷ bs) n = from_is (length bs) b (found bs n) (names_around (map scope bs)) n
    (found_is bs n)

-- ---- in which block it is found

abbrev Below : ℕ → Option Innermost → Type 0
Below k None = Unit {0}
Below k (Some i) = i.depth < k

abbrev pub is_at : ℕ → Option Innermost → Bool
is_at k None = false
is_at k (Some i) = nat_eq i.depth k

from_below : (depth k : ℕ) (ds : List Declaration) (outside : Option Innermost) (n : List ℕ)
    → depth < k → Below k outside → Below k (found_from depth ds outside n)
from_below depth k [] outside n lt h = h
from_below depth k (d ∷ ds) outside n lt h =
    by (same_bytes d.name.now n) (from_below depth k ds outside n lt h)
  where
    by : (b : Bool) → Below k (found_from depth ds outside n)
        → Below k (cond b (Some (record { depth = depth; meaning = d.meaning }))
        (found_from depth ds outside n))
    by true p = lt
    by false p = p

below_more : (k : ℕ) (o : Option Innermost) → Below k o → Below (suc k) o
below_more k None h = tt
below_more k (Some i) h = omega (arith, h)

below : (blocks : List (List Declaration)) (n : List ℕ) → Below (length blocks) (found blocks n)
below [] n = tt
below (b ∷ bs) n =
    let lt : length bs < suc (length bs) = omega arith in
    from_below (length bs) (suc (length bs)) b (found bs n) n lt
    (below_more (length bs) (found bs n) (below bs n))

not_at : (k : ℕ) (o : Option Innermost) → Below k o → is_at k o ≡ false
not_at k None h = refl
not_at k (Some i) h = apart i.depth k h
  where
    apart : (a b : ℕ) → a < b → nat_eq a b ≡ false
    apart a b lt = grind (arith, nat_tests)

at_itself : (k : ℕ) → nat_eq k k ≡ true
at_itself k = grind (arith, nat_tests)

from_at : (k : ℕ) (ds : List Declaration) (outside : Option Innermost) (n : List ℕ)
    → Below k outside
    → is_at k (found_from k ds outside n) ≡ is_some (meaning_in (scope ds) n)
from_at k [] outside n h = not_at k outside h
from_at k (d ∷ ds) outside n h = by (same_bytes d.name.now n) (from_at k ds outside n h)
  where
    by : (b : Bool) → is_at k (found_from k ds outside n) ≡ is_some (meaning_in (scope ds) n)
        → is_at k (cond b (Some (record { depth = k; meaning = d.meaning }))
        (found_from k ds outside n))
        ≡ is_some (cond b (Some (entity d.meaning)) (meaning_in (scope ds) n))
    by true p = at_itself k
    by false p = p

-- the innermost block declares what is found at its depth
pub at_is : (b : List Declaration) (bs : List (List Declaration)) (n : List ℕ)
    → is_at (length bs) (found (b ∷ bs) n) ≡ is_some (meaning_in (scope b) n)
at_is b bs n = from_at (length bs) b (found bs n) n (below bs n)

-- ---- blocks begin and end

pub begun : (es : Entries) (block : Vec Declaration) (around : List (Vec Declaration))
    → AreInnermost es (latest block.items ∷ latest_blocks around)
    → AreInnermost es ([] ∷ latest_blocks (around ++ block ∷ []))
begun es block around h = subst (λ bs. AreInnermost es ([] ∷ bs)) (sym (blocks_last around block))
    (record { each = h.each; hidden = (tt, h.hidden) })

pub ended : (es es' : Entries) (inner : List Declaration) (outer : Vec Declaration)
    (around : List (Vec Declaration))
    → AreInnermost es (latest inner ∷ latest_blocks (around ++ outer ∷ []))
    → Uncovers es es' inner []
    → AreInnermost es' (latest outer.items ∷ latest_blocks around)
ended es es' inner outer around h0 u =
    let bs = latest outer.items ∷ latest_blocks around in
    let h : AreInnermost es (latest inner ∷ bs) =
    subst (λ k. AreInnermost es (latest inner ∷ k)) (blocks_last around outer) h0 in
    record {
      each = (u (length bs) (found bs) h.hidden.0 h.each).1;
      hidden = h.hidden.1;
    }

-- the last declaration that is left is uncovered
pub uncovered : (before es es' : Entries) (ds left : List Declaration) (d : Declaration)
    → Uncovers before es ds (left ++ d ∷ [])
    → (is_there (innermost_of es d.name.now) ≡ true → es' ≡ with_innermost es d.name d.hidden)
    → Uncovers before es' ds left
uncovered before es es' ds left d u set depth outside hide each = (
  h.1,
  λ n. ap (λ k. innermost_of k n) (set there) ∙ innermost_after es d.name d.hidden n
      ∙ by n (pointwise nat_eq n d.name.now) refl,
)
  where
    r : Hide depth (latest (left ++ d ∷ [])) outside
        × ((n : List ℕ) → innermost_of es n
        ≡ found_from depth (latest (left ++ d ∷ [])) (outside n) n)
    r = u depth outside hide each

    h : Hide depth (d ∷ latest left) outside
    h = subst (λ l. Hide depth l outside) (latest_last left d) r.0

    e : (n : List ℕ) → innermost_of es n ≡ found_from depth (d ∷ latest left) (outside n) n
    e n = r.1 n ∙ ap (λ l. found_from depth l (outside n) n) (latest_last left d)

    there : is_there (innermost_of es d.name.now) ≡ true
    there = ap is_there (e d.name.now
        ∙ ap (λ b. cond b (Some (record { depth = depth; meaning = d.meaning }))
        (found_from depth (latest left) (outside d.name.now) d.name.now)) (same_self d.name.now))

    by : (n : List ℕ) (b : Bool) → pointwise nat_eq n d.name.now ≡ b
        → cond b d.hidden (innermost_of es n) ≡ found_from depth (latest left) (outside n) n
    by n true p = h.0 ∙ ap (λ m. found_from depth (latest left) (outside m) m)
        (sym (same_true n d.name.now p))
    by n false p = e n ∙ ap (λ b. cond b (Some (record { depth = depth; meaning = d.meaning }))
        (found_from depth (latest left) (outside n) n)) (sym (same_flips n d.name.now) ∙ p)

-- ---- one more declaration

pub declared : (es es' : Entries) (ds : List Declaration) (around : List (Vec Declaration))
    (name : Bor (List ℕ)) (e : Entity') (hidden : Option Innermost) (depth : ℕ)
    → AreInnermost es (latest ds ∷ latest_blocks around)
    → hidden ≡ innermost_of es name.now → depth ≡ length around
    → es' ≡ with_innermost es name (Some (record { depth = depth; meaning = e }))
    → AreInnermost es' (latest (ds ++ record { name = name; meaning = e; hidden = hidden } ∷ [])
    ∷ latest_blocks around)
declared es es' ds around name e hidden depth h hides deep set =
    let d : Declaration = record { name = name; meaning = e; hidden = hidden } in
    let bs = latest_blocks around in
    let i : Option Innermost = Some (record { depth = depth; meaning = e }) in
    let k = length bs in
    let same : depth ≡ k = deep ∙ sym (as_many around) in
    subst (λ l. AreInnermost es' (l ∷ bs)) (sym (latest_last ds d))
    (record {
      each = λ n. ap (λ x. innermost_of x n) set ∙ innermost_after es name i n
          ∙ ap (λ b. cond b i (innermost_of es n)) (same_flips n name.now)
          ∙ ap (cond (same_bytes name.now n) i) (h.each n)
          ∙ ap (λ x. cond (same_bytes name.now n) (Some (record { depth = x; meaning = e }))
          (found_from k (latest ds) (found bs n) n)) same;
      hidden = ((hides ∙ h.each name.now, h.hidden.0), h.hidden.1);
    })
