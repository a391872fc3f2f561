-- Pages found by an ordered map.
use Rattle.std.proofs.Common.{◌≡◌, ◌+◌, ◌/◌, ◌%◌, ◌^◌, ◌<◌, ◌≤◌, ℕ, zero, suc, true, false, cond, eqb, Option, None, Some, is_some, [], refl, sym, ap, ◌∙◌, arith, inl, inr, eq-eqb}
use Rattle.std.specs.Prelude.{◌&&◌, nat_le, nat_lt}
use Rattle.std.proofs.lemmas.Bool.{cases_eq, cases_lt, ne_eqb, lt-ltb, le-ltb, le-leb, lt-leb}
use Rattle.std.specs.Ordering.{nat_cmp, is_eq}
use Rattle.std.specs.declared.cmp.Ordering.TheVariants.{Less, Equal, Greater}
use Rattle.std.specs.Cmp.{nat_cmp_is}
use Rattle.std.specs.BTreeMap.{BTreeMap, Updates, is_at}
use Rattle.std.specs.Map.{lookup}
use Rattle.flat_memory.specs.Memory.{may_write, next}
unfoldable use Rattle.flat_memory.specs.Memory.{first_refused}
use Rattle.flat_memory.specs.Protections.{is_writable}
use Rattle.x64_memory.specs.Pages.{page_mode, page_byte, has_page}
use Rattle.x64_memory.specs.Regions.{unmapped}
unfoldable use Rattle.x64_memory.specs.Pages.{paged}
use Rattle.x64_memory.specs.declared.page.Page.{Page}
use Rattle.x64_replay.specs.PageTrees.{pages_of}

-- the test that a map makes of its keys
is_key : (k q : ℕ) → is_eq (nat_cmp k q) ≡ eqb q k
is_key k q = elim (cases_eq q k) [
  | inl e ↦ sym (ap is_eq (nat_cmp_is k q Equal (sym e))) ∙ sym (eq-eqb q k e)
  | inr n ↦ elim (cases_lt k q) [
    | inl lt ↦ sym (ap is_eq (nat_cmp_is k q Less lt)) ∙ sym (ne_eqb q k n)
    | inr ge ↦ sym (ap is_eq (nat_cmp_is k q Greater (omega arith))) ∙ sym (ne_eqb q k n)
  ]
]

-- a page put at a number
pub page_put : (m n : BTreeMap ℕ Page) (k : ℕ) (p : Page) → Updates nat_cmp m n k (Some p)
    → (q : ℕ) → pages_of n q ≡ cond (eqb q k) (Some p) (pages_of m q)
page_put m n k p u q = u.0 q ∙ ap (λ b. cond b (Some p) (pages_of m q)) (is_key k q)

-- ---- pages put at numbers that follow one another

pub none_put : (from k : ℕ) (z old : Option Page)
    → old ≡ cond (nat_le from k && nat_lt k from) z old
none_put from k z old = elim (cases_lt k from) [
  | inl lt ↦ rw (lt-leb from k lt) refl
  | inr ge ↦ rw (le-leb from k ge, le-ltb k from ge) refl
]

pub one_put : (from n k : ℕ) (z old : Option Page) → from ≤ n
    → cond (eqb k n) z (cond (nat_le from k && nat_lt k n) z old)
    ≡ cond (nat_le from k && nat_lt k (n + 1)) z old
one_put from n k z old le = elim (cases_eq k n) [
  | inl e ↦ rw (eq-eqb k n e, le-leb from k (omega arith), lt-ltb k (n + 1) (omega arith)) refl
  | inr ne ↦ elim (cases_lt k n) [
    | inl lt ↦ rw (ne_eqb k n ne, lt-ltb k n lt, lt-ltb k (n + 1) (omega arith)) refl
    | inr ge ↦ rw (ne_eqb k n ne, le-ltb k n ge, le-ltb k (n + 1) (omega arith)) refl
  ]
]

-- ---- what may be written

pub unmapped_writable : (pages : ℕ → Option Page) (at : ℕ) → pages (at / 4096) ≡ None
    → may_write (paged pages) at ≡ false
unfolding paged
unmapped_writable pages at e = ap (λ o. is_writable (page_mode o).rights) e

pub page_writable : (pages : ℕ → Option Page) (p : Page) (at : ℕ) → pages (at / 4096) ≡ Some p
    → may_write (paged pages) at ≡ is_writable p.protection.rights
unfolding paged
page_writable pages p at e = ap (λ o. is_writable (page_mode o).rights) e

same_writable : (pages : ℕ → Option Page) (a b : ℕ) → a / 4096 ≡ b / 4096
    → may_write (paged pages) a ≡ may_write (paged pages) b
unfolding paged
same_writable pages a b e = ap (λ k. is_writable (page_mode (pages k)).rights) e

-- where the first byte may be written, so may all after it in its page
pub rest_writable : (pages : ℕ → Option Page) (n at : ℕ) → at % 4096 + n ≤ 4096 → at < 2 ^ 64
    → may_write (paged pages) at ≡ true → first_refused (may_write (paged pages)) n at ≡ None
unfolding first_refused
rest_writable pages zero at le lt t = refl
rest_writable pages (suc zero) at le lt t = rw t refl
rest_writable pages (suc (suc n)) at le lt t =
    let here : next at ≡ at + 1 = omega arith in
    let same : (at + 1) / 4096 ≡ at / 4096 = omega arith in
    let more : may_write (paged pages) (at + 1) ≡ true = same_writable pages (at + 1) at same ∙ t in
    rw t (ap (first_refused (may_write (paged pages)) (suc n)) here
    ∙ rest_writable pages (suc n) (at + 1) (omega arith) (omega arith) more)

-- ---- no page

pub empty_memory : (m : BTreeMap ℕ Page) → m.entries ≡ [] → paged (pages_of m) ≡ unmapped
unfolding paged
empty_memory m e = λ i. record {
  protection = λ a. page_mode (lookup (λ k. is_at (nat_cmp (a / 4096)) k) (e i));
  byte = λ a. page_byte (lookup (λ k. is_at (nat_cmp (a / 4096)) k) (e i)) (a % 4096);
}

pub empty_holds : (m : BTreeMap ℕ Page) (a : ℕ) → m.entries ≡ []
    → has_page (pages_of m) a ≡ false
empty_holds m a e = λ i. is_some (lookup (λ k. is_at (nat_cmp (a / 4096)) k) (e i))
