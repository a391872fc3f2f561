-- Among ascending sections, the last that begins at or below an address is the one that may store
-- its byte.
use Rattle.std.proofs.Common.{◌≡◌, ℕ, zero, suc, ◌+◌, ◌-◌, ◌<◌, ◌≤◌, Bool, true, false, List, [], ◌∷◌, length, drop, get_or, ◌≢◌, ltb, leb, Option, Some, None, refl, sym, ap, subst, ◌∙◌, inl, inr, arith}
use Rattle.std.specs.List.Sorted.{IsNonDecreasingBy}
use Rattle.std.proofs.lemmas.Bool.{cases_lt, and_parts, and_from, and_left, and_right, ltb-true, leb-true, lt-ltb, le-ltb, le-leb, lt-leb}
use Rattle.std.proofs.lemmas.List.{drop_all, drop-drop, length-drop}
use Rattle.pe_image.specs.Image.{Section, AreAscending, stores_byte, section_or, section_at, stored_in}

lies_above : (end : ℕ) (ss : List Section) (k : ℕ) (d : Section) → AreAscending end ss
    → k < length ss → end ≤ (get_or ss k d).address
lies_above end [] k d up lt = absurd (omega arith)
lies_above end (s ∷ ss) zero d up lt = up.0.above
lies_above end (s ∷ ss) (suc k) d up lt = let above = lies_above (s.address + s.size) ss k d up.1
    (omega arith) in omega (arith, up.0.above)

pub addresses_rise : (end : ℕ) (ss : List Section) → AreAscending end ss
    → IsNonDecreasingBy (λ s. s.address) ss
addresses_rise end [] up i j d le lt = absurd (omega arith)
addresses_rise end (s ∷ ss) up zero zero d le lt = omega arith
addresses_rise end (s ∷ ss) up zero (suc j) d le lt = let above = lies_above (s.address + s.size) ss
    j d up.1 (omega arith) in omega arith
addresses_rise end (s ∷ ss) up (suc i) zero d le lt = absurd (omega arith)
addresses_rise end (s ∷ ss) up (suc i) (suc j) d le lt = addresses_rise (s.address + s.size) ss up.1
    i j d (omega arith) (omega arith)

below_holds_none : (rva : ℕ) (s : Section) → rva < s.address → stores_byte rva s ≡ false
below_holds_none rva s lt = and_left (leb s.address rva) (ltb rva (s.address + length s.raw))
    (lt-leb s.address rva lt)

pub above_holds_none : (rva : ℕ) (s : Section) → s.address + length s.raw ≤ rva
    → stores_byte rva s ≡ false
above_holds_none rva s le = and_right (leb s.address rva) (ltb rva (s.address + length s.raw))
    (le-ltb rva (s.address + length s.raw) le)

pub none_above : (rva : ℕ) (ss : List Section)
    → ((k : ℕ) (d : Section) → k < length ss → rva < (get_or ss k d).address)
    → section_at rva ss ≡ None
none_above rva [] above = refl
none_above rva (s ∷ ss) above =
    ap (section_or (section_at rva ss) s) (below_holds_none rva s (above 0 s (omega arith)))
    ∙ none_above rva ss (λ k d lt. above (suc k) d (omega arith))

pub last_below : (rva end : ℕ) (ss : List Section) (k : ℕ) (d : Section) → AreAscending end ss
    → k < length ss → (get_or ss k d).address ≤ rva
    → ((j : ℕ) (e : Section) → k < j → j < length ss → rva < (get_or ss j e).address)
    → stored_in rva (section_at rva ss) ≡ drop (rva - (get_or ss k d).address) (get_or ss k d).raw
last_below rva end [] k d up lt le above = absurd (omega arith)
last_below rva end (s ∷ ss) zero d up lt le above =
    let others : section_at rva ss ≡ None = none_above rva ss
    (λ j e h. above (suc j) e (omega arith) (omega arith)) in
    ap (λ o. stored_in rva (section_or o s (stores_byte rva s))) others
    ∙ (elim (cases_lt rva (s.address + length s.raw)) as
    (λ _. stored_in rva (section_or None s (stores_byte rva s)) ≡ drop (rva - s.address) s.raw) [
      | inl inside ↦ ap (λ b. stored_in rva (section_or None s b))
          (and_from (leb s.address rva) (ltb rva (s.address + length s.raw))
          (le-leb s.address rva le)
          (lt-ltb rva (s.address + length s.raw) inside))
      | inr past ↦ ap (λ b. stored_in rva (section_or None s b)) (above_holds_none rva s past)
          ∙ sym (drop_all (rva - s.address) s.raw (omega arith))
    ])
last_below rva end (s ∷ ss) (suc k) d up lt le above =
    let later = lies_above (s.address + s.size) ss k d up.1 (omega arith) in
    ap (λ b. stored_in rva (section_or (section_at rva ss) s b))
    (above_holds_none rva s (omega (arith, up.0.stored)))
    ∙ last_below rva (s.address + s.size) ss k d up.1 (omega arith) le
    (λ j e h1 h2. above (suc j) e (omega arith) (omega arith))

-- the same by how many begin at or below it
pub begun_before : (rva n : ℕ) (ss : List Section) (s : Section) → AreAscending 0 ss → n ≤ length ss
    → n ≢ 0 → s ≡ get_or ss (n - 1) s
    → ((k : ℕ) (d : Section) → k < n → (get_or ss k d).address ≤ rva)
    → ((k : ℕ) (d : Section) → n ≤ k → k < length ss → rva < (get_or ss k d).address)
    → drop (rva - s.address) s.raw ≡ stored_in rva (section_at rva ss)
begun_before rva n ss s up within some is begun later =
    ap (λ (t : Section). drop (rva - t.address) t.raw) is
    ∙ sym (last_below rva 0 ss (n - 1) s up (omega arith) (begun (n - 1) s (omega arith))
    (λ j e h1 h2. later j e (omega arith) h2))

-- ---- bytes after others

-- what a section does in which a byte is stored
record StoresByte (end rva : ℕ) (s : Section) : Type 0 where
  above : end ≤ s.address
  begun : s.address ≤ rva
  within : rva < s.address + length s.raw

stores : (end rva : ℕ) (s : Section) → end ≤ s.address → stores_byte rva s ≡ true
    → StoresByte end rva s
stores end rva s le e =
    let p = and_parts (leb s.address rva) (ltb rva (s.address + length s.raw)) e in
    record { above = le; begun = leb-true _ _ p.0; within = ltb-true _ _ p.1 }

storing : (end rva : ℕ) (ss : List Section) (s : Section) → AreAscending end ss
    → section_at rva ss ≡ Some s → StoresByte end rva s
storing end rva [] s up e = cc
storing end rva (t ∷ ss) s up e = by_case (storing (t.address + t.size) rva ss s up.1)
    (stores_byte rva t) refl e
  where
    by_case : (section_at rva ss ≡ Some s → StoresByte (t.address + t.size) rva s) → (b : Bool)
        → stores_byte rva t ≡ b → section_or (section_at rva ss) t b ≡ Some s → StoresByte end rva s
    by_case others true is found = let same : t ≡ s = cc in
        subst (StoresByte end rva) same (stores end rva t up.0.above is)
    by_case others false is found = let later = others found in
        record {
          above = omega (arith, up.0.above, later.above);
          begun = later.begun;
          within = later.within;
        }

-- an address in the section of another has this section too
section_stays : (end rva at : ℕ) (ss : List Section) (s : Section) → AreAscending end ss
    → section_at rva ss ≡ Some s → s.address ≤ at → at < s.address + length s.raw
    → section_at at ss ≡ Some s
section_stays end rva at [] s up e le lt = cc
section_stays end rva at (t ∷ ss) s up e le lt = by_case
    (λ found. section_stays (t.address + t.size) rva at ss s up.1 found le lt) (stores_byte rva t)
    refl e
  where
    by_case : (section_at rva ss ≡ Some s → section_at at ss ≡ Some s) → (b : Bool)
        → stores_byte rva t ≡ b → section_or (section_at rva ss) t b ≡ Some s
        → section_or (section_at at ss) t (stores_byte at t) ≡ Some s
    by_case others true is found =
        let same : s ≡ t = cc in
        let le' : t.address ≤ at = subst (λ (u : Section). u.address ≤ at) same le in
        let lt' : at < t.address + length t.raw = subst
        (λ (u : Section). at < u.address + length u.raw) same lt in
        ap (section_or (section_at at ss) t) (and_from (leb t.address at)
        (ltb at (t.address + length t.raw)) (le-leb t.address at le')
        (lt-ltb at (t.address + length t.raw) lt'))
        ∙ ap (λ (u : Section). Some u) (sym same)
    by_case others false is found =
        let later = storing (t.address + t.size) rva ss s up.1 found in
        ap (section_or (section_at at ss) t) (above_holds_none at t
        (omega (arith, up.0.stored, later.above)))
        ∙ others found

-- the bytes after some that a section stores are stored there
pub stored_after : (rva n : ℕ) (ss : List Section) → AreAscending 0 ss
    → n < length (stored_in rva (section_at rva ss))
    → stored_in (rva + n) (section_at (rva + n) ss) ≡ drop n (stored_in rva (section_at rva ss))
stored_after rva n ss up lt = by_case (section_at rva ss) refl lt
  where
    by_case : (o : Option Section) → section_at rva ss ≡ o → n < length (stored_in rva o)
        → stored_in (rva + n) (section_at (rva + n) ss) ≡ drop n (stored_in rva o)
    by_case None is lt = absurd (omega arith)
    by_case (Some s) is lt =
        let here = storing 0 rva ss s up is in
        let begun : s.address ≤ rva = here.begun in
        let within : rva - s.address + n < length s.raw = omega
        (arith, length-drop (rva - s.address) s.raw) in
        let there : rva + n - s.address ≡ rva - s.address + n = omega arith in
        ap (stored_in (rva + n)) (section_stays 0 rva (rva + n) ss s up is (omega arith)
        (omega arith))
        ∙ ap (λ k. drop k s.raw) there
        ∙ sym (drop-drop n (rva - s.address) s.raw)
