-- Among ascending sections, the last that begins at or below an address is the one whose pages may
-- hold it.
use Rattle.std.proofs.Common.{◌≡◌, ◌≢◌, ℕ, zero, suc, ◌+◌, ◌-◌, ◌%◌, ◌<◌, ◌≤◌, Bool, true, false, List, [], ◌∷◌, length, get_or, None, Some, leb, ltb, refl, sym, ap, subst, ◌∙◌, arith}
use Rattle.std.proofs.lemmas.Bool.{le-leb, le-ltb, lt-leb, lt-ltb, leb-true, ltb-true, and_from, and_parts}
use Rattle.pe_image.specs.Image.{Section, AreAscending}
use Rattle.host_model.specs.Loading.{pages, begins_at, covers, or_else, section_of}

before : (rva : ℕ) (s : Section) → rva < s.address → covers 0 rva s ≡ false
before rva s lt = rw (lt-leb (begins_at 0 s) rva (omega arith)) refl

after : (rva : ℕ) (s : Section) → s.address ≤ rva → s.address + pages s.size ≤ rva
    → covers 0 rva s ≡ false
after rva s le ge = rw (
  le-leb (begins_at 0 s) rva (omega arith),
  le-ltb rva (begins_at 0 s + pages s.size) (omega arith),
) refl

none_above : (rva : ℕ) (ss : List Section)
    → ((k : ℕ) (d : Section) → k < length ss → rva < (get_or ss k d).address)
    → section_of 0 rva ss ≡ None
none_above rva [] above = refl
none_above rva (s ∷ ss) above =
    ap (or_else (section_of 0 rva ss) s) (before rva s (above 0 s (omega arith)))
    ∙ none_above rva ss (λ k d lt. above (suc k) d (omega arith))

in_pages : (a n b : ℕ) → a % 4096 ≡ 0 → b % 4096 ≡ 0 → a + n ≤ b → a + pages n ≤ b
in_pages a n b p q le = omega arith

-- a section begins after the last page of each one before it
past_pages : (end : ℕ) (s : Section) (ss : List Section) (k : ℕ) (d : Section)
    → AreAscending end (s ∷ ss) → k < length ss
    → s.address + pages s.size ≤ (get_or ss k d).address
past_pages end s [] k d up lt = absurd (omega arith)
past_pages end s (t ∷ ss) zero d up lt = in_pages s.address s.size t.address up.0.aligned
    up.1.0.aligned up.1.0.above
past_pages end s (t ∷ ss) (suc k) d up lt =
    let first = in_pages s.address s.size t.address up.0.aligned up.1.0.aligned up.1.0.above in
    let rest = past_pages (s.address + s.size) t ss k d up.1 (omega arith) in
    omega arith

last_begun : (rva end : ℕ) (ss : List Section) (k : ℕ) (d : Section) → AreAscending end ss
    → k < length ss → (get_or ss k d).address ≤ rva
    → ((j : ℕ) (e : Section) → k < j → j < length ss → rva < (get_or ss j e).address)
    → section_of 0 rva ss ≡ or_else None (get_or ss k d) (covers 0 rva (get_or ss k d))
last_begun rva end [] k d up lt le above = absurd (omega arith)
last_begun rva end (s ∷ ss) zero d up lt le above = ap (λ o. or_else o s (covers 0 rva s))
    (none_above rva ss (λ j e h. above (suc j) e (omega arith) (omega arith)))
last_begun rva end (s ∷ ss) (suc k) d up lt le above =
    let past = past_pages end s ss k d up (omega arith) in
    ap (or_else (section_of 0 rva ss) s) (after rva s (omega arith) (omega arith))
    ∙ last_begun rva (s.address + s.size) ss k d up.1 (omega arith) le
    (λ j e h1 h2. above (suc j) e (omega arith) (omega arith))

-- the same by how many begin at or below it
pub begun_last : (rva n : ℕ) (ss : List Section) (s : Section) → AreAscending 0 ss → n ≤ length ss
    → n ≢ 0 → s ≡ get_or ss (n - 1) s
    → ((k : ℕ) (d : Section) → k < n → (get_or ss k d).address ≤ rva)
    → ((k : ℕ) (d : Section) → n ≤ k → k < length ss → rva < (get_or ss k d).address)
    → section_of 0 rva ss ≡ or_else None s (covers 0 rva s)
begun_last rva n ss s up within some is begun later =
    last_begun rva 0 ss (n - 1) s up (omega arith) (begun (n - 1) s (omega arith))
    (λ j e h1 h2. later j e (omega arith) h2)
    ∙ sym (ap (λ (t : Section). or_else None t (covers 0 rva t)) is)

pub none_begun : (rva n : ℕ) (ss : List Section) → n ≡ 0
    → ((k : ℕ) (d : Section) → n ≤ k → k < length ss → rva < (get_or ss k d).address)
    → section_of 0 rva ss ≡ None
none_begun rva n ss none later = none_above rva ss (λ k d lt. later k d (omega arith) lt)

-- ---- a section that covers an address

-- of sections at or above an end: where it lies, that what is stored of it fits, and that it covers
-- each address of its pages
pub record IsCovering (end a : ℕ) (s : Section) (ss : List Section) : Type 0 where
  pub above : end ≤ s.address
  pub aligned : s.address % 4096 ≡ 0
  pub stored : length s.raw ≤ s.size
  pub begins : s.address ≤ a
  pub ends : a < s.address + pages s.size
  pub stays : (b : ℕ) → s.address ≤ b → b < s.address + pages s.size
      → section_of 0 b ss ≡ Some s

holds_at : (rva : ℕ) (s : Section) → s.address ≤ rva → rva < s.address + pages s.size
    → covers 0 rva s ≡ true
holds_at rva s le lt = and_from (leb (begins_at 0 s) rva) (ltb rva (begins_at 0 s + pages s.size))
    (le-leb (begins_at 0 s) rva (omega arith))
    (lt-ltb rva (begins_at 0 s + pages s.size) (omega arith))

lies_in : (rva : ℕ) (s : Section) → covers 0 rva s ≡ true
    → (s.address ≤ rva) × (rva < s.address + pages s.size)
lies_in rva s e =
    let both = and_parts (leb (begins_at 0 s) rva) (ltb rva (begins_at 0 s + pages s.size)) e in
    let first = leb-true (begins_at 0 s) rva both.0 in
    let second = ltb-true rva (begins_at 0 s + pages s.size) both.1 in
    (omega arith, omega arith)

pub covering : (end a : ℕ) (s : Section) (ss : List Section) → AreAscending end ss
    → section_of 0 a ss ≡ Some s → IsCovering end a s ss
covering end a s [] up is = absurd cc
covering end a s (t ∷ ss) up is = go (covers 0 a t) refl is
    (covering (t.address + t.size) a s ss up.1)
  where
    go : (b : Bool) → covers 0 a t ≡ b → or_else (section_of 0 a ss) t b ≡ Some s
        → (section_of 0 a ss ≡ Some s → IsCovering (t.address + t.size) a s ss)
        → IsCovering end a s (t ∷ ss)
    go true e is more =
        let same : t ≡ s = cc in
        let at = lies_in a t e in
        subst (λ u. IsCovering end a u (t ∷ ss)) same (record {
          above = up.0.above;
          aligned = up.0.aligned;
          stored = up.0.stored;
          begins = at.0;
          ends = at.1;
          stays = λ b le lt. ap (or_else (section_of 0 b ss) t) (holds_at b t le lt);
        })
    go false e is more =
        let rest = more is in
        let past = in_pages t.address t.size s.address up.0.aligned rest.aligned rest.above in
        record {
          above = (let first = up.0.above in let others = rest.above in omega arith);
          aligned = rest.aligned;
          stored = rest.stored;
          begins = rest.begins;
          ends = rest.ends;
          stays = λ b le lt. ap (or_else (section_of 0 b ss) t)
              (after b t (omega arith) (omega arith)) ∙ rest.stays b le lt;
        }
