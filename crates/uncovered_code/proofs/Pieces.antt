-- A section whose uncovered code is pieces of instructions, one after another, that are bodies
-- without a frame: where each place at which a routine can begin is where a piece does, every
-- routine without an entry is frameless.
--
-- The main definition: `HasPieces`.
use Rattle.std.proofs.Common.{◌≡◌, ◌⊎◌, ℕ, zero, suc, ◌+◌, ◌-◌, ◌<◌, ◌≤◌, Bool, true, false, not, ◌&&◌, ◌||◌, eqb, leb, ltb, List, [], ◌∷◌, ◌++◌, map, Option, Some, None, refl, sym, ap, subst, ◌∙◌, arith, inl, inr}
use Rattle.std.specs.Prelude.{is_none, if◌then◌else◌}
use Rattle.std.specs.List.{AllByRecursion}
use Rattle.std.proofs.lemmas.Bool.{cases_lt, cases_eq, cases_Bool, false≢true, true≢false, and_parts, and_from, or_cases, eqb-true, ltb-true, leb-true, le-ltb, not-true}
use Rattle.flat_memory.specs.Memory.{Memory}
use Rattle.eh_tables.specs.Tables.{Entry, holding}
use Rattle.virtual_unwind.specs.Tail.{FetchedInstr, fetched_at}
use Rattle.frame_rules.specs.Body.{Mode, Body, Leaving, and_then, following, is_body}
use Rattle.frame_rules.specs.States.{HasItems}
use Rattle.frame_rules.proofs.Bodies.{following-append}
use Rattle.frame_rules.proofs.Tails.{items_rise}
use Rattle.uncovered_code.specs.References.{Code, Swept, is_uncovered, is_first, places, sweep, swept_from, called, taken, calls, addresses_taken, references_of, entry_sweep, entry_calls, scope_handlers, uncovered_sweep, references_at, references}
use Rattle.uncovered_code.specs.Routines.{is_among, is_beginning, IsUncoveredRoutine, IsFrameless, UncoveredRoutinesAreFrameless}
use Rattle.uncovered_code.proofs.Routines.{within}

-- ---- lists

pub all_both : {A : Type 0} (P : A → Type 0) (xs ys : List A) → AllByRecursion P xs
    → AllByRecursion P ys → AllByRecursion P (xs ++ ys)
all_both P [] ys h k = k
all_both P (x ∷ xs) ys h k = (h.0, all_both P xs ys h.1 k)

among_has : (P : ℕ → Type 0) (at : ℕ) (xs : List ℕ) → AllByRecursion P xs
    → is_among at xs ≡ true → P at
among_has P at [] all h = absurd (false≢true h)
among_has P at (x ∷ xs) all h = elim (or_cases (eqb x at) (is_among at xs) h) [
  | inl here ↦ subst P (eqb-true x at here) all.0
  | inr more ↦ among_has P at xs all.1 more
]

-- ---- what instructions refer to

module _ (P : ℕ → Type 0) where
  -- the calls of instructions from an address on lead where P holds
  abbrev pub CallsLead : ℕ → List FetchedInstr → Type 0
  CallsLead at [] = Unit {0}
  CallsLead at (x ∷ xs) =
      AllByRecursion P (called (at + x.size) x.instr) × CallsLead (at + x.size) xs

  -- so do the addresses that they take
  abbrev pub TakenLead : ℕ → List FetchedInstr → Type 0
  TakenLead at [] = Unit {0}
  TakenLead at (x ∷ xs) =
      AllByRecursion P (taken (at + x.size) x.instr) × TakenLead (at + x.size) xs

  module _ (m : Memory) (inside : ℕ → Bool) where
    -- a sweep over instructions that are, and on from where they end
    pub swept_calls : (at : ℕ) (xs : List FetchedInstr) (to : ℕ) → HasItems m at xs to
        → CallsLead at xs → ((n : ℕ) → AllByRecursion P (calls (sweep inside m n to)))
        → (n : ℕ) → AllByRecursion P (calls (sweep inside m n at))
    unfolding sweep
    swept_calls at [] to there leads more n =
        let e : to ≡ at = sym there in
        subst (λ k. AllByRecursion P (calls (sweep inside m n k))) e (more n)
    swept_calls at (x ∷ xs) to there leads more zero = tt
    swept_calls at (x ∷ xs) to there leads more (suc n) =
        by (swept_calls (at + x.size) xs to there.2 leads.1 more n) (inside at)
        (fetched_at m at) there.0
      where
        by : AllByRecursion P (calls (sweep inside m n (at + x.size))) → (b : Bool)
            (o : Option FetchedInstr) → o ≡ Some x
            → AllByRecursion P
            (calls (if b then swept_from (sweep inside m n) at o else []))
        by rest false o e = tt
        by rest true o e =
            subst (λ (y : Option FetchedInstr).
            AllByRecursion P (calls (swept_from (sweep inside m n) at y))) (sym e)
            (all_both P (called (at + x.size) x.instr) (calls (sweep inside m n (at + x.size)))
            leads.0 rest)

    pub swept_taken : (at : ℕ) (xs : List FetchedInstr) (to : ℕ) → HasItems m at xs to
        → TakenLead at xs → ((n : ℕ) → AllByRecursion P (addresses_taken (sweep inside m n to)))
        → (n : ℕ) → AllByRecursion P (addresses_taken (sweep inside m n at))
    unfolding sweep
    swept_taken at [] to there leads more n =
        let e : to ≡ at = sym there in
        subst (λ k. AllByRecursion P (addresses_taken (sweep inside m n k))) e (more n)
    swept_taken at (x ∷ xs) to there leads more zero = tt
    swept_taken at (x ∷ xs) to there leads more (suc n) =
        by (swept_taken (at + x.size) xs to there.2 leads.1 more n) (inside at)
        (fetched_at m at) there.0
      where
        by : AllByRecursion P (addresses_taken (sweep inside m n (at + x.size))) → (b : Bool)
            (o : Option FetchedInstr) → o ≡ Some x
            → AllByRecursion P
            (addresses_taken (if b then swept_from (sweep inside m n) at o else []))
        by rest false o e = tt
        by rest true o e =
            subst (λ (y : Option FetchedInstr).
            AllByRecursion P (addresses_taken (swept_from (sweep inside m n) at y))) (sym e)
            (all_both P (taken (at + x.size) x.instr)
            (addresses_taken (sweep inside m n (at + x.size)))
            leads.0 rest)

    -- none from where it stops
    pub stopped : (at : ℕ) → inside at ≡ false → (n : ℕ) → sweep inside m n at ≡ []
    unfolding sweep
    stopped at no_more zero = refl
    stopped at no_more (suc n) =
        ap (λ (b : Bool). if b then swept_from (sweep inside m n) at (fetched_at m at) else [])
        no_more

-- ---- bodies without a frame, one after another

both_go : (xs ys : List FetchedInstr) → ((rs : List ℕ) → is_body
    (following 0 0 [] ys (Body rs)) ≡ true) → (m : Mode) → (o : Option Mode)
    → following 0 0 [] xs m ≡ o → is_body o ≡ true
    → is_body (following 0 0 [] (xs ++ ys) m) ≡ true
both_go xs ys right m (Some (Body rs)) e h =
    ap is_body (following-append 0 0 [] xs ys m (Body rs) e) ∙ right rs
both_go xs ys right m (Some (Leaving rs)) e h = absurd (false≢true h)
both_go xs ys right m None e h = absurd (false≢true h)

pub both_right : (xs ys : List FetchedInstr) (rs : List ℕ)
    → is_body (following 0 0 [] xs (Body rs)) ≡ true
    → ((rs : List ℕ) → is_body (following 0 0 [] ys (Body rs)) ≡ true)
    → is_body (following 0 0 [] (xs ++ ys) (Body rs)) ≡ true
both_right xs ys rs h right = both_go xs ys right (Body rs) (following 0 0 [] xs (Body rs)) refl h

pub items_both : (m : Memory) (at : ℕ) (xs ys : List FetchedInstr) (middle to : ℕ)
    → HasItems m at xs middle → HasItems m middle ys to → HasItems m at (xs ++ ys) to
items_both m at [] ys middle to h k = subst (λ n. HasItems m n ys to) (sym h) k
items_both m at (x ∷ xs) ys middle to h k =
    (h.0, h.1, items_both m (at + x.size) xs ys middle to h.2 k)

-- ---- pieces

-- a bound is where a piece may begin or end
module _ (c : Code) (IsBound : ℕ → Type 0) where
  -- a place that is in uncovered code is a bound
  abbrev pub Leads : ℕ → Type 0
  Leads at = is_uncovered c at ≡ true → IsBound at

  -- the piece around an uncovered address
  pub record Piece (at : ℕ) : Type 0 where
    pub begin : ℕ
    pub end : ℕ
    pub rest : List FetchedInstr
    pub low : begin ≤ at
    pub high : at < end
    pub alone : (k : ℕ) → begin ≤ k → k < end → is_uncovered c k ≡ true
    pub there : HasItems c.memory begin rest end
    pub right : (rs : List ℕ) → is_body (following 0 0 [] rest (Body rs)) ≡ true
    pub ends : IsBound end
    pub clear : (k : ℕ) → IsBound k → begin < k → k < end → ⊥
    pub calls : CallsLead Leads begin rest
    pub taken : TakenLead Leads begin rest

  -- the instructions of an entry, and where their calls lead
  pub record EntryLeads (e : Entry) : Type 0 where
    pub items : List FetchedInstr
    pub there : HasItems c.memory e.range.begin items e.range.end
    pub calls : CallsLead Leads e.range.begin items

  pub record HasPieces : Type 0 where
    pub piece : (at : ℕ) → is_uncovered c at ≡ true → Piece at
    pub entries : AllByRecursion EntryLeads c.entries
    pub handlers : AllByRecursion Leads (scope_handlers c.entries)
    pub entry_point : Leads c.entry_point

  module _ (h : HasPieces) where
    -- ---- where pieces begin

    at_bound : (at : ℕ) (un : is_uncovered c at ≡ true) → IsBound at
        → (h.piece at un).begin ≡ at
    at_bound at un bound =
        let x = h.piece at un in
        let low = x.low in
        elim (cases_lt x.begin at) [
          | inl lt ↦ absurd (x.clear at bound lt x.high)
          | inr ge ↦ omega arith
        ]

    -- no first byte is inside a piece
    not_first : (at k : ℕ) (x : Piece at) → x.begin < k → k < x.end → is_first c k ≡ true → ⊥
    not_first at k x lt lt' first =
        let p = and_parts (is_uncovered c k) (eqb k c.begin || not (is_uncovered c (k - 1)))
        first in
        let low = (within c x.begin (x.alone x.begin (omega arith) (omega arith))).low in
        elim (or_cases (eqb k c.begin) (not (is_uncovered c (k - 1))) p.1) [
          | inl same ↦ (let e = eqb-true k c.begin same in absurd (omega arith))
          | inr covered ↦ false≢true
              (sym (not-true (is_uncovered c (k - 1)) covered)
              ∙ x.alone (k - 1) (omega arith) (omega arith))
        ]

    at_first : (at : ℕ) (un : is_uncovered c at ≡ true) → is_first c at ≡ true
        → (h.piece at un).begin ≡ at
    at_first at un first =
        let x = h.piece at un in
        let low = x.low in
        elim (cases_lt x.begin at) [
          | inl lt ↦ absurd (not_first at at x lt x.high first)
          | inr ge ↦ omega arith
        ]

    -- ---- what uncovered code refers to

    outside : (m : Memory) (at : ℕ) (un : is_uncovered c at ≡ false) (n : ℕ)
        → sweep (is_uncovered c) m n at ≡ []
    outside m at un n = stopped Leads m (is_uncovered c) at un n

    piece_calls : (fuel at : ℕ) → c.end ≤ at + fuel → (un : is_uncovered c at ≡ true)
        → (h.piece at un).begin ≡ at → (n : ℕ)
        → AllByRecursion Leads (calls (sweep (is_uncovered c) c.memory n at))
    piece_calls zero at le un begins n =
        let high = (within c at un).high in absurd (omega arith)
    piece_calls (suc fuel) at le un begins n =
        let x = h.piece at un in
        let high = x.high in
        subst (λ k. AllByRecursion Leads (calls (sweep (is_uncovered c) c.memory n k))) begins
        (swept_calls Leads c.memory (is_uncovered c) x.begin x.rest x.end x.there x.calls
        (λ n'. elim (cases_Bool (is_uncovered c x.end)) [
          | inl more ↦ piece_calls fuel x.end (omega arith) more
              (at_bound x.end more x.ends) n'
          | inr covered ↦ subst (λ (xs : List Swept). AllByRecursion Leads (calls xs))
              (sym (outside c.memory x.end covered n')) tt
        ]) n)

    piece_taken : (fuel at : ℕ) → c.end ≤ at + fuel → (un : is_uncovered c at ≡ true)
        → (h.piece at un).begin ≡ at → (n : ℕ)
        → AllByRecursion Leads (addresses_taken (sweep (is_uncovered c) c.memory n at))
    piece_taken zero at le un begins n =
        let high = (within c at un).high in absurd (omega arith)
    piece_taken (suc fuel) at le un begins n =
        let x = h.piece at un in
        let high = x.high in
        subst (λ k. AllByRecursion Leads (addresses_taken (sweep (is_uncovered c) c.memory n k)))
        begins
        (swept_taken Leads c.memory (is_uncovered c) x.begin x.rest x.end x.there x.taken
        (λ n'. elim (cases_Bool (is_uncovered c x.end)) [
          | inl more ↦ piece_taken fuel x.end (omega arith) more
              (at_bound x.end more x.ends) n'
          | inr covered ↦ subst (λ (xs : List Swept). AllByRecursion Leads (addresses_taken xs))
              (sym (outside c.memory x.end covered n')) tt
        ]) n)

    referred_at : (at : ℕ) (b : Bool) → is_first c at ≡ b
        → AllByRecursion Leads (if b then references_of (uncovered_sweep c at) else [])
    referred_at at false e = tt
    referred_at at true e =
        let un = (and_parts (is_uncovered c at)
        (eqb at c.begin || not (is_uncovered c (at - 1))) e).0 in
        let begins = at_first at un e in
        let swept = uncovered_sweep c at in
        all_both Leads (calls swept) (addresses_taken swept)
        (piece_calls c.end at (omega arith) un begins (c.end - at))
        (piece_taken c.end at (omega arith) un begins (c.end - at))

    referred : (n at : ℕ) → AllByRecursion Leads (references c n at)
    referred zero at = tt
    referred (suc n) at =
        all_both Leads (references_at c at) (references c n (at + 1))
        (referred_at at (is_first c at) refl) (referred n (at + 1))

    -- ---- what entries refer to

    entry_called : (e : Entry) → EntryLeads e
        → AllByRecursion Leads (calls (entry_sweep c.memory e))
    entry_called e leads =
        let end = e.range.end in
        let inside = λ (at : ℕ). ltb at end in
        swept_calls Leads c.memory inside e.range.begin leads.items end leads.there leads.calls
        (λ n. subst (λ (xs : List Swept). AllByRecursion Leads (calls xs))
        (sym (stopped Leads c.memory inside end (le-ltb end end (omega arith)) n)) tt)
        (end - e.range.begin)

    entries_called : (es : List Entry) → AllByRecursion EntryLeads es
        → AllByRecursion Leads (entry_calls c.memory es)
    entries_called [] all = tt
    entries_called (e ∷ es) all =
        all_both Leads (calls (entry_sweep c.memory e)) (entry_calls c.memory es)
        (entry_called e all.0) (entries_called es all.1)

    -- ---- beginnings

    places_lead : AllByRecursion Leads (places c)
    places_lead = (
      h.entry_point,
      all_both Leads (scope_handlers c.entries)
          (entry_calls c.memory c.entries ++ references c (c.end - c.begin) c.begin)
          h.handlers
          (all_both Leads (entry_calls c.memory c.entries)
          (references c (c.end - c.begin) c.begin)
          (entries_called c.entries h.entries) (referred (c.end - c.begin) c.begin)),
    )

    -- inside a piece no routine begins
    none_inside : (at k : ℕ) (x : Piece at) → x.begin < k → k < x.end
        → is_beginning c k ≡ true → ⊥
    none_inside at k x lt lt' begins =
        let p = and_parts (is_uncovered c k) (is_first c k || is_among k (places c)) begins in
        elim (or_cases (is_first c k) (is_among k (places c)) p.1) [
          | inl first ↦ not_first at k x lt lt' first
          | inr place ↦ x.clear k (among_has Leads k (places c) places_lead place p.0) lt lt'
        ]

    at_beginning : (at : ℕ) (un : is_uncovered c at ≡ true) → is_beginning c at ≡ true
        → (h.piece at un).begin ≡ at
    at_beginning at un begins =
        let x = h.piece at un in
        let low = x.low in
        elim (cases_lt x.begin at) [
          | inl lt ↦ absurd (none_inside at at x lt x.high begins)
          | inr ge ↦ omega arith
        ]

    -- ---- a routine is pieces

    record Joined (at to : ℕ) : Type 0 where
      rest : List FetchedInstr
      there : HasItems c.memory at rest to
      right : (rs : List ℕ) → is_body (following 0 0 [] rest (Body rs)) ≡ true

    module _ (begin end : ℕ) (routine : IsUncoveredRoutine c begin end) where
      joined : (fuel at : ℕ) → end ≤ at + fuel → begin ≤ at → at < end
          → (un : is_uncovered c at ≡ true) → (h.piece at un).begin ≡ at → Joined at end
      joined zero at le low lt un begins = absurd (omega arith)
      joined (suc fuel) at le low lt un begins =
          let x = h.piece at un in
          let high = x.high in
          let there = subst (λ k. HasItems c.memory k x.rest x.end) begins x.there in
          elim (cases_lt x.end end) [
            | inl more ↦
                let next = routine.alone x.end (omega arith) more in
                let r = joined fuel x.end (omega arith) (omega arith) more next
                (at_bound x.end next x.ends) in
                record {
                  rest = x.rest ++ r.rest;
                  there = items_both c.memory at x.rest r.rest x.end end there r.there;
                  right = λ rs. both_right x.rest r.rest rs (x.right rs) r.right;
                }
            | inr past ↦ elim (cases_eq x.end end) [
              | inl same ↦ record {
                rest = x.rest;
                there = subst (λ k. HasItems c.memory at x.rest k) same there;
                right = x.right;
              }
              | inr beyond ↦ absurd (elim (cases_lt end x.end) [
                | inl inner ↦ elim routine.ends [
                  | inl covered ↦ false≢true
                      (sym covered ∙ x.alone end (omega arith) inner)
                  | inr begins' ↦ none_inside at end x (omega arith) inner begins'
                ]
                | inr outer ↦ beyond (omega arith)
              ])
            ]
          ]

      frameless : IsFrameless c begin end
      frameless =
          let some = routine.some in
          let un = routine.alone begin (omega arith) some in
          let j = joined end begin (omega arith) (omega arith) some un
          (at_beginning begin un routine.beginning) in
          record { rest = j.rest; there = j.there; right = j.right [] }

    pub pieces_make_frameless : UncoveredRoutinesAreFrameless c
    pieces_make_frameless begin end routine = frameless begin end routine
