-- The entries of a table that was read whole, one by one.
use Rattle.std.proofs.Common.{◌≡◌, ℕ, zero, suc, ◌+◌, ◌^◌, ◌<◌, ◌≤◌, Option, Some, None, Ok, Err, List, [], ◌∷◌, ◌++◌, length, take, drop, get_or, refl, sym, ap, subst, ◌∙◌, arith, inl, inr}
use Rattle.std.specs.Prelude.{◌&&◌, option_map, IfOk, IfNone}
use Rattle.std.specs.Result.{result_ok}
use Rattle.std.proofs.lemmas.List.Elements.{All-append, All-nil, All-cons}
use Rattle.eh_tables.specs.declared.range.RuntimeFunction.{RuntimeFunction}
use Rattle.eh_tables.specs.Infos.{Info, info}
use Rattle.eh_tables.specs.declared.layout.TheConstants.{MOST_PARENTS}
use Rattle.seh_num.specs.Answers.{prepend}
use Rattle.eh_tables.specs.Answer.{Table}
use Rattle.eh_tables.specs.Tables.{Entry, Tables, entry, entry_at, parents, no_range, end_before, entries, entries_of, TablesAreWhole}
use Rattle.eh_tables.proofs.KnownInfos.{info_carried}
use Rattle.unwind_check.specs.declared.rule.Fault.{Fault}
use Rattle.unwind_check.specs.declared.rule.Rule.TheVariants.{Decode}
use Rattle.unwind_check.specs.Boundaries.{unless, or_next}
use Rattle.unwind_check.specs.Chains.{has_range, names_entry, is_secondary, info_named}
use Rattle.unwind_check.specs.Faults.{begins, fragment_fault, entry_fault, info_fault}
use Rattle.unwind_check.specs.FailingRules.{AreFaults}
use Rattle.unwind_check.specs.Verdicts.{ImageCode, entry_in, IsKept, AllAreKept}
use Rattle.unwind_check.specs.declared.rule.EntryVerdict.{EntryVerdict}
use Rattle.unwind_check.specs.EntryVerdicts.{IsEntryVerdict, AreEntryVerdicts}
use Rattle.unwind_check.proofs.FirstFaults.{faults_are_first}
use Rattle.unwind_check.proofs.NamedEntries.{Named, named}
use Rattle.unwind_check.proofs.ReadEntries.{split, given, is_read}

abbrev end_from : ℕ → List RuntimeFunction → ℕ → ℕ
end_from last rs zero = last
end_from last rs (suc k) = (get_or rs k no_range).end

end_of_rest : (last : ℕ) (r : RuntimeFunction) (rs : List RuntimeFunction) (k : ℕ)
    → end_from r.end rs k ≡ end_from last (r ∷ rs) (suc k)
end_of_rest last r rs zero = refl
end_of_rest last r rs (suc k) = refl

record IsEntryAt (es : List Entry) (k : ℕ) (t : Table Entry) : Type 0 where
  entry : Entry
  is : t ≡ Ok entry
  all : drop k es ≡ entry ∷ drop (suc k) es

entry_is_at : (ts : Tables) (index last : ℕ) (rs : List RuntimeFunction) (es : List Entry)
    (k j : ℕ) → entries ts.image index last rs ≡ Ok es → k < length rs → j ≡ index + k
    → IsEntryAt es k (entry ts.image j (end_from last rs k) (get_or rs k no_range))
entry_is_at ts index last [] es k j h lt e = absurd (omega arith)
entry_is_at ts index last (r ∷ rs) es zero j h lt e =
    let s = split ts.image index last r rs es h in
    let f : j ≡ index = omega arith in
    record {
      entry = s.head;
      is = ap (λ n. entry ts.image n last r) f ∙ s.is;
      all = s.all
          ∙ ap (λ (t : List Entry). s.head ∷ t) (sym (ap (drop 1) s.all));
    }
entry_is_at ts index last (r ∷ rs) es (suc k) j h lt e =
    let s = split ts.image index last r rs es h in
    let rest = entry_is_at ts (index + 1) r.end rs s.rest k j s.others (omega arith)
    (omega arith) in
    record {
      entry = rest.entry;
      is = ap (λ n. entry ts.image j n (get_or rs k no_range)) (sym (end_of_rest last r rs k))
          ∙ rest.is;
      all = ap (drop (suc k)) s.all ∙ rest.all
          ∙ ap (λ (t : List Entry). rest.entry ∷ t) (sym (ap (drop (suc (suc k))) s.all));
    }

first_end : (t : Tables) (k : ℕ) → end_from 0 t.ranges k ≡ end_before t.ranges k
first_end t zero = refl
first_end t (suc k) = refl

at : (t : Tables) (k : ℕ) → TablesAreWhole t → k < length t.ranges
    → IsEntryAt (entries_of t) k (entry_at t k)
at t k w lt =
    let s = entry_is_at t 0 0 t.ranges (entries_of t) k k w.whole lt (omega arith) in
    record {
      entry = s.entry;
      is = ap (λ n. entry t.image k n (get_or t.ranges k no_range))
          (sym (first_end t k)) ∙ s.is;
      all = s.all;
    }

-- ---- the rules, entry by entry

one_answer : {x y : Info} → (let t : Table Info = Ok x in t) ≡ Ok y → x ≡ y
one_answer e = cc

-- the info of the table's entry that an info names is the first of those that it is chained to
module _ (c : ImageCode) (t : Tables) (w : TablesAreWhole t) (listed : c.ranges ≡ t.ranges)
    (begin to : ℕ) (i : Info) where
  abbrev pub as_read : Option RuntimeFunction → Option Fault
  as_read o = info_fault c.memory c.probe begin to i o (info_named (entries_of t) o)

  abbrev pub as_said : List Info → Option Fault
  as_said ps = entry_fault c.memory c.probe c.ranges begin to i ps

  by_name : (index : ℕ) (r : RuntimeFunction) (p : Info) (ps : List Info) → i.parent ≡ Some r
      → info t.image index r.unwind_info ≡ Ok p → Named t.image t.ranges (entries_of t) r
      → as_read (Some r) ≡ as_said (p ∷ ps)
  unfolding info_fault entry_fault
  by_name index r p ps is own (inl (has, it)) =
      let same : it.own ≡ p = one_answer (sym it.read
      ∙ info_carried t.image index it.index r.unwind_info p own) in
      ap (info_fault c.memory c.probe begin to i (Some r)) (it.found
      ∙ ap (λ (x : Info). let o : Option Info = Some x in o) same)
      ∙ ap (λ b. or_next (unless (begins c.memory begin to i) begin Decode)
      (fragment_fault c.memory begin to i p (b && is_secondary i p)))
      (sym (ap (has_range r) listed ∙ has) ∙ ap (names_entry c.ranges) (sym is))
  by_name index r p ps is own (inr (not_there, none)) =
      ap (info_fault c.memory c.probe begin to i (Some r)) none
      ∙ ap (λ b. or_next (unless (begins c.memory begin to i) begin Decode)
      (fragment_fault c.memory begin to i p (b && is_secondary i p)))
      (sym (ap (has_range r) listed ∙ not_there) ∙ ap (names_entry c.ranges) (sym is))

  pub by_chain : (n index : ℕ) (o : Option RuntimeFunction) (ps : List Info) → i.parent ≡ o
      → parents n t.image index o ≡ Ok ps → as_read o ≡ as_said ps
  unfolding info_fault entry_fault
  by_chain zero index None ps is h = let same : [] ≡ ps = cc in ap as_said same
  by_chain zero index (Some r) ps is h = absurd cc
  by_chain (suc n) index None ps is h = let same : [] ≡ ps = cc in ap as_said same
  by_chain (suc n) index (Some r) ps is h =
      let first = given (info t.image index r.unwind_info) _ ps h in
      go first.value (parents n t.image index first.value.parent) first.first first.then
    where
      go : (j : Info) (u : Table (List Info)) → info t.image index r.unwind_info ≡ Ok j
          → prepend j u ≡ Ok ps → as_read (Some r) ≡ as_said ps
      go j (Ok rest) own h =
          let same : j ∷ rest ≡ ps = cc in
          by_name index r j rest is own (named t.image t.ranges (entries_of t) r w.whole)
          ∙ ap as_said same
      go j (Err x) own h = absurd cc

one_info : {x y : Info} → Some x ≡ Some y → x ≡ y
one_info e = cc

-- what is said of the entry of an index by its range and its own info
pub says_of : (c : ImageCode) (t : Tables) (k : ℕ) (r : RuntimeFunction) (i : Info)
    (v : EntryVerdict) → c.ranges ≡ t.ranges → TablesAreWhole t → k < length t.ranges
    → r ≡ get_or t.ranges k no_range
    → Some i ≡ option_map (λ e. e.info) (result_ok (entry_at t k)) → r.end < 2 ^ 63
    → v.begin ≡ r.begin
    → v.fault ≡ info_fault c.memory c.probe r.begin r.end i i.parent
    (info_named (entries_of t) i.parent)
    → IfNone v.fault (i.frame_offset < 2 ^ 8)
    → IfOk (entry_at t k) (λ e. IsEntryVerdict c e v)
says_of c t k r i v listed w lt range own low begins fault near =
    let s = at t k w lt in
    let e = s.entry in
    let q = get_or t.ranges k no_range in
    let read = is_read t.image k (end_before t.ranges k) q e s.is in
    let same : i ≡ e.info = one_info (own
    ∙ ap (λ (x : Table Entry). option_map (λ (y : Entry). y.info) (result_ok x)) s.is) in
    let its : r ≡ e.range = range ∙ sym read.range in
    let rise : e.range.begin < e.range.end = subst (λ (p : RuntimeFunction). p.begin < p.end)
    (sym read.range) read.some in
    let here : entry_fault c.memory c.probe c.ranges e.range.begin e.range.end e.info e.parents
    ≡ v.fault = sym (fault
    ∙ ap (λ (p : RuntimeFunction). as_read c t w listed p.begin p.end i i.parent) its
    ∙ ap (λ (x : Info). as_read c t w listed e.range.begin e.range.end x x.parent) same
    ∙ by_chain c t w listed e.range.begin e.range.end e.info MOST_PARENTS k e.info.parent e.parents
    refl read.chain) in
    subst (λ (x : Table Entry). IfOk x (λ y. IsEntryVerdict c y v)) (sym s.is) (record {
      begin = begins ∙ ap (λ (p : RuntimeFunction). p.begin) its;
      faults = subst (AreFaults (entry_in c e)) here (faults_are_first (entry_in c e) rise
          (subst (λ (p : RuntimeFunction). p.end < 2 ^ 63) its low));
      near = subst (λ (x : Info). IfNone v.fault (x.frame_offset < 2 ^ 8)) same near;
    })

-- the entry of an index in the list of all
pub record IsEntryOf (es : List Entry) (k : ℕ) (e : Entry) : Type 0 where
  pub parts : es ≡ take k es ++ (e ∷ drop (suc k) es)
  pub next : take (suc k) es ≡ take k es ++ (e ∷ [])
  pub count : length (take k es) ≡ k

entry_of : (es : List Entry) (k : ℕ) (e : Entry) → drop k es ≡ e ∷ drop (suc k) es
    → IsEntryOf es k e
entry_of [] zero e h = cc
entry_of [] (suc k) e h = cc
entry_of (x ∷ es) zero e h =
    let same : x ≡ e = cc in
    record {
      parts = ap (λ (y : Entry). y ∷ es) same;
      next = ap (λ (y : Entry). y ∷ []) same;
      count = refl;
    }
entry_of (x ∷ es) (suc k) e h =
    let r = entry_of es k e h in
    let n = r.count in
    record {
      parts = ap (λ (ys : List Entry). x ∷ ys) r.parts;
      next = ap (λ (ys : List Entry). x ∷ ys) r.next;
      count = omega (arith, n);
    }

-- the entry of an index, and the verdict on it
pub record IsJudged (c : ImageCode) (t : Tables) (k : ℕ) (v : EntryVerdict) : Type 0 where
  pub entry : Entry
  pub place : IsEntryOf (entries_of t) k entry
  pub says : IsEntryVerdict c entry v

pub judged : (c : ImageCode) (t : Tables) (k : ℕ) (v : EntryVerdict) → TablesAreWhole t
    → k < length t.ranges → IfOk (entry_at t k) (λ e. IsEntryVerdict c e v) → IsJudged c t k v
judged c t k v w lt says =
    let s = at t k w lt in
    record {
      entry = s.entry;
      place = entry_of (entries_of t) k s.entry s.all;
      says = subst (λ (x : Table Entry). IfOk x (λ e. IsEntryVerdict c e v)) s.is says;
    }

-- one more that keeps the rules
pub one_more : (c : ImageCode) (es : List Entry) (k : ℕ) (e : Entry) → IsEntryOf es k e
    → AllAreKept c (take k es) → IsKept c e → AllAreKept c (take (k + 1) es)
one_more c es k e is all keeps =
    let n : suc k ≡ k + 1 = omega arith in
    subst (AllAreKept c) (sym is.next ∙ ap (λ j. take j es) n)
    (All-append (IsKept c) (take k es) (e ∷ []) all
    (All-cons (IsKept c) e [] keeps (All-nil (IsKept c))))

-- an info is read for each index
pub none_missing : (t : Tables) (k : ℕ) → TablesAreWhole t → k < length t.ranges
    → None ≡ option_map (λ e. e.info) (result_ok (entry_at t k)) → ⊥
none_missing t k w lt is =
    let s = at t k w lt in
    never (is ∙ ap (λ (x : Table Entry). option_map (λ (e : Entry). e.info) (result_ok x)) s.is)
  where
    never : {i : Info} → (let o : Option Info = None in o) ≡ Some i → ⊥
    never h = cc

-- past the last
all_taken : (es : List Entry) (k : ℕ) → length es ≤ k → take k es ≡ es
all_taken [] zero le = refl
all_taken [] (suc k) le = refl
all_taken (x ∷ es) zero le = absurd (omega (arith, le))
all_taken (x ∷ es) (suc k) le =
    ap (λ (ys : List Entry). x ∷ ys) (all_taken es k (omega (arith, le)))

as_many : (ts : Tables) (index last : ℕ) (rs : List RuntimeFunction) (es : List Entry)
    → entries ts.image index last rs ≡ Ok es → length es ≡ length rs
as_many ts index last [] es h = let e : es ≡ [] = cc in ap length e
as_many ts index last (r ∷ rs) es h =
    let s = split ts.image index last r rs es h in
    ap length s.all ∙ ap (λ k. suc k) (as_many ts (index + 1) r.end rs s.rest s.others)

pub all_keep : (c : ImageCode) (t : Tables) (k : ℕ) → TablesAreWhole t → length t.ranges ≤ k
    → AllAreKept c (take k (entries_of t))
    → AllAreKept c (entries_of t) × (length (entries_of t) ≡ length t.ranges)
all_keep c t k w le all =
    let n = as_many t 0 0 t.ranges (entries_of t) w.whole in (
      subst (AllAreKept c) (all_taken (entries_of t) k (omega (arith, n, le))) all,
      n,
    )

-- ---- the verdicts on entries, one by one

-- one more entry and the verdict on it
joined : (c : ImageCode) (es : List Entry) (vs : List EntryVerdict) (e : Entry) (v : EntryVerdict)
    → AreEntryVerdicts c es vs → IsEntryVerdict c e v
    → AreEntryVerdicts c (es ++ (e ∷ [])) (vs ++ (v ∷ []))
joined c [] [] e v all is = (is, tt)
joined c (d ∷ es) (w ∷ vs) e v all is = (all.0, joined c es vs e v all.1 is)
joined c [] (w ∷ vs) e v all is = absurd all
joined c (d ∷ es) [] e v all is = absurd all

pub one_more_verdict : (c : ImageCode) (es : List Entry) (k : ℕ) (e : Entry)
    (vs : List EntryVerdict) (v : EntryVerdict) → IsEntryOf es k e
    → AreEntryVerdicts c (take k es) vs → IsEntryVerdict c e v
    → AreEntryVerdicts c (take (k + 1) es) (vs ++ (v ∷ []))
one_more_verdict c es k e vs v is all says =
    let n : suc k ≡ k + 1 = omega arith in
    subst (λ (xs : List Entry). AreEntryVerdicts c xs (vs ++ (v ∷ [])))
    (sym is.next ∙ ap (λ j. take j es) n) (joined c (take k es) vs e v all says)

pub all_judged : (c : ImageCode) (t : Tables) (k : ℕ) (vs : List EntryVerdict) → TablesAreWhole t
    → length t.ranges ≤ k → AreEntryVerdicts c (take k (entries_of t)) vs
    → AreEntryVerdicts c (entries_of t) vs
all_judged c t k vs w le all =
    let n = as_many t 0 0 t.ranges (entries_of t) w.whole in
    subst (λ (xs : List Entry). AreEntryVerdicts c xs vs)
    (all_taken (entries_of t) k (omega (arith, n, le))) all
