-- An entry by its parts, and the entries of a table that was read whole.
use Rattle.std.proofs.Common.{◌≡◌, ℕ, zero, suc, ◌+◌, ◌<◌, Bool, true, false, Some, None, Ok, Err, List, [], ◌∷◌, length, drop, get_or, refl, sym, ap, subst, ◌∙◌}
use Rattle.std.specs.Prelude.{Option, is_ok, IsOk, nat_le, nat_lt, option_map}
use Rattle.std.specs.Result.{result_ok}
use Rattle.eh_tables.specs.Words.{Image, RuntimeFunction, TableErr, ◌>>=◌, unless, prepend, Table, Info, info, Entry, Tables, entry, entry_at, parents, no_range, end_before, entries, entries_of, passed, covers_address, entry_or, holding, TablesAreWhole}
use Rattle.eh_tables.specs.Found.{function_entry}
use Rattle.eh_tables.specs.declared.lookup.FunctionEntry.{FunctionEntry}
use Rattle.eh_tables.specs.Known.{only, range_checked, counted}
use Rattle.eh_tables.specs.declared.refusal.TableErr.TheVariants as refusals
use Rattle.eh_tables.proofs.Lookups.{split, entry_read, entry_is_read}
use Rattle.eh_tables.proofs.Ranges.{here, continues}

-- ---- an entry whose range passes

-- what is read of it after its range
abbrev pub infos_read : Image → ℕ → RuntimeFunction → Table Entry
infos_read image index r = do
  i ← info image index r.unwind_info
  above ← parents 31 image index i.parent
  Ok (record { range = r; info = i; parents = above })

pub entry_in_range : (image : Image) (index last : ℕ) (r : RuntimeFunction) (u : Unit {0})
    → range_checked index last r ≡ Ok u → entry image index last r ≡ infos_read image index r
unfolding entry
entry_in_range image index last r u h = go (nat_lt r.begin r.end) (nat_le last r.begin) h
  where
    go : (b c : Bool)
        → (unless b (refusals.EmptyRange index) >>= λ _. unless c (refusals.Unsorted index)) ≡ Ok u
        → (unless b (refusals.EmptyRange index) >>= λ _. unless c (refusals.Unsorted index)
        >>= λ _. infos_read image index r) ≡ infos_read image index r
    go true true h = refl
    go true false h = absurd cc
    go false c h = absurd cc

pub entry_out_of_range : (image : Image) (index last : ℕ) (r : RuntimeFunction) (e : TableErr)
    → range_checked index last r ≡ Err e → entry image index last r ≡ Err e
unfolding entry
entry_out_of_range image index last r e h = go (nat_lt r.begin r.end) (nat_le last r.begin) h
  where
    refused : (d : TableErr) → (let t : Table Unit = Err d in t) ≡ Err e
        → (let t : Table Entry = Err d in t) ≡ Err e
    refused d h = let same : d ≡ e = cc in ap (λ (x : TableErr). (let t : Table Entry = Err x in t))
        same

    go : (b c : Bool)
        → (unless b (refusals.EmptyRange index) >>= λ _. unless c (refusals.Unsorted index)) ≡ Err e
        → (unless b (refusals.EmptyRange index) >>= λ _. unless c (refusals.Unsorted index)
        >>= λ _. infos_read image index r) ≡ Err e
    go true true h = absurd cc
    go true false h = refused (refusals.Unsorted index) h
    go false c h = refused (refusals.EmptyRange index) h

pub entry_made : (image : Image) (index last : ℕ) (r : RuntimeFunction) (i : Info)
    (above : List Info) (u : Unit {0}) → range_checked index last r ≡ Ok u
    → info image index r.unwind_info ≡ Ok i → parents 31 image index i.parent ≡ Ok above
    → entry image index last r ≡ Ok (record { range = r; info = i; parents = above })
entry_made image index last r i above u range own chain =
    entry_in_range image index last r u range
    ∙ ap (λ (t : Table Info). t >>= λ j. parents 31 image index j.parent
    >>= λ a. (let e : Table Entry = Ok (record { range = r; info = j; parents = a }) in e)) own
    ∙ ap (λ (t : Table (List Info)). t
    >>= λ a. (let e : Table Entry = Ok (record { range = r; info = i; parents = a }) in e)) chain

-- its chain with its own info says whether it can be read
pub chain_says : (image : Image) (index : ℕ) (r : RuntimeFunction) (n : Table ℕ)
    → n ≡ counted (parents 32 image index (Some r)) → only (infos_read image index r) ≡ only n
chain_says image index r n e = go (info image index r.unwind_info) ∙ ap only (sym e)
  where
    more : (i : Info) (t : Table (List Info))
        → only {A = Entry} (t >>= λ a. Ok (record { range = r; info = i; parents = a }))
        ≡ only (counted (prepend i t))
    more i (Ok a) = refl
    more i (Err e) = refl

    go : (t : Table Info)
        → only {A = Entry} (t >>= λ i. parents 31 image index i.parent
        >>= λ a. Ok (record { range = r; info = i; parents = a }))
        ≡ only (counted (t >>= λ i. prepend i (parents 31 image index i.parent)))
    go (Ok i) = more i (parents 31 image index i.parent)
    go (Err e) = refl

-- ---- the entries from an index on, by whether that one can be read

module _ (image : Image) (index : ℕ) (rs : List RuntimeFunction) (lt : index < length rs) where
  pub goes_on : (u : Unit {0})
      → Ok u ≡ only (entry image index (end_before rs index) (get_or rs index no_range))
      → passed (entries image (index + 1) (end_before rs (index + 1)) (drop (index + 1) rs))
      ≡ passed (entries image index (end_before rs index) (drop index rs))
  goes_on u is = go (entry image index (end_before rs index) (get_or rs index no_range)) refl is
    where
      go : (t : Table Entry)
          → entry image index (end_before rs index) (get_or rs index no_range) ≡ t
          → Ok u ≡ only t
          → passed (entries image (index + 1) (end_before rs (index + 1)) (drop (index + 1) rs))
          ≡ passed (entries image index (end_before rs index) (drop index rs))
      go (Ok x) e h = continues image index rs x lt e
      go (Err x) e h = absurd cc

  pub ends_here : (e : TableErr)
      → Err e ≡ only (entry image index (end_before rs index) (get_or rs index no_range))
      → passed (entries image index (end_before rs index) (drop index rs)) ≡ Err e
  ends_here e is =
      ap (λ t. passed (entries image index (end_before rs index) t)) (here image index rs lt)
      ∙ go (entry image index (end_before rs index) (get_or rs index no_range)) is
    where
      go : (t : Table Entry) → Err e ≡ only t
          → passed (t >>= λ x. prepend x (entries image (index + 1)
          (get_or rs index no_range).end (drop (index + 1) rs))) ≡ Err e
      go (Ok x) h = absurd cc
      go (Err x) h = let same : e ≡ x = cc in ap (λ y. Err y) (sym same)

-- ---- in a table that was read whole

in_range : (image : Image) (index last : ℕ) (r : RuntimeFunction) → IsOk (entry image index last r)
    → entry image index last r ≡ infos_read image index r
in_range image index last r ok = go (range_checked index last r) refl
  where
    go : (t : Table Unit) → range_checked index last r ≡ t
        → entry image index last r ≡ infos_read image index r
    go (Ok u) e = entry_in_range image index last r u e
    go (Err x) e = absurd (never (sym (ap is_ok (entry_out_of_range image index last r x e)) ∙ ok))
      where
        never : false ≡ true → ⊥
        never h = absurd cc

read_info : (image : Image) (index last : ℕ) (r : RuntimeFunction)
    → IsOk (entry image index last r) → IsOk (info image index r.unwind_info)
read_info image index last r ok = go (info image index r.unwind_info)
    (sym (ap is_ok (in_range image index last r ok)) ∙ ok)
  where
    go : (t : Table Info)
        → IsOk (t >>= λ i. parents 31 image index i.parent
        >>= λ a. (let e : Table Entry = Ok (record { range = r; info = i; parents = a }) in e))
        → IsOk t
    go (Ok i) h = refl
    go (Err e) h = h

read_info_is : (image : Image) (index last : ℕ) (r : RuntimeFunction)
    → IsOk (entry image index last r)
    → result_ok (info image index r.unwind_info)
    ≡ option_map (λ e. e.info) (result_ok (entry image index last r))
read_info_is image index last r ok =
    go (info image index r.unwind_info) (sym (ap is_ok (in_range image index last r ok)) ∙ ok)
    ∙ sym (ap (λ t. option_map (λ (e : Entry). e.info) (result_ok t))
    (in_range image index last r ok))
  where
    more : (i : Info) (t : Table (List Info))
        → IsOk (t >>= λ a. (let e : Table Entry = Ok (record { range = r; info = i; parents = a })
        in e))
        → Some i ≡ option_map (λ (e : Entry). e.info) (result_ok
        (t >>= λ a. Ok (record { range = r; info = i; parents = a })))
    more i (Ok a) h = refl
    more i (Err e) h = absurd cc

    go : (t : Table Info)
        → IsOk (t >>= λ i. parents 31 image index i.parent
        >>= λ a. (let e : Table Entry = Ok (record { range = r; info = i; parents = a }) in e))
        → result_ok t ≡ option_map (λ (e : Entry). e.info) (result_ok
        (t >>= λ i. parents 31 image index i.parent
        >>= λ a. Ok (record { range = r; info = i; parents = a })))
    go (Ok i) h = more i (parents 31 image index i.parent) h
    go (Err e) h = absurd cc

module _ (t : Tables) (k : ℕ) (w : TablesAreWhole t) (lt : k < length t.ranges) where
  pub info_is_own : result_ok (info t.image k (get_or t.ranges k no_range).unwind_info)
      ≡ option_map (λ e. e.info) (result_ok (entry_at t k))
  info_is_own = read_info_is t.image k (end_before t.ranges k) (get_or t.ranges k no_range)
      (entry_is_read t k w lt)

  pub info_known : (r : RuntimeFunction) → r ≡ get_or t.ranges k no_range
      → IsOk (info t.image k r.unwind_info)
  info_known r e = ap (λ (x : RuntimeFunction). is_ok (info t.image k x.unwind_info)) e
      ∙ read_info t.image k (end_before t.ranges k) (get_or t.ranges k no_range)
      (entry_is_read t k w lt)

  pub info_found : (r : RuntimeFunction) → r ≡ get_or t.ranges k no_range
      → result_ok (info t.image k r.unwind_info)
      ≡ option_map (λ e. e.info) (result_ok (entry_at t k))
  info_found r e = ap (λ (x : RuntimeFunction). result_ok (info t.image k x.unwind_info)) e
      ∙ info_is_own

  pub entry_known : (last : ℕ) (r : RuntimeFunction) → last ≡ end_before t.ranges k
      → r ≡ get_or t.ranges k no_range → IsOk (entry t.image k last r)
  entry_known last r e f = ap (λ n. is_ok (entry t.image k n r)) e
      ∙ ap (λ (x : RuntimeFunction). is_ok (entry t.image k (end_before t.ranges k) x)) f
      ∙ entry_is_read t k w lt

-- the entry of an index, as a look-up finds it
pub found_entry : (t : Tables) (k : ℕ) (i : Info) (r : RuntimeFunction) (o : Option Entry)
    → Some i ≡ option_map (λ e. e.info) (result_ok (entry_at t k)) → result_ok (entry_at t k) ≡ o
    → r ≡ get_or t.ranges k no_range
    → Some (record { range = r; info = i }) ≡ option_map function_entry o
found_entry t k i r o own is range = go (entry_at t k) refl own
    ∙ ap (option_map function_entry) is
  where
    one : {x y : Info} → Some x ≡ Some y → x ≡ y
    one e = cc

    go : (a : Table Entry) → entry_at t k ≡ a
        → Some i ≡ option_map (λ (e : Entry). e.info) (result_ok a)
        → Some (record { range = r; info = i }) ≡ option_map function_entry (result_ok a)
    go (Ok e) h p =
        let same : i ≡ e.info = one p in
        let read = entry_read t.image k (end_before t.ranges k) (get_or t.ranges k no_range) e h in
        ap (λ (x : Info). (let f : FunctionEntry = record { range = r; info = x } in Some f)) same
        ∙ ap (λ (x : RuntimeFunction).
        (let f : FunctionEntry = record { range = x; info = e.info } in Some f))
        (range ∙ sym read.range)
    go (Err x) h p = absurd cc

pub no_entry : (o : Option Entry) → None ≡ option_map (λ e. e.info) o
    → None ≡ option_map function_entry o
no_entry None e = refl
no_entry (Some x) e = absurd cc

-- an info that is chained to none has no parents
pub no_parents : (image : Image) (index last : ℕ) (r : RuntimeFunction) (e : Entry)
    → entry image index last r ≡ Ok e → e.info.parent ≡ None → e.parents ≡ []
no_parents image index last r e h none = go (info image index r.unwind_info)
    (sym (in_range image index last r (ap is_ok h)) ∙ h)
  where
    one : {x y : Entry} → (let t : Table Entry = Ok x in t) ≡ Ok y → x ≡ y
    one e = cc

    nothing : (n : ℕ) (a : List Info) → parents n image index None ≡ Ok a → a ≡ []
    nothing zero a h = cc
    nothing (suc n) a h = cc

    more : (i : Info) (t : Table (List Info)) → parents 31 image index i.parent ≡ t
        → (t >>= λ a. Ok (record { range = r; info = i; parents = a })) ≡ Ok e → e.parents ≡ []
    more i (Ok a) p h =
        let same = one h in
        let own : i ≡ e.info = ap (λ (x : Entry). x.info) same in
        let above : a ≡ e.parents = ap (λ (x : Entry). x.parents) same in
        sym above ∙ nothing 31 a (sym (ap (parents 31 image index)
        (ap (λ (x : Info). x.parent) own ∙ none)) ∙ p)
    more i (Err x) p h = absurd cc

    go : (t : Table Info)
        → (t >>= λ i. parents 31 image index i.parent
        >>= λ a. Ok (record { range = r; info = i; parents = a })) ≡ Ok e → e.parents ≡ []
    go (Ok i) h = more i (parents 31 image index i.parent) refl h
    go (Err x) h = absurd cc

holding_unchained : (image : Image) (index last : ℕ) (rs : List RuntimeFunction) (es : List Entry)
    (rva : ℕ) (e : Entry) → entries image index last rs ≡ Ok es → holding rva es ≡ Some e
    → e.info.parent ≡ None → e.parents ≡ []
holding_unchained image index last [] es rva e h is none =
    let same : [] ≡ es = cc in
    absurd (never (ap (holding rva) same ∙ is))
  where
    never : (let o : Option Entry = None in o) ≡ Some e → ⊥
    never h = absurd cc
holding_unchained image index last (r ∷ rs) es rva e h is none =
    let s = split image index last r rs es h in
    go s.head (no_parents image index last r s.head s.is)
    (λ k. holding_unchained image (index + 1) r.end rs s.rest rva e s.others k none)
    (covers_address rva s.head.range) (sym (ap (holding rva) s.all) ∙ is)
  where
    one : {x y : Entry} → Some x ≡ Some y → x ≡ y
    one e = cc

    go : {o : Option Entry} (d : Entry) → (d.info.parent ≡ None → d.parents ≡ [])
        → (o ≡ Some e → e.parents ≡ []) → (b : Bool) → entry_or o d b ≡ Some e → e.parents ≡ []
    go d own more true k =
        let same : d ≡ e = one k in
        subst (λ (x : Entry). x.info.parent ≡ None → x.parents ≡ []) same own none
    go d own more false k = more k

-- the entry that is found has none where it isn't chained
pub found_unchained : (t : Tables) (rva : ℕ) (e : Entry) → TablesAreWhole t
    → holding rva (entries_of t) ≡ Some e → e.info.parent ≡ None → e.parents ≡ []
found_unchained t rva e w is none = holding_unchained t.image 0 0 t.ranges (entries_of t) rva e
    w.whole is none

-- ---- for searching

pub refused_by_range : (image : Image) (index last : ℕ) (r : RuntimeFunction) (e : TableErr)
    → Err e ≡ range_checked index last r → Err e ≡ only (entry image index last r)
refused_by_range image index last r e h = sym (ap only (entry_out_of_range image index last r e
    (sym h)))

pub said_by_chain : (image : Image) (index last : ℕ) (r : RuntimeFunction) (u : Unit {0})
    (n : Table ℕ) → Ok u ≡ range_checked index last r
    → n ≡ counted (parents 32 image index (Some r)) → only n ≡ only (entry image index last r)
said_by_chain image index last r u n h e = sym (chain_says image index r n e)
    ∙ sym (ap only (entry_in_range image index last r u (sym h)))

pub ruleset entry_steps = (refused_by_range, said_by_chain)
