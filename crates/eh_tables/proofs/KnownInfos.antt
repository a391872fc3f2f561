-- An info that can be read for one entry can be read for each, and so can a chain.
use Rattle.std.proofs.Common.{◌≡◌, ℕ, zero, suc, ◌+◌, ◌/◌, ◌%◌, ◌≤◌, ◌<◌, ◌≢◌, Bool, true, false, Option, Some, None, Ok, Err, List, [], ◌∷◌, length, eqb, ltb, leb, refl, sym, ap, subst, ◌∙◌, arith, inl, inr, cond}
use Rattle.std.specs.Ordering.{nat_cmp}
use Rattle.std.specs.BTreeMap.{BTreeMap, get, is_at}
use Rattle.std.specs.Map.{lookup}
use Rattle.std.proofs.lemmas.Bool.{cases_eq, leb-true, leb-false}
use Rattle.pe_image.proofs.Inserted.{at_key, off_key}
use Rattle.eh_tables.specs.Words.{Image, RuntimeFunction, ScopeRecord, TableErr, ◌>>=◌, unless, or_refused, prepend, Table, stored, Info, info, stored_info, stored_scope_records, code_checked, in_order, operation, parents}
use Rattle.eh_tables.specs.Codes.{OperationAndSlots}
use Rattle.eh_tables.specs.Codes as codes
use Rattle.eh_tables.specs.Scopes as scopes
use Rattle.eh_tables.specs.Infos.{version, are_flags, flags, is_framed, slots_of}
use Rattle.eh_tables.specs.Known.{counted, within, if_within, with_info, IsChain, AreKnown}
use Rattle.eh_tables.specs.declared.refusal.TableErr.TheVariants as refusals
use Rattle.eh_tables.proofs.Lookups.{given, prepended}

-- ---- what one entry is answered, another is answered

pub carried : {A B : Type 0} (t u : Table A) (f g : A → Table B) (y : B)
    → ((x : A) → t ≡ Ok x → u ≡ Ok x) → ((x : A) → f x ≡ Ok y → g x ≡ Ok y) → t >>= f ≡ Ok y
    → u >>= g ≡ Ok y
carried (Ok x) u f g y first then h = ap (λ r. r >>= g) (first x refl) ∙ then x h
carried (Err e) u f g y first then h = absurd cc

unless_carried : (b : Bool) (e d : TableErr) (x : Unit {0}) → unless b e ≡ Ok x → unless b d ≡ Ok x
unless_carried true e d x h = h
unless_carried false e d x h = absurd cc

codes_carried : (i j : ℕ) (framed : Bool) (slot last skip : ℕ) (bytes : List ℕ) (x : Unit {0})
    → codes.checked i framed slot last skip bytes ≡ Ok x
    → codes.checked j framed slot last skip bytes ≡ Ok x
codes_carried i j framed slot last skip [] x h = h
codes_carried i j framed slot last skip (a ∷ []) x h = h
codes_carried i j framed slot last (suc k) (a ∷ b ∷ rest) x h = codes_carried i j framed (slot + 1)
    last k rest x h
codes_carried i j framed slot last zero (a ∷ b ∷ rest) x h = go
    (λ k. codes_carried i j framed (slot + 1) a k rest x) (operation framed (b % 16) (b / 16) rest)
    h
  where
    order : (b : Bool) (p q : Table Unit) → (p ≡ Ok x → q ≡ Ok x) → in_order i slot p b ≡ Ok x
        → in_order j slot q b ≡ Ok x
    order true p q more h = absurd cc
    order false p q more h = more h

    go : ((k : ℕ) → codes.checked i framed (slot + 1) a k rest ≡ Ok x
        → codes.checked j framed (slot + 1) a k rest ≡ Ok x) → (o : OperationAndSlots)
        → code_checked i slot last a (λ k. codes.checked i framed (slot + 1) a k rest) o ≡ Ok x
        → code_checked j slot last a (λ k. codes.checked j framed (slot + 1) a k rest) o ≡ Ok x
    go more None h = absurd cc
    go more (Some y) h = order (ltb last a) _ _ (more y.1) h

rows_carried : (i j size n : ℕ) (rows : List ScopeRecord) (x : Unit {0})
    → scopes.checked i size n rows ≡ Ok x → scopes.checked j size n rows ≡ Ok x
rows_carried i j size n [] x h = h
rows_carried i j size n (r ∷ rows) x h = carried
    (unless (scopes.is_within size r) (refusals.ScopeRange i n))
    (unless (scopes.is_within size r) (refusals.ScopeRange j n)) _ _ x
    (unless_carried (scopes.is_within size r) _ _) (λ y. rows_carried i j size (n + 1) rows x) h

stored_carried : (image : Image) (i j rva : ℕ) (bytes : List ℕ)
    → stored_info image i rva ≡ Ok bytes → stored_info image j rva ≡ Ok bytes
unfolding stored_info
stored_carried image i j rva bytes h =
    carried (unless (eqb (rva % 4) 0) (refusals.Misaligned rva)) _ _ _ bytes (λ y e. e)
    (λ y. carried (or_refused (stored image.sections rva 4) (refusals.Truncated rva)) _ _ _ bytes
    (λ z e. e)
    (λ head. carried (unless (eqb (version head) 1) (refusals.Version i (version head)))
    (unless (eqb (version head) 1) (refusals.Version j (version head))) _ _ bytes
    (unless_carried (eqb (version head) 1) _ _)
    (λ z. carried (unless (are_flags (flags head)) (refusals.Flags i))
    (unless (are_flags (flags head)) (refusals.Flags j)) _ _ bytes
    (unless_carried (are_flags (flags head)) _ _) (λ w e. e)))) h

pub info_carried : (image : Image) (i j rva : ℕ) (x : Info) → info image i rva ≡ Ok x
    → info image j rva ≡ Ok x
unfolding info
info_carried image i j rva x h =
    carried (stored_info image i rva) (stored_info image j rva) _ _ x
    (stored_carried image i j rva)
    (λ bytes. carried (stored_scope_records image rva bytes) (stored_scope_records image rva bytes)
    _ _ x (λ r e. e)
    (λ rows. carried (codes.checked i (is_framed bytes) 0 255 0 (slots_of bytes))
    (codes.checked j (is_framed bytes) 0 255 0 (slots_of bytes)) _ _ x
    (codes_carried i j (is_framed bytes) 0 255 0 (slots_of bytes))
    (λ y. carried (scopes.checked i image.size 0 (scopes.scope_records_in rows))
    (scopes.checked j image.size 0 (scopes.scope_records_in rows)) _ _ x
    (rows_carried i j image.size 0 (scopes.scope_records_in rows)) (λ z e. e)))) h

-- ---- chains

record Linked (image : Image) (n i : ℕ) (r : RuntimeFunction) (is : List Info) : Type 0 where
  own : Info
  rest : List Info
  first : info image i r.unwind_info ≡ Ok own
  others : parents n image i own.parent ≡ Ok rest
  all : is ≡ own ∷ rest

linked : (image : Image) (n i : ℕ) (r : RuntimeFunction) (is : List Info)
    → parents (suc n) image i (Some r) ≡ Ok is → Linked image n i r is
linked image n i r is h =
    let one = given (info image i r.unwind_info) (λ x. prepend x (parents n image i x.parent)) is h
    in
    let two = prepended one.value (parents n image i one.value.parent) is one.then in
    record {
      own = one.value;
      rest = two.rest;
      first = one.first;
      others = two.is;
      all = two.all;
    }

shorter : (x : Info) (is rest : List Info) (m : ℕ) → is ≡ x ∷ rest → length is ≤ suc m
    → length rest ≤ m
shorter x is rest m e le = let same = ap length e in omega arith

none_left : (is : List Info) → (let t : Table (List Info) = Ok [] in t) ≡ Ok is → length is ≡ 0
none_left is h = let e : [] ≡ is = cc in ap length (sym e)

pub chain_fits : (n : ℕ) (image : Image) (i : ℕ) (o : Option RuntimeFunction) (is : List Info)
    → parents n image i o ≡ Ok is → length is ≤ n
chain_fits zero image i None is h = let e = none_left is h in omega arith
chain_fits zero image i (Some r) is h = absurd cc
chain_fits (suc n) image i None is h = let e = none_left is h in omega arith
chain_fits (suc n) image i (Some r) is h =
    let l = linked image n i r is h in
    let more = chain_fits n image i l.own.parent l.rest l.others in
    let same = ap length l.all in
    omega arith

pub chain_carried : (n m : ℕ) (image : Image) (i j : ℕ) (o : Option RuntimeFunction)
    (is : List Info) → parents n image i o ≡ Ok is → length is ≤ m → parents m image j o ≡ Ok is
chain_carried zero zero image i j None is h le = h
chain_carried zero (suc m) image i j None is h le = h
chain_carried zero m image i j (Some r) is h le = absurd cc
chain_carried (suc n) zero image i j None is h le = h
chain_carried (suc n) (suc m) image i j None is h le = h
chain_carried (suc n) zero image i j (Some r) is h le =
    let l = linked image n i r is h in
    let same = ap length l.all in
    absurd (omega arith)
chain_carried (suc n) (suc m) image i j (Some r) is h le =
    let l = linked image n i r is h in
    ap (λ (t : Table Info). t >>= λ x. prepend x (parents m image j x.parent))
    (info_carried image i j r.unwind_info l.own l.first)
    ∙ ap (prepend l.own) (chain_carried n m image i j l.own.parent l.rest l.others
    (shorter l.own is l.rest m l.all le))
    ∙ ap (λ (t : List Info). Ok t) (sym l.all)

pub chain_long : (n m : ℕ) (image : Image) (i j : ℕ) (o : Option RuntimeFunction) (is : List Info)
    → parents n image i o ≡ Ok is → m < length is
    → parents m image j o ≡ Err (refusals.ChainLong j)
chain_long zero m image i j None is h lt = let e = none_left is h in absurd (omega arith)
chain_long zero m image i j (Some r) is h lt = absurd cc
chain_long (suc n) m image i j None is h lt = let e = none_left is h in absurd (omega arith)
chain_long (suc n) zero image i j (Some r) is h lt = refl
chain_long (suc n) (suc m) image i j (Some r) is h lt =
    let l = linked image n i r is h in
    let same = ap length l.all in
    ap (λ (t : Table Info). t >>= λ x. prepend x (parents m image j x.parent))
    (info_carried image i j r.unwind_info l.own l.first)
    ∙ ap (prepend l.own) (chain_long n m image i j l.own.parent l.rest l.others (omega arith))

-- ---- how many a chain has, by its first info

pub no_chain : (image : Image) (i room : ℕ) → Ok 0 ≡ counted (parents room image i None)
no_chain image i zero = refl
no_chain image i (suc room) = refl

pub no_room : (image : Image) (i room : ℕ) (r : RuntimeFunction) → room ≡ 0
    → Err (refusals.ChainLong i) ≡ counted (parents room image i (Some r))
no_room image i room r e = sym (ap (λ n. counted (parents n image i (Some r))) e)

pub first_refused : (image : Image) (i room : ℕ) (r : RuntimeFunction) (e : TableErr) → room ≢ 0
    → info image i r.unwind_info ≡ Err e → Err e ≡ counted (parents room image i (Some r))
first_refused image i zero r e some h = absurd (some refl)
first_refused image i (suc room) r e some h = sym (ap (λ (t : Table Info). counted
    (t >>= λ x. prepend x (parents room image i x.parent))) h)

one_chain : (image : Image) (i m : ℕ) (r : RuntimeFunction) (x : Info)
    → info image i r.unwind_info ≡ Ok x
    → parents (suc m) image i (Some r) ≡ prepend x (parents m image i x.parent)
one_chain image i m r x h = ap (λ (t : Table Info). t
    >>= λ y. prepend y (parents m image i y.parent)) h

pub rest_refused : (image : Image) (i room m : ℕ) (r : RuntimeFunction) (x : Info)
    (o : Option RuntimeFunction) (e : TableErr) → room ≡ suc m → info image i r.unwind_info ≡ Ok x
    → o ≡ x.parent → Err e ≡ counted (parents m image i o)
    → Err e ≡ counted (parents room image i (Some r))
rest_refused image i room m r x o e n own p h =
    go (parents m image i x.parent) (h ∙ ap (λ q. counted (parents m image i q)) p)
    ∙ sym (ap counted (one_chain image i m r x own))
    ∙ sym (ap (λ k. counted (parents k image i (Some r))) n)
  where
    go : (t : Table (List Info)) → Err e ≡ counted t → Err e ≡ counted (prepend x t)
    go (Ok is) h = absurd cc
    go (Err d) h = h

pub rest_counted : (image : Image) (i room m n : ℕ) (r : RuntimeFunction) (x : Info)
    (o : Option RuntimeFunction) → room ≡ suc m → info image i r.unwind_info ≡ Ok x
    → o ≡ x.parent → Ok n ≡ counted (parents m image i o)
    → Ok (1 + n) ≡ counted (parents room image i (Some r))
rest_counted image i room m n r x o k own p h =
    go (parents m image i x.parent) (h ∙ ap (λ q. counted (parents m image i q)) p)
    ∙ sym (ap counted (one_chain image i m r x own))
    ∙ sym (ap (λ k. counted (parents k image i (Some r))) k)
  where
    go : (t : Table (List Info)) → Ok n ≡ counted t → Ok (1 + n) ≡ counted (prepend x t)
    go (Ok is) h =
        let same : n ≡ length is = cc in
        let more : 1 + n ≡ suc (length is) = omega arith in
        ap (λ k. Ok k) more
    go (Err d) h = absurd cc

pub counted_fits : (image : Image) (i room n : ℕ) (o : Option RuntimeFunction)
    → Ok n ≡ counted (parents room image i o) → n ≤ room
counted_fits image i room n o h = go (parents room image i o) refl h
  where
    go : (t : Table (List Info)) → parents room image i o ≡ t → Ok n ≡ counted t → n ≤ room
    go (Ok is) e h =
        let same : n ≡ length is = cc in
        let fits = chain_fits room image i o is e in
        omega arith
    go (Err d) e h = absurd cc

-- ---- what is kept of them

info_alone : (n : ℕ) (image : Image) (i : ℕ) (r : RuntimeFunction)
    → parents n image i (Some (with_info r.unwind_info)) ≡ parents n image i (Some r)
info_alone zero image i r = refl
info_alone (suc n) image i r = refl

pub none_known : (image : Image) (known : BTreeMap ℕ ℕ) → known.entries ≡ []
    → AreKnown image known
none_known image known e rva n found = absurd (never (sym (ap (lookup (is_at (nat_cmp rva))) e)
    ∙ found))
  where
    never : (let o : Option ℕ = None in o) ≡ Some n → ⊥
    never h = absurd cc

-- a chain that is known
pub known_chain : (image : Image) (known : BTreeMap ℕ ℕ) (i room n : ℕ) (r : RuntimeFunction)
    → AreKnown image known → get nat_cmp known r.unwind_info ≡ Some n
    → within i n room ≡ counted (parents room image i (Some r))
known_chain image known i room n r are found = go (leb n room) refl
  where
    this : IsChain image r.unwind_info n
    this = are r.unwind_info n found

    go : (b : Bool) → leb n room ≡ b → if_within i n b ≡ counted (parents room image i (Some r))
    go true e =
        sym (ap counted (sym (info_alone room image i r)
        ∙ chain_carried 32 room image 0 i (Some (with_info r.unwind_info)) this.infos this.read
        (rw this.len (leb-true n room e)))
        ∙ ap (λ k. Ok k) this.len)
    go false e =
        sym (ap counted (sym (info_alone room image i r)
        ∙ chain_long 32 room image 0 i (Some (with_info r.unwind_info)) this.infos this.read
        (rw this.len (leb-false n room e))))

-- one more
pub chain_kept : (image : Image) (old new : BTreeMap ℕ ℕ) (i room n : ℕ) (r : RuntimeFunction)
    → ((q : ℕ) → get nat_cmp new q
    ≡ cond (is_at (nat_cmp r.unwind_info) q) (Some n) (get nat_cmp old q))
    → AreKnown image old → room ≤ 32 → Ok n ≡ counted (parents room image i (Some r))
    → AreKnown image new
chain_kept image old new i room n r has before few is rva m found =
    elim (cases_eq rva r.unwind_info) [
      | inl same ↦
          let there : Some n ≡ Some m = sym (at_key old new r.unwind_info n has rva same) ∙ found in
          let len : n ≡ m = cc in
          subst (λ (k : ℕ). IsChain image k m) (sym same)
          (subst (λ (k : ℕ). IsChain image r.unwind_info k) len
          (go (parents room image i (Some r)) refl is))
      | inr other ↦ before rva m (sym (off_key old new r.unwind_info n has rva other) ∙ found)
    ]
  where
    one : {x y : ℕ} → (let t : Table ℕ = Ok x in t) ≡ Ok y → x ≡ y
    one e = cc

    go : (t : Table (List Info)) → parents room image i (Some r) ≡ t → Ok n ≡ counted t
        → IsChain image r.unwind_info n
    go (Err e) p h = absurd cc
    go (Ok is) p h =
        let fits = chain_fits room image i (Some r) is p in
        record {
          infos = is;
          read = info_alone 32 image 0 r
              ∙ chain_carried room 32 image i 0 (Some r) is p (omega arith);
          len = sym (one h);
        }

pub ruleset chain_steps = (
  no_chain,
  no_room,
  first_refused,
  rest_refused,
  rest_counted,
  counted_fits,
  known_chain,
)
