-- What entries of a function table say that were read.
use Rattle.std.proofs.Common.{◌≡◌, ℕ, ◌+◌, ◌<◌, ◌≤◌, Bool, true, false, Ok, Err, List, ◌∷◌, refl, subst}
use Rattle.std.specs.Prelude.{nat_le, nat_lt}
use Rattle.std.proofs.lemmas.Bool.{ltb-true, leb-true}
use Rattle.eh_tables.specs.Words.{Image}
use Rattle.eh_tables.specs.declared.range.RuntimeFunction.{RuntimeFunction}
use Rattle.eh_tables.specs.Infos.{info}
use Rattle.eh_tables.specs.declared.layout.TheConstants.{MOST_PARENTS}
use Rattle.eh_tables.specs.declared.refusal.TableErr.TheVariants as refusals
use Rattle.eh_tables.specs.declared.refusal.TableErr.{TableErr}
use Rattle.seh_num.specs.Answers.{◌>>=◌, unless, prepend}
use Rattle.eh_tables.specs.Answer.{Table}
use Rattle.eh_tables.specs.Tables.{Entry, entry, parents, entries}

-- ---- the first of some entries

pub record Split (image : Image) (index last : ℕ) (r : RuntimeFunction) (rs : List RuntimeFunction)
    (es : List Entry) : Type 0 where
  pub head : Entry
  pub rest : List Entry
  pub is : entry image index last r ≡ Ok head
  pub others : entries image (index + 1) r.end rs ≡ Ok rest
  pub all : es ≡ head ∷ rest

pub split : (image : Image) (index last : ℕ) (r : RuntimeFunction) (rs : List RuntimeFunction)
    (es : List Entry) → entries image index last (r ∷ rs) ≡ Ok es → Split image index last r rs es
split image index last r rs es h = first (entry image index last r) refl h
  where
    second : (e : Entry) (t : Table (List Entry)) → entry image index last r ≡ Ok e
        → entries image (index + 1) r.end rs ≡ t → prepend e t ≡ Ok es
        → Split image index last r rs es
    second e (Ok rest) is others h = record {
      head = e;
      rest = rest;
      is = is;
      others = others;
      all = cc;
    }
    second e (Err x) is others h = cc

    first : (t : Table Entry) → entry image index last r ≡ t
        → (t >>= λ e. prepend e (entries image (index + 1) r.end rs)) ≡ Ok es
        → Split image index last r rs es
    first (Ok e) is h = second e (entries image (index + 1) r.end rs) is refl h
    first (Err x) is h = cc

-- ---- what an entry that is read says

pub record Given {A B : Type 0} (t : Table A) (f : A → Table B) (y : B) : Type 0 where
  pub value : A
  pub first : t ≡ Ok value
  pub then : f value ≡ Ok y

pub given : {A B : Type 0} (t : Table A) (f : A → Table B) (y : B) → t >>= f ≡ Ok y → Given t f y
given (Ok x) f y h = record { value = x; first = refl; then = h }
given (Err e) f y h = cc

holds_then : (b : Bool) (e : TableErr) (u : Unit {0}) → unless b e ≡ Ok u → b ≡ true
holds_then true e u h = refl
holds_then false e u h = cc

-- its range isn't empty, and not below the end of the entry before; its own info, and those that
-- this is chained to
pub record IsRead (image : Image) (index last : ℕ) (r : RuntimeFunction) (e : Entry) : Type 0 where
  pub range : e.range ≡ r
  pub some : r.begin < r.end
  pub after : last ≤ r.begin
  pub own : info image index r.unwind_info ≡ Ok e.info
  pub chain : parents MOST_PARENTS image index e.info.parent ≡ Ok e.parents

pub is_read : (image : Image) (index last : ℕ) (r : RuntimeFunction) (e : Entry)
    → entry image index last r ≡ Ok e → IsRead image index last r e
unfolding entry
is_read image index last r e h =
    let one = given (unless (nat_lt r.begin r.end) (refusals.EmptyRange index)) _ e h in
    let two = given (unless (nat_le last r.begin) (refusals.Unsorted index)) _ e one.then in
    let three = given (info image index r.unwind_info) _ e two.then in
    let four = given (parents MOST_PARENTS image index three.value.parent) _ e three.then in
    go (record { range = r; info = three.value; parents = four.value }) e four.then (record {
      range = refl;
      some = ltb-true r.begin r.end
          (holds_then (nat_lt r.begin r.end) (refusals.EmptyRange index) one.value one.first);
      after = leb-true last r.begin
          (holds_then (nat_le last r.begin) (refusals.Unsorted index) two.value two.first);
      own = three.first;
      chain = four.first;
    })
  where
    go : (d e : Entry) → (let t : Table Entry = Ok d in t) ≡ Ok e → IsRead image index last r d
        → IsRead image index last r e
    go d e h is = let same : d ≡ e = cc in subst (IsRead image index last r) same is
