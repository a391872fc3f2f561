-- What follows of rows that are regions one by one.
use Rattle.std.proofs.Common.{◌≡◌, ℕ, ◌+◌, ◌%◌, ◌==◌, Bool, true, false, cond, List, [], ◌∷◌, ◌++◌, length, map, refl, sym, ap, ◌∙◌, arith}
use Rattle.std.specs.Prelude.{◌&&◌, nat_lt}
use Rattle.std.specs.List.{count_by}
use Rattle.std.proofs.lemmas.List.Sums.{sum_by-cons}
use Rattle.image_tables.specs.Words.{ScopeRecord, if_set, Region, RegionKind, LinearProgram, is_finally, handler_address, site_of, handlers, is_always, funclet_in, named, funclet_begin, AreRows, is_finally_row, is_always_row}
use Rattle.linear_code.specs.declared.program.RegionKind.TheVariants as kinds

pub rows_both : (p : LinearProgram) (a b : List ScopeRecord) (rs qs : List Region) → AreRows p a rs
    → AreRows p b qs → AreRows p (a ++ b) (rs ++ qs)
rows_both p [] b [] qs h k = k
rows_both p (x ∷ a) b (r ∷ rs) qs h k = (h.0, rows_both p a b rs qs h.1 k)
rows_both p [] b (r ∷ rs) qs h k = absurd h
rows_both p (x ∷ a) b [] qs h k = absurd h

pub as_many : (p : LinearProgram) (rows : List ScopeRecord) (rs : List Region) → AreRows p rows rs
    → length rows ≡ length rs
as_many p [] [] h = refl
as_many p (x ∷ rows) (r ∷ rs) h = let m = as_many p rows rs h.1 in omega arith
as_many p [] (r ∷ rs) h = absurd h
as_many p (x ∷ rows) [] h = absurd h

pub finally_count : (p : LinearProgram) (rows : List ScopeRecord) (rs : List Region)
    → AreRows p rows rs → count_by is_finally_row rows
    ≡ count_by (λ (r : Region). is_finally r.kind) rs
finally_count p [] [] h = refl
finally_count p (x ∷ rows) (r ∷ rs) h =
    sum_by-cons (λ (y : ScopeRecord). cond (is_finally_row y) 1 0) x rows
    ∙ (λ i. cond (h.0.finally i) 1 0 + finally_count p rows rs h.1 i)
    ∙ sym (sum_by-cons (λ (q : Region). cond (is_finally q.kind) 1 0) r rs)
finally_count p [] (r ∷ rs) h = absurd h
finally_count p (x ∷ rows) [] h = absurd h

pub always_count : (p : LinearProgram) (rows : List ScopeRecord) (rs : List Region)
    → AreRows p rows rs → count_by is_always_row rows
    ≡ count_by (λ (r : Region). is_always r.kind) rs
always_count p [] [] h = refl
always_count p (x ∷ rows) (r ∷ rs) h =
    sum_by-cons (λ (y : ScopeRecord). cond (is_always_row y) 1 0) x rows
    ∙ (λ i. cond (h.0.always i) 1 0 + always_count p rows rs h.1 i)
    ∙ sym (sum_by-cons (λ (q : Region). cond (is_always q.kind) 1 0) r rs)
always_count p [] (r ∷ rs) h = absurd h
always_count p (x ∷ rows) [] h = absurd h

-- ---- handlers

handler_by : (p : LinearProgram) (k : RegionKind) (address : ℕ) (others : List ℕ) (rs : List Region)
    → address ≡ handler_address (site_of p).funclets k → others ≡ map (funclet_begin p) (named rs)
    → cond (is_always k) others (address ∷ others)
    ≡ map (funclet_begin p) (funclet_in k ++ named rs)
handler_by p (kinds.Finally funclet) address others rs a o = λ i. a i ∷ o i
handler_by p (kinds.Filter funclet target) address others rs a o = λ i. a i ∷ o i
handler_by p (kinds.Always target) address others rs a o = o

pub handlers_are : (p : LinearProgram) (rows : List ScopeRecord) (rs : List Region)
    → AreRows p rows rs → handlers rows ≡ map (funclet_begin p) (named rs)
handlers_are p [] [] h = refl
handlers_are p (x ∷ rows) (r ∷ rs) h =
    ap (λ (b : Bool). cond b (handlers rows) (x.handler_address ∷ handlers rows)) h.0.always
    ∙ handler_by p r.kind x.handler_address (handlers rows) rs h.0.handler
    (handlers_are p rows rs h.1)
handlers_are p [] (r ∷ rs) h = absurd h
handlers_are p (x ∷ rows) [] h = absurd h

-- ---- flags

pub searched_by : (a b : Bool) → ((if_set a 1 + if_set b 2) % 2 == 1) ≡ a
searched_by true true = refl
searched_by true false = refl
searched_by false true = refl
searched_by false false = refl

pub unwound_by : (a b : Bool) → (nat_lt 1 (if_set a 1 + if_set b 2)
    && nat_lt (if_set a 1 + if_set b 2) 4) ≡ b
unwound_by true true = refl
unwound_by true false = refl
unwound_by false true = refl
unwound_by false false = refl
