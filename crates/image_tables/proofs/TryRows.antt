-- The scope tables have one row for each `__try`.
use Rattle.std.proofs.Common.{◌≡◌, ℕ, ◌+◌, cond, List, [], ◌∷◌, length, refl, sym, ◌∙◌, arith}
use Rattle.std.specs.List.{count_by}
use Rattle.std.proofs.lemmas.List.Sums.{sum_by-cons}
use Rattle.image_tables.specs.Words.{Region, RegionKind, lowered, is_finally, regions, is_always, Try, Accepts, Asks, Finishes, all_tries, finishes, accepts, LoweredIsShaped}
use Rattle.linear_code.specs.declared.program.RegionKind.TheVariants as kinds
use Rattle.image_tables.proofs.Shape.{tables_have_shape, handlers_differ}
use Rattle.image_tables.proofs.RegionSums.{weight, total, try_weight, try_total, program_total}
use Rattle.image_tables.proofs.FuncletNumbers.{lowered_names_funclets}

abbrev one : ℕ → ℕ
one k = 1

abbrev none : ℕ → ℕ
none k = 0

-- ---- lengths

region_length : (k : RegionKind) → weight one one 1 k ≡ 1
region_length (kinds.Finally f) = refl
region_length (kinds.Filter f t) = refl
region_length (kinds.Always t) = refl

regions_length : (rs : List Region) → total one one 1 rs ≡ length rs
regions_length [] = refl
regions_length (r ∷ rs) = let e = regions_length rs in let k = region_length r.kind in omega arith

tries_length : (ts : List Try) → try_total one one 1 ts ≡ length ts
tries_length [] = refl
tries_length (Accepts ∷ ts) = let e = tries_length ts in omega arith
tries_length (Asks k ∷ ts) = let e = tries_length ts in omega arith
tries_length (Finishes k ∷ ts) = let e = tries_length ts in omega arith

-- ---- counts

finally_weight : (k : RegionKind) → weight one none 0 k ≡ cond (is_finally k) 1 0
finally_weight (kinds.Finally f) = refl
finally_weight (kinds.Filter f t) = refl
finally_weight (kinds.Always t) = refl

regions_finally : (rs : List Region) → total one none 0 rs
    ≡ count_by (λ (r : Region). is_finally r.kind) rs
regions_finally [] = refl
regions_finally (r ∷ rs) = (λ i. finally_weight r.kind i + regions_finally rs i)
    ∙ sym (sum_by-cons (λ (q : Region). cond (is_finally q.kind) 1 0) r rs)

try_finally : (t : Try) → try_weight one none 0 t ≡ cond (finishes t) 1 0
try_finally Accepts = refl
try_finally (Asks k) = refl
try_finally (Finishes k) = refl

tries_finally : (ts : List Try) → try_total one none 0 ts ≡ count_by finishes ts
tries_finally [] = refl
tries_finally (t ∷ ts) = (λ i. try_finally t i + tries_finally ts i)
    ∙ sym (sum_by-cons (λ (q : Try). cond (finishes q) 1 0) t ts)

always_weight : (k : RegionKind) → weight none none 1 k ≡ cond (is_always k) 1 0
always_weight (kinds.Finally f) = refl
always_weight (kinds.Filter f t) = refl
always_weight (kinds.Always t) = refl

regions_always : (rs : List Region) → total none none 1 rs
    ≡ count_by (λ (r : Region). is_always r.kind) rs
regions_always [] = refl
regions_always (r ∷ rs) = (λ i. always_weight r.kind i + regions_always rs i)
    ∙ sym (sum_by-cons (λ (q : Region). cond (is_always q.kind) 1 0) r rs)

try_always : (t : Try) → try_weight none none 1 t ≡ cond (accepts t) 1 0
try_always Accepts = refl
try_always (Asks k) = refl
try_always (Finishes k) = refl

tries_always : (ts : List Try) → try_total none none 1 ts ≡ count_by accepts ts
tries_always [] = refl
tries_always (t ∷ ts) = (λ i. try_always t i + tries_always ts i)
    ∙ sym (sum_by-cons (λ (q : Try). cond (accepts q) 1 0) t ts)

-- ---- programs

pub lowered_is_shaped : LoweredIsShaped
lowered_is_shaped p ok fits =
    let shape = tables_have_shape (lowered p) fits in
    let rs = regions (lowered p) in
    let ts = all_tries p in
    record {
      shape = shape;
      names = lowered_names_funclets p ok;
      tries = shape.count ∙ sym (regions_length rs) ∙ program_total one one 1 p ∙ tries_length ts;
      finally = shape.finally ∙ sym (regions_finally rs) ∙ program_total one none 0 p
          ∙ tries_finally ts;
      always = shape.always ∙ sym (regions_always rs) ∙ program_total none none 1 p
          ∙ tries_always ts;
      handlers = handlers_differ (lowered p) fits (lowered_names_funclets p ok);
    }
