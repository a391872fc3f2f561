-- The filters and `__finally` blocks of a sound program are numbered, so that each is named once.
use Rattle.std.proofs.Common.{◌≡◌, ℕ, ◌≢◌, ◌+◌, ◌-◌, ◌<◌, ◌≤◌, ◌==◌, Bool, true, false, cond, ltb, List, [], ◌∷◌, ◌++◌, length, refl, sym, ap, ◌∙◌, arith, inl, inr, append_assoc}
use Rattle.std.specs.Prelude.{◌&&◌, nat_le, slice_get}
use Rattle.std.specs.List.{AllByRecursion}
use Rattle.std.proofs.lemmas.Bool.{and_parts, ne_eqb, eq-eqb, eqb-true, ltb-true, lt-ltb, cases_eq}
use Rattle.image_tables.specs.Words.{Filter, Always, Funclet, Statement, Declare, Block, Evaluate, If, IfElse, For, DoWhile, Return, Break, Continue, Leave, TryExcept, TryFinally, Statements, Empty, Then, Function, Program, Region, RegionKind, lowered, AreDifferent, funclet_in, named, regions, Try, Accepts, Asks, Finishes, with_filter, tries_in, tries, tries_of, all_tries, LoweredNamesFunclets}
use Rattle.seh_num.specs.declared.limit.TheConstants.{MOST_FUNCTIONS, MOST_FUNCLETS, MOST_GLOBALS}
use Rattle.c_checked.specs.Sound.{count_up, filter_funclet, funclets_in, funclets, IsSound}
use Rattle.c_checked.specs.Sound as sound
use Rattle.linear_code.specs.declared.program.RegionKind.TheVariants as kinds
use Rattle.seh_ir.proofs.FuncletCounts.{functions_count}
use Rattle.image_tables.proofs.RegionSums.{weight, total, try_total, program_total}

-- ---- the numbers of `__try` statements

abbrev number_in : Try → List ℕ
number_in Accepts = []
number_in (Asks k) = k ∷ []
number_in (Finishes k) = k ∷ []

abbrev numbers : List Try → List ℕ
numbers [] = []
numbers (t ∷ ts) = number_in t ++ numbers ts

numbers_both : (a b : List Try) → numbers (a ++ b) ≡ numbers a ++ numbers b
numbers_both [] b = refl
numbers_both (t ∷ a) b = ap (λ xs. number_in t ++ xs) (numbers_both a b)
    ∙ sym (append_assoc (number_in t) (numbers a) (numbers b))

filter_number : (f : Filter) → number_in (with_filter f) ≡ filter_funclet f
filter_number Always = refl
filter_number (Funclet k e) = refl

mutual
  statement_numbers : (s : Statement) → numbers (tries_in s) ≡ funclets_in s
  statement_numbers (Declare d) = refl
  statement_numbers (Block ss) = statements_numbers ss
  statement_numbers (Evaluate e) = refl
  statement_numbers (If c s) = statement_numbers s
  statement_numbers (IfElse c s t) = numbers_both (tries_in s) (tries_in t)
      ∙ (λ i. statement_numbers s i ++ statement_numbers t i)
  statement_numbers (For ds first c next s) = statement_numbers s
  statement_numbers (DoWhile s c) = statement_numbers s
  statement_numbers (Return e) = refl
  statement_numbers Break = refl
  statement_numbers Continue = refl
  statement_numbers Leave = refl
  statement_numbers (TryExcept body filter block) =
      numbers_both (tries body) (with_filter filter ∷ tries block)
      ∙ (λ i. statements_numbers body i ++ (filter_number filter i ++ statements_numbers block i))
      ∙ sym (append_assoc (funclets body) (filter_funclet filter) (funclets block))
  statement_numbers (TryFinally body k last) =
      numbers_both (tries body) (Finishes k ∷ tries last)
      ∙ (λ i. statements_numbers body i ++ (k ∷ statements_numbers last i))

  statements_numbers : (ss : Statements) → numbers (tries ss) ≡ funclets ss
  statements_numbers Empty = refl
  statements_numbers (Then s ss) = numbers_both (tries_in s) (tries ss)
      ∙ (λ i. statement_numbers s i ++ statements_numbers ss i)

functions_numbers : (fs : List Function) → numbers (tries_of fs) ≡ sound.all_funclets fs
functions_numbers [] = refl
functions_numbers (f ∷ fs) = numbers_both (tries f.body) (tries_of fs)
    ∙ (λ i. statements_numbers f.body i ++ functions_numbers fs i)

-- ---- sums over numbers

module _ (w : ℕ → ℕ) where
  abbrev pub sum_of : List ℕ → ℕ
  sum_of [] = 0
  sum_of (k ∷ ks) = w k + sum_of ks

  -- of numbers from 1 on
  abbrev pub sum_from_one : List ℕ → ℕ
  sum_from_one [] = 0
  sum_from_one (k ∷ ks) = w (k - 1) + sum_from_one ks

  sums_both : (a b : List ℕ) → sum_of (a ++ b) ≡ sum_of a + sum_of b
  sums_both [] b = omega arith
  sums_both (k ∷ a) b = let e = sums_both a b in omega arith

  kind_sum : (k : RegionKind) → weight w w 0 k ≡ sum_of (funclet_in k)
  kind_sum (kinds.Finally funclet) = omega arith
  kind_sum (kinds.Filter funclet target) = omega arith
  kind_sum (kinds.Always target) = refl

  named_sum : (rs : List Region) → total w w 0 rs ≡ sum_of (named rs)
  named_sum [] = refl
  named_sum (r ∷ rs) = let e = named_sum rs in let k = kind_sum r.kind in
      omega (arith, sums_both (funclet_in r.kind) (named rs))

  tries_sum : (ts : List Try) → try_total w w 0 ts ≡ sum_from_one (numbers ts)
  tries_sum [] = refl
  tries_sum (Accepts ∷ ts) = let e = tries_sum ts in omega arith
  tries_sum (Asks k ∷ ts) = let e = tries_sum ts in omega arith
  tries_sum (Finishes k ∷ ts) = let e = tries_sum ts in omega arith

  pub sums_agree : (p : Program) → sum_of (named (regions (lowered p)))
      ≡ sum_from_one (sound.all_funclets p.functions)
  sums_agree p = sym (named_sum (regions (lowered p))) ∙ program_total w w 0 p
      ∙ tries_sum (all_tries p) ∙ ap sum_from_one (functions_numbers p.functions)

-- ---- numbers that count up

abbrev is : ℕ → ℕ → ℕ
is j k = cond (j == k) 1 0

abbrev beyond : ℕ → ℕ → ℕ
beyond m k = cond (ltb k m) 0 1

is_not : (j k : ℕ) → j ≢ k → is j k ≡ 0
is_not j k ne = ap (λ (b : Bool). cond b 1 0) (ne_eqb j k ne)

none_below : (j n : ℕ) (ks : List ℕ) → count_up n ks ≡ true → j + 1 < n → sum_from_one (is j) ks ≡ 0
none_below j n [] up lt = refl
none_below j n (k ∷ ks) up lt =
    let h = and_parts (k == n) (count_up (n + 1) ks) up in
    let e = eqb-true k n h.0 in
    let here = is_not j (k - 1) (λ z. (let q : j ≡ k - 1 = z in omega arith)) in
    let rest = none_below j (n + 1) ks h.1 (omega arith) in
    omega arith

at_most_one : (j k : ℕ) → is j k ≤ 1
at_most_one j k = go (j == k)
  where
    go : (b : Bool) → cond b 1 0 ≤ 1
    go true = omega arith
    go false = omega arith

once : (j n : ℕ) (ks : List ℕ) → count_up n ks ≡ true → 1 ≤ n → sum_from_one (is j) ks ≤ 1
once j n [] up some = omega arith
once j n (k ∷ ks) up some =
    let h = and_parts (k == n) (count_up (n + 1) ks) up in
    let e = eqb-true k n h.0 in
    elim (cases_eq j (k - 1)) [
      | inl same ↦
          let q : j ≡ k - 1 = same in
          let rest = none_below j (n + 1) ks h.1 (omega arith) in
          let most = at_most_one j (k - 1) in
          omega arith
      | inr ne ↦
          let here = is_not j (k - 1) ne in
          let rest = once j (n + 1) ks h.1 (omega arith) in
          omega arith
    ]

none_beyond : (m n : ℕ) (ks : List ℕ) → count_up n ks ≡ true → 1 ≤ n → n + length ks ≤ m + 1
    → sum_from_one (beyond m) ks ≡ 0
none_beyond m n [] up some le = refl
none_beyond m n (k ∷ ks) up some le =
    let h = and_parts (k == n) (count_up (n + 1) ks) up in
    let e = eqb-true k n h.0 in
    let here : beyond m (k - 1) ≡ 0 = ap (λ (b : Bool). cond b 0 1)
    (lt-ltb (k - 1) m (omega arith)) in
    let rest = none_beyond m (n + 1) ks h.1 (omega arith) (omega arith) in
    omega arith

-- ---- what sums say of elements

all_differ : (j : ℕ) (xs : List ℕ) → sum_of (is j) xs ≡ 0
    → AllByRecursion (λ x. (j == x) ≡ false) xs
all_differ j [] e = tt
all_differ j (x ∷ xs) e = (go (j == x) refl, all_differ j xs (omega arith))
  where
    go : (b : Bool) → (j == x) ≡ b → b ≡ false
    go false q = refl
    go true q = let one : is j x ≡ 1 = ap (λ (c : Bool). cond c 1 0) q in absurd (omega arith)

all_distinct : (xs : List ℕ) → ((j : ℕ) → sum_of (is j) xs ≤ 1) → AreDifferent xs
all_distinct [] h = tt
all_distinct (x ∷ xs) h =
    let one : is x x ≡ 1 = ap (λ (c : Bool). cond c 1 0) (eq-eqb x x refl) in
    let here = h x in
    (all_differ x xs (omega arith), all_distinct xs (λ j. (let l = h j in omega arith)))

all_small : (m : ℕ) (xs : List ℕ) → sum_of (beyond m) xs ≡ 0 → AllByRecursion (λ x. x < m) xs
all_small m [] e = tt
all_small m (x ∷ xs) e = (go (ltb x m) refl, all_small m xs (omega arith))
  where
    go : (b : Bool) → ltb x m ≡ b → x < m
    go true q = ltb-true x m q
    go false q = let one : beyond m x ≡ 1 = ap (λ (c : Bool). cond c 0 1) q in absurd (omega arith)

-- ---- programs

pub counts : (p : Program) → IsSound p → count_up 1 (sound.all_funclets p.functions) ≡ true
counts p ok =
    let functions = sound.functions_sound p.functions p.functions in
    let main = sound.main_sound (slice_get p.functions p.main) in
    let up = count_up 1 (sound.all_funclets p.functions) in
    let a = nat_le (length p.functions) MOST_FUNCTIONS in
    let b = nat_le (length (sound.all_funclets p.functions)) MOST_FUNCLETS in
    let c = nat_le (length p.globals) MOST_GLOBALS in
    let all = (and_parts (functions && main && up && a && b) c ok).0 in
    let most = (and_parts (functions && main && up && a) b all).0 in
    (and_parts (functions && main) up (and_parts (functions && main && up) a most).0).1

pub lowered_names_funclets : LoweredNamesFunclets
lowered_names_funclets p ok =
    let up = counts p ok in
    let n = functions_count 0 p.functions in
    record {
      there = all_small (length (lowered p).funclets) (named (regions (lowered p)))
          (sums_agree (beyond (length (lowered p).funclets)) p
          ∙ none_beyond (length (lowered p).funclets) 1 (sound.all_funclets p.functions) up
          (omega arith) (omega arith));
      once = all_distinct (named (regions (lowered p)))
          (λ j. (let s = sums_agree (is j) p in
          let o = once j 1 (sound.all_funclets p.functions) up (omega arith) in omega arith));
    }
