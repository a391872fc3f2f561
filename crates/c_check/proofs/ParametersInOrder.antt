-- Parameters, one after another.
use Rattle.std.proofs.Common.{◌≡◌, ℕ, ◌+◌, ◌<◌, ◌≤◌, Bool, true, false, cond, List, [], ◌∷◌, ◌++◌, map, length, drop, get_or, add-one, Option, Some, refl, sym, ap, ◌∙◌}
use Rattle.std.specs.Prelude.{not}
use Rattle.std.proofs.Math.Seq.{drop-cons}
use Rattle.std.proofs.lemmas.List.{drop_all}
use Rattle.c_check.specs.Words.{SymbolTable, with_block, faults_of_parameter, kept, Duplicate, TypeClash, Entity, LocalVariable, FaultAt, with_parameters, parameter_faults, Scope, spelled, same_bytes, meaning_in, built_ins, is_some, is_taken, with_name, unless_holds, Parameter}
use Rattle.c_check.proofs.Lemmas.{kept_append}
use Rattle.c_resolved.specs.Types.{is_scalar}

-- ---- whether a name is taken says its scope's names alone

abbrev pub names_in : Scope → List (List ℕ)
names_in s = map (λ x. x.0) s

abbrev has : List (List ℕ) → List ℕ → Bool
has [] n = false
has (k ∷ ks) n = cond (same_bytes k n) true (has ks n)

has_is : (s : Scope) (n : List ℕ) → is_some (meaning_in s n) ≡ has (names_in s) n
has_is [] n = refl
has_is (x ∷ rest) n = by (same_bytes x.0 n) (has_is rest n)
  where
    by : (b : Bool) → is_some (meaning_in rest n) ≡ has (names_in rest) n
        → is_some (cond b (Some x.1) (meaning_in rest n)) ≡ cond b true (has (names_in rest) n)
    by true h = refl
    by false h = h

taken_same : (s t : Scope) (n : List ℕ) → names_in s ≡ names_in t → is_taken s n ≡ is_taken t n
taken_same s t n e = has_is (built_ins ++ s) n ∙ ap (λ ks. has (names_in built_ins ++ ks) n) e
    ∙ sym (has_is (built_ins ++ t) n)

with_same : (s t : Scope) (n : List ℕ) (d e : Entity) → names_in s ≡ names_in t
    → names_in (with_name s n d) ≡ names_in (with_name t n e)
with_same s t n d e p = by (is_taken s n) (is_taken t n) (taken_same s t n p)
  where
    by : (a b : Bool) → a ≡ b → names_in (cond a s ((n, d) ∷ s)) ≡ names_in (cond b t ((n, e) ∷ t))
    by true true h = p
    by true false h = absurd (cc)
    by false true h = absurd (cc)
    by false false h = ap (λ ks. n ∷ ks) p

faults_same : (text : List ℕ) (ps : List Parameter) (s t : Scope) → names_in s ≡ names_in t
    → parameter_faults text ps s ≡ parameter_faults text ps t
faults_same text [] s t e = refl
faults_same text (p ∷ ps) s t e =
    let n = spelled text p.name in
    let scalar = unless_holds (is_scalar p.of) p.name.start TypeClash in
    ap (λ b. unless_holds (not b) p.name.start Duplicate ++ scalar
    ++ parameter_faults text ps (with_name s n (LocalVariable 0 p.of))) (taken_same s t n e)
    ∙ ap (λ fs. faults_of_parameter text p t ++ fs)
    (faults_same text ps (with_name s n (LocalVariable 0 p.of))
    (with_name t n (LocalVariable 0 p.of)) (with_same s t n (LocalVariable 0 p.of)
    (LocalVariable 0 p.of) e))

-- the faults of parameters where the block has the first one under another number
faults_numbered : (text : List ℕ) (p : Parameter) (ps : List Parameter) (block : Scope) (k : ℕ)
    → parameter_faults text (p ∷ ps) block ≡ faults_of_parameter text p block
    ++ parameter_faults text ps (with_name block (spelled text p.name) (LocalVariable k p.of))
faults_numbered text p ps block k =
    let n = spelled text p.name in
    ap (λ fs. faults_of_parameter text p block ++ fs)
    (faults_same text ps (with_name block n (LocalVariable 0 p.of))
    (with_name block n (LocalVariable k p.of))
    (with_same block block n (LocalVariable 0 p.of) (LocalVariable k p.of) refl))

-- ---- the loop over parameters

pub next_at : {A : Type 0} (xs : List A) (i : ℕ) (d : A) → i < length xs
    → drop i xs ≡ get_or xs i d ∷ drop (i + 1) xs
next_at xs i d lt = drop-cons xs i d lt ∙ ap (λ k. get_or xs i d ∷ drop k xs) (sym (add-one i))

pub record StillParameters (text : List ℕ) (list : List Parameter) (i : ℕ) (block : Scope)
    (first w : Option FaultAt) : Type 0 where
  pub names : with_parameters text (drop i list) block i ≡ with_parameters text list [] 0
  pub faults : kept w (parameter_faults text (drop i list) block)
      ≡ kept first (parameter_faults text list [])

pub parameters_on : (text : List ℕ) (list : List Parameter) (i : ℕ) (p : Parameter)
    (block block' : Scope) (first w w' : Option FaultAt) → drop i list ≡ p ∷ drop (i + 1) list
    → block' ≡ with_name block (spelled text p.name) (LocalVariable i p.of)
    → w' ≡ kept w (faults_of_parameter text p block)
    → StillParameters text list i block first w → StillParameters text list (i + 1) block' first w'
parameters_on text list i p block block' first w w' next e q h =
    let rest = drop (i + 1) list in
    let made = with_name block (spelled text p.name) (LocalVariable i p.of) in
    record {
      names = ap (λ b. with_parameters text rest b (i + 1)) e
          ∙ ap (λ l. with_parameters text l block i) (sym next) ∙ h.names;
      faults =
          ap (λ b. kept w' (parameter_faults text rest b)) e
          ∙ ap (λ k. kept k (parameter_faults text rest made)) q
          ∙ sym (kept_append w (faults_of_parameter text p block) (parameter_faults text rest made))
          ∙ ap (kept w) (sym (faults_numbered text p rest block i))
          ∙ ap (λ l. kept w (parameter_faults text l block)) (sym next) ∙ h.faults;
    }

-- the innermost block alone is another one
pub still_around : (start t t' : SymbolTable) (b : Scope) → t' ≡ with_block t b
    → t ≡ with_block start t.block → t' ≡ with_block start t'.block
still_around start t t' b e same = e ∙ ap (λ (k : SymbolTable). with_block k b) same
    ∙ ap (with_block start) (sym (ap (λ (k : SymbolTable). k.block) e))

pub parameters_end : (text : List ℕ) (list : List Parameter) (i : ℕ) (start t : SymbolTable)
    (first w : Option FaultAt)
    → length list ≤ i → t ≡ with_block start t.block
    → StillParameters text list i t.block first w
    → (t ≡ with_block start (with_parameters text list [] 0))
    × (w ≡ kept first (parameter_faults text list []))
parameters_end text list i start t first w past same h =
    let none = drop_all i list past in (
      same ∙ ap (with_block start) (ap (λ l. with_parameters text l t.block i) (sym none)
          ∙ h.names),
      ap (λ l. kept w (parameter_faults text l t.block)) (sym none) ∙ h.faults,
    )

-- ---- sizes
