-- The states of a body, over all parts of a function.
use Rattle.std.proofs.Common.{◌≡◌, ℕ, zero, suc, List, [], ◌∷◌, ◌++◌, Option, Some, None, refl, sym, ap, subst, ◌∙◌, append_assoc}
use Rattle.std.specs.Prelude.{slice_get}
use Rattle.std.proofs.lemmas.Bool.{false≢true}
use Rattle.virtual_unwind.specs.Tail.{FetchedInstr}
use Rattle.frame_rules.specs.Rules.{FramedFunction, IsRight}
use Rattle.frame_rules.proofs.Inhabited.{body_begins, body_continues}
use Rattle.unwind_check.specs.Fragments.{joined}
use Rattle.entry_states.specs.Laws.{PartsBegin, PartsContinue}

-- the function as far as its prologue
abbrev bare : FramedFunction → FramedFunction
bare f = record f { rest = [] }

bare_right : (f : FramedFunction) → IsRight f → IsRight (bare f)
bare_right f r =
    record {
      offset = r.offset;
      codes = r.codes;
      prologue_size = r.prologue_size;
      steps = r.steps;
      ordered = r.ordered;
      allowed = r.allowed;
      frame = r.frame;
      body = refl;
    }

pub parts_begin : PartsBegin
parts_begin f parts e p right entry runs =
    let b = body_begins (bare f) e p (bare_right f right) entry runs in
    record {
      length = b.length;
      stack = b.stack;
      frame = b.frame;
      words = b.words;
      others = λ r nv four fr un. b.others r nv four fr refl;
    }

-- ---- a part among others

record IsSplit (parts : List (List FetchedInstr)) (xs : List FetchedInstr) : Type 0 where
  before : List FetchedInstr
  behind : List FetchedInstr
  is : joined parts ≡ before ++ (xs ++ behind)

abbrev value : List FetchedInstr → Option (List FetchedInstr) → List FetchedInstr
value d (Some x) = x
value d None = d

split_at : (parts : List (List FetchedInstr)) (n : ℕ) (xs : List FetchedInstr)
    → slice_get parts n ≡ Some xs → IsSplit parts xs
split_at [] n xs e = absurd cc
split_at (ys ∷ parts) zero xs e =
    let same : ys ≡ xs = ap (value ys) e in
    record {
      before = [];
      behind = joined parts;
      is = ap (λ (zs : List FetchedInstr). zs ++ joined parts) same;
    }
split_at (ys ∷ parts) (suc n) xs e =
    let s = split_at parts n xs e in
    record {
      before = ys ++ s.before;
      behind = s.behind;
      is = ap (λ (zs : List FetchedInstr). ys ++ zs) s.is
          ∙ sym (append_assoc ys s.before (xs ++ s.behind));
    }

pub parts_continue : PartsContinue
parts_continue f parts n e p s t a x done left is role may call ef long words b =
    let own = split_at parts n (done ++ (x ∷ left)) is in
    let split : joined parts ≡ (own.before ++ done) ++ (x ∷ (left ++ own.behind)) =
    own.is
    ∙ ap (λ (zs : List FetchedInstr). own.before ++ zs)
    (append_assoc done (x ∷ left) own.behind)
    ∙ sym (append_assoc own.before done (x ∷ (left ++ own.behind))) in
    body_continues (record f { rest = joined parts }) e p s t a x (own.before ++ done)
    (left ++ own.behind) split role may call ef long words b
