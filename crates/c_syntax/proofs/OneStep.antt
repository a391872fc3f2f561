-- A step and what follows it are found by where it begins, and so are the steps after an operand.
use Rattle.std.proofs.Common.{◌≡◌, ◌≤◌, ◌<◌, ◌-◌, ℕ, List, [], ◌∷◌, Option, refl, sym, ap, ◌∙◌}
use Rattle.std.proofs.Common.{subst, arith}
use Rattle.c_syntax.specs.Words.{Punctuator, Token, Arithmetic, BinaryOperator, Increment, Expression, Binary, height, rank, TighterThan, SpellsExpression, Derives, punctuator_follows, follows, Stops, conditional, assignment, comma, level, binary_punctuator, increment_punctuator, assignment_punctuator, HasPunctuator, Step, At, After, With, Choose, Set, And, apply, Tail, Run, Closes}
use Rattle.c_lex.specs.declared.punctuator.Punctuator.TheVariants as punctuators
use Rattle.c_syntax.specs.declared.operator.Increment.TheVariants as increments
use Rattle.c_syntax.proofs.Spine.{levels, follows_punctuator, step_follows, closes, run_reach}
use Rattle.c_syntax.proofs.Spine.{run_rank, run_height}
use Rattle.c_syntax.proofs.Fronts.{punctuator_same, has_same, same_binary, same_increment}
use Rattle.c_syntax.proofs.Fronts.{same_assignment}

-- ---- of lower expressions

abbrev pub Below : List ℕ → ℕ → Type 0
Below text n = (l : ℕ) (e f : Expression) (ts rest end : List Token) → height e < n
    → Derives text l e ts rest → Derives text l f ts end → Stops l rest → Stops l end
    → (e ≡ f) × (rest ≡ end)

pub rank_low : (e : Expression) → rank e ≤ comma
rank_low (Binary a at op b) = let x = (levels op).1 in omega arith
rank_low e = omega arith

pub part : (text : List ℕ) (n l : ℕ) (e f : Expression) (ts us rest end : List Token) → Below text n
    → ts ≡ us → height e < n → Derives text l e ts rest → Derives text l f us end → Stops l rest
    → Stops l end → (e ≡ f) × (rest ≡ end)
part text n l e f ts us rest end u p low h g s z =
    u l e f ts rest end low h (subst (λ (x : List Token). Derives text l f x end) (sym p) g) s z

pub whole : (text : List ℕ) (n : ℕ) (e f : Expression) (ts us rest end : List Token) → Below text n
    → ts ≡ us → height e < n → SpellsExpression text e ts rest → SpellsExpression text f us end
    → Stops comma rest → Stops comma end → (e ≡ f) × (rest ≡ end)
whole text n e f ts us rest end u p low h g s z =
    part text n comma e f ts us rest end u p low (record { fits = rank_low e; spells = h })
    (record { fits = rank_low f; spells = g }) s z

-- what is tighter than a binary operator's level
tighter : (text : List ℕ) (l : ℕ) (op : BinaryOperator) (e : Expression) (ts rest : List Token)
    → l ≡ level op → TighterThan (level op) e (SpellsExpression text e) ts rest
    → Derives text (l - 1) e ts rest
tighter text l op e ts rest p h =
    let fits = h.fits in
    record { fits = omega arith; spells = h.spells }

pub has_stops : (s : Punctuator) (ts rest : List Token) (l : ℕ) → HasPunctuator s ts rest
    → l < punctuator_follows s → Stops l ts
has_stops s ts rest l h q = let p =
    follows_punctuator s h.0 ts rest (punctuator_follows s) h.1 refl in omega arith

-- ---- steps

bracket_not : (op : Increment) → increment_punctuator op ≡ punctuators.OpenBracket → ⊥
bracket_not increments.Increment e = cc
bracket_not increments.Decrement e = cc

-- a step and what follows it are found by where it begins
pub same_tail : (text : List ℕ) (n : ℕ) (left left' : Expression) (s s' : Step)
    (ts rest end : List Token) → Below text n → height (apply left s) ≤ n
    → Closes (apply left s) rest → Closes (apply left s') end → Tail text s ts rest
    → Tail text s' ts end → (s ≡ s') × (rest ≡ end)
same_tail text n left left' (At at i) (At to j) ts rest end u low r z h g =
    let a = punctuator_same punctuators.OpenBracket punctuators.OpenBracket at to ts ts
    h.after_opening g.after_opening refl h.opening g.opening in
    let b = whole text n i j h.after_opening g.after_opening h.after_inner g.after_inner u a.2
    (omega arith) h.inner g.inner
    (has_stops punctuators.CloseBracket h.after_inner rest comma h.closing (omega arith))
    (has_stops punctuators.CloseBracket g.after_inner end comma g.closing (omega arith)) in (
      ap (λ (x : ℕ). At x i) a.1 ∙ ap (λ (x : Expression). At to x) b.0,
      has_same punctuators.CloseBracket h.after_inner g.after_inner rest end b.1 h.closing
          g.closing,
    )
same_tail text n left left' (At at i) (After op' to) ts rest end u low r z h g =
    absurd (bracket_not op'
    (punctuator_same (increment_punctuator op') punctuators.OpenBracket to at ts ts end
    h.after_opening refl g h.opening).0)
same_tail text n left left' (At at i) (With to op' f') ts rest end u low r z h g = let p =
    step_follows text left (At at i) ts rest h in let q =
    step_follows text left' (With to op' f') ts end g in let x' = (levels op').0 in let y' =
    (levels op').1 in absurd (omega arith)
same_tail text n left left' (After op at) (At to j) ts rest end u low r z h g =
    absurd (bracket_not op
    (punctuator_same (increment_punctuator op) punctuators.OpenBracket at to ts ts rest
    g.after_opening refl h g.opening).0)
same_tail text n left left' (After op at) (After op' to) ts rest end u low r z h g =
    let a = punctuator_same (increment_punctuator op) (increment_punctuator op') at to ts ts rest
    end refl h g in (
      ap (λ (x : Increment). After x at) (same_increment op op' a.0)
          ∙ ap (λ (x : ℕ). After op' x) a.1,
      a.2,
    )
same_tail text n left left' (After op at) (With to op' f') ts rest end u low r z h g = let p =
    step_follows text left (After op at) ts rest h in let q =
    step_follows text left' (With to op' f') ts end g in let x' = (levels op').0 in let y' =
    (levels op').1 in absurd (omega arith)
same_tail text n left left' (With at op f) (At to j) ts rest end u low r z h g = let p =
    step_follows text left (With at op f) ts rest h in let q =
    step_follows text left' (At to j) ts end g in let x = (levels op).0 in let y = (levels op).1 in
    absurd (omega arith)
same_tail text n left left' (With at op f) (After op' to) ts rest end u low r z h g = let p =
    step_follows text left (With at op f) ts rest h in let q =
    step_follows text left' (After op' to) ts end g in let x = (levels op).0 in let y =
    (levels op).1 in absurd (omega arith)
same_tail text n left left' (With at op f) (With to op' f') ts rest end u low r z h g =
    let a = punctuator_same (binary_punctuator op) (binary_punctuator op') at to ts ts
    h.after_operator g.after_operator refl h.operator g.operator in
    let q = same_binary op op' a.0 in
    let v : level op ≡ level op' = ap level q in
    let x = (levels op).0 in
    let b = part text n (level op - 1) f f' h.after_operator g.after_operator rest end u a.2
    (omega arith) (tighter text (level op) op f h.after_operator rest refl h.operand)
    (tighter text (level op) op' f' g.after_operator end v g.operand) (omega arith)
    (omega arith) in (
      ap (λ (y : ℕ). With y op f) a.1 ∙ ap (λ (y : BinaryOperator). With to y f) q
          ∙ ap (λ (y : Expression). With to op' y) b.0,
      b.1,
    )
same_tail text n left left' (With at op f) (Choose to f' g'') ts rest end u low r z h g = let p =
    step_follows text left (With at op f) ts rest h in let q =
    step_follows text left' (Choose to f' g'') ts end g in let x = (levels op).0 in let y =
    (levels op).1 in absurd (omega arith)
same_tail text n left left' (With at op f) (Set to op' f') ts rest end u low r z h g = let p =
    step_follows text left (With at op f) ts rest h in let q =
    step_follows text left' (Set to op' f') ts end g in let x = (levels op).0 in let y =
    (levels op).1 in absurd (omega arith)
same_tail text n left left' (With at op f) (And to f') ts rest end u low r z h g = let p =
    step_follows text left (With at op f) ts rest h in let q =
    step_follows text left' (And to f') ts end g in let x = (levels op).0 in let y =
    (levels op).1 in absurd (omega arith)
same_tail text n left left' (Choose at f g') (With to op' f') ts rest end u low r z h g = let p =
    step_follows text left (Choose at f g') ts rest h in let q =
    step_follows text left' (With to op' f') ts end g in let x' = (levels op').0 in let y' =
    (levels op').1 in absurd (omega arith)
same_tail text n left left' (Choose at f g') (Choose to f' g'') ts rest end u low r z h g =
    let a = punctuator_same punctuators.Question punctuators.Question at to ts ts
    h.operator.after_opening g.operator.after_opening refl h.operator.opening
    g.operator.opening in
    let b = whole text n f f' h.operator.after_opening g.operator.after_opening
    h.operator.after_inner g.operator.after_inner u a.2 (omega arith) h.operator.inner
    g.operator.inner (has_stops punctuators.Colon h.operator.after_inner h.after_operator comma
    h.operator.closing (omega arith))
    (has_stops punctuators.Colon g.operator.after_inner g.after_operator comma
    g.operator.closing (omega arith)) in
    let c = has_same punctuators.Colon h.operator.after_inner g.operator.after_inner
    h.after_operator g.after_operator b.1 h.operator.closing g.operator.closing in
    let d = part text n conditional g' g'' h.after_operator g.after_operator rest end u c
    (omega arith) h.operand g.operand r z in (
      ap (λ (x : ℕ). Choose x f g') a.1 ∙ ap (λ (x : Expression). Choose to x g') b.0
          ∙ ap (λ (x : Expression). Choose to f' x) d.0,
      d.1,
    )
same_tail text n left left' (Set at op f) (With to op' f') ts rest end u low r z h g = let p =
    step_follows text left (Set at op f) ts rest h in let q =
    step_follows text left' (With to op' f') ts end g in let x' = (levels op').0 in let y' =
    (levels op').1 in absurd (omega arith)
same_tail text n left left' (Set at op f) (Set to op' f') ts rest end u low r z h g =
    let a = punctuator_same (assignment_punctuator op) (assignment_punctuator op') at to ts ts
    h.after_operator g.after_operator refl h.operator g.operator in
    let q = same_assignment op op' a.0 in
    let b = part text n assignment f f' h.after_operator g.after_operator rest end u a.2
    (omega arith) h.operand g.operand r z in (
      ap (λ (y : ℕ). Set y op f) a.1 ∙ ap (λ (y : Option Arithmetic). Set to y f) q
          ∙ ap (λ (y : Expression). Set to op' y) b.0,
      b.1,
    )
same_tail text n left left' (And at f) (With to op' f') ts rest end u low r z h g = let p =
    step_follows text left (And at f) ts rest h in let q =
    step_follows text left' (With to op' f') ts end g in let x' = (levels op').0 in let y' =
    (levels op').1 in absurd (omega arith)
same_tail text n left left' (And at f) (And to f') ts rest end u low r z h g =
    let a = punctuator_same punctuators.Comma punctuators.Comma at to ts ts h.after_operator
    g.after_operator refl h.operator g.operator in
    let b = part text n assignment f f' h.after_operator g.after_operator rest end u a.2
    (omega arith) h.operand g.operand r z in
    (ap (λ (y : ℕ). And y f) a.1 ∙ ap (λ (y : Expression). And to y) b.0, b.1)
same_tail text n left left' s s' ts rest end u low r z h g = let p =
    step_follows text left s ts rest h in let q = step_follows text left' s' ts end g in
    absurd (omega arith)

pub same_run : (text : List ℕ) (n l : ℕ) (left : Expression) (steps steps' : List Step)
    (ts : List Token) (e f : Expression) (rest end : List Token) → Below text n → height e ≤ n
    → rank e ≤ l → rank f ≤ l → Stops l rest → Stops l end → Run text left steps ts e rest
    → Run text left steps' ts f end → (e ≡ f) × (rest ≡ end)
same_run text n l left [] [] ts e f rest end u low a b s z h g = (sym h.0 ∙ g.0, sym h.1 ∙ g.1)
same_run text n l left [] (y ∷ steps') ts e f rest end u low a b s z h g =
    let p = ap follows h.1 in
    let q = step_follows text left y ts g.after_step g.step in
    let r = run_rank text (apply left y) steps' g.after_step f end g.others in
    absurd (omega arith)
same_run text n l left (x ∷ steps) [] ts e f rest end u low a b s z h g =
    let p = ap follows g.1 in
    let q = step_follows text left x ts h.after_step h.step in
    let r = run_rank text (apply left x) steps h.after_step e rest h.others in
    absurd (omega arith)
same_run text n l left (x ∷ steps) (y ∷ steps') ts e f rest end u low a b s z h g =
    let k = run_height text (apply left x) steps h.after_step e rest h.others in
    let p = same_tail text n left left x y ts h.after_step g.after_step u (omega arith)
    (closes (apply left x) h.after_step
    (run_reach text (apply left x) steps h.after_step e rest l h.others a s))
    (closes (apply left y) g.after_step
    (run_reach text (apply left y) steps' g.after_step f end l g.others b z)) h.step g.step in
    let v : Run text (apply left x) steps' g.after_step f end = subst
    (λ (w : Step). Run text (apply left w) steps' g.after_step f end) (sym p.0) g.others in
    let w : Run text (apply left x) steps' h.after_step f end =
    subst (λ (w : List Token). Run text (apply left x) steps' w f end) (sym p.1) v in
    same_run text n l (apply left x) steps steps' h.after_step e f rest end u low a b s z h.others w
