-- The fields of the exception in a record of a search.
use Rattle.std.proofs.Common.{◌≡◌, ℕ, zero, suc, ◌+◌, ◌*◌, ◌%◌, ◌^◌, ◌<◌, Bool, true, false, cond, List, get_or, Option, Some, None, refl, sym, ap, ◌∙◌, arith}
use Rattle.std.specs.Prelude.{not, ◌==◌, replicate, nat_eq}
use Rattle.std.proofs.lemmas.Bool.{eqb-true, ne_eqb}
use Rattle.match_turns.specs.Words.{bytes_of, Memory, first_refused, may_read, number_at, Functions, DispatchRecord, if_readable, if_marked, of_kind, kind_of, recorded, mark, RecordFits, Funclet, parameters, write_number, count, Field, ExceptionCode, ExceptionFlags, NumberParameters, ExceptionInformation, Exception, of_test, field_of, parameter_of, LinearProgram, field_at, field_width, IsField, ImagePlan, HasException, word}
use Rattle.seh_records.specs.Record.{fetched}
use Rattle.seh_records.specs.declared.dispatch.Kind.{Kind}
use Rattle.seh_records.proofs.Fetched.{word_in}
use Rattle.source_meaning.specs.Expressions.{count_of}
use Rattle.match_turns.proofs.Lemmas.{field_number, some_is}

-- what is fetched is what is there
record IsRecorded (m : Memory) (at : ℕ) (r : DispatchRecord) : Type 0 where
  kind : Kind
  same : r ≡ recorded m at kind

fetched_is : (m : Memory) (at : ℕ) (r : DispatchRecord) → fetched m at ≡ Some r → IsRecorded m at r
unfolding fetched
fetched_is m at r e = by_reading (first_refused (may_read m) 1568 at) e
  where
    by_kind : (o : Option Kind) → of_kind m at o ≡ Some r → IsRecorded m at r
    by_kind None e = absurd cc
    by_kind (Some k) e = record { kind = k; same = sym (some_is (recorded m at k) r e) }

    by_mark : (b : Bool) → if_marked m at b ≡ Some r → IsRecorded m at r
    by_mark true e = by_kind (kind_of (word m at 40)) e
    by_mark false e = absurd cc

    by_reading : (o : Option ℕ) → if_readable m at o ≡ Some r → IsRecorded m at r
    by_reading (Some a) e = absurd cc
    by_reading None e = by_mark (word m at 32 == mark) e

-- the number of a field in a record
abbrev pub recorded_field : Field → DispatchRecord → ℕ
recorded_field ExceptionCode r = r.code.0
recorded_field ExceptionFlags r = r.flags
recorded_field NumberParameters r = r.count
recorded_field (ExceptionInformation k) r = get_or r.parameters k 0

-- it is at its place in the EXCEPTION_RECORD
pub field_is_at : (m : Memory) (at : ℕ) (r : DispatchRecord) (field : Field) → at + 1568 < 2 ^ 64
    → IsField field → fetched m at ≡ Some r
    → number_at m.byte (bytes_of (field_width field)) (at + 96 + field_at field)
    ≡ recorded_field field r
field_is_at m at r field top is e = let f = fetched_is m at r e in by field is f.kind f.same
  where
    by : (field : Field) → IsField field → (k : Kind) → r ≡ recorded m at k
        → number_at m.byte (bytes_of (field_width field)) (at + 96 + field_at field)
        ≡ recorded_field field r
    by ExceptionCode is k e =
        let z : at + 96 + 0 ≡ (at + 96) % 2 ^ 64 = omega arith in
        ap (number_at m.byte 4) z ∙ sym (ap (λ (x : DispatchRecord). x.code.0) e)
    by ExceptionFlags is k e =
        let z : at + 96 + 4 ≡ (at + 100) % 2 ^ 64 = omega arith in
        ap (number_at m.byte 4) z ∙ sym (ap (λ (x : DispatchRecord). x.flags) e)
    by NumberParameters is k e =
        let z : at + 96 + 24 ≡ (at + 120) % 2 ^ 64 = omega arith in
        ap (number_at m.byte 4) z ∙ sym (ap (λ (x : DispatchRecord). x.count) e)
    by (ExceptionInformation i) is k e =
        let z : at + 96 + (32 + 8 * i) ≡ at + 128 + 8 * i = omega arith in
        let w : at + 128 ≡ (at + 128) % 2 ^ 64 = omega arith in
        ap (number_at m.byte 8) z ∙ ap (λ x. number_at m.byte 8 (x + 8 * i)) w
        ∙ word_in m.byte r.parameters 15 ((at + 128) % 2 ^ 64) i
        (sym (ap (λ (x : DispatchRecord). x.parameters) e)) is (omega arith)

-- ---- the exception's own numbers

flags_are : (flags : ℕ) (flag : Bool) → flags < 2 → (flags % 2 == 0) ≡ not flag
    → flags ≡ of_test flag
flags_are flags true small e =
    let odd : nat_eq (flags % 2) 0 ≡ false = e in
    go flags small odd
  where
    go : (n : ℕ) → n < 2 → nat_eq (n % 2) 0 ≡ false → n ≡ 1
    go zero lt e = absurd (let x : true ≡ false = e in cc)
    go (suc zero) lt e = refl
    go (suc (suc n)) lt e = absurd (omega arith)
flags_are flags false small e =
    let even : flags % 2 ≡ 0 = eqb-true (flags % 2) 0 e in
    omega arith

counts_are : (access : Option (Bool × ℕ)) → count access ≡ count_of access
counts_are None = refl
counts_are (Some x) = refl

tests_are : (b : Bool) → write_number b ≡ of_test b
tests_are true = refl
tests_are false = refl

zero_among : (n k : ℕ) → ◌≡◌ {A = ℕ} (get_or (replicate n 0) k 0) 0
zero_among zero k = refl
zero_among (suc n) zero = refl
zero_among (suc n) (suc k) = zero_among n k

parameters_are : (access : Option (Bool × ℕ)) (k : ℕ)
    → get_or (parameters access) k 0 ≡ parameter_of access k
parameters_are None k = zero_among 15 k
parameters_are (Some x) zero = tests_are x.0
parameters_are (Some x) (suc zero) = refl
parameters_are (Some x) (suc (suc k)) =
    let first : nat_eq (suc (suc k)) 0 ≡ false = ne_eqb (suc (suc k)) 0
    (λ e. absurd (omega arith)) in
    let second : nat_eq (suc (suc k)) 1 ≡ false = ne_eqb (suc (suc k)) 1
    (λ e. absurd (omega arith)) in
    zero_among 13 k ∙ sym (ap (λ b. cond b (of_test x.0) (cond (nat_eq (suc (suc k)) 1) x.1 0))
    first ∙ ap (λ b. cond b x.1 0) second)

module _ (t : Functions) (fs : List Funclet) (program : LinearProgram) (p : ImagePlan) where
  pub field_is : (r : DispatchRecord) (exception : Exception) (field : Field)
      → HasException t fs program p r exception → recorded_field field r ≡ field_of field exception
  field_is r exception ExceptionCode h = h.code
  field_is r exception ExceptionFlags h = flags_are r.flags exception.flag h.one_flag h.flag
  field_is r exception NumberParameters h = h.count ∙ counts_are exception.access
  field_is r exception (ExceptionInformation k) h = ap (λ (xs : List ℕ). get_or xs k 0) h.parameters
      ∙ parameters_are exception.access k

-- each fits its field
pub field_fits : (r : DispatchRecord) (field : Field) → IsField field → RecordFits r → r.flags < 2
    → field_number field (recorded_field field r) ≡ recorded_field field r
field_fits r ExceptionCode is f one = let s = f.code in omega arith
field_fits r ExceptionFlags is f one = omega arith
field_fits r NumberParameters is f one = let s = f.count in omega arith
field_fits r (ExceptionInformation k) is f one = let n = f.parameters in
    let s = f.parameters_small k (omega arith) in
    let e : get_or r.parameters k 0 % 2 ^ 64 ≡ get_or r.parameters k 0 = omega arith in e

pub field_small : (r : DispatchRecord) (field : Field) → IsField field → RecordFits r
    → recorded_field field r < 2 ^ 64
field_small r ExceptionCode is f = let s = f.code in omega arith
field_small r ExceptionFlags is f = let s = f.flags in omega arith
field_small r NumberParameters is f = let s = f.count in omega arith
field_small r (ExceptionInformation k) is f = let n = f.parameters in
    f.parameters_small k (omega arith)
