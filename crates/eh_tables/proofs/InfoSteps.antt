-- An info is read in two steps: all but its scope records, and these.
use Rattle.std.proofs.Common.{◌≡◌, ℕ, Ok, Err, List, refl, ap, ◌∙◌}
use Rattle.std.specs.Prelude.{is_ok, IsOk}
use Rattle.pe_image.specs.Image.{Image}
use Rattle.eh_tables.specs.Words.{TableErr, ◌>>=◌, Table, Info, info, info_of, stored_info, stored_scope_records, scope_records_in}
use Rattle.eh_tables.specs.Infos.{is_c}
use Rattle.eh_tables.specs.Known.{codes_checked, info_before_records}
use Rattle.eh_tables.specs.Scopes.{checked}

-- the same in two steps
abbrev in_two : Image → ℕ → ℕ → Table Info
in_two image index rva = do
  i ← info_before_records image index rva
  _ ← checked index image.size 0 i.scopes
  Ok i

two_steps : (image : Image) (index rva : ℕ) → in_two image index rva ≡ info image index rva
unfolding info info_before_records
two_steps image index rva = first (stored_info image index rva)
  where
    last : (bytes rows : List ℕ) (t : Table Unit)
        → ((t >>= λ _. (let r : Table Info = Ok (info_of bytes (is_c image bytes) rows) in r))
        >>= λ i. checked index image.size 0 i.scopes >>= λ _. (let r : Table Info = Ok i in r))
        ≡ (t >>= λ _. checked index image.size 0 (scope_records_in rows)
        >>= λ _. Ok (info_of bytes (is_c image bytes) rows))
    last bytes rows (Ok u) = refl
    last bytes rows (Err e) = refl

    second : (bytes : List ℕ) (t : Table (List ℕ))
        → ((t >>= λ rows. codes_checked index bytes
        >>= λ _. (let r : Table Info = Ok (info_of bytes (is_c image bytes) rows) in r))
        >>= λ i. checked index image.size 0 i.scopes >>= λ _. (let r : Table Info = Ok i in r))
        ≡ (t >>= λ rows. codes_checked index bytes
        >>= λ _. checked index image.size 0 (scope_records_in rows)
        >>= λ _. Ok (info_of bytes (is_c image bytes) rows))
    second bytes (Ok rows) = last bytes rows (codes_checked index bytes)
    second bytes (Err e) = refl

    first : (t : Table (List ℕ))
        → ((t >>= λ bytes. stored_scope_records image rva bytes
        >>= λ rows. codes_checked index bytes
        >>= λ _. (let r : Table Info = Ok (info_of bytes (is_c image bytes) rows) in r))
        >>= λ i. checked index image.size 0 i.scopes >>= λ _. (let r : Table Info = Ok i in r))
        ≡ (t >>= λ bytes. stored_scope_records image rva bytes
        >>= λ rows. codes_checked index bytes
        >>= λ _. checked index image.size 0 (scope_records_in rows)
        >>= λ _. Ok (info_of bytes (is_c image bytes) rows))
    first (Ok bytes) = second bytes (stored_scope_records image rva bytes)
    first (Err e) = refl

-- ---- for searching

pub refused_before : (image : Image) (index rva : ℕ) (e : TableErr)
    → Err e ≡ info_before_records image index rva → Err e ≡ info image index rva
refused_before image index rva e h =
    ap (λ (t : Table Info). t >>= λ i. checked index image.size 0 i.scopes
    >>= λ _. (let r : Table Info = Ok i in r)) h
    ∙ two_steps image index rva

module _ (image : Image) (index rva : ℕ) (i : Info)
    (before : Ok i ≡ info_before_records image index rva) where
  by_records : (checked index image.size 0 i.scopes >>= λ _. (let r : Table Info = Ok i in r))
      ≡ info image index rva
  by_records = ap (λ (t : Table Info). t >>= λ j. checked index image.size 0 j.scopes
      >>= λ _. (let r : Table Info = Ok j in r)) before
      ∙ two_steps image index rva

  pub refused_by_record : (e : TableErr) → Err e ≡ checked index image.size 0 i.scopes
      → Err e ≡ info image index rva
  refused_by_record e h = ap (λ (t : Table Unit). t >>= λ _. (let r : Table Info = Ok i in r)) h
      ∙ by_records

  pub all_pass : (u : Unit {0}) → Ok u ≡ checked index image.size 0 i.scopes
      → Ok i ≡ info image index rva
  all_pass u h = ap (λ (t : Table Unit). t >>= λ _. (let r : Table Info = Ok i in r)) h
      ∙ by_records

  pub records_known : IsOk (info image index rva) → IsOk (checked index image.size 0 i.scopes)
  records_known ok = go (checked index image.size 0 i.scopes) (ap is_ok by_records ∙ ok)
    where
      go : (t : Table Unit) → IsOk (t >>= λ _. (let r : Table Info = Ok i in r)) → IsOk t
      go (Ok u) h = refl
      go (Err e) h = h

pub before_known : (image : Image) (index rva : ℕ) → IsOk (info image index rva)
    → IsOk (info_before_records image index rva)
before_known image index rva ok = go (info_before_records image index rva)
    (ap is_ok (two_steps image index rva) ∙ ok)
  where
    go : (t : Table Info) → IsOk (t >>= λ i. checked index image.size 0 i.scopes
        >>= λ _. (let r : Table Info = Ok i in r)) → IsOk t
    go (Ok i) h = refl
    go (Err e) h = h

pub ruleset info_steps = (refused_before, refused_by_record, all_pass, records_known, before_known)
